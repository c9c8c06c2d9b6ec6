use Rattle.std.proofs.Common.{[]}
use Rattle.sack_history.specs.Legal.{MayComeNext}
use Rattle.sack_history.proofs.Acting.{answering_next, claiming_next, committing_next, creating_next, draining_next, dropping_next, posting_next, refreshing_next, releasing_next}
use Rattle.sack_history.proofs.Following.{FollowOn-append}
use Rattle.sack_history.proofs.laws.calls_keep_histories_legal.Goals as goal

pub returns : goal.returns
returns c = record {
  creating = λ sack m policy result before own is_policy legal call. FollowOn-append (MayComeNext sack) [] before own legal (creating_next sack m policy result before own is_policy legal call);
  dropping = λ sack m result before own legal call. FollowOn-append (MayComeNext sack) [] before own legal (dropping_next sack m result before own legal call);
  posting = λ sack m measures result before own few legal call. FollowOn-append (MayComeNext sack) [] before own legal (posting_next sack m measures result before own few legal call);
  answering = λ sack m query result before own legal call. FollowOn-append (MayComeNext sack) [] before own legal (answering_next sack m query result before own legal call);
  claiming = λ sack result before own legal call. FollowOn-append (MayComeNext sack) [] before own legal (claiming_next sack result before own legal call);
  committing = λ sack p result before own legal call. FollowOn-append (MayComeNext sack) [] before own legal (committing_next sack p result before own legal call);
  releasing = λ sack ticket result before own legal call. FollowOn-append (MayComeNext sack) [] before own legal (releasing_next sack ticket result before own legal call);
  refreshing = λ sack m result before own legal call. FollowOn-append (MayComeNext sack) [] before own legal (refreshing_next sack m result before own legal call);
  draining = λ sack result before own legal call. FollowOn-append (MayComeNext sack) [] before own legal (draining_next sack result before own legal call);
}

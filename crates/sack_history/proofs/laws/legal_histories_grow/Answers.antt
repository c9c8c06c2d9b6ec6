use Rattle.std.proofs.Common.{[], refl}
use Rattle.sack_history.specs.Legal.{MayComeNext, MayCount}
use Rattle.sack_history.proofs.Acting.{counts_next}
use Rattle.sack_history.proofs.Following.{FollowOn-front, FollowOn-more}
use Rattle.sack_history.proofs.Keeping.{kept-all_counted, kept_legal}
use Rattle.sack_history.proofs.laws.legal_histories_grow.Goals as goal

pub returns : goal.returns
returns c = record {
  more = λ sack h e legal may. FollowOn-more (MayComeNext sack) h e legal may;
  front = λ sack g h legal. FollowOn-front (MayComeNext sack) [] g h legal;
  kept = λ sack h legal. kept_legal sack h legal;
  counts = λ counts e legal may. FollowOn-more MayCount counts e legal may;
  opened = λ sack counts legal. counts_next sack [] counts refl legal;
  same = λ counts. kept-all_counted [] counts;
}

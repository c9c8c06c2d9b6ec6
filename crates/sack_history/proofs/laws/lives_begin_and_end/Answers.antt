use Rattle.std.proofs.lemmas.Bool.{ne_eqb}
use Rattle.sack_history.specs.Lives.{subject_of}
use Rattle.sack_history.proofs.Living.{life-created, life-dropped, life-other, same_id}
use Rattle.sack_history.proofs.Posting.{batches-created, pending-created}
use Rattle.sack_history.proofs.laws.lives_begin_and_end.Goals as goal

pub returns : goal.returns
returns c = record {
  created = λ m policy counts. life-created m policy counts;
  no_batches = λ m policy counts. batches-created m policy counts;
  none_pending = λ m policy counts. pending-created m policy counts;
  dropped = λ m counts. life-dropped m counts;
  others = λ m counts e other. life-other m counts e (ne_eqb (subject_of e).0 m.0 (λ is. other (same_id (subject_of e) m is)));
}

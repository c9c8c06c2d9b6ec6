use Rattle.std.proofs.Common.{Some, subst}
use Rattle.std.specs.Option.{IfSome}
use Rattle.sack_history.specs.declared.entry.Entry.TheVariants as entries
use Rattle.sack_history.specs.Entries.{kept}
use Rattle.sack_history.specs.Legal.{MayCount}
use Rattle.sack_history.proofs.Keeping.{tried-more, tried_legal, whole_tried}
use Rattle.sack_history.proofs.laws.tried_is_known.Goals as goal

pub returns : goal.returns
returns c = record {
  tried = λ h c before after. tried-more h (entries.Fault (Some c) before after);
  whole = λ h w. whole_tried h w;
  legal = λ sack h c legal is. subst (λ o. IfSome o (MayCount (kept h))) is (tried_legal sack h legal);
}

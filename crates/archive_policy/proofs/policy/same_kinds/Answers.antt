use Rattle.std.proofs.Common.{rules}
use Rattle.std.proofs.lemmas.Slice.Eq.{slice_eq-Decides}
use denote.Enum.Bare.{same_true, true_same}
use Rattle.archive_policy.specs.contracts.kind.Kind.{the_type}
use Rattle.archive_policy.proofs.policy.same_kinds.Goals as goal

pub returns : goal.returns
returns c = slice_eq-Decides (λ a b. (same_true the_type (search rules) a b, true_same the_type a b)) c.args.kinds.now c.args.others.now c.eq.result c.eq.ensures

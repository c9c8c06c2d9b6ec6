use Rattle.std.proofs.Common.{◌≡◌, ◌∙◌, ℕ, Some, sym, ap, get_or, rules}
use Rattle.std.specs.Prelude.{slice_get}
use Rattle.archive_policy.specs.declared.kind.Kind.TheVariants.{Mean}
use Rattle.archive_policy.specs.Kinds.{all_kinds}
use Rattle.archive_policy.proofs.KindLemmas.{place_at, at_place}
use Rattle.gno_codec.proofs.policy.kind_of_place.Goals as goal

pub unwrap-requires : goal.unwrap-requires
unwrap-requires c =
    let kind = get_or all_kinds c.args.place Mean in
    let is : c.of_index.result ≡ Some kind = (c.of_index.ensures kind).1 (sym (place_at c.args.place Mean c.requires)) in
    rw is (search rules)

pub returns : goal.returns
returns c =
    ap (λ (k : ℕ). slice_get all_kinds k) ((c.of_index.ensures c.unwrap.result).0 c.unwrap.ensures) ∙ at_place c.unwrap.result

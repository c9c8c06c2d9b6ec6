use Rattle.std.proofs.Common.{◌≡◌, ◌%◌, List, true, Some, sym, ◌∙◌, subst, rules}
use Rattle.std.specs.List.{Contains, slice_get}
use Rattle.std.proofs.lemmas.Option.{same_Some}
use Rattle.archive_policy.specs.declared.definition.Definition.{Definition}
use Rattle.archive_policy.specs.declared.kind.Kind.{Kind}
use Rattle.archive_policy.specs.Kinds.{is_among}
use Rattle.archive_policy.proofs.KindLemmas.{is_among-true}
use Rattle.series_model.specs.Stored.{split_span}
use Rattle.shelf_records.specs.Shelved.{IsOfPolicy}
use Rattle.shelf_records.proofs.follow.is_of_policy.Goals as goal

pub returns : goal.returns
returns c =
    let policy = c.args.policy.now in
    let change = c.args.change.now in
    let there : slice_get policy.definitions change.definition ≡ Some c.in-Some.definition = search rules in
    let among : is_among c.kinds.result.now change.kind ≡ true = search rules in
    let kind : Contains policy.kinds change.kind = subst (λ (ks : List Kind). Contains ks change.kind) c.kinds.ensures.value (is_among-true c.kinds.result.now change.kind among) in (
      λ h. record { definition = c.in-Some.definition; there = there; kind = kind; key = c.has_key.ensures.0 h },
      λ (is : IsOfPolicy policy change). c.has_key.ensures.1 (subst (λ (d : Definition). change.key % split_span d.granularity ≡ 0) (same_Some is.definition c.in-Some.definition (sym is.there ∙ there)) is.key),
    )

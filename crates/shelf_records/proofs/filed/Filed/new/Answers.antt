use Rattle.std.proofs.Common.{◌≡◌, ◌∙◌, ◌*◌, List, [], length, ap, sym, subst, rules}
use Rattle.std.specs.List.{All}
use Rattle.std.proofs.lemmas.List.Elements.{All-weaker}
use Rattle.archive_policy.specs.declared.definition.Definition.{Definition}
use Rattle.archive_policy.specs.declared.kind.Kind.{Kind}
use Rattle.archive_policy.specs.Policies.{AreDefinitions, AreKinds}
use Rattle.gno_codec.specs.declared.item.Block.{Block}
use Rattle.shelf_records.specs.declared.series.Stored.{Stored}
use Rattle.shelf_records.specs.Filed.{AreRising, layout_of, with_splits}
use Rattle.shelf_records.specs.Shelved.{Kept, registered}
use Rattle.shelf_records.proofs.Places.{emptied_none, length-none, none_rises, with_none}
use Rattle.shelf_records.proofs.filed.Filed.new.Goals as goal

paired : (c : goal.After-of) → length c.in_ok-kept.kept.items ≡ length (layout_of c.args.policy)
paired c =
    let p = c.args.policy in
    let count : length c.in_ok-kept.kept.items ≡ length c.definitions.result.now * length c.kinds.result.now = search rules in
    count
    ∙ ap (λ (ds : List Definition). length ds * length c.kinds.result.now) c.definitions.ensures.value
    ∙ ap (λ (ks : List Kind). length p.definitions * length ks) c.kinds.ensures.value
    ∙ sym (length-none p.kinds 0 p.definitions)

pub invariant_of-result : goal.invariant_of-result
invariant_of-result c =
    let none : All (λ (splits : List Stored). splits ≡ []) c.in_ok-kept.kept.items = search rules in
    record {
      definitions = subst AreDefinitions c.definitions.ensures.value c.definitions.ensures.valid;
      kinds = subst AreKinds c.kinds.ensures.value c.kinds.ensures.valid;
      paired = paired c;
      rising = All-weaker (λ (splits : List Stored). splits ≡ []) AreRising none_rises c.in_ok-kept.kept.items none;
    }

pub returns : goal.returns
returns c =
    let p = c.args.policy in
    let none : All (λ (splits : List Stored). splits ≡ []) c.in_ok-kept.kept.items = search rules in
    let kept : with_splits (layout_of p) c.in_ok-kept.kept.items ≡ layout_of p = with_none (layout_of p) c.in_ok-kept.kept.items (paired c) (emptied_none p.kinds 0 p.definitions) none in
    let chunks : c.of.result ≡ [] = search rules in
    ap (λ (k : List Kept). record (registered c.args.id c.args.done p) { chunks = c.of.result; kept = k }) kept
    ∙ ap (λ (b : List Block). record (registered c.args.id c.args.done p) { chunks = b }) chunks

use Rattle.std.proofs.Common.{◌≡◌, ◌∙◌, List, [], ◌∷◌, None, Some, length, vec_len, map, refl, sym, ap, subst, length-set, arith, rules}
use Rattle.std.specs.List.{position, slice_get}
use Rattle.std.proofs.lemmas.List.Elements.{All-set}
use Rattle.std.proofs.lemmas.Option.{slice_get_read}
use Rattle.shelf_records.specs.Filed.{AreRising, filed_view, is_series_of, layout_of, with_splits}
use Rattle.shelf_records.specs.Series.{changed}
use Rattle.shelf_records.specs.Shelved.{Kept, Shelved, kept_after}
use Rattle.shelf_records.proofs.Following.{filed_change, filed_unchanged, place_within}
use Rattle.shelf_records.proofs.Metrics.{at_place, rises_after}
use Rattle.shelf_records.proofs.Places.{length-with}
use Rattle.shelf_records.proofs.filed.Filed.change.Goals as goal

pub returns-in_default : goal.returns-in_default
returns-in_default c =
    let m = c.args.self.now in
    let change = c.args.change.now in
    let none : position (is_series_of change.definition change.kind) m.kept ≡ None = search rules in
    ap (λ (ks : List Kept). record m { kept = ks }) (sym (filed_unchanged m.kept change none))

pub index_mut-requires : goal.index_mut-requires
index_mut-requires c =
    let f = c.self.inside in
    let change = c.args.change.now in
    let is : position (is_series_of change.definition change.kind) c.args.self.now.kept ≡ Some c.in-Some.place = search rules in
    let below = place_within c.args.self.now.kept change c.in-Some.place is in
    let long : length c.args.self.now.kept ≡ length f.kept.items = ap (λ (m : Shelved). length m.kept) (sym c.self.view_is) ∙ length-with (layout_of f.policy) f.kept.items c.self.invariant.paired in
    let all : vec_len f.kept ≡ length f.kept.items = search rules in
    omega (arith, below, long, all)

pub invariant_of-self-2 : goal.invariant_of-self-2
invariant_of-self-2 c =
    let f = c.self.inside in
    let change = c.args.change.now in
    let is : position (is_series_of change.definition change.kind) c.args.self.now.kept ≡ Some c.in-Some.place = search rules in
    let below = place_within c.args.self.now.kept change c.in-Some.place is in
    let long : length c.args.self.now.kept ≡ length f.kept.items = ap (λ (m : Shelved). length m.kept) (sym c.self.view_is) ∙ length-with (layout_of f.policy) f.kept.items c.self.invariant.paired in
    let there : slice_get f.kept.items c.in-Some.place ≡ Some c.index_mut.result.now = slice_get_read f.kept.items (length f.kept.items) c.in-Some.place c.index_mut.result.now refl (omega (arith, below, long)) c.index_mut.ensures.value in
    let new : c.change.new.self ≡ changed change.key change.block c.index_mut.result.now = search rules in
    let own : AreRising c.index_mut.result.now = at_place AreRising f.kept.items c.in-Some.place c.index_mut.result.now there c.self.invariant.rising in
    let after : AreRising c.change.new.self = subst AreRising (sym new) (rises_after ((record { key = change.key; block = change.block }) ∷ []) c.index_mut.result.now own) in
    record {
      definitions = c.self.invariant.definitions;
      kinds = c.self.invariant.kinds;
      paired = length-set f.kept.items c.in-Some.place c.change.new.self ∙ c.self.invariant.paired;
      rising = All-set AreRising f.kept.items c.in-Some.place c.change.new.self after c.self.invariant.rising;
    }

pub returns : goal.returns
returns c =
    let f = c.self.inside in
    let change = c.args.change.now in
    let is : position (is_series_of change.definition change.kind) c.args.self.now.kept ≡ Some c.in-Some.place = search rules in
    let below = place_within c.args.self.now.kept change c.in-Some.place is in
    let long : length c.args.self.now.kept ≡ length f.kept.items = ap (λ (m : Shelved). length m.kept) (sym c.self.view_is) ∙ length-with (layout_of f.policy) f.kept.items c.self.invariant.paired in
    let there : slice_get f.kept.items c.in-Some.place ≡ Some c.index_mut.result.now = slice_get_read f.kept.items (length f.kept.items) c.in-Some.place c.index_mut.result.now refl (omega (arith, below, long)) c.index_mut.ensures.value in
    let new : c.change.new.self ≡ changed change.key change.block c.index_mut.result.now = search rules in
    let first : position (is_series_of change.definition change.kind) (with_splits (layout_of f.policy) f.kept.items) ≡ Some c.in-Some.place = ap (λ (m : Shelved). position (is_series_of change.definition change.kind) m.kept) c.self.view_is ∙ is in
    ap (λ (ks : List Kept). record (filed_view f) { kept = ks }) (filed_change f.policy f.kept.items change c.in-Some.place c.index_mut.result.now c.change.new.self c.self.invariant.kinds c.self.invariant.paired first there new)
    ∙ ap (λ (m : Shelved). record m { kept = map (kept_after (change ∷ [])) m.kept }) c.self.view_is

use Rattle.std.proofs.Common.{◌≡◌, ◌∙◌, Some, refl, ap, sym, subst, length, vec_len, arith, rules}
use Rattle.std.specs.List.{slice_get}
use Rattle.std.specs.Option.{IsSomeAnd}
use Rattle.std.proofs.lemmas.Option.{slice_get_read}
use Rattle.shelf_records.specs.Filed.{layout_of}
use Rattle.shelf_records.specs.Shelved.{Shelved}
use Rattle.shelf_records.proofs.Places.{get_with, length-with}
use Rattle.shelf_records.proofs.filed.Filed.series.Goals as goal

pub index-requires : goal.index-requires
index-requires c =
    let f = c.self.inside in
    let long : length c.args.self.now.kept ≡ length f.kept.items =
    ap (λ (m : Shelved). length m.kept) (sym c.self.view_is) ∙ length-with (layout_of f.policy) f.kept.items c.self.invariant.paired in
    let all : vec_len f.kept ≡ length f.kept.items = search rules in
    omega (arith, long, all, c.requires)

pub returns : goal.returns
returns c =
    let f = c.self.inside in
    let long : length c.args.self.now.kept ≡ length f.kept.items =
    ap (λ (m : Shelved). length m.kept) (sym c.self.view_is) ∙ length-with (layout_of f.policy) f.kept.items c.self.invariant.paired in
    let there : slice_get f.kept.items c.args.place ≡ Some c.index.result.now =
    slice_get_read f.kept.items (length f.kept.items) c.args.place c.index.result.now refl (omega (arith, long, c.requires)) c.index.ensures in
    subst (λ (m : Shelved). IsSomeAnd (slice_get m.kept c.args.place) (λ kept. c.index.result.now ≡ kept.splits)) c.self.view_is (get_with (layout_of f.policy) f.kept.items c.args.place c.index.result.now c.self.invariant.paired there)

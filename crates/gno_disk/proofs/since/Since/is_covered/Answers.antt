use Rattle.std.proofs.Common.{◌≡◌, ◌||◌, ◌+◌, ◌<◌, ℕ, Bool, List, length, map, drop, get_or, true, false, refl, sym, ap, ◌∙◌}
use Rattle.std.specs.List.{list_any}
use Rattle.std.proofs.lemmas.List.{at_drop_more, at_drop_all}
use Rattle.gno_disk.specs.Images.{covers}
use Rattle.gno_disk.specs.Inside.{range_of}
use Rattle.gno_disk.specs.declared.since.Span.{Span}
use Rattle.gno_disk.proofs.since.Since.is_covered.Goals as goal

-- whether one of these ranges has the place
abbrev any_of : ℕ → List Span → Bool
any_of place spans = list_any (covers place) (map range_of spans)

-- the next range has it, or one of the others
any_of-drop : (place : ℕ) (spans : List Span) (i : ℕ) (d : Span) (b : Bool) → i < length spans → covers place (range_of (get_or spans i d)) ≡ b → any_of place (drop i spans) ≡ (b || any_of place (drop (i + 1) spans))
any_of-drop place spans i d b lt is = at_drop_more (any_of place) spans i d lt ∙ ap (λ (t : Bool). t || any_of place (drop (i + 1) spans)) is

pub loop-range-init : goal.loop-range-init
loop-range-init c = refl

pub returns-then-covers : goal.returns-then-covers
returns-then-covers c =
    let spans = c.deref-range-items.result.now in
    let hit = sym c.covers.ensures ∙ c.if-covers.true in
    sym (ap (any_of c.args.place) (sym c.deref-range-items.ensures.value) ∙ sym c.loop-range.invariant ∙ any_of-drop c.args.place spans c.loop-range.range-index _ true c.loop-range-test.true hit)

pub loop-range-preserved : goal.loop-range-preserved
loop-range-preserved c =
    let spans = c.deref-range-items.result.now in
    let miss = sym c.covers.ensures ∙ c.if-covers.false in
    sym (any_of-drop c.args.place spans c.loop-range.range-index _ false c.loop-range-test.true miss) ∙ c.loop-range.invariant

pub returns : goal.returns
returns c =
    let spans = c.deref-range-items.result.now in
    sym (ap (any_of c.args.place) (sym c.deref-range-items.ensures.value) ∙ sym c.loop-range.invariant ∙ at_drop_all (any_of c.args.place) spans c.loop-range.range-index c.loop-range-test.false)

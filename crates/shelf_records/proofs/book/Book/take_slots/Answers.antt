use Rattle.std.proofs.Common.{◌≡◌, ◌++◌, ◌∙◌, ◌≤◌, ℕ, zero, suc, List, [], length, take, refl, sym, ap, subst, rules}
use Rattle.std.proofs.lemmas.List.{with_items_is}
use Rattle.std.specs.Vec.{with_items}
use Rattle.std.specs.List.{All}
use Rattle.shelf_records.specs.Book.{BookView, places_of}
use Rattle.shelf_records.specs.Shelved.{blocks_in_use}
use Rattle.shelf_records.specs.Slots.{AreFirstFree, AreHeld, IsWithin}
use Rattle.shelf_records.proofs.Metrics.{held_again}
use Rattle.shelf_records.proofs.book.Book.take_slots.Goals as goal

pub invariant_of-self-in_err-resize : goal.invariant_of-self-in_err-resize
invariant_of-self-in_err-resize c =
    let b = c.self.inside in
    let old = c.self.invariant in
    let same : c.resize.new.self.items ≡ b.taken.items = search rules in
    record {
      ids = old.ids;
      rising = old.rising;
      filed = old.filed;
      within = subst (λ (l : List ℕ). b.held ≤ length l) (sym same) old.within;
      all = λ h. subst (λ (l : List ℕ). b.held ≡ length l) (sym same) (old.all (subst (All IsWithin) same h));
      held = subst (λ (l : List ℕ). AreHeld (take b.held l ++ places_of (blocks_in_use b.metrics.items)) c.reserve.new.self) (sym same) (held_again (take b.held b.taken.items ++ places_of (blocks_in_use b.metrics.items)) b.used c.reserve.new.self c.reserve.ensures.end c.reserve.ensures.free old.held);
    }

take_nil : (n : ℕ) (l : List ℕ) → l ≡ [] → take n l ≡ []
take_nil zero l is = refl
take_nil (suc n) l is = ap (take (suc n)) is

pub take_slots-self-inside-requires : goal.take_slots-self-inside-requires
take_slots-self-inside-requires c =
    let b = c.self.inside in
    (_, held_again (take b.held b.taken.items ++ places_of (blocks_in_use b.metrics.items)) b.used c.reserve.new.self c.reserve.ensures.end c.reserve.ensures.free c.self.invariant.held)

only : (c : goal.After-self-2-1) → AreHeld (places_of (blocks_in_use c.self.inside.metrics.items)) c.reserve.new.self
only c =
    let b = c.self.inside in
    let none : b.taken.items ≡ [] = ap (λ (v : BookView). v.taken) c.self.view_is ∙ c.requires.none in
    subst (λ (l : List ℕ). AreHeld (l ++ places_of (blocks_in_use b.metrics.items)) c.reserve.new.self) (take_nil b.held b.taken.items none)
    (held_again (take b.held b.taken.items ++ places_of (blocks_in_use b.metrics.items)) b.used c.reserve.new.self c.reserve.ensures.end c.reserve.ensures.free c.self.invariant.held)

places_are : (c : goal.After-self-2-1) → (with_items c.resize.new.self c.take_slots-self-inside.new.places).items ≡ c.take_slots-self-inside.new.places
places_are c = with_items_is c.resize.new.self c.take_slots-self-inside.new.places (search rules)

pub invariant_of-self-2 : goal.invariant_of-self-2
invariant_of-self-2 c =
    let b = c.self.inside in
    let old = c.self.invariant in
    let n = c.take_slots-self-inside.result in
    let ats = places_of (blocks_in_use b.metrics.items) in
    record {
      ids = old.ids;
      rising = old.rising;
      filed = old.filed;
      within = subst (λ (l : List ℕ). n ≤ length l) (sym (places_are c)) c.take_slots-self-inside.ensures.within;
      all = λ h. subst (λ (l : List ℕ). n ≡ length l) (sym (places_are c)) (c.take_slots-self-inside.ensures.all (subst (All IsWithin) (places_are c) h));
      held = subst (λ (l : List ℕ). AreHeld (take n l ++ ats) c.take_slots-self-inside.new.used) (sym (places_are c)) (c.take_slots-self-inside.ensures.held ats (only c));
    }

pub returns-clause-first : goal.returns-clause-first
returns-clause-first c =
    let b = c.self.inside in
    let first : AreFirstFree (places_of (blocks_in_use c.args.self.now.metrics)) c.take_slots-self-inside.new.places =
    subst (λ (v : BookView). AreFirstFree (places_of (blocks_in_use v.metrics)) c.take_slots-self-inside.new.places) c.self.view_is (c.take_slots-self-inside.ensures.first (places_of (blocks_in_use b.metrics.items)) (only c)) in
    subst (AreFirstFree (places_of (blocks_in_use c.args.self.now.metrics))) (sym (places_are c)) first

-- What a stop leaves while a shelf is made.
use Rattle.std.proofs.Common.{◌⊎◌, inl, inr, ℕ, ◌≤◌, List, [], ◌∷◌, arith}
use Rattle.gno_disk.specs.Phases.{AtEntry, AtMoment, EachMoment, phase}
use Rattle.gno_disk.specs.declared.disk.Disk.{Ghosts}
use Rattle.log_pair.specs.declared.place.Place.{Place}
use Rattle.log_pair.specs.Pair.{HasNoPair}
use Rattle.log_pair.specs.PairView.{AreNoneOrMade, IsMaking, LeavesNoLog, OfTwo}
use Rattle.split_store.specs.Shelf.{HoldsShelf, shelf_place}
use Rattle.split_store.specs.ShelfView.{IsMakingShelf, OfThree}
use Rattle.split_store.proofs.Held.{empty_held}

module _ {D : Type 0} (g : Ghosts D) (place : Place) (a b blocks first second synced : D) where
  abbrev NoneOrEmpty : List (List ℕ) → Type 0
  NoneOrEmpty = OfThree (λ y x z. HasNoPair x y ⊎ HoldsShelf place [] x y z)

  leaves : (y x z : List ℕ) → AreNoneOrMade (shelf_place place) [] y x → HasNoPair x y ⊎ HoldsShelf place [] x y z
  leaves y x z of = elim of [ inl none ↦ inl none | inr held ↦ inr (empty_held place x y z held) ]

  -- once the pair is being made
  made : (z : List ℕ) (images : List (List ℕ)) → OfTwo (AreNoneOrMade (shelf_place place) []) images → NoneOrEmpty (z ∷ images)
  made z [] none = absurd none
  made z (y ∷ []) none = absurd none
  made z (y ∷ x ∷ []) of = leaves y x z of
  made z (y ∷ x ∷ w ∷ images) none = absurd none

  -- before it is
  early : LeavesNoLog g a → LeavesNoLog g b → (z : List ℕ) (images : List (List ℕ)) → AtEntry g (phase b second ∷ phase a first ∷ []) images → NoneOrEmpty (z ∷ images)
  early no_log no_log_too z [] none = absurd none
  early no_log no_log_too z (y ∷ []) none = absurd none.1
  early no_log no_log_too z (y ∷ x ∷ []) left = inl (no_log x left.1.0, no_log_too y left.0)
  early no_log no_log_too z (y ∷ x ∷ w ∷ images) none = absurd none.1.1

  pub making : g.moment blocks ≤ g.moment synced → IsMaking g (shelf_place place) [] a b first second → IsMakingShelf g place a b blocks first second synced
  making later inner told told_too told_last no_log no_log_too =
      let at = inner told told_too no_log no_log_too in
      record { later = (later, at.later); each = each at }
    where
      each : EachMoment g (phase b second ∷ phase a first ∷ []) (OfTwo (AreNoneOrMade (shelf_place place) [])) → (images : List (List ℕ)) → AtMoment g (phase blocks synced ∷ phase b second ∷ phase a first ∷ []) images → NoneOrEmpty images
      each at [] none = absurd none
      each at (z ∷ images) moment = elim moment [ inl now ↦ early no_log no_log_too z images now.1 | inr then ↦ made z images (at.each images then.1) ]

-- the pair isn't touched
pub untouched : {D : Type 0} (g : Ghosts D) (only_now : (disk : D) (image : List ℕ) → g.left_since disk (g.moment disk) image → g.may_leave disk image) (place : Place) (a b : D) → IsMaking g place [] a b a b
untouched {D} g only_now place a b told told_too no_log no_log_too = record { later = (omega arith, (omega arith, tt)); each = each }
  where
    each : (images : List (List ℕ)) → AtMoment g (phase b b ∷ phase a a ∷ []) images → OfTwo (AreNoneOrMade place []) images
    each [] none = absurd none
    each (y ∷ []) moment = elim moment [ inl now ↦ absurd now.1 | inr then ↦ absurd then.1 ]
    each (y ∷ x ∷ []) moment = elim moment [
      | inl now ↦ inl (no_log x now.1.0, no_log_too y (only_now b y now.0))
      | inr then ↦ elim then.1 [ inl now ↦ inl (no_log x (only_now a x now.0), no_log_too y then.0) | inr none ↦ absurd none.1 ]
    ]
    each (y ∷ x ∷ w ∷ images) moment = elim moment [ inl now ↦ absurd now.1.1 | inr then ↦ elim then.1 [ inl now ↦ absurd now.1 | inr none ↦ absurd none.1 ] ]

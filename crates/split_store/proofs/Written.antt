-- What a stop leaves of a shelf while a commit is written.
use Rattle.std.proofs.Common.{◌≡◌, ◌⊎◌, inl, inr, ℕ, ◌≤◌, List, [], ◌∷◌, length, Option, Some, None, refl, subst, arith}
use Rattle.std.specs.Option.{IfSome, IsSome}
use Rattle.std.specs.List.{All}
use Rattle.gno_disk.specs.Disk.{Only, TimeGoesOn}
use Rattle.gno_disk.specs.Moments.{LeavesOnly}
use Rattle.gno_disk.specs.Phases.{AreUnwritten, AtEntry, AtMoment, EachMoment, phase}
use Rattle.gno_disk.specs.declared.disk.Disk.{Ghosts}
use Rattle.gno_disk.proofs.PhaseLemmas.{AtMoment-unwritten}
use Rattle.split_update.specs.Live.{Live}
use Rattle.log_pair.specs.Pair.{HoldsPair}
use Rattle.log_pair.specs.PairView.{AreOldOrAdded, IsLastingPair, OfTwo, PairView, pair_phases}
use Rattle.shelf_records.specs.Shelved.{Shelved, blocks_in_use}
use Rattle.block_slots.specs.Slots.{IsBeside, IsSpared, Spares}
use Rattle.block_slots.specs.Reads.{IsReadOnly}
use Rattle.shelf_blocks.specs.Blocks.{HoldsMetrics}
use Rattle.shelf_blocks.proofs.Held.{metrics_stay}
use Rattle.split_store.specs.Loading.{AreRecordsOf}
use Rattle.split_store.specs.Shelf.{HoldsShelf}
use Rattle.split_store.specs.ShelfView.{OfThree}
use Rattle.split_store.proofs.Held.{held_by}
use Rattle.split_store.proofs.Logged.{records_longer, three_moments}

-- nothing was written, so what stands beside any slots stands there
pub spares_none : (places : List ℕ) (bytes : List ℕ) → Spares places bytes bytes
spares_none places bytes = record { longer = omega arith; stands = λ block own apart stands. stands }

module _ {D : Type 0} (g : Ghosts D) where
  -- blocks that were read first, and then written
  pub spared_since : (places : List ℕ) (old mid new : D) → IsReadOnly g old mid → TimeGoesOn (g.moment old) (g.moment mid) (g.left_since old) (g.left_since mid) → TimeGoesOn (g.moment mid) (g.moment new) (g.left_since mid) (g.left_since new)
      → LeavesOnly g mid new (IsSpared g places mid) → (image : List ℕ) → g.left_since new (g.moment old) image → IsSpared g places old image
  spared_since places old mid new read first second leaves image left =
      elim (second.splits (g.moment old) image first.later left) [
        | inl earlier ↦ record { before = image; left = read.unwritten.within image earlier; spares = spares_none places image }
        | inr later ↦ (let s = leaves.each image later in record { before = s.before; left = read.unwritten.no_more s.before s.left; spares = s.spares })
      ]

  module _ (b0 b1 : D) (p q : PairView D) (places : List ℕ) (body : List ℕ) (metrics : List Shelved) (lives then : List Live) (bytes : List ℕ) (size : ℕ)
      (spared : (image : List ℕ) → g.left_since b1 (g.moment b0) image → IsSpared g places b0 image)
      (now : (image : List ℕ) → g.may_leave b1 image → g.left_since b1 (g.moment b0) image)
      (role : p.place.role ≡ 3) (told : IsSome p.records) (are : IfSome p.records (AreRecordsOf size metrics)) (long : length bytes ≡ size) (only : Only bytes (g.may_leave b0)) (lasting : IsLastingPair g p)
      (stand : HoldsMetrics bytes metrics lives) (beside : All (λ block. All (IsBeside block) (places)) (blocks_in_use metrics)) where
    -- an image of the blocks holds what they held
    pub stands_still : (z : List ℕ) → IsSpared g places b0 z → HoldsMetrics z metrics lives × (size ≤ length z)
    stands_still z s =
        let same : s.before ≡ bytes = only s.before s.left in
        let spares : Spares places bytes z = subst (λ (b : List ℕ). Spares places b z) same s.spares in
        (metrics_stay places bytes z spares metrics lives beside stand, (let l = spares.longer in omega (arith, l, long)))

    -- and so, with the old log, the shelf as it was
    old_shelf : (z a b : List ℕ) → IsSpared g places b0 z → g.may_leave p.first a → g.may_leave p.second b → HoldsShelf p.place lives a b z
    old_shelf z a b s left left_too = by p.records told are (lasting a b left left_too)
      where
        by : (records : Option (List (List ℕ))) → IsSome records → IfSome records (AreRecordsOf size metrics) → IfSome records (λ rs. HoldsPair p.place p.epoch rs a b) → HoldsShelf p.place lives a b z
        by None none are held = absurd cc
        by (Some rs) is are held =
            let still = stands_still z s in
            held_by (length z) metrics p.place p.epoch rs lives a b z role refl (records_longer size (length z) metrics rs still.1 are) held still.0

    abbrev OldOrThen : List ℕ → List ℕ → List ℕ → Type 0
    OldOrThen a b z = HoldsShelf p.place lives a b z ⊎ HoldsShelf p.place then a b z

    entry_images : (z : List ℕ) (images : List (List ℕ)) → IsSpared g places b0 z → AtEntry g (pair_phases p q) images → OfThree OldOrThen (z ∷ images)
    entry_images z [] s left = absurd left
    entry_images z (a ∷ []) s left = absurd left.1
    entry_images z (a ∷ b ∷ []) s left = inl (old_shelf z a b s left.0 left.1.0)
    entry_images z (a ∷ b ∷ c ∷ images) s left = absurd left.1.1

    -- the log wasn't touched
    pub still_moments : g.moment b0 ≤ g.moment b1 → AreUnwritten g (pair_phases p q) → (g.moment p.first ≤ g.moment q.first) → (g.moment p.second ≤ g.moment q.second)
        → EachMoment g (phase b0 b1 ∷ pair_phases p q) (OfThree OldOrThen)
    still_moments later unwritten first second = record { later = (later, (first, (second, tt))); each = each }
      where
        each : (images : List (List ℕ)) → AtMoment g (phase b0 b1 ∷ pair_phases p q) images → OfThree OldOrThen images
        each [] none = absurd none
        each (z ∷ images) moment = elim moment [
          | inl in_blocks ↦ entry_images z images (spared z in_blocks.0) in_blocks.1
          | inr next ↦ entry_images z images (spared z (now z next.0)) (AtMoment-unwritten g (pair_phases p q) images unwritten next.1)
        ]

    -- all pieces were written and synced before it was touched
    pub then_moments : g.moment b0 ≤ g.moment b1 → ((z a b : List ℕ) → g.may_leave b1 z → AreOldOrAdded p body a b → OldOrThen a b z)
        → EachMoment g (pair_phases p q) (OfTwo (AreOldOrAdded p body)) → EachMoment g (phase b0 b1 ∷ pair_phases p q) (OfThree OldOrThen)
    then_moments later then_held moments =
        three_moments g p q body OldOrThen b0 b1 later (λ z a b left first second. inl (old_shelf z a b (spared z left) first second)) then_held moments

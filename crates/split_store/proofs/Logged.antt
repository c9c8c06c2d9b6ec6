-- A record that is written to the log of a shelf.
use Rattle.std.proofs.Common.{◌≡◌, ◌⊎◌, inl, inr, ℕ, ◌≤◌, List, [], ◌∷◌, ◌++◌, length, map, Option, Some, None, refl, sym, ap, subst, ◌∙◌, arith}
use Rattle.std.specs.Option.{IfSome, IsSome}
use Rattle.std.proofs.lemmas.List.Elements.{All-push}
use Rattle.gno_disk.specs.Phases.{AtEntry, AtExit, AtMoment, EachMoment, phase}
use Rattle.gno_disk.specs.declared.disk.Disk.{Ghosts}
use Rattle.split_update.specs.Live.{Live}
use Rattle.gno_codec.specs.declared.item.ShelfItem.{ShelfItem}
use Rattle.gno_codec.specs.Shelf.{IsShelf, shelf_bytes}
use Rattle.log_pair.specs.Pair.{HoldsPair}
use Rattle.log_pair.specs.PairView.{AreOfPair, AreOldOrAdded, IsLastingPair, OfTwo, PairView, pair_phases}
use Rattle.shelf_records.specs.Shelved.{AreBlocks, MayFollow, Shelved, after_record}
use Rattle.shelf_blocks.specs.Blocks.{HoldsMetrics}
use Rattle.shelf_blocks.proofs.Held.{legal_longer, legal_more, records_more}
use Rattle.split_store.specs.Loading.{AreRecordsOf}
use Rattle.split_store.specs.Shelf.{HoldsShelf}
use Rattle.split_store.specs.ShelfView.{OfThree}
use Rattle.split_store.proofs.Held.{held_by}
use Rattle.split_store.proofs.LoadLemmas.{spelled_more}

-- ---- records

-- the records, on a disk of blocks that isn't shorter
pub records_longer : (size longer : ℕ) (metrics : List Shelved) (records : List (List ℕ)) → size ≤ longer → AreRecordsOf size metrics records → AreRecordsOf longer metrics records
records_longer size longer metrics records le are =
    record { items = are.items; each = are.each; are = are.are; legal = legal_longer size longer [] are.items le are.legal; metrics_are = are.metrics_are }

-- and with one more
pub records_with : (size longer : ℕ) (metrics new : List Shelved) (records : List (List ℕ)) (body : List ℕ) (item : ShelfItem) → size ≤ longer → AreRecordsOf size metrics records
    → IsShelf item → body ≡ shelf_bytes item → MayFollow metrics item → AreBlocks longer new → new ≡ after_record metrics item → AreRecordsOf longer new (records ++ body ∷ [])
records_with size longer metrics new records body item le are shelf spelled follows blocks new_is = record {
  items = are.items ++ item ∷ [];
  each = All-push IsShelf are.items item are.each shelf;
  are = ap (λ (rs : List (List ℕ)). rs ++ body ∷ []) are.are ∙ ap (λ (b : List ℕ). map shelf_bytes are.items ++ b ∷ []) spelled ∙ sym (spelled_more are.items item);
  legal = legal_more longer [] are.items item (legal_longer size longer [] are.items le are.legal)
      (subst (λ ms. MayFollow ms item) (sym are.metrics_are) follows)
      (subst (λ ms. AreBlocks longer (after_record ms item)) (sym are.metrics_are) (subst (AreBlocks longer) new_is blocks));
  metrics_are = records_more [] are.items item ∙ ap (λ ms. after_record ms item) are.metrics_are ∙ sym new_is;
}

-- ---- moments

module _ {D : Type 0} (g : Ghosts D) (p q : PairView D) (body : List ℕ) (P : List ℕ → List ℕ → List ℕ → Type 0) where
  behind : (z : List ℕ) (images : List (List ℕ)) → ((a b : List ℕ) → AreOldOrAdded p body a b → P a b z) → OfTwo (AreOldOrAdded p body) images → OfThree P (z ∷ images)
  behind z [] then of = absurd of
  behind z (a ∷ []) then of = absurd of
  behind z (a ∷ b ∷ []) then of = then a b of
  behind z (a ∷ b ∷ c ∷ images) then of = absurd of

  before : (z : List ℕ) (images : List (List ℕ)) → ((a b : List ℕ) → g.may_leave p.first a → g.may_leave p.second b → P a b z) → AtEntry g (pair_phases p q) images → OfThree P (z ∷ images)
  before z [] then left = absurd left
  before z (a ∷ []) then left = absurd left.1
  before z (a ∷ b ∷ []) then left = then a b left.0 left.1.0
  before z (a ∷ b ∷ c ∷ images) then left = absurd left.1.1

  -- what is so while the blocks are written, and once they were, is so at each moment
  pub three_moments : (blocks written : D) → g.moment blocks ≤ g.moment written
      → ((z a b : List ℕ) → g.left_since written (g.moment blocks) z → g.may_leave p.first a → g.may_leave p.second b → P a b z)
      → ((z a b : List ℕ) → g.may_leave written z → AreOldOrAdded p body a b → P a b z)
      → EachMoment g (pair_phases p q) (OfTwo (AreOldOrAdded p body)) → EachMoment g (phase blocks written ∷ pair_phases p q) (OfThree P)
  three_moments blocks written later within then log = record { later = (later, log.later); each = each }
    where
      each : (images : List (List ℕ)) → AtMoment g (phase blocks written ∷ pair_phases p q) images → OfThree P images
      each [] none = absurd none
      each (z ∷ images) moment = elim moment [
        | inl now ↦ before z images (λ a b. within z a b now.0) now.1
        | inr next ↦ behind z images (λ a b. then z a b next.0) (log.each images next.1)
      ]

  -- and at the exit
  pub three_left : (blocks written : D) → ((z a b : List ℕ) → g.may_leave written z → AreOldOrAdded p body a b → P a b z)
      → ((images : List (List ℕ)) → AtExit g (pair_phases p q) images → OfTwo (AreOldOrAdded p body) images)
      → (images : List (List ℕ)) → AtExit g (phase blocks written ∷ pair_phases p q) images → OfThree P images
  three_left blocks written then log [] left = absurd left
  three_left blocks written then log (z ∷ images) left = behind z images (λ a b. then z a b left.0) (log images left.1)

-- ---- what they hold

-- two disks of the log that hold the records, or them and one more, with blocks that hold what both amount to
pub old_or_changed : {D : Type 0} (p : PairView D) (size : ℕ) (metrics new : List Shelved) (body z a b : List ℕ) (item : ShelfItem) (lives then : List Live)
    → p.place.role ≡ 3 → IsSome p.records → IfSome p.records (AreRecordsOf size metrics) → size ≤ length z → IsShelf item → body ≡ shelf_bytes item → MayFollow metrics item
    → AreBlocks (length z) new → new ≡ after_record metrics item → HoldsMetrics z metrics lives → HoldsMetrics z new then → AreOldOrAdded p body a b
    → HoldsShelf p.place lives a b z ⊎ HoldsShelf p.place then a b z
old_or_changed {D} p size metrics new body z a b item lives then role told are le shelf spelled follows blocks new_is stand stand_then of = by p.records told are of
  where
    by : (records : Option (List (List ℕ))) → IsSome records → IfSome records (AreRecordsOf size metrics)
        → IfSome records (λ rs. HoldsPair p.place p.epoch rs a b ⊎ HoldsPair p.place p.epoch (rs ++ body ∷ []) a b) → HoldsShelf p.place lives a b z ⊎ HoldsShelf p.place then a b z
    by None none are of = absurd cc
    by (Some rs) is are of = elim of [
      | inl held ↦ inl (held_by (length z) metrics p.place p.epoch rs lives a b z role refl (records_longer size (length z) metrics rs le are) held stand)
      | inr held ↦ inr (held_by (length z) new p.place p.epoch (rs ++ body ∷ []) then a b z role refl (records_with size (length z) metrics new rs body item le are shelf spelled follows blocks new_is) held stand_then)
    ]

-- ---- a log that isn't touched

-- it leaves its records
pub lasting_added : {D : Type 0} (p : PairView D) (body a b : List ℕ) → AreOfPair p a b → AreOldOrAdded p body a b
lasting_added p body a b held = by p.records held
  where
    by : (records : Option (List (List ℕ))) → IfSome records (λ rs. HoldsPair p.place p.epoch rs a b) → IfSome records (λ rs. HoldsPair p.place p.epoch rs a b ⊎ HoldsPair p.place p.epoch (rs ++ body ∷ []) a b)
    by None held = tt
    by (Some rs) held = inl held

module _ {D : Type 0} (g : Ghosts D) (only_now : (disk : D) (image : List ℕ) → g.left_since disk (g.moment disk) image → g.may_leave disk image) (p : PairView D) (body : List ℕ) (lasting : IsLastingPair g p) where
  both : (a b : List ℕ) → g.may_leave p.first a → g.may_leave p.second b → AreOldOrAdded p body a b
  both a b left left_too = lasting_added p body a b (lasting a b left left_too)

  pub untouched_left : (images : List (List ℕ)) → AtExit g (pair_phases p p) images → OfTwo (AreOldOrAdded p body) images
  untouched_left [] left = absurd left
  untouched_left (a ∷ []) left = absurd left.1
  untouched_left (a ∷ b ∷ []) left = both a b left.0 left.1.0
  untouched_left (a ∷ b ∷ c ∷ images) left = absurd left.1.1

  at_moment : (images : List (List ℕ)) → AtMoment g (pair_phases p p) images → OfTwo (AreOldOrAdded p body) images
  at_moment [] moment = absurd moment
  at_moment (a ∷ []) moment = elim moment [ inl now ↦ absurd now.1 | inr next ↦ absurd next.1 ]
  at_moment (a ∷ b ∷ []) moment = elim moment [
    | inl now ↦ both a b (only_now p.first a now.0) now.1.0
    | inr next ↦ elim next.1 [ inl now ↦ both a b next.0 (only_now p.second b now.0) | inr none ↦ absurd none.1 ]
  ]
  at_moment (a ∷ b ∷ c ∷ images) moment = elim moment [
    | inl now ↦ absurd now.1.1
    | inr next ↦ elim next.1 [ inl now ↦ absurd now.1 | inr none ↦ absurd none.1 ]
  ]

  pub untouched_moments : EachMoment g (pair_phases p p) (OfTwo (AreOldOrAdded p body))
  untouched_moments = record { later = (omega arith, (omega arith, tt)); each = at_moment }

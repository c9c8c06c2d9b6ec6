-- A front of one thread as it was opened.
use Rattle.std.specs.Prelude.{◌≡◌, ℕ, ◌+◌, Bool, false, List, [], ◌∷◌, ◌++◌, length, ⊤}
use Rattle.gno_disk.specs.declared.disk.Disk.{Ghosts}
use Rattle.log_pair.specs.Choice.{TwoTold}
use Rattle.front_api.specs.Seen.{IndexBook, SackBook, SeenBooks}
use Rattle.metric_index.specs.IndexDamage.{HoldsNoIndex, IsDamagedIndex}
use Rattle.gno_num.specs.declared.faults.Damaged.{Damaged as Damage}
use Rattle.sack_state.specs.declared.disks.SackDisks.{SackDisks}
use Rattle.sack_state.specs.Disks.{AreTold, sack_faults}
use Rattle.sack_state.specs.SackHolding.{HoldsNoSack, IsDamagedSack}
use Rattle.sack_state.specs.SackView.{SackView}
use Rattle.front.specs.Plan.{StoreDisks, in_plan, sack_place}
use Rattle.front.specs.SoloView.{IsSackOrigin, SoloView, index_faults, index_origin}
use Rattle.front.specs.StoreFaults.{in_store}

-- ---- what is seen at first

-- no entry is seen of the index, whose origin is that of its opening, as is how often its disks had failed
pub record IsNewIndexBook {D : Type 0} (g : Ghosts D) (v : SoloView D) (book : IndexBook) : Type 0 where
  pub alone : book.is_shared ≡ false
  pub unseen : book.seen ≡ []
  pub origin : book.origin ≡ index_origin g v.opened
  pub failed : book.failed ≡ index_faults g v.opened

-- the same of a sack
pub record IsNewSackBook {D : Type 0} (g : Ghosts D) (v : SackView D) (book : SackBook) : Type 0 where
  pub alone : book.is_shared ≡ false
  pub unseen : book.seen ≡ []
  pub origin : IsSackOrigin g v.place v.opening book.origin
  pub failed : book.failed ≡ sack_faults g v.opening.disks

-- and of each of these
abbrev pub AreNewSackBooks : {D : Type 0} → Ghosts D → List (SackView D) → List SackBook → Type 0
AreNewSackBooks g [] [] = ⊤
AreNewSackBooks g [] (book ∷ books) = ⊥
AreNewSackBooks g (v ∷ sacks) [] = ⊥
AreNewSackBooks g (v ∷ sacks) (book ∷ books) = IsNewSackBook g v book × AreNewSackBooks g sacks books

-- no entry is seen of any book, and the origin of each is that of its opening, as is how often its disks had failed
pub record AreNewBooks {D : Type 0} (g : Ghosts D) (v : SoloView D) (books : SeenBooks) : Type 0 where
  pub index : IsNewIndexBook g v books.index
  pub sacks : AreNewSackBooks g v.sacks books.sacks

-- ---- openings

-- the sacks were opened on these disks, the first having this number of so many
abbrev pub AreOpenedOn : {D : Type 0} → ℕ → ℕ → Bool → List (SackDisks D) → List (SackView D) → Type 0
AreOpenedOn total sack is_new [] [] = ⊤
AreOpenedOn total sack is_new [] (v ∷ sacks) = ⊥
AreOpenedOn total sack is_new (d ∷ disks) [] = ⊥
AreOpenedOn total sack is_new (d ∷ disks) (v ∷ sacks) =
    (v.place ≡ sack_place total sack) × (v.opening ≡ record { disks = d; is_new = is_new }) × AreOpenedOn total (sack + 1) is_new disks sacks

-- the front was opened on these disks, which are those of the plan, and its index has two
pub record IsOpenedOn {D : Type 0} (sacks : ℕ) (is_new : Bool) (disks : List D) (v : SoloView D) : Type 0 where
  pub from : StoreDisks D
  pub disks_are : disks ≡ in_plan from
  pub index : v.opened ≡ v.index
  pub two : length v.index.disks ≡ 2
  pub opened : AreOpenedOn sacks 0 is_new from.sacks v.sacks

-- ---- what the disks of a store hold

-- a fact of what the first two disks tell, where both do
abbrev pub OfIndexDisks : {D : Type 0} → Ghosts D → List D → (List ℕ → List ℕ → Type 0) → Type 0
OfIndexDisks g [] P = ⊥
OfIndexDisks g (a ∷ []) P = ⊥
OfIndexDisks g (a ∷ b ∷ disks) P = TwoTold (g.told a) (g.told b) P

-- The damage that is told stands there: the disks of the index are damaged, or those of one sack.
pub data IsDamagedStore {D : Type 0} (g : Ghosts D) (total : ℕ) (disks : StoreDisks D) (d : Damage) : Type 0 where
  index : TwoTold (g.told disks.index_a) (g.told disks.index_b) (λ x y. IsDamagedIndex total x y d × HoldsNoIndex total x y) → IsDamagedStore g total disks d
  sack : (front rest : List (SackDisks D)) (one : SackDisks D) (on : Damage) → disks.sacks ≡ (front ++ one ∷ rest)
      → (AreTold g one (λ a b z c e. ⊤) → AreTold g one (λ a b z c e. IsDamagedSack (sack_place total (length front)) a b z c e on))
      → (AreTold g one (λ a b z c e. ⊤) → AreTold g one (HoldsNoSack (sack_place total (length front))))
      → d ≡ in_store (length front) on → IsDamagedStore g total disks d

-- the same of disks in the order of the plan
abbrev pub AreDamaged : {D : Type 0} → Ghosts D → ℕ → List D → Damage → Type 0
AreDamaged {D} g total disks d = (from : StoreDisks D) × (disks ≡ in_plan from) × IsDamagedStore g total from d

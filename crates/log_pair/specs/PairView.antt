-- What contracts see of a pair of logs.
use Rattle.std.specs.Prelude.{◌⊎◌, ℕ, ◌+◌, ◌-◌, ◌^◌, min, Bool, List, [], ◌∷◌, ◌++◌, Option, IfSome, IsSome}
use Rattle.gno_disk.specs.declared.disk.Disk.{Ghosts}
use Rattle.gno_disk.specs.Phases.{EachMoment, Phase, phase}
use Rattle.gate_log.specs.Records.{HasNoLog}
use Rattle.log_pair.specs.declared.place.Place.{Place}
use Rattle.log_pair.specs.Pair.{HoldsPair, HasNoPair}

-- its disks in the order in which they were handed in, whether the second one's log counts, whose log
-- it is and of which epoch, the number of the records behind the header, these records where both disks
-- tell their bytes, whether a call has failed, and how large a body is sure of its memory
pub record PairView (D : Type 0) : Type 0 where
  pub first : D
  pub second : D
  pub on_second : Bool
  pub place : Place
  pub epoch : ℕ
  pub count : ℕ
  pub records : Option (List (List ℕ))
  pub broken : Bool
  pub spare : ℕ

-- how often two disks have failed, a number that ends at the last value of its type
abbrev pub both_faults : {D : Type 0} → Ghosts D → D → D → ℕ
both_faults g a b = min (g.faults a + g.faults b) (2 ^ 64 - 1)

-- a call on a pair, which works on one of its disks, or on one after the other
abbrev pub pair_phases : {D : Type 0} → PairView D → PairView D → List (Phase D)
pair_phases old new = phase old.first new.first ∷ phase old.second new.second ∷ []

-- the images are those of the two disks, and have P
abbrev pub OfTwo : (List ℕ → List ℕ → Type 0) → List (List ℕ) → Type 0
OfTwo P [] = ⊥
OfTwo P (a ∷ []) = ⊥
OfTwo P (a ∷ b ∷ []) = P a b
OfTwo P (a ∷ b ∷ c ∷ images) = ⊥

-- the images hold the records, where they are told
abbrev pub AreOfPair : {D : Type 0} → PairView D → List ℕ → List ℕ → Type 0
AreOfPair pair a b = IfSome pair.records (λ records. HoldsPair pair.place pair.epoch records a b)

-- the images hold the records as they were or with the body at their end
abbrev pub AreOldOrAdded : {D : Type 0} → PairView D → List ℕ → List ℕ → List ℕ → Type 0
AreOldOrAdded pair body a b =
    IfSome pair.records (λ records. HoldsPair pair.place pair.epoch records a b ⊎ HoldsPair pair.place pair.epoch (records ++ body ∷ []) a b)

-- each choice of images that a stop now may leave holds the records
abbrev pub IsLastingPair : {D : Type 0} → Ghosts D → PairView D → Type 0
IsLastingPair g pair = (a b : List ℕ) → g.may_leave pair.first a → g.may_leave pair.second b → AreOfPair pair a b

-- The images, the second disk's first, are of no log, or of these records in the first epoch.
abbrev pub AreNoneOrMade : Place → List (List ℕ) → List ℕ → List ℕ → Type 0
AreNoneOrMade place records b a = HasNoPair a b ⊎ HoldsPair place 1 records a b

-- no image that a stop now may leave has a log
abbrev pub LeavesNoLog : {D : Type 0} → Ghosts D → D → Type 0
LeavesNoLog g disk = (image : List ℕ) → g.may_leave disk image → HasNoLog image

-- Where both disks tell their bytes, and no image of theirs has a log, what a stop at any moment leaves
-- is no log or one of these records. The second disk is worked on first.
abbrev pub IsMaking : {D : Type 0} → Ghosts D → Place → List (List ℕ) → D → D → D → D → Type 0
IsMaking g place records a b first second =
    IsSome (g.told a) → IsSome (g.told b) → LeavesNoLog g a → LeavesNoLog g b
    → EachMoment g (phase b second ∷ phase a first ∷ []) (OfTwo (AreNoneOrMade place records))

-- What two disks hold of which one log counts.
use Rattle.std.specs.Prelude.{◌≡◌, ◌≢◌, ◌⊎◌, ℕ, ◌<◌, ◌≤◌, Bool, true, false, List, ◌∷◌, ◌++◌, length}
use Rattle.gno_num.specs.declared.faults.Damaged.{Damaged as Damage}
use Rattle.gate_log.specs.Records.{Holds, HasNoLog, IsDamaged, log_bytes}
use Rattle.log_pair.specs.declared.place.Place.{Place}
use Rattle.log_pair.specs.Header.{FitsHeader, HasHeader, IsEpoch, log_header}

-- the second of two, or the first
abbrev pub one_of : {A : Type 0} → Bool → A → A → A
one_of false x y = x
one_of true x y = y

-- and the other one
abbrev pub other_of : {A : Type 0} → Bool → A → A → A
other_of false x y = y
other_of true x y = x

-- The other disk has no log that counts before this epoch's: where the second disk's log is to count,
-- the first has an earlier one or none, and else the second has no later one.
abbrev pub IsOlder : Bool → ℕ → List ℕ → Type 0
IsOlder false epoch bytes = (place : Place) (other : ℕ) → HasHeader place other bytes → other ≤ epoch
IsOlder true epoch bytes = (place : Place) (other : ℕ) → HasHeader place other bytes → other < epoch

-- of the two logs the one with this header counts: the second disk's, or the first disk's
pub record Counts (second : Bool) (place : Place) (epoch : ℕ) (a b : List ℕ) : Type 0 where
  pub header : HasHeader place epoch (one_of second a b)
  pub older : IsOlder second epoch (other_of second a b)

-- two disks hold these records: the log that counts is of this place and this epoch, and has them
-- behind its header
pub record HoldsPair (place : Place) (epoch : ℕ) (records : List (List ℕ)) (a b : List ℕ) : Type 0 where
  pub second : Bool
  pub fits : FitsHeader place epoch
  pub in_range : IsEpoch epoch
  pub held : Holds (one_of second a b) (log_header place epoch ∷ records)
  pub older : IsOlder second epoch (other_of second a b)

-- the number of a disk, in the order in which they were handed in
abbrev pub disk_number : Bool → ℕ
disk_number false = 0
disk_number true = 1

-- the place of the gate of a record behind these, on the disk whose log counts
abbrev pub place_behind : Place → ℕ → List (List ℕ) → ℕ
place_behind place epoch records = length (log_bytes (log_header place epoch ∷ records))

-- Behind these records of the pair this one stands, whose gate is at that place.
pub record StandsBehind (place : Place) (records : List (List ℕ)) (body : List ℕ) (a b : List ℕ) (d : Damage) : Type 0 where
  pub second : Bool
  pub epoch : ℕ
  pub rest : List (List ℕ)
  pub counts : Counts second place epoch a b
  pub held : HoldsPair place epoch (records ++ body ∷ rest) a b
  pub disk_is : d.disk ≡ disk_number second
  pub at_is : d.at ≡ place_behind place epoch records

-- no pair of this place is held
abbrev pub HoldsNoPair : Place → List ℕ → List ℕ → Type 0
HoldsNoPair place a b = (epoch : ℕ) (records : List (List ℕ)) → HoldsPair place epoch records a b → ⊥

-- neither disk has a log
abbrev pub HasNoPair : List ℕ → List ℕ → Type 0
HasNoPair a b = HasNoLog a × HasNoLog b

-- Why two disks are no pair of this place, and where: neither has a whole header; the header that
-- counts is of another place, or no epoch; or the log that counts is damaged.
pub data IsDamagedPair (place : Place) (a b : List ℕ) (d : Damage) : Type 0 where
  no_header : d.disk ≡ 0 → d.at ≡ 0 → ((p : Place) (epoch : ℕ) → HasHeader p epoch a → ⊥) → ((p : Place) (epoch : ℕ) → HasHeader p epoch b → ⊥) → IsDamagedPair place a b d
  another : (second : Bool) (p : Place) (epoch : ℕ) → Counts second p epoch a b → (p ≢ place) ⊎ (IsEpoch epoch → ⊥) → d.disk ≡ disk_number second → d.at ≡ 0 → IsDamagedPair place a b d
  damaged : (second : Bool) (epoch : ℕ) → Counts second place epoch a b → d.disk ≡ disk_number second → IsDamaged (one_of second a b) d.at → IsDamagedPair place a b d

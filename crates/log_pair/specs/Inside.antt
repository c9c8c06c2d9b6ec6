-- How a pair keeps what contracts see of it.
use Rattle.std.specs.Prelude.{◌≡◌, ℕ, ◌-◌, ◌≤◌, List, ◌∷◌, drop, Option, None, Some, IfSome, option_map}
use Rattle.gno_disk.specs.declared.disk.Disk.{Ghosts}
use Rattle.log_pair.specs.declared.place.Place.{Place}
use Rattle.log_pair.specs.declared.pair.LogPair.TheInside.{Inside}
use Rattle.log_pair.specs.Header.{FitsHeader, IsEpoch, log_header}
use Rattle.log_pair.specs.Pair.{IsOlder, one_of, other_of}
use Rattle.log_pair.specs.PairView.{PairView}

-- the records behind the header, where both disks tell their bytes
abbrev pub behind_header : Option (List ℕ) → Option (List (List ℕ)) → Option (List (List ℕ))
behind_header None records = None
behind_header (Some bytes) records = option_map (λ rs. drop 1 rs) records

-- what contracts see
abbrev pub pair_view : {D : Type 0} → Ghosts D → Inside D → PairView D
pair_view g p = record {
  first = one_of p.on_second p.log.disk p.other;
  second = other_of p.on_second p.log.disk p.other;
  on_second = p.on_second;
  place = p.place;
  epoch = p.epoch;
  count = p.log.count - 1;
  records = behind_header (g.told p.other) p.log.records;
  broken = p.log.broken;
  spare = p.log.spare;
}

-- the records begin with the header
pub record BeginsWithHeader (place : Place) (epoch : ℕ) (records : List (List ℕ)) : Type 0 where
  pub rest : List (List ℕ)
  pub records_are : records ≡ log_header place epoch ∷ rest

-- The header stands first, and no image of the other disk has a log that counts in its place.
pub record IsLogPair {D : Type 0} (g : Ghosts D) (p : Inside D) : Type 0 where
  pub fits : FitsHeader p.place p.epoch
  pub in_range : IsEpoch p.epoch
  pub some : 1 ≤ p.log.count
  pub header : IfSome p.log.records (BeginsWithHeader p.place p.epoch)
  pub older : IfSome (g.told p.other) (λ _. (image : List ℕ) → g.may_leave p.other image → IsOlder p.on_second p.epoch image)

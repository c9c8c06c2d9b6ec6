-- The records of the index's log, and what two disks hold.
use Rattle.std.specs.Prelude.{◌≡◌, ℕ, List, [], ◌∷◌, map, ⊤}
use Rattle.std.specs.List.{AllByRecursion}
use Rattle.gno_codec.specs.Index.{IsIndex, index_bytes}
use Rattle.gno_codec.specs.declared.item.IndexItem.{IndexItem}
use Rattle.gno_codec.specs.declared.item.IndexItem.TheVariants as items
use Rattle.log_pair.specs.declared.place.Place.{Place}
use Rattle.log_pair.specs.Pair.{HoldsPair}
use Rattle.front_api.specs.Maps.{Maps}
use Rattle.metric_index.specs.Catalog.{new_catalog}
use Rattle.metric_index.specs.Items.{May, after_one, counted_of}

-- the maps after these records
abbrev pub after_items : Maps → List IndexItem → Maps
after_items m [] = m
after_items m (item ∷ rest) = after_items (after_one m (counted_of item)) rest

-- each record may stand where it does
abbrev pub MayAll : Maps → List IndexItem → Type 0
MayAll m [] = ⊤
MayAll m (item ∷ rest) = May m (counted_of item) × MayAll (after_one m (counted_of item)) rest

-- The records behind the header spell `Store`, and then records that may stand where they do. They amount to
-- these maps.
pub record IsIndexLog (records : List (List ℕ)) (m : Maps) : Type 0 where
  pub number : ℕ
  pub counter : ℕ
  pub rest : List IndexItem
  pub first : IsIndex (items.Store number counter)
  pub each : AllByRecursion IsIndex rest
  pub may : MayAll (new_catalog number counter) rest
  pub maps_are : m ≡ after_items (new_catalog number counter) rest
  pub records_are : records ≡ index_bytes (items.Store number counter) ∷ map index_bytes rest

-- the place of the index's log in a store of so many sacks
abbrev pub index_place : ℕ → Place
index_place sacks = record { role = 1; sack = 0; sacks = sacks }

-- two disks hold these maps: the log that counts spells them, in some epoch
pub record HoldsIndex (sacks : ℕ) (m : Maps) (a b : List ℕ) : Type 0 where
  pub epoch : ℕ
  pub records : List (List ℕ)
  pub held : HoldsPair (index_place sacks) epoch records a b
  pub log : IsIndexLog records m

-- Why two disks have no index, and where.
use Rattle.std.specs.Prelude.{◌≡◌, ◌≢◌, ◌⊎◌, ℕ, List, []}
use Rattle.gno_num.specs.declared.faults.Damaged.{Damaged as Damage}
use Rattle.gno_codec.specs.Index.{IsIndex, index_bytes}
use Rattle.gno_codec.specs.declared.item.IndexItem.{IndexItem}
use Rattle.gno_codec.specs.declared.item.IndexItem.TheVariants as items
use Rattle.log_pair.specs.Pair.{HoldsPair, IsDamagedPair, StandsBehind}
use Rattle.front_api.specs.Maps.{Maps}
use Rattle.metric_index.specs.IndexLog.{HoldsIndex, IsIndexLog, index_place}
use Rattle.metric_index.specs.Items.{May, counted_of}

-- a record other than `Store`
abbrev pub IsNoStore : IndexItem → Type 0
IsNoStore item = (number counter : ℕ) → item ≢ items.Store number counter

-- Why these bytes are no record behind these: they spell none; or they are the first ones and spell another than
-- `Store`; or they spell one that the index would refuse, `Store` among them.
pub data IsOddIndex (records : List (List ℕ)) (body : List ℕ) : Type 0 where
  unspelled : (records ≡ []) ⊎ ((m : Maps) × IsIndexLog records m) → ((item : IndexItem) → IsIndex item → body ≢ index_bytes item) → IsOddIndex records body
  no_store : (item : IndexItem) → records ≡ [] → IsIndex item → body ≡ index_bytes item → IsNoStore item → IsOddIndex records body
  refused : (m : Maps) (item : IndexItem) → IsIndexLog records m → IsIndex item → body ≡ index_bytes item → ¬ May m (counted_of item) → IsOddIndex records body

-- Why two disks have no index of a store of so many sacks, and where: they are no pair of it; or the log that counts
-- has no record; or behind good records one stands that is none.
pub data IsDamagedIndex (sacks : ℕ) (a b : List ℕ) (d : Damage) : Type 0 where
  pair : IsDamagedPair (index_place sacks) a b d → IsDamagedIndex sacks a b d
  empty : (epoch : ℕ) → HoldsPair (index_place sacks) epoch [] a b → d.disk ≡ 0 → d.at ≡ 0 → IsDamagedIndex sacks a b d
  odd : (records : List (List ℕ)) (body : List ℕ) → IsOddIndex records body → StandsBehind (index_place sacks) records body a b d → IsDamagedIndex sacks a b d

-- no maps are held
abbrev pub HoldsNoIndex : ℕ → List ℕ → List ℕ → Type 0
HoldsNoIndex sacks a b = (m : Maps) → HoldsIndex sacks m a b → ⊥

-- Why two disks have no incoming log, and where.
use Rattle.std.specs.Prelude.{◌≡◌, ◌≢◌, ℕ, ◌≤◌, List, [], Option}
use Rattle.gno_num.specs.declared.faults.Damaged.{Damaged as Damage}
use Rattle.gno_codec.specs.Incoming.{incoming_bytes, next_bytes, IsIncoming, IsNext}
use Rattle.gno_codec.specs.declared.item.IncomingItem.{IncomingItem}
use Rattle.log_pair.specs.declared.place.Place.{Place}
use Rattle.log_pair.specs.Pair.{IsDamagedPair, StandsBehind}
use Rattle.incoming.specs.Posts.{HasRecord, HoldsIncoming, IsIncomingLog, Post, incoming_place, last_number, marks_of, post_record}

-- Why these bytes are no record behind these posts: they spell none; or a `Next`, and some record stands
-- before it; or a post whose number isn't above those before it.
pub data IsOdd (records : List (List ℕ)) (posts : List Post) (body : List ℕ) : Type 0 where
  unspelled : ((item : IncomingItem) → IsIncoming item → body ≢ incoming_bytes item) → IsOdd records posts body
  late : (number : ℕ) → IsNext number → body ≡ next_bytes number → records ≢ [] → IsOdd records posts body
  low : (post : Post) → HasRecord post → body ≡ post_record post → post.number ≤ last_number (marks_of posts) → IsOdd records posts body

-- these records are good ones, and these bytes are no record behind them
pub record IsOddBehind (records : List (List ℕ)) (body : List ℕ) : Type 0 where
  pub start : Option ℕ
  pub posts : List Post
  pub log : IsIncomingLog records start posts
  pub odd : IsOdd records posts body

-- Why two disks have no incoming log of this place, and where: they are no pair of it; or behind good
-- records one stands that is none.
pub data IsDamagedIncoming (place : Place) (a b : List ℕ) (d : Damage) : Type 0 where
  pair : IsDamagedPair (incoming_place place) a b d → IsDamagedIncoming place a b d
  odd : (records : List (List ℕ)) (body : List ℕ) → IsOddBehind records body → StandsBehind (incoming_place place) records body a b d → IsDamagedIncoming place a b d

-- no posts of this place are held, not even none
abbrev pub HoldsNoIncoming : Place → List ℕ → List ℕ → Type 0
HoldsNoIncoming place a b = (posts : List Post) (next : ℕ) → HoldsIncoming place posts next a b → ⊥

-- Reading the records of a pair.
use Rattle.std.specs.Prelude.{◌≡◌, ◌≢◌, ℕ, List, [], ◌++◌, length, map, take, Bool, true, false, Option, None, Some, Result, Ok, Err, slice_get, slice_index_or}
use Rattle.std.specs.List.{AllByRecursion}
use Rattle.series_model.specs.declared.measure.Measure.{Measure}
use Rattle.incoming.specs.declared.mark.Mark.{Mark}
use Rattle.incoming.specs.Posts.{HasRecord, Post, marks_of, post_record}
use Rattle.gno_num.specs.declared.faults.Damaged.{Damaged as Damage}
use Rattle.gno_disk.specs.declared.disk.Disk.{Ghosts}
use Rattle.gno_disk.specs.Phases.{AreUnwritten}
use Rattle.gno_codec.specs.Incoming.{incoming_bytes, IsIncoming}
use Rattle.gno_codec.specs.declared.item.IncomingItem.{IncomingItem}
use Rattle.gate_log.specs.declared.fault.MountFault.{MountFault}
use Rattle.gate_log.specs.declared.fault.MountFault.TheVariants.{DiskFault, Damaged, Memory}
use Rattle.log_pair.specs.Pair.{disk_number, place_behind}
use Rattle.log_pair.specs.PairView.{PairView, pair_phases}
use Rattle.incoming.specs.Damage.{IsOddBehind}

-- the bytes spell this record, or none
abbrev pub IsReadAs : Option IncomingItem → List ℕ → Type 0
IsReadAs None body = (item : IncomingItem) → IsIncoming item → body ≢ incoming_bytes item
IsReadAs (Some item) body = IsIncoming item × (body ≡ incoming_bytes item)

-- at this index a record stands that is read as this
pub record StandsAs (records : List (List ℕ)) (index : ℕ) (item : Option IncomingItem) : Type 0 where
  pub body : List ℕ
  pub stands : slice_get records index ≡ Some body
  pub is : IsReadAs item body

-- The pair was read and not written: its records are as they were.
pub record IsOnlyRead {D : Type 0} (g : Ghosts D) (old new : PairView D) : Type 0 where
  pub records : new.records ≡ old.records
  pub count : new.count ≡ old.count
  pub place : new.place ≡ old.place
  pub epoch : new.epoch ≡ old.epoch
  pub on_second : new.on_second ≡ old.on_second
  pub told_first : g.told new.first ≡ g.told old.first
  pub told_second : g.told new.second ≡ g.told old.second
  pub unwritten : AreUnwritten g (pair_phases old new)
  pub came_first : g.came 0 old.first new.first
  pub came_second : g.came 0 old.second new.second

-- behind good records of the pair one stands at this place that is none
pub record IsOddOf {D : Type 0} (pair : PairView D) (records : List (List ℕ)) (d : Damage) : Type 0 where
  pub index : ℕ
  pub body : List ℕ
  pub stands : slice_get records index ≡ Some body
  pub odd : IsOddBehind (take index records) body
  pub disk_is : d.disk ≡ disk_number pair.on_second
  pub at_is : d.at ≡ place_behind pair.place pair.epoch (take index records)

-- these posts are those of the marks, and their records stand from the index `first` on
pub record IsFoundIn (records : List (List ℕ)) (first : ℕ) (marks : List Mark) (posts : List Post) : Type 0 where
  pub front : List (List ℕ)
  pub front_is : length front ≡ first
  pub records_are : records ≡ front ++ map post_record posts
  pub marks_are : marks ≡ marks_of posts
  pub each : AllByRecursion HasRecord posts

-- the number and the measures of a post
abbrev pub answer_of : Post → ℕ × List Measure
answer_of post = (post.number, post.measures)

-- those of the post at a place
abbrev pub answer_at : List Post → ℕ → ℕ × List Measure
answer_at posts at = answer_of (slice_index_or posts at (record { number = 0; metric = record { 0 = 0 }; measures = [] }))

-- a call found damage
abbrev pub is_damage : {X : Type 0} → Result X MountFault → Bool
is_damage (Ok x) = false
is_damage (Err (DiskFault f)) = false
is_damage (Err (Damaged d)) = true
is_damage (Err Memory) = false

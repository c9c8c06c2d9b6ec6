-- Posts, the records of their log, and what two disks hold.
use Rattle.std.specs.Prelude.{◌≡◌, ℕ, ◌+◌, ◌<◌, max, List, [], ◌∷◌, ◌++◌, map, filter, Bool, ◌==◌, nat_lt, ◌&&◌, Option, None, Some, IfSome, ⊤}
use Rattle.std.specs.List.{AllByRecursion}
use Rattle.series_model.specs.declared.measure.Measure.{Measure}
use Rattle.series_model.specs.declared.metric.MetricId.{MetricId}
use Rattle.gno_codec.specs.Incoming.{post_bytes, next_bytes, IsPost, IsNext}
use Rattle.log_pair.specs.declared.place.Place.{Place}
use Rattle.log_pair.specs.Pair.{HoldsPair}
use Rattle.incoming.specs.declared.mark.Mark.{Mark}

-- a post: its number, its metric and its measures
pub record Post : Type 0 where
  pub number : ℕ
  pub metric : MetricId
  pub measures : List Measure

-- its number and its metric
abbrev pub mark_of : Post → Mark
mark_of post = record { number = post.number; metric = post.metric }

-- those of all of them
abbrev pub marks_of : List Post → List Mark
marks_of posts = map mark_of posts

-- the numbers are above the one given, and rise strictly
abbrev pub RiseFrom : ℕ → List Mark → Type 0
RiseFrom number [] = ⊤
RiseFrom number (mark ∷ marks) = (number < mark.number) × RiseFrom mark.number marks

-- the number of the last mark, or the one given where there is none
abbrev pub last_from : ℕ → List Mark → ℕ
last_from number [] = number
last_from number (mark ∷ marks) = last_from mark.number marks

-- the number of the last mark, 0 where there is none
abbrev pub last_number : List Mark → ℕ
last_number marks = last_from 0 marks

-- the number at which posts start: 1 unless a `Next` gives another
abbrev pub start_number : Option ℕ → ℕ
start_number None = 1
start_number (Some number) = number

-- the next number: the greater of the start and the last post's number plus 1
abbrev pub next_number : Option ℕ → List Mark → ℕ
next_number start marks = max (start_number start) (last_number marks + 1)

-- the mark is of this metric
abbrev pub is_of : MetricId → Mark → Bool
is_of metric mark = mark.metric.0 == metric.0

-- the mark is of this metric, and its number is above this one
abbrev pub is_above : MetricId → ℕ → Mark → Bool
is_above metric above mark = is_of metric mark && nat_lt above mark.number

-- the numbers of the metric's posts above this one, in order
abbrev pub numbers_above : MetricId → ℕ → List Mark → List ℕ
numbers_above metric above marks = map (λ mark. mark.number) (filter (is_above metric above) marks)

-- the metric's posts above this number, in order
abbrev pub posts_above : MetricId → ℕ → List Post → List Post
posts_above metric above posts = filter (λ post. is_above metric above (mark_of post)) posts

-- the one spelling of a post
abbrev pub post_record : Post → List ℕ
post_record post = post_bytes post.number post.metric.0 post.measures

-- a post that has a record
abbrev pub HasRecord : Post → Type 0
HasRecord post = IsPost post.number post.metric.0 post.measures

-- `Next` with the start number, where there is one
abbrev pub start_records : Option ℕ → List (List ℕ)
start_records None = []
start_records (Some number) = next_bytes number ∷ []

-- The records behind the header spell a start number, where `Next` stands first, and posts whose numbers
-- rise strictly.
pub record IsIncomingLog (records : List (List ℕ)) (start : Option ℕ) (posts : List Post) : Type 0 where
  pub start_fits : IfSome start IsNext
  pub each : AllByRecursion HasRecord posts
  pub rise : RiseFrom 0 (marks_of posts)
  pub records_are : records ≡ start_records start ++ map post_record posts

-- the place of the incoming log of a sack: its role is 2, whatever role is given
abbrev pub incoming_place : Place → Place
incoming_place place = record { role = 2; sack = place.sack; sacks = place.sacks }

-- two disks hold these posts and this next number: the log that counts spells them, in some epoch
pub record HoldsIncoming (place : Place) (posts : List Post) (next : ℕ) (a b : List ℕ) : Type 0 where
  pub epoch : ℕ
  pub start : Option ℕ
  pub records : List (List ℕ)
  pub held : HoldsPair (incoming_place place) epoch records a b
  pub log : IsIncomingLog records start posts
  pub next_is : next ≡ next_number start (marks_of posts)

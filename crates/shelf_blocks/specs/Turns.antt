-- A turn of series of splits.
use Rattle.std.specs.Prelude.{◌≡◌, ℕ, ◌+◌, ◌%◌, ◌≤◌, List, [], ◌∷◌, ◌++◌, length, map, take, drop, not, slice_get, All, Option, Some, None, IfSome, sum_by}
use Rattle.std.specs.List.{AllZip, Contains, filter}
use Rattle.std.specs.List.Sorted.{IsStrictlyIncreasing}
use Rattle.archive_policy.specs.declared.definition.Definition.{Definition}
use Rattle.archive_policy.specs.Policies.{ArchivePolicy}
use Rattle.series_model.specs.declared.point.Point.{Point}
use Rattle.series_model.specs.declared.point.Split.{Split}
use Rattle.series_model.specs.Stored.{split_span}
use Rattle.bound_series.specs.Jobs.{PreparedView, points_for}
use Rattle.split_update.specs.Update.{AreSplits, oldest_by, splits_after}
use Rattle.shelf_records.specs.declared.series.Stored.{Stored}
use Rattle.shelf_records.specs.declared.moves.Move.{Move}
use Rattle.shelf_records.specs.Moves.{blocks_of_moves, gone_of, is_made, is_put, put_of}
use Rattle.shelf_records.specs.Series.{after_moves}
use Rattle.shelf_records.specs.Shelved.{Kept, Shelved}
use Rattle.block_slots.specs.declared.slots.Piece.{Piece}
use Rattle.block_slots.specs.Slots.{FillsSlot}
use Rattle.shelf_blocks.specs.declared.turn.Made.{Made}
use Rattle.shelf_blocks.specs.Blocks.{HoldsSplit}

-- the points of a split that was found
abbrev pub points_found : Option Split → List Point
points_found None = []
points_found (Some split) = split.points

-- one of these stored splits stands at this place, and its block holds no split of its key
pub record IsDamagedSplit (disk : List ℕ) (granularity : ℕ) (stored : List Stored) (at : ℕ) : Type 0 where
  pub one : Stored
  pub is : Contains stored one
  pub at_is : at ≡ one.block.at
  pub unspelled : (split : Split) → HoldsSplit disk granularity one split → ⊥

-- What a turn makes of one series: which of the old splits stay, and the new ones, which with them are what
-- the turn leaves.
pub record IsMade (told : Option (List ℕ)) (d : Definition) (last from : Option ℕ) (points : List Point) (stored : List Stored) (made : Made) : Type 0 where
  pub order : made.kept.first ≤ made.kept.until
  pub within : made.kept.until ≤ length stored
  pub formed : AreSplits d.granularity made.splits.items
  pub rising : IsStrictlyIncreasing (map (λ s. s.key) (drop made.kept.first (take made.kept.until stored)) ++ map (λ s. s.key) made.splits.items)
  pub after : IfSome told (λ z. (old : List Split) → AllZip (HoldsSplit z d.granularity) stored old → drop made.kept.first (take made.kept.until old) ++ made.splits.items ≡ splits_after d.granularity (oldest_by d last) from points old)

-- that of the series at a place of a metric, by prepared work
abbrev pub IsMadeAt : Option (List ℕ) → Shelved → PreparedView → ℕ → Made → Type 0
IsMadeAt told m p place made =
    (kept : Kept) (d : Definition) → slice_get m.kept place ≡ Some kept → slice_get m.policy.definitions kept.definition ≡ Some d
    → IsMade told d p.raw.last p.from (points_for p kept.definition kept.kind) kept.splits made

-- that of all series up to a place
abbrev pub AreMade : Option (List ℕ) → Shelved → PreparedView → List Made → Type 0
AreMade told m p all = (place : ℕ) (made : Made) → slice_get all place ≡ Some made → IsMadeAt told m p place made

-- the keys of a series are multiples of 3,600 granularities
abbrev pub HasKeys : ArchivePolicy → Kept → Type 0
HasKeys policy kept = (d : Definition) → slice_get policy.definitions kept.definition ≡ Some d → All (λ s. s.key % split_span d.granularity ≡ 0) kept.splits

-- the blocks of a series lie within a disk of so many bytes
abbrev pub AreWithin : ℕ → Kept → Type 0
AreWithin size kept = All (λ s. s.block.at + s.block.len ≤ size) kept.splits

-- one of a metric's splits stands at this place, and its block holds no split of its key
abbrev pub IsDamagedSplitOf : List ℕ → Shelved → ℕ → Type 0
IsDamagedSplitOf z m at =
    (kept : Kept) × (d : Definition) × Contains m.kept kept × (slice_get m.policy.definitions kept.definition ≡ Some d) × IsDamagedSplit z d.granularity kept.splits at

-- What is made fits its series: the old splits that stay are some of it, and the new ones come behind them.
pub record IsFitting (d : Definition) (stored : List Stored) (made : Made) : Type 0 where
  pub order : made.kept.first ≤ made.kept.until
  pub within : made.kept.until ≤ length stored
  pub formed : AreSplits d.granularity made.splits.items
  pub rising : IsStrictlyIncreasing (map (λ s. s.key) (drop made.kept.first (take made.kept.until stored)) ++ map (λ s. s.key) made.splits.items)

-- that of the series at a place of a metric, and of all of them
abbrev pub IsFittingAt : Shelved → ℕ → Made → Type 0
IsFittingAt m place made =
    (kept : Kept) (d : Definition) → slice_get m.kept place ≡ Some kept → slice_get m.policy.definitions kept.definition ≡ Some d → IsFitting d kept.splits made

abbrev pub AreFitting : Shelved → List Made → Type 0
AreFitting m all = (place : ℕ) (made : Made) → slice_get all place ≡ Some made → IsFittingAt m place made

-- how many splits are made
abbrev pub made_count : List Made → ℕ
made_count all = sum_by (λ made. length made.splits.items) all

-- the keys of the splits that go, where some are made: those of old splits that don't stay and aren't made again
abbrev pub keys_gone : List Stored → Made → List Stored → List ℕ
keys_gone stored made new =
    filter (λ key. not (is_made new key)) (map (λ s. s.key) (take made.kept.first stored ++ drop made.kept.until stored))

-- What has become of one series: the splits that stay and the new ones behind them; the moves that lead there, of
-- those that are made and of those that go; and where the new ones stand once these pieces are written.
pub record IsTurned (pieces : List Piece) (d : Definition) (stored : List Stored) (made : Made) (series : List Stored) (own : List Move) : Type 0 where
  pub new : List Stored
  pub series_is : series ≡ drop made.kept.first (take made.kept.until stored) ++ new
  pub leads : after_moves own stored ≡ series
  pub rising : IsStrictlyIncreasing (map (λ m. m.key) own)
  pub keys : map (λ s. s.key) new ≡ map (λ s. s.key) made.splits.items
  pub puts : filter is_put own ≡ map put_of new
  pub gone : filter (λ m. not (is_put m)) own ≡ map gone_of (keys_gone stored made new)
  pub blocks : blocks_of_moves own ≡ map (λ s. s.block) new
  pub written : (z : List ℕ) → All (FillsSlot z) pieces → AllZip (HoldsSplit z d.granularity) new made.splits.items

-- that of the series at a place of a metric
abbrev pub IsTurnedAt : Shelved → List Piece → ℕ → Made → List Stored → List Move → Type 0
IsTurnedAt m pieces place made series own =
    (kept : Kept) (d : Definition) → slice_get m.kept place ≡ Some kept → slice_get m.policy.definitions kept.definition ≡ Some d → IsTurned pieces d kept.splits made series own

-- that of all of them, side by side, from a place on
abbrev pub AreTurned : Shelved → List Piece → ℕ → List Made → List (List Stored) → List (List Move) → Type 0
AreTurned m pieces place [] [] [] = Unit {0}
AreTurned m pieces place [] [] (own ∷ moves) = ⊥
AreTurned m pieces place [] (s ∷ series) moves = ⊥
AreTurned m pieces place (made ∷ all) [] moves = ⊥
AreTurned m pieces place (made ∷ all) (s ∷ series) [] = ⊥
AreTurned m pieces place (made ∷ all) (s ∷ series) (own ∷ moves) =
    IsTurnedAt m pieces place made s own × AreTurned m pieces (place + 1) all series moves

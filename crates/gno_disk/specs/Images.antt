-- What a stop may leave of a disk in memory.
use Rattle.std.specs.Prelude.{◌≡◌, ℕ, ◌+◌, ◌<◌, ◌≤◌, min, max, Bool, true, false, ◌&&◌, ◌||◌, nat_le, nat_lt, List, [], ◌∷◌, ◌++◌, length, take, drop, slice_index}
use Rattle.std.specs.List.{list_any}
use Rattle.std.proofs.Common.{arith, subst, sym}
use Rattle.std.proofs.lemmas.List.{take_all}
use Rattle.gno_disk.specs.Memory.{MemView, Step, has_read, wrote, cut_to, synced}

-- a place and how many bytes from there on
pub record Range : Type 0 where
  pub at : ℕ
  pub len : ℕ

-- the bytes that a read gives and, since the last sync that succeeded, the least and the greatest
-- length and the ranges of all writes
pub record State : Type 0 where
  pub bytes : List ℕ
  pub least : ℕ
  pub greatest : ℕ
  pub ranges : List Range

-- all of these bytes are synced
abbrev pub fresh : List ℕ → State
fresh bytes = record { bytes = bytes; least = length bytes; greatest = length bytes; ranges = [] }

-- a state after one call more
abbrev pub after_step : State → Step → State
after_step s (has_read failed) = s
after_step s (wrote at bytes false) = record {
  bytes = take at s.bytes ++ bytes ++ drop (at + length bytes) s.bytes;
  least = s.least;
  greatest = max s.greatest (at + length bytes);
  ranges = s.ranges ++ (record { at = at; len = length bytes }) ∷ [];
}
after_step s (wrote at bytes true) = record {
  bytes = s.bytes;
  least = s.least;
  greatest = s.greatest;
  ranges = s.ranges ++ (record { at = at; len = length bytes }) ∷ [];
}
after_step s (cut_to to false) = record {
  bytes = take to s.bytes;
  least = min s.least to;
  greatest = s.greatest;
  ranges = s.ranges;
}
after_step s (cut_to to true) = s
after_step s (synced false) = fresh s.bytes
after_step s (synced true) = s

-- a state after these calls, the first of them first
abbrev pub after_all : State → List Step → State
after_all s [] = s
after_all s (step ∷ steps) = after_all (after_step s step) steps

-- what a read gives after these calls on a disk that held these bytes at first
abbrev pub bytes_after : List ℕ → List Step → List ℕ
bytes_after first steps = (after_all (fresh first) steps).bytes

-- the bytes that a disk in memory holds
abbrev pub bytes_of : MemView → List ℕ
bytes_of disk = bytes_after disk.first disk.steps

-- the range has this place
abbrev pub covers : ℕ → Range → Bool
covers place range = nat_le range.at place && nat_lt place (range.at + range.len)

-- A place is loose where a write's range covered it, and from the least length on.
abbrev pub is_loose : State → ℕ → Bool
is_loose s place = nat_le s.least place || list_any (covers place) s.ranges

-- An image has any length from the least to the greatest, and what a read gives where it isn't loose.
pub record IsImage (s : State) (image : List ℕ) : Type 0 where
  pub least : s.least ≤ length image
  pub greatest : length image ≤ s.greatest
  pub firm : (place : ℕ) → place < length image → is_loose s place ≡ false → slice_index image place ≡ slice_index s.bytes place

-- what a stop may leave after these calls on a disk that held these bytes at first
abbrev pub MayLeave : List ℕ → List Step → List ℕ → Type 0
MayLeave first steps image = IsImage (after_all (fresh first) steps) image

-- what a stop may have left at some moment since then, the moments being counted in calls
pub record LeftSince (first : List ℕ) (steps : List Step) (since : ℕ) (image : List ℕ) : Type 0 where
  pub moment : ℕ
  pub no_earlier : since ≤ moment
  pub no_later : moment ≤ length steps
  pub left : MayLeave first (take moment steps) image

-- what it may leave now, it may have left since an earlier moment
pub now_counts : (first : List ℕ) (steps : List Step) (since : ℕ) (image : List ℕ) → since ≤ length steps → MayLeave first steps image → LeftSince first steps since image
now_counts first steps since image le now = record {
  moment = length steps;
  no_earlier = le;
  no_later = omega arith;
  left = subst (λ (made : List Step). MayLeave first made image) (sym (take_all (length steps) steps (omega arith))) now;
}

-- since now, there is no other moment
pub now_only : (first : List ℕ) (steps : List Step) (image : List ℕ) → LeftSince first steps (length steps) image → MayLeave first steps image
now_only first steps image past =
    subst (λ (made : List Step). MayLeave first made image) (take_all past.moment steps past.no_earlier) past.left

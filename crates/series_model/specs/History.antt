-- The history of a store: the entries that its calls have added, in order.
use Rattle.std.specs.Prelude.{ℕ, zero, suc, ◌+◌, nat_le, nat_lt, ◌==◌, if◌then◌else◌, Bool, List, [], ◌∷◌, map, Option}
use Rattle.std.specs.List.{filter}
use Rattle.series_model.specs.declared.measure.Measure.{Measure}

-- an entry that was being written
pub data Attempt : Type 0 where
  Posting : (number metric : ℕ) (measures : List Measure) → Attempt
  Processing : (metric upto : ℕ) → Attempt

-- what a call has added
pub data Entry : Type 0 where
  -- a batch was posted to a metric, under the next number
  Post : (number metric : ℕ) (measures : List Measure) → Entry
  -- a metric's posts up to this number were processed
  Done : (metric upto : ℕ) → Entry
  -- a call that changed nothing
  Look : (metric : Option ℕ) → Entry
  -- a call that failed, with the entry whose first write had begun, if any, and the count of faults
  -- of the disks before and after
  Fault : (tried : Option Attempt) (before after : ℕ) → Entry
  -- the store was mounted again: whether it was found to have the entry that was tried
  Reopened : (kept : Bool) → Entry

-- the posts of a metric, by number
abbrev pub posts_of : ℕ → List Entry → List (ℕ × List Measure)
posts_of metric [] = []
posts_of metric (Post number other measures ∷ entries) =
    if other == metric then (number, measures) ∷ posts_of metric entries else posts_of metric entries
posts_of metric (Done other upto ∷ entries) = posts_of metric entries
posts_of metric (Look other ∷ entries) = posts_of metric entries
posts_of metric (Fault tried before after ∷ entries) = posts_of metric entries
posts_of metric (Reopened kept ∷ entries) = posts_of metric entries

-- the number up to which a metric's posts were processed after these entries, before them `done`
abbrev pub done_onto : ℕ → ℕ → List Entry → ℕ
done_onto metric done [] = done
done_onto metric done (Done other upto ∷ entries) =
    done_onto metric (if other == metric then upto else done) entries
done_onto metric done (Post number other measures ∷ entries) = done_onto metric done entries
done_onto metric done (Look other ∷ entries) = done_onto metric done entries
done_onto metric done (Fault tried before after ∷ entries) = done_onto metric done entries
done_onto metric done (Reopened kept ∷ entries) = done_onto metric done entries

-- the number up to which a metric's posts were processed, 0 before the first turn
abbrev pub done_number : ℕ → List Entry → ℕ
done_number metric entries = done_onto metric 0 entries

-- the measures of a metric's processed posts, one list for each, in order
abbrev pub processed_batches : ℕ → List Entry → List (List Measure)
processed_batches metric entries =
    map (λ post. post.1) (filter (λ post. nat_le post.0 (done_number metric entries)) (posts_of metric entries))

-- the numbers of a metric's posts that wait
abbrev pub pending_numbers : ℕ → List Entry → List ℕ
pending_numbers metric entries =
    filter (nat_lt (done_number metric entries)) (map (λ post. post.0) (posts_of metric entries))

-- how many posts there were, of any metric
abbrev pub post_count : List Entry → ℕ
post_count [] = 0
post_count (Post number metric measures ∷ entries) = 1 + post_count entries
post_count (Done metric upto ∷ entries) = post_count entries
post_count (Look metric ∷ entries) = post_count entries
post_count (Fault tried before after ∷ entries) = post_count entries
post_count (Reopened kept ∷ entries) = post_count entries

-- posts are numbered 1, 2, 3 and so on
abbrev pub next_number : List Entry → ℕ
next_number entries = post_count entries + 1

-- the last number of each turn over these posts, where the first turn takes `more` posts beyond its
-- first: a turn takes 64 of them, and the last turn those that are left
abbrev pub turn_ends : ℕ → List ℕ → List ℕ
turn_ends more [] = []
turn_ends more (number ∷ []) = number ∷ []
turn_ends zero (number ∷ next ∷ numbers) = number ∷ turn_ends 63 (next ∷ numbers)
turn_ends (suc more) (number ∷ next ∷ numbers) = turn_ends more (next ∷ numbers)

-- the turns of a metric that leave none of its posts waiting
abbrev pub turns_of : ℕ → List Entry → List Entry
turns_of metric entries = map (Done metric) (turn_ends 63 (pending_numbers metric entries))

-- Turns over histories whose posts are numbered in order.
use Rattle.std.specs.Prelude.{◌≡◌, ℕ, ◌+◌, ◌-◌, nat_lt, List, [], ◌∷◌, length, take, slice_index}
use Rattle.std.specs.List.{filter}
use Rattle.series_model.specs.declared.measure.Measure.{Measure}
use Rattle.series_model.specs.History.{Entry, Post, Done, Look, Fault, Reopened, posts_of, done_number, pending_numbers}

-- the posts are numbered on from this number
abbrev pub AreNumberedFrom : ℕ → List Entry → Type 0
AreNumberedFrom n [] = Unit {0}
AreNumberedFrom n (Post number metric measures ∷ entries) = (number ≡ n) × AreNumberedFrom (n + 1) entries
AreNumberedFrom n (Done metric upto ∷ entries) = AreNumberedFrom n entries
AreNumberedFrom n (Look metric ∷ entries) = AreNumberedFrom n entries
AreNumberedFrom n (Fault tried before after ∷ entries) = AreNumberedFrom n entries
AreNumberedFrom n (Reopened kept ∷ entries) = AreNumberedFrom n entries

-- the posts are numbered 1, 2, 3 and so on
abbrev pub AreNumbered : List Entry → Type 0
AreNumbered entries = AreNumberedFrom 1 entries

-- the posts of a metric that wait
abbrev pub waiting_posts : ℕ → List Entry → List (ℕ × List Measure)
waiting_posts metric entries = filter (λ post. nat_lt (done_number metric entries) post.0) (posts_of metric entries)

-- the last of these numbers
abbrev pub last_number : List ℕ → ℕ
last_number numbers = slice_index numbers (length numbers - 1)

-- the last number of a metric's next turn, which takes 64 of the posts that wait, or all that are left
abbrev pub turn_end : ℕ → List Entry → ℕ
turn_end metric entries = last_number (take 64 (pending_numbers metric entries))

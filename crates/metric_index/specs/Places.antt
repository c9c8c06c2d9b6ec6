-- Where a key stands in a table by rising key.
use Rattle.std.specs.Prelude.{◌≡◌, ℕ, suc, ◌<◌, ◌≤◌, List, length, take, drop, None, Result, MatchResult, slice_get}
use Rattle.std.specs.declared.cmp.Ordering.{Ordering}
use Rattle.front_api.specs.Tables.{above, below, found}

-- the item at this place has the key that is sought: those before it are below it, and those behind it above
pub record StandsAt {X : Type 0} (order : X → Ordering) (xs : List X) (i : ℕ) : Type 0 where
  pub inside : i < length xs
  pub lower : below order xs ≡ take i xs
  pub upper : above order xs ≡ drop (suc i) xs
  pub is : found order xs ≡ slice_get xs i

-- no item has the key: those before this place are below it, and those from it on above
pub record BelongsAt {X : Type 0} (order : X → Ordering) (xs : List X) (i : ℕ) : Type 0 where
  pub inside : i ≤ length xs
  pub lower : below order xs ≡ take i xs
  pub upper : above order xs ≡ drop i xs
  pub none : found order xs ≡ None

-- the place of the item with the key, or the one where it is to be put in
abbrev pub IsPlace : {X : Type 0} → (X → Ordering) → List X → Result ℕ ℕ → Type 0
IsPlace order xs r = MatchResult r (StandsAt order xs) (BelongsAt order xs)

-- What contracts see of a lock, of a pass, and of a value that a pass holds.
use Rattle.std.specs.Prelude.{◌≡◌, ℕ, List, [], ◌∷◌, ◌++◌, ◌⊎◌}
use mathlib.Core.List.{IsPrefix}
use Rattle.atomic_table.specs.Seated.{TableId}
use Rattle.turn_lock.specs.History.{entries_of}

-- which lock it is, and the origin of the value that it was made with
pub record Lock (O : Type 0) : Type 0 where
  pub id : TableId
  pub origin : O

-- what the owner of a pass knows
pub record Knowledge (E : Type 0) : Type 0 where
  -- the lock of the pass
  pub lock : TableId
  -- its entries stand under this number in the history. The root pass has 0
  pub number : ℕ
  -- how many passes were split off it
  pub splits : ℕ
  -- the numbers of the passes that were joined into it or into those, each with the entries made under it
  pub joined : List (ℕ × List E)
  -- the beginning of the history that it has seen
  pub seen : List (ℕ × E)
  -- its own entries
  pub own : List E

-- a value that a pass holds, and what that pass knows
pub record Holding (T E : Type 0) : Type 0 where
  pub value : T
  pub pass : Knowledge E

module _ {O E : Type 0} where
  abbrev pub BelongsTo : Lock O → Knowledge E → Type 0
  BelongsTo lock pass = pass.lock ≡ lock.id

module _ {E : Type 0} where
  -- the pass and those that were joined into it, each with its entries
  abbrev pub callers : Knowledge E → List (ℕ × List E)
  callers pass = (pass.number, pass.own) ∷ pass.joined

  -- the first pass of a lock
  abbrev pub root_of : TableId → Knowledge E
  root_of lock = record { lock = lock; number = 0; splits = 0; joined = []; seen = []; own = [] }

  -- the pass that was split off last. It has seen as much, and has made nothing
  abbrev pub split_off : Knowledge E → Knowledge E
  split_off pass = record { lock = pass.lock; number = pass.splits; splits = 0; joined = []; seen = pass.seen; own = [] }

  -- the pass with these entries last, which are its own
  abbrev pub with_entries : Knowledge E → List E → Knowledge E
  with_entries pass es = record pass { seen = pass.seen ++ entries_of pass.number es; own = pass.own ++ es }

  -- the longer of two lists, which begins with the other
  abbrev pub IsLongerOf : List (ℕ × E) → List (ℕ × E) → List (ℕ × E) → Type 0
  IsLongerOf xs ys longer = IsPrefix xs longer × IsPrefix ys longer × ((longer ≡ xs) ⊎ (longer ≡ ys))

-- the call says this of the entries, and the value stands for the list with them last
abbrev pub Adds : {T E Q A : Type 0} → (T → List E → Type 0) → (Q → A → List E → List E → Type 0) → Q → A → T → List E → List E → Type 0
Adds stands says request reply value before es = says request reply before es × stands value (before ++ es)

-- the value stands for the list, and has this origin
abbrev pub StandsFrom : {T E O : Type 0} → (T → List E → Type 0) → (T → O) → O → T → List E → Type 0
StandsFrom stands origin from value list = stands value list × (origin value ≡ from)

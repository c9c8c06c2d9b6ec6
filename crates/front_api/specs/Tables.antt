-- Tables: lists of items by rising key. A key is sought by how each item's key compares to it.
use Rattle.std.specs.Prelude.{ℕ, Bool, if◌then◌else◌, List, [], ◌∷◌, ◌++◌, map, filter, Option, Some, None, is_some}
use Rattle.std.specs.Ordering.{is_lt, is_eq, is_gt, nat_cmp}
use Rattle.std.specs.Cmp.Lexicographic.{slice_cmp}
use Rattle.std.specs.List.Sorted.{IsStrictlySortedBy}
use Rattle.std.specs.declared.cmp.Ordering.{Ordering}

-- names by bytes
abbrev pub name_cmp : List ℕ → List ℕ → Ordering
name_cmp name other = slice_cmp nat_cmp name other

-- whether two names are one
abbrev pub same_name : List ℕ → List ℕ → Bool
same_name name other = is_eq (name_cmp name other)

-- the item whose key is the one sought
abbrev pub found : {X : Type 0} → (X → Ordering) → List X → Option X
found order [] = None
found order (x ∷ xs) = if is_eq (order x) then Some x else found order xs

-- whether there is one
abbrev pub has : {X : Type 0} → (X → Ordering) → List X → Bool
has order xs = is_some (found order xs)

-- the items whose keys are below the one sought, and those whose keys are above it
abbrev pub below : {X : Type 0} → (X → Ordering) → List X → List X
below order xs = filter (λ x. is_lt (order x)) xs

abbrev pub above : {X : Type 0} → (X → Ordering) → List X → List X
above order xs = filter (λ x. is_gt (order x)) xs

-- the table with this item at its key
abbrev pub put : {X : Type 0} → (X → Ordering) → X → List X → List X
put order x xs = below order xs ++ x ∷ above order xs

-- the table without the key
abbrev pub gone : {X : Type 0} → (X → Ordering) → List X → List X
gone order xs = below order xs ++ above order xs

-- the keys are distinct, and rise
abbrev pub Rises : {X K : Type 0} → (K → K → Ordering) → (X → K) → List X → Type 0
Rises cmp key xs = IsStrictlySortedBy cmp (map key xs)

-- The target of a request.
use Rattle.std.specs.Prelude.{ℕ, Bool, nat_eq, ◌==◌, if◌then◌else◌, List, [], ◌∷◌, drop, codes}
use Rattle.std.specs.List.{before_first, after_first, starts_with}

-- a text from its first `/` on, and `/` where it has none
abbrev pub from_slash : List ℕ → List ℕ
from_slash [] = codes "/"
from_slash (b ∷ rest) = if b == 47 then b ∷ rest else from_slash rest

-- a target without `http://` and what follows that up to the next `/`
abbrev pub without_server : List ℕ → List ℕ
without_server target = if starts_with nat_eq target (codes "http://") then from_slash (drop 7 target) else target

-- the byte is `?`
abbrev pub is_mark : ℕ → Bool
is_mark b = b == 63

-- what stands before the first `?`
abbrev pub path_in : List ℕ → List ℕ
path_in target = before_first is_mark target

-- what follows the first `?`
abbrev pub query_in : List ℕ → List ℕ
query_in target = after_first is_mark target

-- What a part computes.
use Rattle.std.specs.Prelude.{ℕ, ◌+◌, ◌%◌, ◌^◌, List, Option, Some, None, length, sum, is_some, unwrap_or, count_by, map}
use Rattle.std.specs.List.{sum_by}
use Rattle.std.specs.declared.vec.Vec.{Vec}
use Rattle.std.specs.declared.alloc.Global.{Global}
use Rattle.gno_bench.specs.declared.outcome.Outcome.{Outcome}

-- how many things tell a number, and the sum of the numbers
abbrev pub told_by : {X : Type 0} → (X → Option ℕ) → List X → Outcome
told_by f xs = record { count = count_by (λ x. is_some (f x)) xs; sum = sum_by (λ x. unwrap_or (f x) 0) xs % 2 ^ 64 }

-- the outcome with one more thing
abbrev pub told_with : Outcome → Option ℕ → Outcome
told_with o None = o
told_with o (Some n) = record { count = o.count + 1; sum = (o.sum + n) % 2 ^ 64 }

-- how many bytes there are, and their sum
abbrev pub told_by_text : List ℕ → Outcome
told_by_text text = record { count = length text; sum = sum text % 2 ^ 64 }

-- the bytes of texts
abbrev pub texts_of : List (Vec ℕ Global) → List (List ℕ)
texts_of texts = map (λ text. text.items) texts

-- The bytes that a pattern and a name both begin with.
use Rattle.std.specs.Prelude.{◌≡◌, ◌≢◌, ℕ, List, ◌∷◌, ◌++◌, All}

-- What is left of a pattern and a name behind the bytes that both begin with, up to a `*`: if both
-- still begin with one byte, it is `*`.
pub record IsLeft (pattern name rest left : List ℕ) : Type 0 where
  pub common : List ℕ
  pub literal : All (λ byte. byte ≢ 42) common
  pub pattern_is : pattern ≡ common ++ rest
  pub name_is : name ≡ common ++ left
  pub longest : (byte : ℕ) (pattern_behind name_behind : List ℕ) → rest ≡ byte ∷ pattern_behind → left ≡ byte ∷ name_behind → byte ≡ 42

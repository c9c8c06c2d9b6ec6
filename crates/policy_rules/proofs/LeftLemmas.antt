-- The bytes that a pattern and a name share.
use Rattle.std.proofs.Common.{◌≡◌, ◌≢◌, ℕ, ◌+◌, ◌<◌, ◌≤◌, List, ◌∷◌, ◌++◌, take, drop, length, get_or, sym, ap, ◌∙◌, arith, refl, length-drop, drop-cons}
use Rattle.std.specs.List.{All}
use Rattle.std.proofs.lemmas.List.{take_more_same, take-append-drop}
use Rattle.std.proofs.lemmas.List.Elements.{All-more, All-nil}
use Rattle.policy_rules.specs.Literals.{IsLeft}

-- the first bytes of a pattern and a name are the same, and none is a star
pub record IsShared (pattern name : List ℕ) (count : ℕ) : Type 0 where
  pub in_pattern : count ≤ length pattern
  pub in_name : count ≤ length name
  pub same : take count pattern ≡ take count name
  pub literal : All (λ byte. byte ≢ 42) (take count pattern)

pub IsShared-none : (pattern name : List ℕ) → IsShared pattern name 0
IsShared-none pattern name = record {
  in_pattern = omega arith;
  in_name = omega arith;
  same = refl;
  literal = All-nil (λ byte. byte ≢ 42);
}

-- a loop's step
pub IsShared-more : (pattern name : List ℕ) (count : ℕ) → count < length pattern → count < length name → get_or pattern count 0 ≢ 42 → get_or pattern count 0 ≡ get_or name count 0 → IsShared pattern name count → IsShared pattern name (count + 1)
IsShared-more pattern name count in_pattern in_name literal same h = record {
  in_pattern = omega arith;
  in_name = omega arith;
  same = take_more_same pattern name count 0 in_pattern in_name h.same same;
  literal = All-more (λ byte. byte ≢ 42) pattern count 0 in_pattern h.literal literal;
}

-- what a list holds behind its first bytes begins with the byte there
head_is : (xs : List ℕ) (count byte : ℕ) (behind : List ℕ) → drop count xs ≡ byte ∷ behind → (count < length xs) × (get_or xs count 0 ≡ byte)
head_is xs count byte behind is =
    let long : length (drop count xs) ≡ length (byte ∷ behind) = ap length is in
    let below : count < length xs = omega (arith, long, length-drop count xs) in
    (below, ap (λ l. get_or l 0 0) (sym (drop-cons xs count 0 below) ∙ is))

-- where the first bytes can't be more, the rest is left
pub IsShared-left : (pattern name : List ℕ) (count : ℕ) → IsShared pattern name count → (count < length pattern → count < length name → get_or pattern count 0 ≡ get_or name count 0 → get_or pattern count 0 ≡ 42) → IsLeft pattern name (drop count pattern) (drop count name)
IsShared-left pattern name count h most = record {
  common = take count pattern;
  literal = h.literal;
  pattern_is = sym (take-append-drop count pattern);
  name_is = sym (ap (λ front. front ++ drop count name) h.same ∙ take-append-drop count name);
  longest = λ byte pattern_behind name_behind p n. let a = head_is pattern count byte pattern_behind p in let b = head_is name count byte name_behind n in sym a.1 ∙ most a.0 b.0 (a.1 ∙ sym b.1);
}

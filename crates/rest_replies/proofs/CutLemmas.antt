-- Where a text is cut at a byte.
use Rattle.std.proofs.Common.{◌≡◌, ◌≢◌, ◌==◌, ℕ, List, [], ◌∷◌, ◌++◌, Bool, true, false, All, length, refl, sym, ap, ◌∙◌, arith}
use Rattle.std.proofs.lemmas.Bool.Decides.{nat_tests}
use Rattle.std.specs.List.{AllByRecursion}
use Rattle.std.proofs.lemmas.List.Elements.{recursion_from_All}

-- each byte is another than this one
abbrev pub Without : ℕ → List ℕ → Type 0
Without c = AllByRecursion (λ b. b ≢ c)

pub without_of : (c : ℕ) (text : List ℕ) → All (λ b. b ≢ c) text → Without c text
without_of c text h = recursion_from_All (λ b. b ≢ c) text h

-- the first such byte of a text is at one place
pub one_cut : (c : ℕ) (m n r s : List ℕ) → Without c m → Without c n → m ++ c ∷ r ≡ n ++ c ∷ s → (m ≡ n) × (r ≡ s)
one_cut c [] [] r s h k e = (refl, cc)
one_cut c [] (b ∷ n) r s h k e = absurd (k.0 (let f : b ≡ c = cc in f))
one_cut c (b ∷ m) [] r s h k e = absurd (h.0 (let f : b ≡ c = cc in f))
one_cut c (b ∷ m) (d ∷ n) r s h k e =
    let heads : b ≡ d = cc in
    let tails : m ++ c ∷ r ≡ n ++ c ∷ s = cc in
    let both = one_cut c m n r s h.1 k.1 tails in
    let same = both.0 in
    (cc, both.1)

-- a text without such a byte isn't cut
pub no_cut : (c : ℕ) (text m r : List ℕ) → Without c text → text ≡ m ++ c ∷ r → ⊥
no_cut c [] [] r h e = cc
no_cut c [] (b ∷ m) r h e = cc
no_cut c (d ∷ text) [] r h e = h.0 (let f : d ≡ c = cc in f)
no_cut c (d ∷ text) (b ∷ m) r h e = no_cut c text m r h.1 (let tails : text ≡ m ++ c ∷ r = cc in tails)

pub front_empty : (m x : List ℕ) → m ++ x ≡ [] → m ≡ []
front_empty [] x e = refl
front_empty (b ∷ m) x e = cc

-- two texts that go on from the same front go on alike
pub tail_same : (m r s : List ℕ) → m ++ r ≡ m ++ s → r ≡ s
tail_same [] r s e = e
tail_same (b ∷ m) r s e = tail_same m r s (let tails : m ++ r ≡ m ++ s = cc in tails)

-- what the test of the length says
pub is_empty_text : (text : List ℕ) (r : Bool) → r ≡ (length text == 0) → r ≡ true → text ≡ []
is_empty_text [] r e f = refl
is_empty_text (b ∷ text) r e f = let clash : false ≡ true = sym (e ∙ some) ∙ f in cc
  where
    some : (length (b ∷ text) == 0) ≡ false
    some = grind (arith, nat_tests)

pub is_some_text : (text : List ℕ) (r : Bool) → r ≡ (length text == 0) → r ≡ false → text ≢ []
is_some_text text r e f is = let clash : true ≡ false = sym (e ∙ ap (λ t. length t == 0) is) ∙ f in cc

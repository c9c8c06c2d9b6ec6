-- Which line asks for what.
use Rattle.std.proofs.Common.{◌≡◌, ◌≢◌, ℕ, List, [], ◌∷◌, ◌++◌, true, false, All, inl, inr, refl, sym, ap, subst, ◌∙◌, codes, arith}
use Rattle.rest_replies.proofs.CutLemmas.{Without, front_empty, no_cut, one_cut, tail_same, without_of}
use Rattle.rest_replies.specs.Script.{LineMeaning, nothing, work, request, is_comment, IsRequestLine, alone, with_body, IsRequest, Means, IsCut, IsTargetAndBody, uncut, cut}

abbrev NoSpace : List ℕ → Type 0
NoSpace = Without 32

no_space_of : (text : List ℕ) → All (λ b. b ≢ 32) text → NoSpace text
no_space_of = without_of 32

no_space_work : NoSpace (codes "WORK")
no_space_work = (λ e. omega arith, (λ e. omega arith, (λ e. omega arith, (λ e. omega arith, tt))))

-- a request's line is cut behind its method
request-cut : (line m t b : List ℕ) → IsRequestLine line m t b → (rest : List ℕ) × (line ≡ m ++ 32 ∷ rest)
request-cut line m t b (alone e f) = (t, e)
request-cut line m t b (with_body e) = (t ++ 32 ∷ b, e)

-- ---- no request

pub uncut_none : (line m t b : List ℕ) → All (λ c. c ≢ 32) line → IsRequest line m t b → ⊥
uncut_none line m t b h r =
    let cut = request-cut line m t b r.parts in
    no_cut 32 line m cut.0 (no_space_of line h) cut.1

pub no_method_none : (line method rest m t b : List ℕ) → IsCut line method rest → method ≡ [] → IsRequest line m t b → ⊥
no_method_none line method rest m t b c empty r =
    let cut = request-cut line m t b r.parts in
    let both = one_cut 32 m method cut.0 rest (no_space_of m r.is_method.no_space) (no_space_of method c.no_space) (sym cut.1 ∙ c.whole) in
    r.is_method.some (both.0 ∙ empty)

-- what stands behind the method of a request
behind_method : (line method rest m t b : List ℕ) → IsCut line method rest → IsRequest line m t b → IsRequestLine (m ++ 32 ∷ rest) m t b
behind_method line method rest m t b c r =
    let cut = request-cut line m t b r.parts in
    let both = one_cut 32 m method cut.0 rest (no_space_of m r.is_method.no_space) (no_space_of method c.no_space) (sym cut.1 ∙ c.whole) in
    let same : line ≡ m ++ 32 ∷ rest = cut.1 ∙ ap (λ x. m ++ 32 ∷ x) both.1 in
    subst (λ x. IsRequestLine x m t b) same r.parts

-- what stands behind the space
rest_same : (m r s : List ℕ) → m ++ 32 ∷ r ≡ m ++ 32 ∷ s → r ≡ s
rest_same m r s e = let both = tail_same m (32 ∷ r) (32 ∷ s) e in cc

no_target_none : (line method rest m t b : List ℕ) → IsCut line method rest → rest ≡ [] → IsRequest line m t b → ⊥
no_target_none line method rest m t b c empty r = by (behind_method line method rest m t b c r)
  where
    by : IsRequestLine (m ++ 32 ∷ rest) m t b → ⊥
    by (alone e f) = r.is_target.some (sym (rest_same m rest t e) ∙ empty)
    by (with_body e) = r.is_target.some (front_empty t (32 ∷ b) (sym (rest_same m rest (t ++ 32 ∷ b) e) ∙ empty))

empty_target_none : (line method rest target body m t b : List ℕ) → IsCut line method rest → IsCut rest target body → target ≡ [] → IsRequest line m t b → ⊥
empty_target_none line method rest target body m t b c d empty r = by (behind_method line method rest m t b c r)
  where
    by : IsRequestLine (m ++ 32 ∷ rest) m t b → ⊥
    by (alone e f) = no_cut 32 t target body (no_space_of t r.is_target.no_space) (sym (rest_same m rest t e) ∙ d.whole)
    by (with_body e) =
        let both = one_cut 32 t target b body (no_space_of t r.is_target.no_space) (no_space_of target d.no_space) (sym (rest_same m rest (t ++ 32 ∷ b) e) ∙ d.whole) in
        r.is_target.some (both.0 ∙ empty)

pub without_target_none : (line method rest target body m t b : List ℕ) → IsCut line method rest → IsTargetAndBody rest target body → target ≡ [] → IsRequest line m t b → ⊥
without_target_none line method rest target body m t b c (uncut h is none) empty r = no_target_none line method rest m t b c (sym is ∙ empty) r
without_target_none line method rest target body m t b c (cut d) empty r = empty_target_none line method rest target body m t b c d empty r

-- what is cut into a method and the rest, and that into a target and a body, is a request
pub is_request : (line method rest target body : List ℕ) → is_comment line ≡ false → IsCut line method rest → IsTargetAndBody rest target body → method ≢ [] → target ≢ []
    → IsRequest line method target body
is_request line method rest target body no_comment c (uncut h is none) some_method some_target = record {
  no_comment = no_comment;
  is_method = record { some = some_method; no_space = c.no_space };
  is_target = record { some = some_target; no_space = subst (All (λ b. b ≢ 32)) (sym is) h };
  parts = alone (c.whole ∙ ap (λ x. method ++ 32 ∷ x) (sym is)) none;
}
is_request line method rest target body no_comment c (cut d) some_method some_target = record {
  no_comment = no_comment;
  is_method = record { some = some_method; no_space = c.no_space };
  is_target = record { some = some_target; no_space = d.no_space };
  parts = with_body (c.whole ∙ ap (λ x. method ++ 32 ∷ x) d.whole);
}

-- a line that asks for nothing that there is
pub bad : (line : List ℕ) → line ≢ [] → is_comment line ≡ false → line ≢ codes "WORK" → ((m t b : List ℕ) → IsRequest line m t b → ⊥)
    → (meaning : LineMeaning) → Means line meaning → ⊥
bad line some no_comment no_work none nothing (inl e) = some e
bad line some no_comment no_work none nothing (inr e) = let clash : true ≡ false = sym e ∙ no_comment in cc
bad line some no_comment no_work none work e = no_work e
bad line some no_comment no_work none (request m t b) r = none m t b r

-- ---- one reading

nothing-work : (line : List ℕ) → Means line nothing → Means line work → ⊥
nothing-work line (inl e) w = let clash : codes "WORK" ≡ [] = sym w ∙ e in cc
nothing-work line (inr e) w = let clash : false ≡ true = sym (ap is_comment w) ∙ e in cc

nothing-request : (line m t b : List ℕ) → Means line nothing → IsRequest line m t b → ⊥
nothing-request line m t b (inl e) r =
    let cut = request-cut line m t b r.parts in
    r.is_method.some (front_empty m (32 ∷ cut.0) (sym cut.1 ∙ e))
nothing-request line m t b (inr e) r = let clash : true ≡ false = sym e ∙ r.no_comment in cc

work-request : (line m t b : List ℕ) → line ≡ codes "WORK" → IsRequest line m t b → ⊥
work-request line m t b w r =
    let cut = request-cut line m t b r.parts in
    no_cut 32 (codes "WORK") m cut.0 no_space_work (sym w ∙ cut.1)

parts_same : (line m t b n u c : List ℕ) → NoSpace m → NoSpace t → NoSpace n → NoSpace u → IsRequestLine line m t b → IsRequestLine line n u c
    → request m t b ≡ request n u c
parts_same line m t b n u c hm ht hn hu (alone e f) (alone g h) =
    let both = one_cut 32 m n t u hm hn (sym e ∙ g) in
    let one = both.0 in let two = both.1 in cc
parts_same line m t b n u c hm ht hn hu (alone e f) (with_body g) =
    let both = one_cut 32 m n t (u ++ 32 ∷ c) hm hn (sym e ∙ g) in
    absurd (no_cut 32 t u c ht both.1)
parts_same line m t b n u c hm ht hn hu (with_body e) (alone g h) =
    let both = one_cut 32 m n (t ++ 32 ∷ b) u hm hn (sym e ∙ g) in
    absurd (no_cut 32 u t b hu (sym both.1))
parts_same line m t b n u c hm ht hn hu (with_body e) (with_body g) =
    let both = one_cut 32 m n (t ++ 32 ∷ b) (u ++ 32 ∷ c) hm hn (sym e ∙ g) in
    let rest = one_cut 32 t u b c ht hu both.1 in
    let one = both.0 in let two = rest.0 in let three = rest.1 in cc

pub one-reading : (line : List ℕ) (a b : LineMeaning) → Means line a → Means line b → a ≡ b
one-reading line nothing nothing h k = refl
one-reading line nothing work h k = absurd (nothing-work line h k)
one-reading line nothing (request m t b) h k = absurd (nothing-request line m t b h k)
one-reading line work nothing h k = absurd (nothing-work line k h)
one-reading line work work h k = refl
one-reading line work (request m t b) h k = absurd (work-request line m t b h k)
one-reading line (request m t b) nothing h k = absurd (nothing-request line m t b k h)
one-reading line (request m t b) work h k = absurd (work-request line m t b k h)
one-reading line (request m t b) (request n u c) h k =
    parts_same line m t b n u c (no_space_of m h.is_method.no_space) (no_space_of t h.is_target.no_space) (no_space_of n k.is_method.no_space) (no_space_of u k.is_target.no_space) h.parts k.parts

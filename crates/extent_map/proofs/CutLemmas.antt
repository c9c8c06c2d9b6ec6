-- Places are taken out of a range of free ones.
use Rattle.std.proofs.Common.{◌≡◌, ℕ, ◌+◌, ◌-◌, ◌<◌, ◌≤◌, inl, inr, List, [], ◌∷◌, ◌++◌, Some, take, drop, sym, subst, ⊎_elim, arith}
use Rattle.std.specs.List.{All, AllPairs, slice_get}
use Rattle.std.proofs.lemmas.Bool.{cases_lt}
use Rattle.std.proofs.lemmas.List.Elements.{All-nil, All-cons, All-head, All-tail}
use Rattle.std.proofs.lemmas.List.Kept.{AllPairs-cons}
use Rattle.extent_map.specs.Ranges.{EndsBefore, LiesOutside}
use Rattle.extent_map.specs.Extents.{without_front}
use Rattle.extent_map.specs.Edits.{Cuts}
use Rattle.extent_map.proofs.RangeLemmas.{split_got}
use Rattle.extent_map.proofs.EditLemmas.{cuts_case, left_none, left_over}

pub one : {X : Type 0} (P : X → Type 0) (x : X) → P x → All P (x ∷ [])
one P x h = All-cons P x [] h (All-nil P)

lone : (p : ℕ × ℕ) → AllPairs EndsBefore (p ∷ [])
lone p i j d rise short = absurd (omega arith)

cuts_rest : (a b : List (ℕ × ℕ)) (x : ℕ × ℕ) (len : ℕ) → AllPairs EndsBefore (a ++ x ∷ b) → len < x.1 → Cuts (x.0, len) (a ++ x ∷ b) (a ++ (x.0 + len, x.1 - len) ∷ b)
cuts_rest a b x len apart more =
    let n : ℕ × ℕ = (x.0 + len, x.1 - len) in
    cuts_case a (n ∷ []) b x (x.0, len) (omega arith) (omega arith) apart
    (one (λ (p : ℕ × ℕ). (x.0 ≤ p.0) × (p.0 + p.1 ≤ x.0 + x.1) × (0 < p.1)) n (omega arith, omega arith, omega arith))
    (lone n)
    (λ p h.
    ⊎_elim
    (λ before. ⊎_elim (λ low. inl (inl low)) (λ taken. inr (taken, before)) (cases_lt p x.0))
    (λ behind. inl (inr (omega arith)))
    (All-head (LiesOutside p) n [] h))
    (λ p taken. one (LiesOutside p) n (inl (omega arith)))

cuts_whole : (a b : List (ℕ × ℕ)) (x : ℕ × ℕ) (len : ℕ) → AllPairs EndsBefore (a ++ x ∷ b) → len ≡ x.1 → Cuts (x.0, len) (a ++ x ∷ b) (a ++ b)
cuts_whole a b x len apart whole =
    cuts_case a [] b x (x.0, len) (omega arith) (omega arith) apart
    (All-nil (λ (p : ℕ × ℕ). (x.0 ≤ p.0) × (p.0 + p.1 ≤ x.0 + x.1) × (0 < p.1)))
    (λ i j d rise short. absurd (omega arith))
    (λ p h.
    ⊎_elim
    (λ low. inl (inl low))
    (λ high. ⊎_elim (λ before. inr (high, omega arith)) (λ behind. inl (inr behind)) (cases_lt p (x.0 + x.1)))
    (cases_lt p x.0))
    (λ p taken. All-nil (LiesOutside p))

-- the front of a range is taken
pub cuts_front : (xs : List (ℕ × ℕ)) (i len : ℕ) (x : ℕ × ℕ) → AllPairs EndsBefore xs → slice_get xs i ≡ Some x → len ≤ x.1 → Cuts (x.0, len) xs (take i xs ++ (without_front len x ++ drop (i + 1) xs))
cuts_front xs i len x apart got within =
    let split = split_got xs i x got in
    let a = take i xs in
    let b = drop (i + 1) xs in
    let apart' = subst (AllPairs EndsBefore) split apart in
    subst (λ (old : List (ℕ × ℕ)). Cuts (x.0, len) old (a ++ (without_front len x ++ b))) (sym split)
    (⊎_elim
    (λ more. subst (λ (w : List (ℕ × ℕ)). Cuts (x.0, len) (a ++ x ∷ b) (a ++ (w ++ b))) (sym (left_over len x more)) (cuts_rest a b x len apart' more))
    (λ none. subst (λ (w : List (ℕ × ℕ)). Cuts (x.0, len) (a ++ x ∷ b) (a ++ (w ++ b))) (sym (left_none len x none)) (cuts_whole a b x len apart' (omega arith)))
    (cases_lt len x.1))

-- the back of a range is taken
pub cuts_back : (xs : List (ℕ × ℕ)) (i at len : ℕ) (x : ℕ × ℕ) → AllPairs EndsBefore xs → slice_get xs i ≡ Some x → x.0 < at → at + len ≡ x.0 + x.1 → Cuts (at, len) xs (take i xs ++ (x.0, at - x.0) ∷ drop (i + 1) xs)
cuts_back xs i at len x apart got low high =
    let split = split_got xs i x got in
    let a = take i xs in
    let b = drop (i + 1) xs in
    let n : ℕ × ℕ = (x.0, at - x.0) in
    subst (λ (old : List (ℕ × ℕ)). Cuts (at, len) old (a ++ n ∷ b)) (sym split)
    (cuts_case a (n ∷ []) b x (at, len) (omega arith) (omega arith) (subst (AllPairs EndsBefore) split apart)
    (one (λ (p : ℕ × ℕ). (x.0 ≤ p.0) × (p.0 + p.1 ≤ x.0 + x.1) × (0 < p.1)) n (omega arith, omega arith, omega arith))
    (lone n)
    (λ p h.
    ⊎_elim
    (λ before. inl (inl before))
    (λ behind. ⊎_elim (λ taken. inr (omega arith, taken)) (λ over. inl (inr (omega arith))) (cases_lt p (at + len)))
    (All-head (LiesOutside p) n [] h))
    (λ p taken. one (LiesOutside p) n (inr (omega arith))))

-- the middle of a range is taken
pub cuts_middle : (xs : List (ℕ × ℕ)) (i at len : ℕ) (x : ℕ × ℕ) → AllPairs EndsBefore xs → slice_get xs i ≡ Some x → 0 < len → x.0 < at → at + len < x.0 + x.1 → Cuts (at, len) xs (take i xs ++ (x.0, at - x.0) ∷ (at + len, x.0 + x.1 - (at + len)) ∷ drop (i + 1) xs)
cuts_middle xs i at len x apart got filled low high =
    let split = split_got xs i x got in
    let a = take i xs in
    let b = drop (i + 1) xs in
    let n : ℕ × ℕ = (x.0, at - x.0) in
    let m : ℕ × ℕ = (at + len, x.0 + x.1 - (at + len)) in
    let P : ℕ × ℕ → Type 0 = λ p. (x.0 ≤ p.0) × (p.0 + p.1 ≤ x.0 + x.1) × (0 < p.1) in
    subst (λ (old : List (ℕ × ℕ)). Cuts (at, len) old (a ++ n ∷ m ∷ b)) (sym split)
    (cuts_case a (n ∷ m ∷ []) b x (at, len) (omega arith) (omega arith) (subst (AllPairs EndsBefore) split apart)
    (All-cons P n (m ∷ []) (omega arith, omega arith, omega arith) (one P m (omega arith, omega arith, omega arith)))
    (AllPairs-cons EndsBefore n (m ∷ []) (one (EndsBefore n) m (omega arith)) (lone m))
    (λ p h.
    ⊎_elim
    (λ before. inl (inl before))
    (λ behind.
    ⊎_elim
    (λ under. inr (omega arith, under))
    (λ over. inl (inr (omega arith)))
    (All-head (LiesOutside p) m [] (All-tail (LiesOutside p) n (m ∷ []) h)))
    (All-head (LiesOutside p) n (m ∷ []) h))
    (λ p taken. All-cons (LiesOutside p) n (m ∷ []) (inr (omega arith)) (one (LiesOutside p) m (inl (omega arith)))))

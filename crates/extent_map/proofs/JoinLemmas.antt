-- A range that overlaps none is joined with those that it touches.
use Rattle.std.proofs.Common.{◌≡◌, ◌≢◌, ◌∙◌, ℕ, ◌+◌, ◌<◌, ◌≤◌, ◌⊎◌, suc, List, ◌∷◌, ◌++◌, Some, length, get_or, take, drop, sym, ap, subst, ⊎_elim, arith, add-one, drop-cons}
use Rattle.std.specs.List.{All, AllPairs, slice_get}
use Rattle.std.proofs.lemmas.Bool.{cases_eq}
use Rattle.std.proofs.lemmas.List.{take-append-drop, get_or-drop, length-drop}
use Rattle.std.proofs.lemmas.Option.{slice_get-get_or, get_or_from_slice_get}
use Rattle.extent_map.specs.Ranges.{EndsBefore}
use Rattle.extent_map.specs.Edits.{Joins}
use Rattle.extent_map.proofs.RangeLemmas.{clear, got_within, split_got}
use Rattle.extent_map.proofs.EditLemmas.{joins_alone, joins_before, joins_behind, joins_both}

pub drop_got : {X : Type 0} (xs : List X) (i : ℕ) (x : X) → slice_get xs i ≡ Some x → drop i xs ≡ x ∷ drop (i + 1) xs
drop_got xs i x got =
    rw add-one (drop-cons xs i x (got_within xs i x got) ∙ ap (λ y. y ∷ drop (suc i) xs) (get_or_from_slice_get xs i x x got))

-- the range ends before another begins or begins behind it
abbrev pub Misses : ℕ → ℕ → ℕ × ℕ → Type 0
Misses at len r = (r.0 + r.1 ≤ at) ⊎ (at + len ≤ r.0)

pub joined_both : (xs : List (ℕ × ℕ)) (i at len : ℕ) (x y : ℕ × ℕ) → AllPairs EndsBefore xs → 0 < len → slice_get xs i ≡ Some x → x.0 + x.1 ≡ at → slice_get xs (i + 1) ≡ Some y → y.0 ≡ at + len → Joins (at, len) xs (take i xs ++ (x.0, x.1 + len + y.1) ∷ drop (i + 2) xs)
joined_both xs i at len x y apart filled got ends next begins =
    let two : i + 1 + 1 ≡ i + 2 = omega arith in
    let split : xs ≡ take i xs ++ x ∷ y ∷ drop (i + 2) xs = split_got xs i x got ∙ ap (λ more. take i xs ++ x ∷ more) (drop_got xs (i + 1) y next ∙ ap (λ n. y ∷ drop n xs) two) in
    let new = take i xs ++ (x.0, x.1 + len + y.1) ∷ drop (i + 2) xs in
    subst (λ (old : List (ℕ × ℕ)). Joins (at, len) old new) (sym split) (joins_both (take i xs) (drop (i + 2) xs) x y at len (subst (AllPairs EndsBefore) split apart) filled ends begins)

beyond : (xs : List (ℕ × ℕ)) (i at len : ℕ) (x : ℕ × ℕ) → AllPairs EndsBefore xs → All (Misses at len) xs → slice_get xs i ≡ Some x → x.0 + x.1 ≡ at → All (λ (s : ℕ × ℕ). at + len ≤ s.0) (drop (i + 1) xs)
beyond xs i at len x apart misses got ends k d h =
    let short : i + 1 + k < length xs = omega (arith, h, length-drop (i + 1) xs) in
    let same = ap (λ (r : ℕ × ℕ). r.0 + r.1) (get_or_from_slice_get xs i x d got) in
    let rise = apart i (i + 1 + k) d (omega arith) short in
    rw get_or-drop (⊎_elim (λ early. absurd (omega arith)) (λ late. late) (misses (i + 1 + k) d short))

pub joined_before : (xs : List (ℕ × ℕ)) (i at len : ℕ) (x : ℕ × ℕ) → AllPairs EndsBefore xs → All (Misses at len) xs → 0 < len → slice_get xs i ≡ Some x → x.0 + x.1 ≡ at → ((r : ℕ × ℕ) → slice_get xs (i + 1) ≡ Some r → r.0 ≢ at + len) → Joins (at, len) xs (take i xs ++ (x.0, x.1 + len) ∷ drop (i + 1) xs)
joined_before xs i at len x apart misses filled got ends none =
    let split = split_got xs i x got in
    let new = take i xs ++ (x.0, x.1 + len) ∷ drop (i + 1) xs in
    subst (λ (old : List (ℕ × ℕ)). Joins (at, len) old new) (sym split)
    (joins_before (take i xs) (drop (i + 1) xs) x at len (subst (AllPairs EndsBefore) split apart) filled ends
    (clear xs (i + 1) (at + len) apart (beyond xs i at len x apart misses got ends) none))

pub joined_behind : (xs : List (ℕ × ℕ)) (i at len : ℕ) (y : ℕ × ℕ) → AllPairs EndsBefore xs → 0 < len → All (λ (r : ℕ × ℕ). r.0 + r.1 < at) (take i xs) → slice_get xs i ≡ Some y → y.0 ≡ at + len → Joins (at, len) xs (take i xs ++ (at, len + y.1) ∷ drop (i + 1) xs)
joined_behind xs i at len y apart filled before got begins =
    let split = split_got xs i y got in
    let new = take i xs ++ (at, len + y.1) ∷ drop (i + 1) xs in
    subst (λ (old : List (ℕ × ℕ)). Joins (at, len) old new) (sym split)
    (joins_behind (take i xs) (drop (i + 1) xs) y at len (subst (AllPairs EndsBefore) split apart) filled begins before)

past : (xs : List (ℕ × ℕ)) (i at len : ℕ) → AllPairs EndsBefore xs → All (Misses at len) xs → All (λ (r : ℕ × ℕ). at ≤ r.0 + r.1) (drop i xs) → ((r : ℕ × ℕ) → slice_get xs i ≡ Some r → r.0 + r.1 ≢ at) → All (λ (s : ℕ × ℕ). at + len ≤ s.0) (drop i xs)
past xs i at len apart misses behind none k d h =
    let short : i + k < length xs = omega (arith, h, length-drop i xs) in
    let got : slice_get xs i ≡ Some (get_or xs i d) = slice_get-get_or xs i d (omega arith) in
    let late : at ≤ (get_or xs (i + 0) d).0 + (get_or xs (i + 0) d).1 = rw get_or-drop at (behind 0 d (omega arith)) in
    let other = none (get_or xs i d) got in
    let still = ap (λ j. (get_or xs j d).0 + (get_or xs j d).1) (let e : i + 0 ≡ i = omega arith in e) in
    rw get_or-drop (
    ⊎_elim
    (λ early.
    ⊎_elim
    (λ first. absurd (omega (arith, other, late, still, early, ap (λ j. (get_or xs j d).0 + (get_or xs j d).1) (let e : i + k ≡ i = omega (arith, first) in e))))
    (λ later. absurd (omega (arith, late, still, early, apart i (i + k) d (omega (arith, later)) short)))
    (cases_eq k 0))
    (λ behind. behind)
    (misses (i + k) d short)
    )

pub joined_alone : (xs : List (ℕ × ℕ)) (i at len : ℕ) → AllPairs EndsBefore xs → All (Misses at len) xs → 0 < len → All (λ (r : ℕ × ℕ). r.0 + r.1 < at) (take i xs) → All (λ (r : ℕ × ℕ). at ≤ r.0 + r.1) (drop i xs) → ((r : ℕ × ℕ) → slice_get xs i ≡ Some r → r.0 + r.1 ≢ at) → ((r : ℕ × ℕ) → slice_get xs i ≡ Some r → r.0 ≢ at + len) → Joins (at, len) xs (take i xs ++ (at, len) ∷ drop i xs)
joined_alone xs i at len apart misses filled before behind no_end no_begin =
    let split : xs ≡ take i xs ++ drop i xs = sym (take-append-drop i xs) in
    let new = take i xs ++ (at, len) ∷ drop i xs in
    subst (λ (old : List (ℕ × ℕ)). Joins (at, len) old new) (sym split)
    (joins_alone (take i xs) (drop i xs) (at, len) filled before (clear xs i (at + len) apart (past xs i at len apart misses behind no_end) no_begin))

-- Histories and their beginnings.
use Rattle.std.proofs.Common.{subst, ◌≡◌, ◌≢◌, ◌⊎◌, ℕ, suc, ◌+◌, ◌*◌, List, [], ◌∷◌, ◌++◌, length, Bool, true, false, refl, sym, ap, ◌∙◌, inl, inr, ⊎_elim, append_assoc, eq-eqb, ne_eqb, zero-add, arith}
use Rattle.std.proofs.lemmas.List.{append-nil}
use Rattle.std.proofs.lemmas.List.Sums.{sum_by-cons}
use Rattle.std.specs.Prelude.{if◌then◌else◌, ◌==◌, sum_by}
use mathlib.Core.List.{IsPrefix}
use mathlib.Core.Logic.{dite}
use native.Mathlib.Decide.{ℕ_discrete}
use Rattle.turn_lock.specs.History.{entries_in, entries_of, entries_by, HasJust}
use Rattle.turn_lock.specs.Rules.{among}

module _ {A : Type 0} where
  pub prefix_self : (xs : List A) → IsPrefix xs xs
  prefix_self xs = ([], append-nil xs)

  pub prefix_longer : (xs ys zs : List A) → IsPrefix xs ys → IsPrefix xs (ys ++ zs)
  prefix_longer xs ys zs p = (p.0 ++ zs, sym (append_assoc xs p.0 zs) ∙ ap (λ l. l ++ zs) p.1)

  pub prefix_trans : (xs ys zs : List A) → IsPrefix xs ys → IsPrefix ys zs → IsPrefix xs zs
  prefix_trans xs ys zs p q = (p.0 ++ q.0, sym (append_assoc xs p.0 q.0) ∙ (ap (λ w. w ++ q.0) p.1 ∙ q.1))

  -- of two beginnings of one list one begins the other
  pub prefix_or : (xs ys zs : List A) → IsPrefix xs zs → IsPrefix ys zs → IsPrefix xs ys ⊎ IsPrefix ys xs
  prefix_or [] ys zs p q = inl (ys, refl)
  prefix_or (x ∷ xs) [] zs p q = inr (x ∷ xs, refl)
  prefix_or (x ∷ xs) (y ∷ ys) [] p q = absurd (cc (p.1))
  prefix_or (x ∷ xs) (y ∷ ys) (z ∷ zs) p q =
      let heads : x ≡ y = cc (p.1, q.1) in
      ⊎_elim
      (λ (r : IsPrefix xs ys). inl (r.0, cc (heads, r.1)))
      (λ (r : IsPrefix ys xs). inr (r.0, cc (heads, r.1)))
      (prefix_or xs ys zs (p.0, cc (p.1)) (q.0, cc (q.1)))

  -- lists that begin with one another
  pub prefix_both : (xs ys : List A) → IsPrefix xs ys → IsPrefix ys xs → xs ≡ ys
  prefix_both [] [] p q = refl
  prefix_both [] (y ∷ ys) p q = absurd (cc (q.1))
  prefix_both (x ∷ xs) [] p q = absurd (cc (p.1))
  prefix_both (x ∷ xs) (y ∷ ys) p q =
      let heads : x ≡ y = cc (p.1) in
      let rest = prefix_both xs ys (p.0, cc (p.1)) (q.0, cc (q.1)) in cc (heads, rest)

  pub prefix_of_nil : (xs ys : List A) → IsPrefix xs ys → [] ≡ ys → xs ≡ ys
  prefix_of_nil xs ys p nil = prefix_both xs ys p (subst (λ l. IsPrefix l xs) nil (xs, refl))

  if_append : (b : Bool) (x : A) (xs ys : List A) → (if b then x ∷ (xs ++ ys) else (xs ++ ys)) ≡ (if b then x ∷ xs else xs) ++ ys
  if_append true x xs ys = refl
  if_append false x xs ys = refl

module _ {E : Type 0} where
  pub entries_in-more : (xs : List (ℕ × E)) (n : ℕ) (es : List E) → entries_in (xs ++ entries_of n es) ≡ entries_in xs ++ es
  entries_in-more [] n [] = refl
  entries_in-more [] n (e ∷ es) = ap (λ l. e ∷ l) (entries_in-more [] n es)
  entries_in-more (x ∷ xs) n es = ap (λ l. x.1 ∷ l) (entries_in-more xs n es)

  pub length-entries_of : (n : ℕ) (es : List E) → length (entries_of n es) ≡ length es
  length-entries_of n [] = refl
  length-entries_of n (e ∷ es) = ap suc (length-entries_of n es)

  by-append : (n : ℕ) (xs ys : List (ℕ × E)) → entries_by n (xs ++ ys) ≡ entries_by n xs ++ entries_by n ys
  by-append n [] ys = refl
  by-append n (x ∷ xs) ys = ap (λ l. if x.0 == n then x.1 ∷ l else l) (by-append n xs ys) ∙ if_append (x.0 == n) x.1 (entries_by n xs) (entries_by n ys)

  by-own : (n : ℕ) (es : List E) → entries_by n (entries_of n es) ≡ es
  by-own n [] = refl
  by-own n (e ∷ es) = ap (λ b. if b then e ∷ entries_by n (entries_of n es) else entries_by n (entries_of n es)) (eq-eqb n n refl) ∙ ap (λ l. e ∷ l) (by-own n es)

  by-other : (n m : ℕ) (es : List E) → m ≢ n → entries_by n (entries_of m es) ≡ []
  by-other n m [] apart = refl
  by-other n m (e ∷ es) apart = ap (λ b. if b then e ∷ entries_by n (entries_of m es) else entries_by n (entries_of m es)) (ne_eqb m n apart) ∙ by-other n m es apart

  -- a caller's own entries come last
  pub by-more : (xs : List (ℕ × E)) (n : ℕ) (es own : List E) → entries_by n xs ≡ own → entries_by n (xs ++ entries_of n es) ≡ own ++ es
  by-more xs n es own is = by-append n xs (entries_of n es) ∙ (ap (λ l. l ++ entries_by n (entries_of n es)) is ∙ ap (λ l. own ++ l) (by-own n es))

  -- another's entries change nothing
  pub by-others : (xs : List (ℕ × E)) (n m : ℕ) (es : List E) → m ≢ n → entries_by n (xs ++ entries_of m es) ≡ entries_by n xs
  by-others xs n m es apart = by-append n xs (entries_of m es) ∙ (ap (λ l. entries_by n xs ++ l) (by-other n m es apart) ∙ append-nil (entries_by n xs))

  by_prefix : (n : ℕ) (xs ys : List (ℕ × E)) → IsPrefix xs ys → IsPrefix (entries_by n xs) (entries_by n ys)
  by_prefix n xs ys p = (entries_by n p.0, sym (by-append n xs p.0) ∙ ap (entries_by n) p.1)

  -- what two lists have of a caller, a list between them has too
  by_between : (n : ℕ) (own : List E) (xs ys zs : List (ℕ × E)) → IsPrefix xs ys → IsPrefix ys zs → entries_by n xs ≡ own → entries_by n zs ≡ own → entries_by n ys ≡ own
  by_between n own xs ys zs p q first last =
      let below = subst (λ l. IsPrefix l (entries_by n ys)) first (by_prefix n xs ys p) in
      let above = subst (IsPrefix (entries_by n ys)) last (by_prefix n ys zs q) in prefix_both (entries_by n ys) own above below

  pub just_between : (cs : List (ℕ × List E)) (xs ys zs : List (ℕ × E)) → IsPrefix xs ys → IsPrefix ys zs → HasJust xs cs → HasJust zs cs → HasJust ys cs
  just_between [] xs ys zs p q first last = tt
  just_between (c ∷ cs) xs ys zs p q first last = (by_between c.0 c.1 xs ys zs p q first.0 last.0, just_between cs xs ys zs p q first.1 last.1)

  pub just_append : (history : List (ℕ × E)) (cs ds : List (ℕ × List E)) → HasJust history cs → HasJust history ds → HasJust history (cs ++ ds)
  just_append history [] ds first last = last
  just_append history (c ∷ cs) ds first last = (first.0, just_append history cs ds first.1 last)

  pub just_parts : (history : List (ℕ × E)) (cs ds : List (ℕ × List E)) → HasJust history (cs ++ ds) → HasJust history cs × HasJust history ds
  just_parts history [] ds both = (tt, both)
  just_parts history (c ∷ cs) ds both = let rest = just_parts history cs ds both.1 in ((both.0, rest.0), rest.1)

  pub among-append : (n : ℕ) (cs ds : List (ℕ × List E)) → among n (cs ++ ds) ≡ among n cs + among n ds
  among-append n [] ds = omega arith
  among-append n (c ∷ cs) ds = let rest = among-append n cs ds in omega (arith, rest)

  pub among_own : (n : ℕ) (own : List E) (cs : List (ℕ × List E)) → among n ((n, own) ∷ cs) ≡ 1 + among n cs
  among_own n own cs = ap (λ b. (if b then 1 else 0) + among n cs) (eq-eqb n n refl)

  pub among_other : (n m : ℕ) (own : List E) (cs : List (ℕ × List E)) → m ≢ n → among n ((m, own) ∷ cs) ≡ among n cs
  among_other n m own cs apart = ap (λ b. (if b then 1 else 0) + among n cs) (ne_eqb m n apart) ∙ zero-add (among n cs)

  -- a caller that isn't among them adds entries
  pub just_others : (history : List (ℕ × E)) (m : ℕ) (es : List E) (cs : List (ℕ × List E)) → among m cs ≡ 0 → HasJust history cs → HasJust (history ++ entries_of m es) cs
  just_others history m es [] none just = tt
  just_others history m es (c ∷ cs) none just =
      dite (ℕ_discrete c.0 m)
      (λ same. let one : among m (c ∷ cs) ≡ 1 + among m cs = ap (λ b. (if b then 1 else 0) + among m cs) (eq-eqb c.0 m same) in absurd (omega (arith, one, none)))
      (λ apart. let rest : among m (c ∷ cs) ≡ among m cs = ap (λ b. (if b then 1 else 0) + among m cs) (ne_eqb c.0 m apart) ∙ zero-add (among m cs) in (by-others history c.0 m es (λ e. apart (sym e)) ∙ just.0, just_others history m es cs (sym rest ∙ none) just.1))

-- What the history weighs is what its callers' entries weigh, where each entry has one caller among them.
module _ {E : Type 0} (weight : E → ℕ) where
  -- what the history's entries of these callers weigh
  abbrev parts : List (ℕ × E) → List (ℕ × List E) → ℕ
  parts history cs = sum_by (λ c. sum_by weight (entries_by c.0 history)) cs

  parts-nil : (cs : List (ℕ × List E)) → parts [] cs ≡ 0
  parts-nil [] = refl
  parts-nil (c ∷ cs) = sum_by-cons (λ (c : ℕ × List E). sum_by weight (entries_by c.0 [])) c cs ∙ (let rest = parts-nil cs in omega (arith, rest))

  by_cons : (n : ℕ) (x : ℕ × E) (xs : List (ℕ × E)) (own : List E) (cs : List (ℕ × List E)) → sum_by weight (entries_by n (x ∷ xs)) ≡ (among x.0 ((n, own) ∷ [])) * weight x.1 + sum_by weight (entries_by n xs)
  by_cons n x xs own cs =
      dite (ℕ_discrete x.0 n)
      (λ same.
      let mine : entries_by n (x ∷ xs) ≡ x.1 ∷ entries_by n xs = ap (λ b. if b then x.1 ∷ entries_by n xs else entries_by n xs) (eq-eqb x.0 n same) in
      let one : among x.0 ((n, own) ∷ []) ≡ 1 = ap (λ (b : Bool). (if b then 1 else 0) + 0) (eq-eqb n x.0 (sym same)) in
      ap (sum_by weight) mine ∙ (sum_by-cons weight x.1 (entries_by n xs) ∙ ap (λ (k : ℕ). k + sum_by weight (entries_by n xs)) (let a : 1 * weight x.1 ≡ weight x.1 = omega arith in sym a ∙ ap (λ (k : ℕ). k * weight x.1) (sym one))))
      (λ other.
      let rest : entries_by n (x ∷ xs) ≡ entries_by n xs = ap (λ b. if b then x.1 ∷ entries_by n xs else entries_by n xs) (ne_eqb x.0 n other) in
      let none : among x.0 ((n, own) ∷ []) ≡ 0 = ap (λ (b : Bool). (if b then 1 else 0) + 0) (ne_eqb n x.0 (λ e. other (sym e))) in
      ap (sum_by weight) rest ∙ (let a : sum_by weight (entries_by n xs) ≡ 0 * weight x.1 + sum_by weight (entries_by n xs) = omega arith in a ∙ ap (λ (k : ℕ). k * weight x.1 + sum_by weight (entries_by n xs)) (sym none)))

  parts-cons : (x : ℕ × E) (xs : List (ℕ × E)) (cs : List (ℕ × List E)) → parts (x ∷ xs) cs ≡ among x.0 cs * weight x.1 + parts xs cs
  parts-cons x xs [] = omega arith
  parts-cons x xs (c ∷ cs) =
      let left = sum_by-cons (λ (c : ℕ × List E). sum_by weight (entries_by c.0 (x ∷ xs))) c cs in
      let right = sum_by-cons (λ (c : ℕ × List E). sum_by weight (entries_by c.0 xs)) c cs in
      let here = by_cons c.0 x xs c.1 cs in
      let rest = parts-cons x xs cs in
      omega (arith, left, right, here, rest)

  one_caller : (history : List (ℕ × E)) (cs : List (ℕ × List E)) → ((n : ℕ) → (among n cs ≡ 1) ⊎ (entries_by n history ≡ [])) → sum_by weight (entries_in history) ≡ parts history cs
  one_caller [] cs each = sym (parts-nil cs)
  one_caller (x ∷ xs) cs each =
      let one : among x.0 cs ≡ 1 =
      ⊎_elim (λ (e : among x.0 cs ≡ 1). e)
      (λ (e : entries_by x.0 (x ∷ xs) ≡ []). let mine : entries_by x.0 (x ∷ xs) ≡ x.1 ∷ entries_by x.0 xs = ap (λ b. if b then x.1 ∷ entries_by x.0 xs else entries_by x.0 xs) (eq-eqb x.0 x.0 refl) in absurd (cc (e, mine)))
      (each x.0) in
      let rest = one_caller xs cs
      (λ n. ⊎_elim (λ (e : among n cs ≡ 1). inl e)
      (λ (e : entries_by n (x ∷ xs) ≡ []).
      dite (ℕ_discrete x.0 n)
      (λ same. let mine : entries_by n (x ∷ xs) ≡ x.1 ∷ entries_by n xs = ap (λ b. if b then x.1 ∷ entries_by n xs else entries_by n xs) (eq-eqb x.0 n same) in absurd (cc (e, mine)))
      (λ other. let skip : entries_by n (x ∷ xs) ≡ entries_by n xs = ap (λ b. if b then x.1 ∷ entries_by n xs else entries_by n xs) (ne_eqb x.0 n other) in inr (sym skip ∙ e)))
      (each n)) in
      let left = sum_by-cons weight x.1 (entries_in xs) in
      let right = parts-cons x xs cs in
      let times : among x.0 cs * weight x.1 ≡ weight x.1 = ap (λ (k : ℕ). k * weight x.1) one ∙ omega arith in
      omega (arith, left, right, rest, times)

  parts_just : (history : List (ℕ × E)) (cs : List (ℕ × List E)) → HasJust history cs → parts history cs ≡ sum_by (λ c. sum_by weight c.1) cs
  parts_just history [] just = refl
  parts_just history (c ∷ cs) just =
      let left = sum_by-cons (λ (c : ℕ × List E). sum_by weight (entries_by c.0 history)) c cs in
      let right = sum_by-cons (λ (c : ℕ × List E). sum_by weight c.1) c cs in
      let here = ap (sum_by weight) just.0 in
      let rest = parts_just history cs just.1 in
      omega (arith, left, right, here, rest)

  pub each_once : (history : List (ℕ × E)) (cs : List (ℕ × List E)) → ((n : ℕ) → (among n cs ≡ 1) ⊎ (entries_by n history ≡ [])) → HasJust history cs → sum_by weight (entries_in history) ≡ sum_by (λ c. sum_by weight c.1) cs
  each_once history cs each just = one_caller history cs each ∙ parts_just history cs just

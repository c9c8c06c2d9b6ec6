-- Lists whose items may follow one another.
use Rattle.std.proofs.Common.{List, [], ◌∷◌, ◌++◌, sym, subst, append-nil, append_assoc}
use Rattle.sack_history.specs.Legal.{FollowOn}

module _ {X : Type 0} (May : List X → X → Type 0) where
  -- lists one behind another
  pub FollowOn-append : (before xs ys : List X) → FollowOn May before xs → FollowOn May (before ++ xs) ys → FollowOn May before (xs ++ ys)
  FollowOn-append before [] ys h k = subst (λ b. FollowOn May b ys) (append-nil before) k
  FollowOn-append before (x ∷ xs) ys h k =
      (h.0, FollowOn-append (before ++ x ∷ []) xs ys h.1 (subst (λ b. FollowOn May b ys) (sym (append_assoc before (x ∷ []) xs)) k))

  -- the front of a list
  pub FollowOn-front : (before xs ys : List X) → FollowOn May before (xs ++ ys) → FollowOn May before xs
  FollowOn-front before [] ys h = tt
  FollowOn-front before (x ∷ xs) ys h = (h.0, FollowOn-front (before ++ x ∷ []) xs ys h.1)

  -- and what is behind it
  pub FollowOn-rest : (before xs ys : List X) → FollowOn May before (xs ++ ys) → FollowOn May (before ++ xs) ys
  FollowOn-rest before [] ys h = subst (λ b. FollowOn May b ys) (sym (append-nil before)) h
  FollowOn-rest before (x ∷ xs) ys h =
      subst (λ b. FollowOn May b ys) (append_assoc before (x ∷ []) xs) (FollowOn-rest (before ++ x ∷ []) xs ys h.1)

  -- one item more
  pub FollowOn-more : (xs : List X) (x : X) → FollowOn May [] xs → May xs x → FollowOn May [] (xs ++ x ∷ [])
  FollowOn-more xs x h may = FollowOn-append [] xs (x ∷ []) h (may, tt)

  -- what holds of nothing, and of one item more wherever it may follow, holds of each such list
  pub induction_on : (P : List X → Type 0) → ((xs : List X) (x : X) → FollowOn May [] xs → P xs → May xs x → P (xs ++ x ∷ []))
      → (before rest : List X) → FollowOn May [] before → P before → FollowOn May before rest → P (before ++ rest)
  induction_on P step before [] legal h k = subst P (sym (append-nil before)) h
  induction_on P step before (x ∷ rest) legal h k =
      subst P (append_assoc before (x ∷ []) rest)
      (induction_on P step (before ++ x ∷ []) rest (FollowOn-more before x legal k.0) (step before x legal h k.0) k.1)

  pub induction : (P : List X → Type 0) → P [] → ((xs : List X) (x : X) → FollowOn May [] xs → P xs → May xs x → P (xs ++ x ∷ []))
      → (xs : List X) → FollowOn May [] xs → P xs
  induction P none step xs legal = induction_on P step [] xs tt none legal

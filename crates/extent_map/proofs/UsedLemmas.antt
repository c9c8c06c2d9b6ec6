-- Ranges are taken one after another.
use Rattle.std.proofs.Common.{◌≡◌, ◌∙◌, ◌↔◌, ℕ, ◌+◌, ◌<◌, ◌≤◌, ◌⊎◌, inl, inr, Bool, true, false, List, [], ◌∷◌, ◌++◌, length, get_or, take, sym, ap, subst, ⊎_elim, arith, length-append}
use Rattle.std.specs.List.{AllPairs, Any}
use Rattle.std.specs.Bool.{OnTrue, OnFalse}
use Rattle.std.proofs.lemmas.Bool.{cases_lt}
use Rattle.std.proofs.lemmas.List.{get_or_append_left, get_or-take, length-take, take_more, get_or_default}
use Rattle.std.proofs.lemmas.List.Elements.{All-push, All-weaker}
use Rattle.std.proofs.lemmas.List.Quantifiers.{Any-push}
use Rattle.std.proofs.Math.Seq.{get_or-append_seam}
use Rattle.extent_map.specs.Ranges.{AreDisjoint, LiesIn}
use Rattle.extent_map.specs.Extents.{Claims, ExtentsView, HoldsUsed, IsLastEnd, IsUsed}

-- what some element has, one of a longer list has
any_left : {X : Type 0} (P : X → Type 0) (xs ys : List X) → Any P xs → Any P (xs ++ ys)
any_left P xs ys w =
    (w.0, w.1, (omega (arith, w.2, length-append xs ys)), get_or_append_left xs ys w.1 w.0 w.2 ∙ w.3, w.4)

any_cases : {X : Type 0} (P : X → Type 0) (xs : List X) (x : X) → Any P (xs ++ x ∷ []) → Any P xs ⊎ P x
any_cases P xs x w =
    ⊎_elim
    (λ within. inl (w.0, w.1, within, sym (get_or_append_left xs (x ∷ []) w.1 w.0 within) ∙ w.3, w.4))
    (λ last.
    let at : w.0 ≡ length xs = omega (arith, w.2, length-append xs (x ∷ [])) in
    inr (subst P (sym w.3 ∙ ap (λ k. get_or (xs ++ x ∷ []) k w.1) at ∙ get_or-append_seam xs x [] w.1) w.4))
    (cases_lt w.0 (length xs))

-- the places of ranges, and no others, are used below the greatest end
pub record AreUsed (ranges : List (ℕ × ℕ)) (extents : ExtentsView) : Type 0 where
  pub used : (place : ℕ) → IsUsed extents place ↔ Any (LiesIn place) ranges
  pub end : IsLastEnd ranges extents.end

one_more : (ranges : List (ℕ × ℕ)) (x : ℕ × ℕ) (old new : ExtentsView) → AreUsed ranges old → Claims x old new → AreUsed (ranges ++ x ∷ []) new
one_more ranges x old new so claims =
    record {
      used = λ p. (
        (λ h. ⊎_elim (λ was. any_left (LiesIn p) ranges (x ∷ []) ((so.used p).0 was)) (λ now. Any-push (LiesIn p) ranges x now) ((claims.taken.used p).0 h)),
        (λ h. (claims.taken.used p).1 (⊎_elim (λ was. inl ((so.used p).1 was)) (λ now. inr now) (any_cases (LiesIn p) ranges x h))),
      );
      end = record {
        all = All-push (λ (r : ℕ × ℕ). r.0 + r.1 ≤ new.end) ranges x
            (All-weaker (λ (r : ℕ × ℕ). r.0 + r.1 ≤ old.end) (λ (r : ℕ × ℕ). r.0 + r.1 ≤ new.end) (λ r le. omega (arith, claims.end)) ranges so.end.all)
            (omega (arith, claims.end));
        one = ⊎_elim
            (λ less. inr (Any-push (λ (r : ℕ × ℕ). r.0 + r.1 ≡ new.end) ranges x (omega (arith, claims.end))))
            (λ more.
            let same : old.end ≡ new.end = omega (arith, claims.end) in
            ⊎_elim
            (λ none. inl (omega arith))
            (λ some. inr (any_left (λ (r : ℕ × ℕ). r.0 + r.1 ≡ new.end) ranges (x ∷ []) (subst (λ e. Any (λ (r : ℕ × ℕ). r.0 + r.1 ≡ e) ranges) same some)))
            so.end.one)
            (cases_lt old.end (x.0 + x.1));
      };
    }

-- no place of a range is used by ranges that are disjoint with it
none_used : (xs : List (ℕ × ℕ)) (i : ℕ) (extents : ExtentsView) → AllPairs AreDisjoint xs → i < length xs → AreUsed (take i xs) extents → (d : ℕ × ℕ) → HoldsUsed (get_or xs i d) extents → ⊥
none_used xs i extents apart short so d held =
    let w = (so.used held.0).0 held.1.1 in
    let k = w.0 in
    let below : k < i = omega (arith, w.2, length-take i xs) in
    let is : get_or xs k w.1 ≡ w.1 = sym (get_or-take i xs k w.1 below) ∙ w.3 in
    let there : LiesIn held.0 (get_or xs k w.1) = subst (LiesIn held.0) (sym is) w.4 in
    let same : get_or xs k d ≡ get_or xs k w.1 = get_or_default xs k d w.1 (omega arith) in
    let here : LiesIn held.0 (get_or xs k d) = subst (LiesIn held.0) (sym same) there in
    ⊎_elim (λ before. omega (arith, before, here, held.1.0)) (λ behind. omega (arith, behind, here, held.1.0)) (apart k i d below short)

-- the next range is claimed
pub claimed_more : (xs : List (ℕ × ℕ)) (i : ℕ) (d : ℕ × ℕ) (claimed : Bool) (old new : ExtentsView) → AllPairs AreDisjoint xs → i < length xs → AreUsed (take i xs) old → OnTrue claimed (Claims (get_or xs i d) old new) → OnFalse claimed (HoldsUsed (get_or xs i d) old × (new ≡ old)) → AreUsed (take (i + 1) xs) new
claimed_more xs i d true old new apart short so claims refused =
    let more : take (i + 1) xs ≡ take i xs ++ get_or xs i d ∷ [] = take_more xs i d short in
    subst (λ (ys : List (ℕ × ℕ)). AreUsed ys new) (sym more) (one_more (take i xs) (get_or xs i d) old new so claims)
claimed_more xs i d false old new apart short so claims refused = absurd (none_used xs i old apart short so d refused.0)

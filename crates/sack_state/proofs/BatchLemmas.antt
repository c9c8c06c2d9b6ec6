-- The batches of the posts up to a number.
use Rattle.std.proofs.Common.{◌≡◌, ℕ, suc, ◌+◌, ◌<◌, ◌≤◌, Bool, true, cond, eqb, leb, get_or, length, List, ◌++◌, [], ◌∷◌, map, take, drop, sym, ap, ◌∙◌, append-nil, append_assoc, arith}
use Rattle.std.specs.List.{filter}
use Rattle.std.proofs.Math.Seq.{drop-cons, take-suc}
use Rattle.std.proofs.lemmas.Bool.{eq-eqb, eqb-true, le-leb, lt-leb}
use Rattle.std.proofs.lemmas.List.{append_cancel_left, map-append, nil_from_length, take-append-drop, take_all}
use Rattle.std.proofs.lemmas.List.Elements.{filter-append}
use Rattle.series_model.specs.declared.measure.Measure.{Measure}

abbrev pub Numbered : Type 0
Numbered = ℕ × List Measure

abbrev pub batches_to : ℕ → List Numbered → List (List Measure)
batches_to upto posts = map (λ (p : Numbered). p.1) (filter (λ (p : Numbered). leb p.0 upto) posts)

pub batches_to-append : (upto : ℕ) (xs ys : List Numbered) → batches_to upto (xs ++ ys) ≡ batches_to upto xs ++ batches_to upto ys
batches_to-append upto xs ys =
    ap (map (λ (p : Numbered). p.1)) (filter-append (λ (p : Numbered). leb p.0 upto) xs ys)
    ∙ map-append (λ (p : Numbered). p.1) (filter (λ (p : Numbered). leb p.0 upto) xs) (filter (λ (p : Numbered). leb p.0 upto) ys)

no_tail : (xs ys : List (List Measure)) → xs ≡ xs ++ ys → ys ≡ []
no_tail xs ys is = append_cancel_left xs ys [] (sym is ∙ sym (append-nil xs))

module _ (upto : ℕ) (posts : List Numbered) (batches left : List (List Measure)) (i : ℕ) (so_far : batches ≡ batches_to upto (take i posts) ++ left) where
  -- all posts were seen
  pub seen_all : length posts ≤ i → (e : Bool) → e ≡ eqb (length left) 0 → (e ≡ true → batches ≡ batches_to upto posts) × (batches ≡ batches_to upto posts → e ≡ true)
  seen_all most e is =
      let all = take_all i posts most in (
        λ none. so_far ∙ ap (λ l. batches_to upto l ++ left) all ∙ ap (λ l. batches_to upto posts ++ l) (nil_from_length left (eqb-true (length left) 0 (sym is ∙ none))) ∙ append-nil (batches_to upto posts),
        λ same. is ∙ eq-eqb (length left) 0 (ap length (no_tail (batches_to upto posts) left (sym same ∙ so_far ∙ ap (λ l. batches_to upto l ++ left) all))),
      )

  module _ (x : Numbered) (within : i < length posts) (at : x ≡ get_or posts i x) where
    more : take (i + 1) posts ≡ take i posts ++ (x ∷ [])
    more =
        let one : i + 1 ≡ suc i = omega arith in
        ap (λ n. take n posts) one ∙ take-suc posts i x within ∙ ap (λ y. take i posts ++ (y ∷ [])) (sym at)

    -- one that isn't up to the number
    pub passed : upto < x.0 → batches ≡ batches_to upto (take (i + 1) posts) ++ left
    passed above =
        so_far ∙ ap (λ l. l ++ left) (sym (ap (batches_to upto) more ∙ batches_to-append upto (take i posts) (x ∷ [])
        ∙ ap (λ b. batches_to upto (take i posts) ++ map (λ (p : Numbered). p.1) (cond b (x ∷ []) [])) (lt-leb x.0 upto above) ∙ append-nil (batches_to upto (take i posts))))

    -- one that is, whose batch is the first that is left
    pub matched : x.0 ≤ upto → (rest : List (List Measure)) → left ≡ x.1 ∷ rest → batches ≡ batches_to upto (take (i + 1) posts) ++ rest
    matched low rest is =
        so_far ∙ ap (λ l. batches_to upto (take i posts) ++ l) is ∙ sym (append_assoc (batches_to upto (take i posts)) (x.1 ∷ []) rest)
        ∙ ap (λ l. l ++ rest) (sym (ap (batches_to upto) more ∙ batches_to-append upto (take i posts) (x ∷ [])
        ∙ ap (λ b. batches_to upto (take i posts) ++ map (λ (p : Numbered). p.1) (cond b (x ∷ []) [])) (le-leb x.0 upto low)))

    -- one that is, whose batch isn't
    pub missed : x.0 ≤ upto → ((rest : List (List Measure)) → left ≡ x.1 ∷ rest → ⊥) → batches ≡ batches_to upto posts → ⊥
    missed low other same = other (batches_to upto (drop (suc i) posts)) (append_cancel_left (batches_to upto (take i posts)) left (x.1 ∷ batches_to upto (drop (suc i) posts)) (sym so_far ∙ same ∙ parts))
      where
        parts : batches_to upto posts ≡ batches_to upto (take i posts) ++ (x.1 ∷ batches_to upto (drop (suc i) posts))
        parts =
            ap (batches_to upto) (sym (take-append-drop i posts)) ∙ batches_to-append upto (take i posts) (drop i posts)
            ∙ ap (λ l. batches_to upto (take i posts) ++ batches_to upto l) (drop-cons posts i x within ∙ ap (λ y. y ∷ drop (suc i) posts) (sym at))
            ∙ ap (λ b. batches_to upto (take i posts) ++ map (λ (p : Numbered). p.1) (cond b (x ∷ filter (λ (p : Numbered). leb p.0 upto) (drop (suc i) posts)) (filter (λ (p : Numbered). leb p.0 upto) (drop (suc i) posts)))) (le-leb x.0 upto low)

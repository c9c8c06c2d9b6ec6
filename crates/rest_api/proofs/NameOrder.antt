-- Metrics by rising name.
use Rattle.std.proofs.Common.{◌≡◌, ℕ, ◌+◌, ◌<◌, Bool, true, false, List, [], ◌∷◌, ◌++◌, length, get_or, map, filter, take, unwrap_or, append-nil, refl, sym, ap, subst, ◌∙◌, arith}
use Rattle.std.specs.Borrow.{Bor}
use Rattle.std.specs.Cmp.{IsStrictWeakOrder, IsTotalOrder}
use Rattle.std.specs.List.Sorted.{IsPermutation, IsSortedBy}
use Rattle.std.specs.Ordering.{is_lt, ordering_reverse}
use Rattle.std.specs.declared.cmp.Ordering.{Ordering}
use Rattle.std.specs.declared.cmp.Ordering.TheVariants.{Less, Equal, Greater}
use Rattle.std.proofs.lemmas.Cmp.{nat_list_cmp_total}
use Rattle.std.proofs.lemmas.List.Elements.{filter-append}
use Rattle.std.proofs.lemmas.List.{get_or-map, length-map, map-append, take_more}
use Rattle.rest_api.specs.Shown.{metric_shown}
use Rattle.std.proofs.lemmas.List.Sorted.{IsPermutation-map}
use Rattle.front_api.specs.Tables.{name_cmp}
use Rattle.front_api.specs.declared.command.MetricDoc.{MetricDoc}
use Rattle.rest_api.specs.Members.{borrowed, is_named_before}

-- ---- an order is a weak one

turned : (v w : Ordering) → v ≡ ordering_reverse w → is_lt v ≡ true → is_lt w ≡ false
turned v Less is e = let c : false ≡ true = sym (ap is_lt is) ∙ e in absurd cc
turned v Equal is e = refl
turned v Greater is e = refl

turned_less : (v w : Ordering) → v ≡ ordering_reverse w → w ≡ Greater → v ≡ Less
turned_less v w is e = is ∙ ap ordering_reverse e

not_less : (v : Ordering) → (v ≡ Less → ⊥) → is_lt v ≡ false
not_less Less never = absurd (never refl)
not_less Equal never = refl
not_less Greater never = refl

module _ {K : Type 0} (R : K → K → Ordering) (o : IsTotalOrder R) where
  chain_by : (x y z : K) (v w : Ordering) → R x y ≡ v → R y z ≡ w → is_lt v ≡ false → is_lt w ≡ false → is_lt (R x z) ≡ false
  chain_by x y z Less w a b e f = absurd cc
  chain_by x y z Equal w a b e f = ap is_lt (o.congr x y z a ∙ b) ∙ f
  chain_by x y z Greater w a b e f =
      not_less (R x z) (λ less. let c : true ≡ false = sym (ap is_lt (sym b ∙ o.trans y x z (turned_less (R y x) (R x y) (o.antisymm y x) a) less)) ∙ f in absurd cc)

  weak_order : {X : Type 0} (key : X → K) → IsStrictWeakOrder (λ x y. is_lt (R (key x) (key y)))
  weak_order key = record {
    one_way = λ x y e. turned (R (key x) (key y)) (R (key y) (key x)) (o.antisymm (key x) (key y)) e;
    chain = λ x y z e f. chain_by (key x) (key y) (key z) (R (key x) (key y)) (R (key y) (key z)) refl refl e f;
  }

-- by names, of borrowed documents
abbrev pub is_borrowed_before : Bor MetricDoc → Bor MetricDoc → Bool
is_borrowed_before one other = is_named_before one.now other.now

pub borrowed_order : IsStrictWeakOrder is_borrowed_before
borrowed_order = weak_order name_cmp nat_list_cmp_total (λ (doc : Bor MetricDoc). unwrap_or doc.now.name [])

-- ---- sorted documents that are borrowed

pub borrowed_sorted : (docs : List (Bor MetricDoc)) → IsSortedBy is_borrowed_before docs → IsSortedBy is_named_before (borrowed docs)
borrowed_sorted [] sorted k d low inside = absurd (omega (arith, inside))
borrowed_sorted (doc ∷ docs) sorted k d low inside =
    let all = doc ∷ docs in
    let short : k + 1 < length all = omega (arith, inside, length-map all (λ (doc : Bor MetricDoc). doc.now)) in
    let next = get_or-map (λ (doc : Bor MetricDoc). doc.now) all (k + 1) doc d short in
    let here = get_or-map (λ (doc : Bor MetricDoc). doc.now) all k doc d (omega (arith, short)) in
    subst (λ (one : MetricDoc). is_named_before one (get_or (borrowed all) k d) ≡ false) (sym next)
    (subst (λ (other : MetricDoc). is_named_before (get_or all (k + 1) doc).now other ≡ false) (sym here) (sorted k doc low short))

pub borrowed_permutation : (docs its : List (Bor MetricDoc)) → IsPermutation docs its → IsPermutation (borrowed docs) (borrowed its)
borrowed_permutation docs its h = IsPermutation-map (λ (doc : Bor MetricDoc). doc.now) docs its h

-- what is shown of borrowed documents is what is shown of the documents
pub borrowed_shown : (docs : List (Bor MetricDoc)) → map (λ (doc : Bor MetricDoc). metric_shown doc.now) docs ≡ map metric_shown (borrowed docs)
borrowed_shown [] = refl
borrowed_shown (doc ∷ docs) = ap (λ documents. metric_shown doc.now ∷ documents) (borrowed_shown docs)

-- one more borrowed document of a list, where it passes
pub borrowed_filter : (p : MetricDoc → Bool) (docs : List MetricDoc) (i : ℕ) (its : List (Bor MetricDoc)) (doc : Bor MetricDoc) → i < length docs → doc.now ≡ get_or docs i doc.now
    → borrowed its ≡ filter p (take i docs) → p doc.now ≡ true → borrowed (its ++ doc ∷ []) ≡ filter p (take (i + 1) docs)
borrowed_filter p docs i its doc inside is so-far passes =
    map-append (λ (d : Bor MetricDoc). d.now) its (doc ∷ []) ∙ ap (λ l. l ++ doc.now ∷ []) so-far
    ∙ sym (ap (filter p) (take_more docs i doc.now inside ∙ ap (λ d. take i docs ++ d ∷ []) (sym is)) ∙ filter-append p (take i docs) (doc.now ∷ [])
    ∙ ap (λ (l : List MetricDoc). filter p (take i docs) ++ l) (kept_one passes))
  where
    kept_one : p doc.now ≡ true → filter p (doc.now ∷ []) ≡ doc.now ∷ []
    kept_one e = rw e refl

-- and where it doesn't
pub borrowed_left : (p : MetricDoc → Bool) (docs : List MetricDoc) (i : ℕ) (its : List (Bor MetricDoc)) (doc : MetricDoc) → i < length docs → doc ≡ get_or docs i doc
    → borrowed its ≡ filter p (take i docs) → p doc ≡ false → borrowed its ≡ filter p (take (i + 1) docs)
borrowed_left p docs i its doc inside is so-far fails =
    so-far ∙ sym (ap (filter p) (take_more docs i doc inside ∙ ap (λ d. take i docs ++ d ∷ []) (sym is)) ∙ filter-append p (take i docs) (doc ∷ [])
    ∙ ap (λ (l : List MetricDoc). filter p (take i docs) ++ l) (left_out fails) ∙ append-nil (filter p (take i docs)))
  where
    left_out : p doc ≡ false → filter p (doc ∷ []) ≡ []
    left_out e = rw e refl

-- What an entry more does to what counts.
use Rattle.std.proofs.Common.{◌≡◌, ℕ, Bool, true, false, List, [], ◌∷◌, ◌++◌, Option, Some, None, refl, sym, ap, subst, ◌∙◌, append-nil, append_assoc}
use Rattle.std.specs.Option.{option_to_list, IfSome}
use Rattle.std.specs.List.{fold}
use Rattle.std.proofs.lemmas.Bool.{both_ways}
use Rattle.std.proofs.lemmas.List.Sums.{fold-append}
use Rattle.sack_history.specs.declared.entry.Counted.{Counted}
use Rattle.sack_history.specs.declared.entry.Entry.{Entry}
use Rattle.sack_history.specs.declared.entry.Entry.TheVariants as entries
use Rattle.sack_history.specs.Entries.{all_counted, found_from, is_found, kept, what_counts}
use Rattle.sack_history.specs.Holding.{broken_after, is_broken, open_tried, tried_after}
use Rattle.sack_history.specs.Legal.{IsLegal, IsLegalCount, MayChange, MayComeNext, MayCount, MayHaveTried}
use Rattle.sack_history.proofs.Following.{FollowOn-more, induction}

-- ---- what counts, by what the next reopening behind the entries finds

abbrev found_onto : Bool → List Entry → Bool
found_onto found [] = found
found_onto found (entry ∷ rest) = found_from entry (found_onto found rest)

abbrev kept_onto : Bool → List Entry → List Counted
kept_onto found [] = []
kept_onto found (entry ∷ rest) = what_counts (found_onto found rest) entry ++ kept_onto found rest

found_is : (h : List Entry) → is_found h ≡ found_onto false h
found_is [] = refl
found_is (e ∷ h) = ap (found_from e) (found_is h)

kept_is : (h : List Entry) → kept h ≡ kept_onto false h
kept_is [] = refl
kept_is (e ∷ h) = ap (λ f. what_counts f e ++ kept h) (found_is h) ∙ ap (λ l. what_counts (found_onto false h) e ++ l) (kept_is h)

found_onto-append : (found : Bool) (g h : List Entry) → found_onto found (g ++ h) ≡ found_onto (found_onto found h) g
found_onto-append found [] h = refl
found_onto-append found (e ∷ g) h = ap (found_from e) (found_onto-append found g h)

kept_onto-append : (found : Bool) (g h : List Entry) → kept_onto found (g ++ h) ≡ kept_onto (found_onto found h) g ++ kept_onto found h
kept_onto-append found [] h = refl
kept_onto-append found (e ∷ g) h =
    ap (λ f. what_counts f e ++ kept_onto found (g ++ h)) (found_onto-append found g h)
    ∙ ap (λ l. what_counts (found_onto (found_onto found h) g) e ++ l) (kept_onto-append found g h)
    ∙ sym (append_assoc (what_counts (found_onto (found_onto found h) g) e) (kept_onto (found_onto found h) g) (kept_onto found h))

one_more : (found : Bool) (h : List Entry) (e : Entry) → kept_onto found (h ++ e ∷ []) ≡ kept_onto (found_from e found) h ++ what_counts found e
one_more found h e = kept_onto-append found h (e ∷ []) ∙ ap (λ l. kept_onto (found_from e found) h ++ l) (append-nil (what_counts found e))

-- an entry that finds nothing
kept_more : (h : List Entry) (e : Entry) → found_from e false ≡ false → kept (h ++ e ∷ []) ≡ kept h ++ what_counts false e
kept_more h e none =
    kept_is (h ++ e ∷ []) ∙ one_more false h e ∙ ap (λ f. kept_onto f h ++ what_counts false e) none
    ∙ ap (λ l. l ++ what_counts false e) (sym (kept_is h))

-- what counts comes behind what counted
pub kept-counted : (h : List Entry) (c : Counted) → kept (h ++ entries.Counted c ∷ []) ≡ kept h ++ c ∷ []
kept-counted h c = kept_more h (entries.Counted c) refl

-- an entry that is only noted
pub kept-noted : (h : List Entry) (e : Entry) → found_from e false ≡ false → what_counts false e ≡ [] → kept (h ++ e ∷ []) ≡ kept h
kept-noted h e none nothing = kept_more h e none ∙ ap (λ l. kept h ++ l) nothing ∙ append-nil (kept h)

-- entries that all count
pub kept-all_counted : (h : List Entry) (cs : List Counted) → kept (h ++ all_counted cs) ≡ kept h ++ cs
kept-all_counted h [] = ap kept (append-nil h) ∙ sym (append-nil (kept h))
kept-all_counted h (c ∷ cs) =
    ap kept (sym (append_assoc h (entries.Counted c ∷ []) (all_counted cs)))
    ∙ kept-all_counted (h ++ entries.Counted c ∷ []) cs
    ∙ ap (λ l. l ++ cs) (kept-counted h c)
    ∙ append_assoc (kept h) (c ∷ []) cs

-- ---- open faults

pub broken-more : (h : List Entry) (e : Entry) → is_broken (h ++ e ∷ []) ≡ broken_after (is_broken h) e
broken-more h e = fold-append broken_after false h (e ∷ [])

pub tried-more : (h : List Entry) (e : Entry) → open_tried (h ++ e ∷ []) ≡ tried_after (open_tried h) e
tried-more h e = fold-append tried_after None h (e ∷ [])

-- a book that isn't broken has tried nothing
pub whole_tried : (h : List Entry) → is_broken h ≡ false → open_tried h ≡ None
whole_tried h whole = onto false None h (λ b. refl) whole
  where
    onto : (broken : Bool) (tried : Option Counted) (h : List Entry) → (broken ≡ false → tried ≡ None) → fold broken_after broken h ≡ false → fold tried_after tried h ≡ None
    onto broken tried [] since whole = since whole
    onto broken tried (entries.Counted c ∷ h) since whole = onto broken tried h since whole
    onto broken tried (entries.Claim t m u ∷ h) since whole = onto broken tried h since whole
    onto broken tried (entries.Release t ∷ h) since whole = onto broken tried h since whole
    onto broken tried (entries.Look m ∷ h) since whole = onto broken tried h since whole
    onto broken tried (entries.Fault c b a ∷ h) since whole = onto true (tried_after tried (entries.Fault c b a)) h (λ e. absurd (both_ways true e refl)) whole
    onto broken tried (entries.Reopened k ∷ h) since whole = onto false None h (λ e. refl) whole

-- ---- legal histories

-- What the next reopening finds comes to what counts; and what counts is itself in order, with what was
-- tried last behind it.
record Kept (h : List Entry) : Type 0 where
  found : kept_onto true h ≡ kept h ++ option_to_list (open_tried h)
  legal : IsLegalCount (kept h)
  tried : IfSome (open_tried h) (MayCount (kept h))

-- an entry that is only noted, and no fault or reopening
keeps : (h : List Entry) (e : Entry) → ((f : Bool) → found_from e f ≡ f) → ((f : Bool) → what_counts f e ≡ []) → tried_after (open_tried h) e ≡ open_tried h → Kept h → Kept (h ++ e ∷ [])
keeps h e finds nothing same k =
    let kept_same : kept (h ++ e ∷ []) ≡ kept h = kept-noted h e (finds false) (nothing false) in
    let tried_same : open_tried (h ++ e ∷ []) ≡ open_tried h = tried-more h e ∙ same in
    record {
      found = one_more true h e ∙ ap (λ f. kept_onto f h ++ what_counts true e) (finds true) ∙ ap (λ l. kept_onto true h ++ l) (nothing true) ∙ append-nil (kept_onto true h) ∙ k.found ∙ ap (λ l. l ++ option_to_list (open_tried h)) (sym kept_same) ∙ ap (λ o. kept (h ++ e ∷ []) ++ option_to_list o) (sym tried_same);
      legal = subst IsLegalCount (sym kept_same) k.legal;
      tried = subst (λ o. IfSome o (MayCount (kept (h ++ e ∷ [])))) (sym tried_same) (subst (λ l. IfSome (open_tried h) (MayCount l)) (sym kept_same) k.tried);
    }

module _ (sack : ℕ) where
  next_counted : (h : List Entry) (c : Counted) → Kept h → MayChange h c → Kept (h ++ entries.Counted c ∷ [])
  next_counted h c k may =
      let none : open_tried h ≡ None = whole_tried h may.whole in
      let more = kept-counted h c in
      let none_more : open_tried (h ++ entries.Counted c ∷ []) ≡ None = tried-more h (entries.Counted c) ∙ none in
      record {
        found = one_more true h (entries.Counted c) ∙ ap (λ l. l ++ c ∷ []) (k.found ∙ ap (λ o. kept h ++ option_to_list o) none ∙ append-nil (kept h)) ∙ sym more ∙ sym (append-nil (kept (h ++ entries.Counted c ∷ []))) ∙ ap (λ o. kept (h ++ entries.Counted c ∷ []) ++ option_to_list o) (sym none_more);
        legal = subst IsLegalCount (sym more) (FollowOn-more MayCount (kept h) c k.legal may.counts);
        tried = subst (λ o. IfSome o (MayCount (kept (h ++ entries.Counted c ∷ [])))) (sym none_more) tt;
      }

  next_fault : (h : List Entry) (tried : Option Counted) (b a : ℕ) → Kept h → IfSome tried (MayHaveTried h) → Kept (h ++ entries.Fault tried b a ∷ [])
  next_fault h None b a k may =
      let e = entries.Fault None b a in
      let kept_same : kept (h ++ e ∷ []) ≡ kept h = kept-noted h e refl refl in
      let tried_same : open_tried (h ++ e ∷ []) ≡ open_tried h = tried-more h e in
      record {
        found = one_more true h e ∙ append-nil (kept_onto true h) ∙ k.found ∙ ap (λ l. l ++ option_to_list (open_tried h)) (sym kept_same) ∙ ap (λ o. kept (h ++ e ∷ []) ++ option_to_list o) (sym tried_same);
        legal = subst IsLegalCount (sym kept_same) k.legal;
        tried = subst (λ o. IfSome o (MayCount (kept (h ++ e ∷ [])))) (sym tried_same) (subst (λ l. IfSome (open_tried h) (MayCount l)) (sym kept_same) k.tried);
      }
  next_fault h (Some c) b a k may =
      let e = entries.Fault (Some c) b a in
      let kept_same : kept (h ++ e ∷ []) ≡ kept h = kept-noted h e refl refl in
      let tried_now : open_tried (h ++ e ∷ []) ≡ Some c = tried-more h e in
      record {
        found = one_more true h e ∙ ap (λ l. l ++ c ∷ []) (k.found ∙ ap (λ o. kept h ++ option_to_list o) may.only ∙ append-nil (kept h)) ∙ ap (λ l. l ++ c ∷ []) (sym kept_same) ∙ ap (λ o. kept (h ++ e ∷ []) ++ option_to_list o) (sym tried_now);
        legal = subst IsLegalCount (sym kept_same) k.legal;
        tried = subst (λ o. IfSome o (MayCount (kept (h ++ e ∷ [])))) (sym tried_now) (subst (λ l. MayCount l c) (sym kept_same) may.counts);
      }

  next_reopened : (h : List Entry) (f : Bool) → Kept h → Kept (h ++ entries.Reopened f ∷ [])
  next_reopened h f k =
      let e = entries.Reopened f in
      let now : kept (h ++ e ∷ []) ≡ kept_onto f h = kept_is (h ++ e ∷ []) ∙ one_more false h e ∙ append-nil (kept_onto f h) in
      let none : open_tried (h ++ e ∷ []) ≡ None = tried-more h e in
      record {
        found = one_more true h e ∙ append-nil (kept_onto f h) ∙ sym now ∙ sym (append-nil (kept (h ++ e ∷ []))) ∙ ap (λ o. kept (h ++ e ∷ []) ++ option_to_list o) (sym none);
        legal = subst IsLegalCount (sym now) (by f);
        tried = subst (λ o. IfSome o (MayCount (kept (h ++ e ∷ [])))) (sym none) tt;
      }
    where
      found_legal : (o : Option Counted) → IfSome o (MayCount (kept h)) → IsLegalCount (kept h ++ option_to_list o)
      found_legal None t = subst IsLegalCount (sym (append-nil (kept h))) k.legal
      found_legal (Some c) t = FollowOn-more MayCount (kept h) c k.legal t

      by : (f : Bool) → IsLegalCount (kept_onto f h)
      by false = subst IsLegalCount (kept_is h) k.legal
      by true = subst IsLegalCount (sym k.found) (found_legal (open_tried h) k.tried)

  next : (h : List Entry) (e : Entry) → IsLegal sack h → Kept h → MayComeNext sack h e → Kept (h ++ e ∷ [])
  next h (entries.Counted c) legal k may = next_counted h c k may
  next h (entries.Claim t m u) legal k may = keeps h (entries.Claim t m u) (λ f. refl) (λ f. refl) refl k
  next h (entries.Release t) legal k may = keeps h (entries.Release t) (λ f. refl) (λ f. refl) refl k
  next h (entries.Look m) legal k may = keeps h (entries.Look m) (λ f. refl) (λ f. refl) refl k
  next h (entries.Fault tried b a) legal k may = next_fault h tried b a k may
  next h (entries.Reopened f) legal k may = next_reopened h f k

  all_kept : (h : List Entry) → IsLegal sack h → Kept h
  all_kept h legal = induction (MayComeNext sack) Kept (record { found = refl; legal = tt; tried = tt }) next h legal

  -- what counts of a legal history is in order
  pub kept_legal : (h : List Entry) → IsLegal sack h → IsLegalCount (kept h)
  kept_legal h legal = (all_kept h legal).legal

  -- what was tried might have followed, and might still
  pub tried_legal : (h : List Entry) → IsLegal sack h → IfSome (open_tried h) (MayCount (kept h))
  tried_legal h legal = (all_kept h legal).tried

  -- what a reopening finds comes behind what counts
  pub kept-found : (h : List Entry) → IsLegal sack h → kept (h ++ entries.Reopened true ∷ []) ≡ kept h ++ option_to_list (open_tried h)
  kept-found h legal =
      kept_is (h ++ entries.Reopened true ∷ []) ∙ one_more false h (entries.Reopened true) ∙ append-nil (kept_onto true h) ∙ (all_kept h legal).found

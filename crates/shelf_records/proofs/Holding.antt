-- Slots that are taken, given back and claimed.
use Rattle.std.proofs.Common.{◌≡◌, ◌≢◌, ℕ, ◌+◌, ◌-◌, ◌%◌, ◌^◌, ◌<◌, ◌≤◌, Bool, true, false, leb, eqb, inl, inr, List, [], ◌∷◌, ◌++◌, length, take, drop, get_or, Option, Some, None, refl, sym, ap, subst, ◌∙◌, arith}
use Rattle.std.specs.List.{All, AllPairs, Any, Contains, position, slice_get}
use Rattle.std.specs.List.Sorted.{IsPermutation}
use Rattle.std.specs.Option.{IsSomeAnd, MatchOption}
use Rattle.std.proofs.Math.Logic.{⊎_elim}
use Rattle.std.proofs.lemmas.Bool.{cases_eq, cases_lt, eq-eqb, eqb-false, le-leb, ne_eqb}
use Rattle.std.proofs.lemmas.List.{get_or_default}
use Rattle.std.proofs.lemmas.List.Elements.{All-contains, All-cons, All-head, All-tail}
use Rattle.std.proofs.lemmas.List.Kept.{AllPairs-cons}
use Rattle.std.proofs.lemmas.List.Quantifiers.{position-Some}
use Rattle.std.proofs.lemmas.List.Sorted.{All-permutation, Contains-permutation, IsPermutation-sym}
use Rattle.std.proofs.lemmas.Map.Keys.{IsDistinct-IsPermutation, IsDistinct-from_apart, apart_from_distinct}
use Rattle.std.proofs.lemmas.Option.{none-some, slice_get-get_or}
use Rattle.archive_policy.proofs.Lists.{Contains-here, Contains-there, Contains-cases}
use Rattle.extent_map.specs.Extents.{Claims, ExtentsView, Gives, HoldsUsed, IsUnused, IsUsed, Takes, TakesEnd, TakesFront, without_front}
use Rattle.extent_map.specs.Ranges.{AreFreeRanges, LiesIn, LiesOutside}
use Rattle.extent_map.proofs.RangeLemmas.{pairs-head, pairs-tail}
use Rattle.shelf_records.specs.Shelved.{slot}
use Rattle.shelf_records.specs.Slots.{AreHeld, IsFirstFree, LiesInSlot}
use Rattle.shelf_records.proofs.First.{first_at, position_is}

abbrev Differ : ℕ → ℕ → Type 0
Differ a b = a ≢ b

true_false : true ≡ false → ⊥
true_false is = cc

-- ---- in any order

any_to : (p : ℕ) (slots : List ℕ) (at : ℕ) → Contains slots at → LiesInSlot p at → Any (LiesInSlot p) slots
any_to p slots at there lies = (there.0, at, there.1, there.2, lies)

eqb_flips : (x y : ℕ) → eqb x y ≡ eqb y x
eqb_flips x y =
    ⊎_elim
    (λ same. eq-eqb x y same ∙ sym (eq-eqb y x (sym same)))
    (λ apart. ne_eqb x y apart ∙ sym (ne_eqb y x (λ same. apart (sym same))))
    (cases_eq x y)

pub apart_permutation : (xs ys : List ℕ) → IsPermutation xs ys → AllPairs Differ xs → AllPairs Differ ys
apart_permutation xs ys moves apart =
    let distinct = IsDistinct-from_apart eqb xs (λ i j d lt below. ne_eqb (get_or xs i d) (get_or xs j d) (apart i j d lt below)) in
    let other = IsDistinct-IsPermutation eqb eqb_flips xs ys moves distinct in
    λ i j d lt below. eqb-false (get_or ys i d) (get_or ys j d) (apart_from_distinct eqb ys i j d other lt below)

any_permutation : (p : ℕ) (xs ys : List ℕ) → IsPermutation xs ys → Any (LiesInSlot p) xs → Any (LiesInSlot p) ys
any_permutation p xs ys moves w =
    any_to p ys w.1 (Contains-permutation xs ys w.1 moves (w.0, w.2, w.3)) w.4

pub held_permutation : (xs ys : List ℕ) (e : ExtentsView) → IsPermutation xs ys → AreHeld xs e → AreHeld ys e
held_permutation xs ys e moves held =
    record {
      form = held.form;
      used = λ p. (
        (λ is. any_permutation p xs ys moves ((held.used p).0 is)),
        (λ any. (held.used p).1 (any_permutation p ys xs (IsPermutation-sym xs ys moves) any)),
      );
      aligned = All-permutation (λ at. at % slot ≡ 0) xs ys moves held.aligned;
      apart = apart_permutation xs ys moves held.apart;
      end = held.end;
      limit = held.limit;
    }

-- ---- free ranges are whole slots

module _ (slots : List ℕ) (e : ExtentsView) (held : AreHeld slots e) where
  in_slot : (p : ℕ) → p < e.end → All (LiesOutside p) e.free → (at : ℕ) × Contains slots at × (at % slot ≡ 0) × (at ≤ p) × (p < at + slot)
  in_slot p below outside =
      let w = (held.used p).0 (below, outside) in
      let there : Contains slots w.1 = (w.0, w.2, w.3) in
      (w.1, there, All-contains (λ at. at % slot ≡ 0) slots w.1 held.aligned there, w.4.0, w.4.1)

  not_free : (p k : ℕ) (d : ℕ × ℕ) → k < length e.free → (get_or e.free k d).0 ≤ p → p < (get_or e.free k d).0 + (get_or e.free k d).1 → (at : ℕ) → Contains slots at → at ≤ p → p < at + slot → ⊥
  not_free p k d below from upto at there low high =
      let used = (held.used p).1 (any_to p slots at there (low, high)) in
      ⊎_elim (λ before. omega (arith, before, from)) (λ behind. omega (arith, behind, upto)) (used.1 k d below)

  -- a place that no other free range holds
  outside : (p k : ℕ) (d : ℕ × ℕ) → k < length e.free → ((get_or e.free k d).0 ≤ p + 1) → (p ≤ (get_or e.free k d).0 + (get_or e.free k d).1) → LiesOutside p (get_or e.free k d) → All (LiesOutside p) e.free
  outside p k d below from upto own j x short =
      let same : get_or e.free k x ≡ get_or e.free k d = get_or_default e.free k x d below in
      let r : (get_or e.free k x).0 ≡ (get_or e.free k d).0 = ap (λ (y : ℕ × ℕ). y.0) same in
      let s : (get_or e.free k x).1 ≡ (get_or e.free k d).1 = ap (λ (y : ℕ × ℕ). y.1) same in
      ⊎_elim
      (λ is. subst (λ (y : ℕ × ℕ). LiesOutside p y) (sym same ∙ sym (ap (λ i. get_or e.free i x) is)) own)
      (λ apart. ⊎_elim
      (λ before. let ends = held.form.apart j k x before below in inr (omega (arith, ends, r, from)))
      (λ behind. let ends = held.form.apart k j x (omega (arith, behind, apart)) short in inl (omega (arith, ends, r, s, upto)))
      (cases_lt j k))
      (cases_eq j k)

  begins : (k : ℕ) (d : ℕ × ℕ) → k < length e.free → (get_or e.free k d).0 % slot ≡ 0
  begins k d below =
      let r = (get_or e.free k d).0 in
      let len = (get_or e.free k d).1 in
      let filled : 0 < len = held.form.filled k d below in
      let ends : r + len ≤ e.end = held.form.below k d below in
      ⊎_elim
      (λ is. let none : r ≡ 0 = is in omega (arith, none))
      (λ some.
      let low : r - 1 < r = omega (arith, some) in
      let s = in_slot (r - 1) (omega (arith, ends, filled, some)) (outside (r - 1) k d below (omega arith) (omega arith) (inl low)) in
      ⊎_elim
      (λ within. absurd (not_free r k d below (omega arith) (omega (arith, filled)) s.0 s.1 (omega (arith, s.3)) within))
      (λ end. let at : r ≡ s.0 + slot = omega (arith, end, s.4, some) in omega (arith, at, s.2))
      (cases_lt r (s.0 + slot)))
      (cases_eq r 0)

  long : (k : ℕ) (d : ℕ × ℕ) → k < length e.free → slot ≤ (get_or e.free k d).1
  long k d below =
      let r = (get_or e.free k d).0 in
      let len = (get_or e.free k d).1 in
      let filled : 0 < len = held.form.filled k d below in
      let ends : r + len ≤ e.end = held.form.below k d below in
      let start = begins k d below in
      ⊎_elim
      (λ short.
      ⊎_elim
      (λ more.
      let s = in_slot (r + len) more (outside (r + len) k d below (omega arith) (omega arith) (inr (omega arith))) in
      let at : s.0 ≡ r = omega (arith, s.2, s.3, s.4, start, short, filled) in
      absurd (not_free r k d below (omega arith) (omega (arith, filled)) s.0 s.1 (omega (arith, at)) (omega (arith, at))))
      (λ end. absurd (omega (arith, end, ends, held.end, start, short, filled)))
      (cases_lt (r + len) e.end))
      (λ enough. enough)
      (cases_lt len slot)

  -- a slot below that no free range begins before
  below_held : (at : ℕ) → at ≤ e.end → ((k : ℕ) (d : ℕ × ℕ) → k < length e.free → at ≤ (get_or e.free k d).0) → (a : ℕ) → a % slot ≡ 0 → a < at → Contains slots a
  below_held at within later a aligned below =
      let s = in_slot a (omega (arith, within, below)) (λ k d lt. inl (omega (arith, later k d lt, below))) in
      let same : s.0 ≡ a = omega (arith, s.2, s.3, s.4, aligned) in
      subst (Contains slots) same s.1

  not_used : (at : ℕ) → IsUnused e at → Contains slots at → ⊥
  not_used at unused there =
      let used = (held.used at).1 (any_to at slots at there (omega arith, omega arith)) in
      ⊎_elim
      (λ behind. omega (arith, behind, used.0))
      (λ w.
      let is : LiesOutside at (get_or e.free w.0 w.1) = used.1 w.0 w.1 w.2 in
      let out : LiesOutside at w.1 = subst (LiesOutside at) w.3 is in
      ⊎_elim (λ before. omega (arith, before, w.4.0)) (λ behind. omega (arith, behind, w.4.1)) out)
      unused

  -- ranges are looked for by their length
  fits : ℕ × ℕ → Bool
  fits r = leb slot r.1

  first_fits : (i : ℕ) → position (λ (r : ℕ × ℕ). leb slot r.1) e.free ≡ Some i → i ≡ 0
  first_fits i is =
      let p = λ (r : ℕ × ℕ). leb slot r.1 in
      let at = position-Some p e.free i (0, 0) is in
      ⊎_elim (λ none. none) (λ some.
      let no : leb slot (get_or e.free 0 (0, 0)).1 ≡ false = at.2 0 (omega (arith, some)) in
      let yes : leb slot (get_or e.free 0 (0, 0)).1 ≡ true = le-leb slot (get_or e.free 0 (0, 0)).1 (long 0 (0, 0) (omega (arith, at.0))) in
      absurd (true_false (sym yes ∙ no))) (cases_eq i 0)

  none_fits : position (λ (r : ℕ × ℕ). leb slot r.1) e.free ≡ None → e.free ≡ []
  none_fits is = by e.free refl is
    where
      by : (free : List (ℕ × ℕ)) → e.free ≡ free → position (λ (r : ℕ × ℕ). leb slot r.1) free ≡ None → e.free ≡ []
      by [] same none = same
      by (r ∷ free) same none =
          let here : get_or e.free 0 (0, 0) ≡ r = ap (λ (l : List (ℕ × ℕ)). get_or l 0 (0, 0)) same in
          let some : 0 < length e.free = omega (arith, ap length same) in
          let yes : leb slot r.1 ≡ true = le-leb slot r.1 (subst (λ (x : ℕ × ℕ). slot ≤ x.1) here (long 0 (0, 0) some)) in
          let found : first_at (λ (x : ℕ × ℕ). leb slot x.1) (r ∷ free) ≡ Some 0 = rw yes refl in
          absurd (none-some 0 (sym none ∙ position_is (λ (x : ℕ × ℕ). leb slot x.1) (r ∷ free) ∙ found))

  -- the end is the first free slot where nothing below it is free
  pub end_first : e.free ≡ [] → IsFirstFree slots e.end
  end_first none =
      let no : (k : ℕ) → k < length e.free → ⊥ = λ k lt. omega (arith, lt, ap length none) in
      record {
        aligned = held.end;
        free = not_used e.end (inl (omega arith));
        below = below_held e.end (omega arith) (λ k d lt. absurd (no k lt));
      }

  module _ (new : ExtentsView) (at : ℕ) (takes : Takes (record { 0 = at; 1 = slot }) e new) (form : AreFreeRanges new.end new.free) where
    pub taken_held : at % slot ≡ 0 → new.end % slot ≡ 0 → new.end ≤ 2 ^ 60 → AreHeld (at ∷ slots) new
    taken_held aligned end limit =
        let apart = not_used at (takes.unused at (omega arith, omega arith)) in
        record {
          form = form;
          used = λ p. (
            (λ is. ⊎_elim
                (λ was. let w = (held.used p).0 was in any_to p (at ∷ slots) w.1 (Contains-there at slots w.1 (w.0, w.2, w.3)) w.4)
                (λ own. any_to p (at ∷ slots) at (Contains-here at slots at refl) own)
                ((takes.used p).0 is)),
            (λ w. (takes.used p).1 (⊎_elim
                (λ same. inr (subst (LiesInSlot p) (sym same) w.4))
                (λ there. inl ((held.used p).1 (any_to p slots w.1 there w.4)))
                (Contains-cases at slots w.1 (w.0, w.2, w.3)))),
          );
          aligned = All-cons (λ a. a % slot ≡ 0) at slots aligned held.aligned;
          apart = AllPairs-cons Differ at slots (λ k d lt same. apart (k, lt, get_or_default slots k at d lt ∙ sym same)) held.apart;
          end = end;
          limit = limit;
        }

  -- what is taken is the first free slot
  pub first_taken : (new : ExtentsView) (at : ℕ) → Takes (record { 0 = at; 1 = slot }) e new → MatchOption (position (λ (r : ℕ × ℕ). leb slot r.1) e.free) (TakesEnd slot at e new) (λ i. TakesFront i slot at e new) → (e.free ≡ [] → e.end + slot ≤ 2 ^ 60) → IsFirstFree slots at × (new.end % slot ≡ 0) × (new.end ≤ 2 ^ 60)
  first_taken new at takes exact room = by (position (λ (r : ℕ × ℕ). leb slot r.1) e.free) refl exact
    where
      by : (o : Option ℕ) → position (λ (r : ℕ × ℕ). leb slot r.1) e.free ≡ o → MatchOption o (TakesEnd slot at e new) (λ i. TakesFront i slot at e new) → IsFirstFree slots at × (new.end % slot ≡ 0) × (new.end ≤ 2 ^ 60)
      by None is ends =
          let none = none_fits is in (
            subst (IsFirstFree slots) (sym ends.front) (end_first none),
            omega (arith, ends.end, held.end),
            omega (arith, ends.end, room none),
          )
      by (Some i) is front =
          let zero_is : i ≡ 0 = first_fits i is in
          let some : 0 < length e.free = omega (arith, (position-Some (λ (r : ℕ × ℕ). leb slot r.1) e.free i (0, 0) is).0) in
          let r = get_or e.free 0 (0, 0) in
          let at_is : at ≡ r.0 =
          (subst (λ (o : Option (ℕ × ℕ)). IsSomeAnd o (λ (x : ℕ × ℕ). (at ≡ x.0) × (new.free ≡ take i e.free ++ (without_front slot x ++ drop (i + 1) e.free)))) (ap (slice_get e.free) zero_is ∙ slice_get-get_or e.free 0 (0, 0) some) front.front).0 in
          let within : r.0 + r.1 ≤ e.end = held.form.below 0 (0, 0) some in (
            record {
              aligned = omega (arith, at_is, begins 0 (0, 0) some);
              free = not_used at (takes.unused at (omega arith, omega arith));
              below = below_held at (omega (arith, at_is, within))
                  (λ k d lt.
                  ⊎_elim
                  (λ first. omega (arith, at_is, ap (λ (y : ℕ × ℕ). y.0) (ap (λ j. get_or e.free j d) first ∙ get_or_default e.free 0 d (0, 0) some)))
                  (λ later. let ends = held.form.apart 0 k d (omega (arith, later)) lt in omega (arith, at_is, ends, ap (λ (y : ℕ × ℕ). y.0) (get_or_default e.free 0 (0, 0) d some)))
                  (cases_eq k 0));
            },
            omega (arith, front.end, held.end),
            omega (arith, front.end, held.limit),
          )

  -- a slot that is claimed
  pub claimed_held : (new : ExtentsView) (at : ℕ) → at % slot ≡ 0 → at + slot ≤ 2 ^ 60 → Claims (record { 0 = at; 1 = slot }) e new → AreFreeRanges new.end new.free → AreHeld (at ∷ slots) new
  claimed_held new at aligned within claims form =
      taken_held new at claims.taken form aligned (omega (arith, claims.end, held.end, aligned)) (omega (arith, claims.end, held.limit, within))

  -- one that isn't is held
  pub refused_held : (at : ℕ) → at % slot ≡ 0 → HoldsUsed (record { 0 = at; 1 = slot }) e → Contains slots at
  refused_held at aligned h =
      let w = (held.used h.0).0 h.1.1 in
      let there : Contains slots w.1 = (w.0, w.2, w.3) in
      let own = All-contains (λ a. a % slot ≡ 0) slots w.1 held.aligned there in
      let same : w.1 ≡ at = omega (arith, own, aligned, w.4, h.1.0) in
      subst (Contains slots) same there

-- a slot is given back
pub given_held : (at : ℕ) (slots : List ℕ) (e new : ExtentsView) → AreHeld (at ∷ slots) e → Gives (record { 0 = at; 1 = slot }) e new → AreFreeRanges new.end new.free → new.end ≡ e.end → AreHeld slots new
given_held at slots e new held gives form end =
    let own : at % slot ≡ 0 = All-head (λ a. a % slot ≡ 0) at slots held.aligned in
    let rest = All-tail (λ a. a % slot ≡ 0) at slots held.aligned in
    let others = pairs-head Differ at slots held.apart in
    record {
      form = form;
      used = λ p. (
        (λ is.
            let was = (gives p).0 is in
            let w = (held.used p).0 was.0 in
            ⊎_elim
            (λ same. absurd (⊎_elim (λ before. omega (arith, before, w.4, same)) (λ behind. omega (arith, behind, w.4, same)) was.1))
            (λ there. any_to p slots w.1 there w.4)
            (Contains-cases at slots w.1 (w.0, w.2, w.3))),
        (λ w.
            let there : Contains slots w.1 = (w.0, w.2, w.3) in
            let aligned = All-contains (λ a. a % slot ≡ 0) slots w.1 rest there in
            let apart : at ≢ w.1 = All-contains (Differ at) slots w.1 others there in
            (gives p).1 (
              (held.used p).1 (any_to p (at ∷ slots) w.1 (Contains-there at slots w.1 there) w.4),
              ⊎_elim
                  (λ before. inl before)
                  (λ from. ⊎_elim (λ within. absurd (apart (omega (arith, from, within, w.4, own, aligned)))) (λ behind. inr behind) (cases_lt p (at + slot)))
                  (cases_lt p at),
            )),
      );
      aligned = rest;
      apart = pairs-tail Differ at slots held.apart;
      end = omega (arith, end, held.end);
      limit = omega (arith, end, held.limit);
    }

-- a slot that is held is used
pub held_used : (at : ℕ) (slots : List ℕ) (e : ExtentsView) → AreHeld (at ∷ slots) e → (p : ℕ) → LiesIn p (record { 0 = at; 1 = slot }) → IsUsed e p
held_used at slots e held p lies =
    (held.used p).1 (any_to p (at ∷ slots) at (Contains-here at slots at refl) lies)

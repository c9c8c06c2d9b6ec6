-- What becomes of used places.
use Rattle.std.proofs.Common.{◌≡◌, ◌↔◌, ℕ, ◌+◌, ◌-◌, ◌<◌, ◌≤◌, inl, inr, min, max, List, ◌++◌, Some, take, drop, sym, subst, ⊎_elim, arith}
use Rattle.std.specs.List.{All, AllPairs, Any, slice_get}
use Rattle.std.specs.Option.{IsSomeAnd}
use Rattle.std.specs.Prelude.{Result, Ok, Err, OnOk, OnErr}
use Rattle.std.proofs.lemmas.Bool.{cases_lt}
use Rattle.std.proofs.lemmas.Option.{get_or_from_slice_get}
use Rattle.extent_map.specs.Ranges.{AreFreeRanges, EndsBefore, LiesIn, LiesOutside}
use Rattle.extent_map.specs.Edits.{Cuts, Joins}
use Rattle.extent_map.specs.Extents.{ExtentsView, Takes, without_front}
use Rattle.extent_map.proofs.CutLemmas.{cuts_front}
use Rattle.extent_map.proofs.RangeLemmas.{got_within, held, some_and}

-- the same free ranges below a greater end
pub form_wider : (end more : ℕ) (xs : List (ℕ × ℕ)) → end ≤ more → AreFreeRanges end xs → AreFreeRanges more xs
form_wider end more xs le form =
    record {
      filled = form.filled;
      below = λ k d h. omega (arith, form.below k d h);
      apart = form.apart;
    }

-- a place that isn't below the end is outside of every free range
pub outside_behind : (end place : ℕ) (xs : List (ℕ × ℕ)) → AreFreeRanges end xs → end ≤ place → All (LiesOutside place) xs
outside_behind end place xs form behind k d h = inr (omega (arith, form.below k d h))

in_any : (xs : List (ℕ × ℕ)) (i place : ℕ) (x : ℕ × ℕ) → slice_get xs i ≡ Some x → LiesIn place x → Any (LiesIn place) xs
in_any xs i place x got here = (i, x, got_within xs i x got, get_or_from_slice_get xs i x x got, here)

-- a part of a free range is taken, and what of the range is behind the end
pub takes_cut : (old new : ExtentsView) (i at len size : ℕ) (x : ℕ × ℕ) → AreFreeRanges old.end old.free → slice_get old.free i ≡ Some x → x.0 ≤ at → at + size ≤ x.0 + x.1 → Cuts (at, size) old.free new.free → size ≤ len → at + size ≤ old.end → (size < len → at + size ≡ old.end) → new.end ≡ max old.end (at + len) → Takes (at, len) old new
takes_cut old new i at len size x form got low high cut part below over end =
    record {
      unused = λ p h.
          ⊎_elim
          (λ under. inr (in_any old.free i p x got (omega arith, omega arith)))
          (λ behind. inl (⊎_elim (λ some. omega (arith, over some)) (λ none. absurd (omega arith)) (cases_lt size len)))
          (cases_lt p (at + size));
      used = λ p. (
        (λ h. ⊎_elim
            (λ before. ⊎_elim (λ under. inl (under, before)) (λ behind. inr (omega arith, omega (arith, h.0))) (cases_lt p old.end))
            (λ taken. inr (taken.0, omega arith))
            ((cut.outside p).0 h.1)),
        (λ h. ⊎_elim
            (λ was. (omega (arith, was.0), (cut.outside p).1 (inl was.1)))
            (λ taken. (
              omega arith,
              ⊎_elim
                  (λ under. (cut.outside p).1 (inr (taken.0, under)))
                  (λ behind. (cut.outside p).1 (inl (outside_behind old.end p old.free form (⊎_elim (λ some. omega (arith, over some)) (λ none. absurd (omega arith)) (cases_lt size len)))))
                  (cases_lt p (at + size)),
            ))
            h),
      );
    }

-- places behind the end are taken, and those up to them become free
pub takes_behind : (old new : ExtentsView) (at len : ℕ) → AreFreeRanges old.end old.free → old.end < at → Joins (old.end, at - old.end) old.free new.free → new.end ≡ at + len → Takes (at, len) old new
takes_behind old new at len form beyond join end =
    record {
      unused = λ p h. inl (omega (arith, h.0));
      used = λ p. (
        (λ h. ⊎_elim
            (λ under. inl (under, ((join.outside p).0 h.1).0))
            (λ behind. ⊎_elim (λ low. absurd (omega arith)) (λ high. inr (omega arith, omega (arith, h.0))) ((join.outside p).0 h.1).1)
            (cases_lt p old.end)),
        (λ h. ⊎_elim
            (λ was. (omega (arith, was.0), (join.outside p).1 (was.1, inl was.0)))
            (λ taken. (omega arith, (join.outside p).1 (outside_behind old.end p old.free form (omega (arith, taken.0)), inr (omega (arith, taken.0)))))
            h),
      );
    }

-- a range is given back
pub gives_joined : (end : ℕ) (old new : List (ℕ × ℕ)) (range : ℕ × ℕ) → Joins range old new → (p : ℕ) → ((p < end) × All (LiesOutside p) new) ↔ (((p < end) × All (LiesOutside p) old) × LiesOutside p range)
gives_joined end old new range join p = (
  (λ h. let w = (join.outside p).0 h.1 in ((h.0, w.0), w.1)),
  (λ h. (h.0.0, (join.outside p).1 (h.0.1, h.1))),
)

-- the front of a free range is cut off
pub front_cut : (free new : List (ℕ × ℕ)) (i len : ℕ) (x : ℕ × ℕ) → AllPairs EndsBefore free → IsSomeAnd (slice_get free i) (λ (r : ℕ × ℕ). len ≤ r.1) → slice_get free i ≡ Some x → IsSomeAnd (slice_get free i) (λ (r : ℕ × ℕ). new ≡ take i free ++ (without_front len r ++ drop (i + 1) free)) → Cuts (x.0, len) free new
front_cut free new i len x apart fits got is =
    subst (λ (ys : List (ℕ × ℕ)). Cuts (x.0, len) free ys) (sym (held free i x (λ (r : ℕ × ℕ). new ≡ take i free ++ (without_front len r ++ drop (i + 1) free)) is got))
    (cuts_front free i len x apart got (held free i x (λ (r : ℕ × ℕ). len ≤ r.1) fits got))

end_of : (xs : List (ℕ × ℕ)) (i end : ℕ) (x : ℕ × ℕ) → AreFreeRanges end xs → slice_get xs i ≡ Some x → x.0 + x.1 ≤ end
end_of xs i end x form got =
    subst (λ (r : ℕ × ℕ). r.0 + r.1 ≤ end) (get_or_from_slice_get xs i x x got) (form.below i x (got_within xs i x got))

pub takes_front : (old new : ExtentsView) (i len : ℕ) (x : ℕ × ℕ) → AreFreeRanges old.end old.free → IsSomeAnd (slice_get old.free i) (λ (r : ℕ × ℕ). len ≤ r.1) → slice_get old.free i ≡ Some x → Cuts (x.0, len) old.free new.free → new.end ≡ old.end → Takes (x.0, len) old new
takes_front old new i len x form fits got cut end =
    let within : len ≤ x.1 = held old.free i x (λ (r : ℕ × ℕ). len ≤ r.1) fits got in
    let below = end_of old.free i old.end x form got in
    takes_cut old new i x.0 len len x form got (omega arith) (omega arith) cut (omega arith) (omega arith) (λ less. absurd (omega arith)) (omega arith)

pub takes_within : (old new : ExtentsView) (i at len until : ℕ) → AreFreeRanges old.end old.free → IsSomeAnd (slice_get old.free i) (λ (r : ℕ × ℕ). (r.0 ≤ at) × (min (at + len) old.end ≤ r.0 + r.1)) → at < old.end → until ≡ min (at + len) old.end → Cuts (at, until - at) old.free new.free → new.end ≡ max old.end (at + len) → Takes (at, len) old new
takes_within old new i at len until form holds below until_is cut end =
    let w = some_and (slice_get old.free i) (λ (r : ℕ × ℕ). (r.0 ≤ at) × (min (at + len) old.end ≤ r.0 + r.1)) holds in
    let x = w.0 in
    let low : x.0 ≤ at = w.1.1.0 in
    let high : min (at + len) old.end ≤ x.0 + x.1 = w.1.1.1 in
    takes_cut old new i at len (until - at) x form w.1.0 low (omega arith) cut (omega arith) (omega arith) (λ less. omega arith) end

-- a call that can't fail for its reason didn't
pub sure_ok : {T E P Q : Type 0} (r : Result T E) → OnOk r P → OnErr r Q → (Q → ⊥) → P
sure_ok (Ok x) p q never = p
sure_ok (Err e) p q never = absurd (never q)

-- The state of a disk in memory goes on with each call.
use Rattle.std.proofs.Common.{◌≡◌, ℕ, ◌≤◌, List, [], ◌∷◌, ◌++◌, length, take, inl, inr, refl, sym, subst, arith}
use Rattle.std.proofs.lemmas.List.{take_all, take-append-le, length_push}
use Rattle.std.proofs.lemmas.Bool.{cases_lt}
use Rattle.gno_disk.specs.Disk.{Elapses}
use Rattle.gno_disk.specs.Memory.{Step}
use Rattle.gno_disk.specs.Images.{State, after_step, after_all, MayLeave, LeftSince}

-- after one call more
pub after_all-push : (s : State) (steps : List Step) (step : Step) → after_all s (steps ++ step ∷ []) ≡ after_step (after_all s steps) step
after_all-push s [] step = refl
after_all-push s (first ∷ steps) step = after_all-push (after_step s first) steps step

module _ (first : List ℕ) where
  left_before : (old : List Step) (step : Step) (moment : ℕ) (image : List ℕ) → moment ≤ length old → MayLeave first (take moment (old ++ step ∷ [])) image → MayLeave first (take moment old) image
  left_before old step moment image le left = subst (λ (steps : List Step). MayLeave first steps image) (take-append-le moment old (step ∷ []) le) left

  left_still : (old : List Step) (step : Step) (moment : ℕ) (image : List ℕ) → moment ≤ length old → MayLeave first (take moment old) image → MayLeave first (take moment (old ++ step ∷ [])) image
  left_still old step moment image le left = subst (λ (steps : List Step). MayLeave first steps image) (sym (take-append-le moment old (step ∷ []) le)) left

  left_now : (steps : List Step) (moment : ℕ) (image : List ℕ) → length steps ≤ moment → MayLeave first (take moment steps) image → MayLeave first steps image
  left_now steps moment image le left = subst (λ (made : List Step). MayLeave first made image) (take_all moment steps le) left

  Elapses-push : (old : List Step) (step : Step) → Elapses (length old) (length (old ++ step ∷ [])) (LeftSince first old) (LeftSince first (old ++ step ∷ [])) (MayLeave first (old ++ step ∷ []))
  Elapses-push old step =
      let long = length_push old step in
      record {
        later = omega arith;
        nothing_else = λ t image le since. elim (cases_lt (length old) since.moment) [
          | inl lt ↦ inr (left_now (old ++ step ∷ []) since.moment image (omega (arith, lt)) since.left)
          | inr ge ↦ inl (record { moment = since.moment; no_earlier = since.no_earlier; no_later = omega (arith, ge); left = left_before old step since.moment image (omega (arith, ge)) since.left })
        ];
        keeps = λ t image le past. record { moment = past.moment; no_earlier = past.no_earlier; no_later = omega (arith, past.no_later); left = left_still old step past.moment image past.no_later past.left };
      }

  Elapses-same : (old : List Step) → Elapses (length old) (length old) (LeftSince first old) (LeftSince first old) (MayLeave first old)
  Elapses-same old = record { later = omega arith; nothing_else = λ t image le since. inl since; keeps = λ t image le past. past }

-- A call that was made is a moment.
pub Elapses-made : (first next : List ℕ) (old new : List Step) (step : Step) → next ≡ first → new ≡ old ++ step ∷ []
    → Elapses (length old) (length new) (LeftSince first old) (LeftSince next new) (MayLeave next new)
Elapses-made first next old new step same made =
    subst (λ (f : List ℕ). Elapses (length old) (length new) (LeftSince first old) (LeftSince f new) (MayLeave f new)) (sym same)
    (subst (λ (steps : List Step). Elapses (length old) (length steps) (LeftSince first old) (LeftSince first steps) (MayLeave first steps)) (sym made) (Elapses-push first old step))

-- One that wasn't made is none.
pub Elapses-none : (first next : List ℕ) (old new : List Step) → next ≡ first → new ≡ old
    → Elapses (length old) (length new) (LeftSince first old) (LeftSince next new) (MayLeave next new)
Elapses-none first next old new same none =
    subst (λ (f : List ℕ). Elapses (length old) (length new) (LeftSince first old) (LeftSince f new) (MayLeave f new)) (sym same)
    (subst (λ (steps : List Step). Elapses (length old) (length steps) (LeftSince first old) (LeftSince first steps) (MayLeave first steps)) (sym none) (Elapses-same first old))

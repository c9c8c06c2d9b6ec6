-- The greatest timestamp.
use Rattle.std.proofs.Common.{◌≡◌, ℕ, suc, ◌+◌, ◌<◌, ◌≤◌, max, List, [], ◌∷◌, ◌++◌, take, length, get_or, Option, Some, None, refl, sym, ap, ◌∙◌, arith}
use Rattle.std.proofs.Math.Logic.{⊎_elim}
use Rattle.std.proofs.lemmas.Bool.{cases_lt}
use Rattle.std.proofs.lemmas.List.{take_more}
use Rattle.std.proofs.lemmas.List.Elements.{All-nil, All-cons, All-same, All-weaker}
use Rattle.std.specs.List.{All, Any}
use Rattle.std.specs.Option.{MatchOption}
use Rattle.series_model.specs.declared.measure.Measure.{Measure}
use Rattle.series_model.specs.Accepted.{later, latest}

-- the order in which two times join others doesn't matter
later_swap : (x y : ℕ) (last : Option ℕ) → later x (Some (later y last)) ≡ later y (Some (later x last))
later_swap x y None = omega arith
later_swap x y (Some z) = omega arith

-- one measure more
pub latest-push : (xs : List Measure) (m : Measure) → latest (xs ++ m ∷ []) ≡ Some (later m.at (latest xs))
latest-push [] m = refl
latest-push (x ∷ xs) m = rw (latest-push xs m) (ap Some (later_swap x.at m.at (latest xs)))

-- a loop's step
pub latest-more : (xs : List Measure) (i : ℕ) (m : Measure) → i < length xs → m ≡ get_or xs i m → latest (take (i + 1) xs) ≡ Some (later m.at (latest (take i xs)))
latest-more xs i m below is =
    ap latest (take_more xs i m below) ∙ ap (λ x. latest (take i xs ++ x ∷ [])) (sym is) ∙ latest-push (take i xs) m

-- the latest timestamp is that of a measure, and no measure is after it
abbrev IsLatest : List Measure → ℕ → Type 0
IsLatest measures last = All (λ m. m.at ≤ last) measures × Any (λ m. m.at ≡ last) measures

pub latest_greatest : (measures : List Measure) → MatchOption (latest measures) (measures ≡ []) (IsLatest measures)
latest_greatest [] = refl
latest_greatest (m ∷ measures) = by (latest measures) (latest_greatest measures)
  where
    by : (o : Option ℕ) → MatchOption o (measures ≡ []) (IsLatest measures) → IsLatest (m ∷ measures) (later m.at o)
    by None none =
        let P : Measure → Type 0 = λ x. x.at ≤ m.at in
        (All-cons P m measures (omega arith) (All-same P measures [] none (All-nil P)), (0, m, omega arith, refl, refl))
    by (Some last) h =
        let P : Measure → Type 0 = λ x. x.at ≤ max m.at last in (
          All-cons P m measures (omega arith) (All-weaker (λ x. x.at ≤ last) P (λ x le. omega arith) measures h.0),
          ⊎_elim
              (λ less. (0, m, omega arith, refl, omega (arith, less)))
              (λ ge. (suc h.1.0, h.1.1, omega (arith, h.1.2), h.1.3, omega (arith, ge, h.1.4)))
              (cases_lt last m.at),
        )

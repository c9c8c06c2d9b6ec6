-- The least timestamp.
use Rattle.std.proofs.Common.{◌≡◌, ℕ, suc, ◌+◌, ◌<◌, ◌≤◌, min, List, [], ◌∷◌, ◌++◌, take, length, get_or, Option, Some, None, refl, sym, ap, ◌∙◌, arith}
use Rattle.std.specs.List.{All, Any}
use Rattle.std.specs.Option.{MatchOption}
use Rattle.std.proofs.Math.Logic.{⊎_elim}
use Rattle.std.proofs.lemmas.Bool.{cases_lt}
use Rattle.std.proofs.lemmas.List.{take_more}
use Rattle.std.proofs.lemmas.List.Elements.{All-nil, All-cons, All-same, All-weaker}
use Rattle.series_model.specs.declared.measure.Measure.{Measure}
use Rattle.bound_series.specs.Turn.{earlier, earliest}

pub earlier_assoc : (a b c : Option ℕ) → earlier (earlier a b) c ≡ earlier a (earlier b c)
earlier_assoc None b c = refl
earlier_assoc (Some a) None c = refl
earlier_assoc (Some a) (Some b) None = refl
earlier_assoc (Some a) (Some b) (Some c) = ap Some (omega arith)

pub earlier-none : (o : Option ℕ) → earlier o None ≡ o
earlier-none None = refl
earlier-none (Some a) = refl

pub earliest-append : (xs ys : List Measure) → earliest (xs ++ ys) ≡ earlier (earliest xs) (earliest ys)
earliest-append [] ys = refl
earliest-append (m ∷ xs) ys =
    ap (earlier (Some m.at)) (earliest-append xs ys) ∙ sym (earlier_assoc (Some m.at) (earliest xs) (earliest ys))

-- a loop's step
pub earliest-more : (xs : List Measure) (i : ℕ) (m : Measure) → i < length xs → m ≡ get_or xs i m → earliest (take (i + 1) xs) ≡ earlier (earliest (take i xs)) (Some m.at)
earliest-more xs i m below is =
    ap earliest (take_more xs i m below) ∙ ap (λ x. earliest (take i xs ++ x ∷ [])) (sym is) ∙ earliest-append (take i xs) (m ∷ [])

-- the earliest timestamp is that of a measure, and no measure is before it
abbrev IsEarliest : List Measure → ℕ → Type 0
IsEarliest measures first = All (λ m. first ≤ m.at) measures × Any (λ m. m.at ≡ first) measures

pub earliest_least : (measures : List Measure) → MatchOption (earliest measures) (measures ≡ []) (IsEarliest measures)
earliest_least [] = refl
earliest_least (m ∷ measures) = by (earliest measures) (earliest_least measures)
  where
    by : (o : Option ℕ) → MatchOption o (measures ≡ []) (IsEarliest measures) → MatchOption (earlier (Some m.at) o) (m ∷ measures ≡ []) (IsEarliest (m ∷ measures))
    by None none =
        let P : Measure → Type 0 = λ x. m.at ≤ x.at in
        (All-cons P m measures (omega arith) (All-same P measures [] none (All-nil P)), (0, m, omega arith, refl, refl))
    by (Some first) h =
        let P : Measure → Type 0 = λ x. min m.at first ≤ x.at in (
          All-cons P m measures (omega arith) (All-weaker (λ x. first ≤ x.at) P (λ x le. omega arith) measures h.0),
          ⊎_elim
              (λ less. (0, m, omega arith, refl, omega (arith, less)))
              (λ ge. (suc h.1.0, h.1.1, omega (arith, h.1.2), h.1.3, omega (arith, ge, h.1.4)))
              (cases_lt m.at first),
        )

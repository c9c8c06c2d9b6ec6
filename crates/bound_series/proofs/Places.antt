-- Places in a series.
use Rattle.std.proofs.Common.{◌≡◌, ℕ, zero, suc, ◌<◌, ◌≤◌, ◌-◌, List, [], ◌∷◌, take, drop, length, get_or, Option, Some, None, refl, sym, ap, ◌∙◌, arith}
use Rattle.std.specs.List.{slice_get}
use Rattle.series_model.specs.declared.measure.Measure.{Measure}
use Rattle.series_model.specs.Tail.{last_onto, members_from, members_before}
use Rattle.series_model.proofs.Rising.{Above, Above-lower, Rises, times}
use Rattle.series_model.proofs.TailLaws.{from-keep, from-skip, before-keep, before-skip, from-all, before-none}

-- the members before a time are those up to the first that isn't
pub place_splits : (from : ℕ) (series : List Measure) (place : ℕ) → Rises (times series) → place ≤ length series → ((k : ℕ) (d : Measure) → k < place → (get_or series k d).at < from) → (place < length series → (d : Measure) → from ≤ (get_or series place d).at) → (take place series ≡ members_before from series) × (drop place series ≡ members_from from series)
place_splits from [] zero rises inside before behind = (refl, refl)
place_splits from [] (suc place) rises inside before behind = absurd (omega arith)
place_splits from (x ∷ series) zero rises inside before behind =
    let late : from ≤ x.at = behind (omega arith) x in
    (sym (before-skip from x series late ∙ before-none from x.at series late rises.0), sym (from-keep from x series late ∙ ap (λ l. x ∷ l) (from-all from x.at series late rises.0)))
place_splits from (x ∷ series) (suc place) rises inside before behind =
    let early : x.at < from = before 0 x (omega arith) in
    let rest = place_splits from series place rises.1 (omega arith) (λ k d less. before (suc k) d (omega arith)) (λ less d. behind (omega arith) d) in
    (ap (λ l. x ∷ l) rest.0 ∙ sym (before-keep from x series early), rest.1 ∙ sym (from-skip from x series early))

-- the last member
pub last_at : (o : Option Measure) (x : Measure) (series : List Measure) → slice_get (x ∷ series) (length (x ∷ series) - 1) ≡ last_onto o (x ∷ series)
last_at o x [] = refl
last_at o x (y ∷ series) =
    let at : length (x ∷ y ∷ series) - 1 ≡ suc (length (y ∷ series) - 1) = omega arith in
    ap (slice_get (x ∷ y ∷ series)) at ∙ last_at (Some x) y series

pub last_got : (series : List Measure) → slice_get series (length series - 1) ≡ last_onto None series
last_got [] = refl
last_got (x ∷ series) = last_at None x series

-- ---- times that rise, by neighbours

pub rising_of : (ms : List Measure) → ((k : ℕ) (d : Measure) → suc k < length ms → (get_or ms k d).at < (get_or ms (suc k) d).at) → Rises (times ms)
rising_of [] up = tt
rising_of (x ∷ []) up = (tt, tt)
rising_of (x ∷ y ∷ ms) up =
    let first : x.at < y.at = up zero x (omega arith) in
    let rest = rising_of (y ∷ ms) (λ k d less. up (suc k) d (omega arith)) in
    ((first, Above-lower x.at y.at (times ms) (omega (arith, first)) rest.0), rest)

pub rises_at : (ms : List Measure) (k : ℕ) (d : Measure) → Rises (times ms) → suc k < length ms → (get_or ms k d).at < (get_or ms (suc k) d).at
rises_at [] k d h less = absurd (omega arith)
rises_at (x ∷ []) k d h less = absurd (omega arith)
rises_at (x ∷ y ∷ ms) zero d h less = h.0.0
rises_at (x ∷ y ∷ ms) (suc k) d h less = rises_at (y ∷ ms) k d h.1 (omega arith)

-- ---- the anchor at a place

pub last_taken : (o : Option Measure) (series : List Measure) (place : ℕ) (d : Measure) → place < length series → last_onto o (take (suc place) series) ≡ Some (get_or series place d)
last_taken o [] place d less = absurd (omega arith)
last_taken o (x ∷ series) zero d less = refl
last_taken o (x ∷ series) (suc place) d less = last_taken (Some x) series place d (omega arith)

above_at : (at : ℕ) (ms : List Measure) (k : ℕ) (d : Measure) → Above at (times ms) → k < length ms → at < (get_or ms k d).at
above_at at [] k d h less = absurd (omega arith)
above_at at (x ∷ ms) zero d h less = h.0
above_at at (x ∷ ms) (suc k) d h less = above_at at ms k d h.1 (omega arith)

pub rises_far : (ms : List Measure) (i k : ℕ) (d e : Measure) → Rises (times ms) → i < k → k < length ms → (get_or ms i d).at < (get_or ms k e).at
rises_far [] i k d e h less below = absurd (omega arith)
rises_far (x ∷ ms) i zero d e h less below = absurd (omega arith)
rises_far (x ∷ ms) zero (suc k) d e h less below = above_at x.at ms k e h.0 (omega arith)
rises_far (x ∷ ms) (suc i) (suc k) d e h less below = rises_far ms i k d e h.1 (omega arith) (omega arith)

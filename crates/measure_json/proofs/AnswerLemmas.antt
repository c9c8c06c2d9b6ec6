-- Whole bodies.
use Rattle.std.proofs.Common.{◌≡◌, ℕ, List, Result, Ok, Err, ap}
use Rattle.std.specs.Prelude.{IfOk}
use Rattle.series_model.specs.declared.measure.Measure.{Measure}
use Rattle.measure_json.specs.declared.fault.BodyFault.{BodyFault}
use Rattle.measure_json.specs.declared.fault.Fault.{Fault}
use Rattle.measure_json.specs.Fault.{Answers, Placed, placed}
use Rattle.measure_json.specs.Measures.{measures_of, measures_read}
use Rattle.measure_json.specs.Grammar.{IsMeasures}
use Rattle.measure_json.proofs.SoundLemmas.{measures_are}
use Rattle.measure_json.proofs.CompleteLemmas.{measures_reads}

abbrev placed_ok : {A : Type 0} → A → Result A Placed
placed_ok x = Ok x

same_placed : {A : Type 0} (x y : A) → placed_ok x ≡ placed_ok y → x ≡ y
same_placed x y e = cc

pub unplaced : {A : Type 0} (body : List ℕ) (r : Result A Fault) (x : A) → placed body r ≡ Ok x → r ≡ Ok x
unplaced body (Ok y) x e = ap (λ z. Ok z) (same_placed y x e)
unplaced body (Err f) x e = absurd cc

pub measures_found : (body : List ℕ) (r : Result (List Measure) BodyFault) → Answers (λ batch. batch) r (measures_read body) → IfOk r (IsMeasures body)
unfolding measures_read
measures_found body (Ok ms) e = measures_are body ms (unplaced body (measures_of body) ms e)
measures_found body (Err f) e = tt

pub measures_only : (body : List ℕ) (ms : List Measure) → IsMeasures body ms → measures_read body ≡ Ok ms
unfolding measures_read
measures_only body ms h = ap (placed body) (measures_reads body ms h)

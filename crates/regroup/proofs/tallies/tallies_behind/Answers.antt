use Rattle.std.proofs.Common.{◌≡◌, ℕ, ◌+◌, ◌<◌, ◌≤◌, [], ◌∷◌, ◌++◌, map, take, drop, length, get_or, Some, sym, ap, ◌∙◌, arith, append_assoc}
use Rattle.std.specs.List.{slice_get}
use Rattle.std.specs.Option.{option_to_list}
use Rattle.std.proofs.lemmas.Option.{slice_get-get_or, get_or_from_slice_get, slice_get_within}
use Rattle.gno_num.specs.Floor.{floor_of}
use Rattle.series_model.specs.declared.measure.Measure.{Measure}
use Rattle.series_model.specs.Points.{starts_of}
use Rattle.series_model.specs.Tail.{last_onto}
use Rattle.series_model.proofs.Rising.{Rises, Rises_from_rising, times}
use Rattle.bucket_agg.specs.Tally.{summary_of}
use Rattle.bound_series.proofs.Merging.{between}
use Rattle.regroup.specs.declared.tallies.BucketTally.{BucketTally}
use Rattle.regroup.specs.Tallies.{bucket_tally, changes_behind}
use Rattle.regroup.proofs.RunSteps.{starts_more, tally_more, apart_next}
use Rattle.regroup.proofs.tallies.tallies_behind.Goals as goal

pub loop-place-preserved : goal.loop-place-preserved
loop-place-preserved c =
    let g = c.args.granularity in
    let before = c.args.before in
    let members = c.args.members.now in
    let place = c.loop-place.place in
    let e = c.run_end-end.result in
    let m = c.index-members-place.result in
    let all = option_to_list before ++ members in
    let f = bucket_tally g all in
    let is : m ≡ get_or members place m = c.index-members-place.is in
    let start : c.floor-start.result ≡ floor_of m.at g =
    c.floor-start.ensures ∙ ap (λ (x : Measure). floor_of x.at g) (sym is) in
    let end : c.nanos.result + c.nanos-in-loop-place.result ≡ floor_of m.at g + g =
    omega (arith, c.nanos.ensures.value, c.nanos-in-loop-place.ensures.value, start) in
    let positive : 0 < g = omega (arith, c.nanos-in-loop-place.ensures.value, c.nanos-in-loop-place.ensures.range) in
    let rising : Rises (times all) = Rises_from_rising (times all) c.requires.rising in
    let below : place < length members = c.loop-place-test.true in
    let after = c.run_end-end.ensures.after in
    let inside = c.run_end-end.ensures.inside in
    let high : (k : ℕ) (d : Measure) → place ≤ k → k < e → (get_or members k d).at < floor_of m.at g + g =
    λ k d low less. omega (arith, c.run_end-end.ensures.before k d low less, end) in
    let next : (d : Measure) → e < length members → floor_of m.at g + g ≤ (get_or members e d).at =
    λ d less. omega (arith, c.run_end-end.ensures.next d less, end) in
    let there : slice_get members place ≡ Some m = slice_get-get_or members place m below ∙ ap Some (sym is) in
    let apart : (b : Measure) → last_onto before (take place members) ≡ Some b → b.at < floor_of m.at g =
    λ b last. c.loop-place.invariant.apart b m positive last there in
    let run = between members place e in
    let previous = c.previous_of-previous.result in
    let made : ℕ → BucketTally = λ t. record { start = t; values = summary_of (map (λ (x : Measure). x.value) run); changes = summary_of (map (λ (x : Measure). x.value) (changes_behind previous run)) } in
    let tally : c.in_ok-run_tally.field-0 ≡ f (floor_of m.at g) =
    c.in_ok-run_tally.ensures ∙ ap made start ∙ tally_more g before members place e m positive rising below is after inside high next apart c.previous_of-previous.result c.previous_of-previous.ensures in
    let starts = starts_more g before members place e m positive rising below is after inside high next apart in
    let rest = map f (starts_of g (times (drop e members))) in
    record {
      inside = inside;
      so_far = ap (λ l. l ++ rest) (c.in_ok-push.ensures.items ∙ ap (λ t. c.loop-place.tallies.items ++ t ∷ []) tally)
          ∙ append_assoc c.loop-place.tallies.items (f (floor_of m.at g) ∷ []) rest
          ∙ ap (λ ss. c.loop-place.tallies.items ++ map f ss) (sym starts)
          ∙ c.loop-place.invariant.so_far;
      apart = λ b n some last got.
          let own : n ≡ get_or members e n = sym (get_or_from_slice_get members e n n got) in
          apart_next g before members place e m positive rising below is after inside high next apart b n last own (slice_get_within members e n got);
    }

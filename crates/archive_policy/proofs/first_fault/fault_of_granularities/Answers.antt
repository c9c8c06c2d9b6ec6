use Rattle.std.proofs.Common.{◌≡◌, ℕ, map, Some, sym, subst, ◌∙◌, arith}
use Rattle.std.specs.List.{filter}
use Rattle.std.proofs.lemmas.List.Elements.{All-contains}
use Rattle.gno_num.specs.Span.{IsSpan}
use Rattle.archive_policy.specs.Asked.{granularity_of, largest, leaves_rest, least}
use Rattle.archive_policy.specs.Policies.{IsGranularity}
use Rattle.archive_policy.proofs.AskedLemmas.{least_is, largest_in}
use Rattle.archive_policy.proofs.Lists.{kept_from, some_where}
use Rattle.archive_policy.proofs.PolicyProofs.{all_in_range}
use Rattle.archive_policy.proofs.first_fault.fault_of_granularities.Goals as goal

-- a granularity is a span
is_span : (nanos : ℕ) → IsGranularity nanos → IsSpan nanos
is_span nanos h = record { shortest = h.shortest; longest = omega (arith, h.longest) }

pub unwrap-requires : goal.unwrap-requires
unwrap-requires c =
    let gs = map granularity_of c.args.wanted.now in
    let p = leaves_rest c.largest-coarse.result in
    let is : least (filter p gs) ≡ Some c.in_ok-fine.fine = sym c.not_dividing.ensures ∙ c.in_ok-fine.was in
    let one = (kept_from p gs c.in_ok-fine.fine ((least_is (filter p gs) c.in_ok-fine.fine is).0)).0 in
    some_where _ _ c.of_nanos.result c.of_nanos.ensures (is_span c.in_ok-fine.fine (All-contains IsGranularity gs c.in_ok-fine.fine (all_in_range c.args.wanted.now c.requires) one))

pub unwrap-requires-2 : goal.unwrap-requires-2
unwrap-requires-2 c =
    let gs = map granularity_of c.args.wanted.now in
    let p = leaves_rest c.largest-coarse.result in
    let is : least (filter p gs) ≡ Some c.in_ok-fine.fine = sym c.not_dividing.ensures ∙ c.in_ok-fine.was in
    let one = (kept_from p gs c.in_ok-fine.fine ((least_is (filter p gs) c.in_ok-fine.fine is).0)).0 in
    let range : IsGranularity (largest gs) =
    All-contains IsGranularity gs (largest gs) (all_in_range c.args.wanted.now c.requires) (largest_in gs (omega (arith, one.1))) in
    some_where _ _ c.of_nanos-2.result c.of_nanos-2.ensures (is_span c.largest-coarse.result (subst IsGranularity (sym c.largest-coarse.ensures) range))

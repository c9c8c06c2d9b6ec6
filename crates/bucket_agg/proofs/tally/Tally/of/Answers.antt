use Rattle.std.proofs.Common.{rules, arith}
use Rattle.std.proofs.lemmas.Int.{ints}
use Rattle.bucket_agg.proofs.Bounds.{first_small, greatest_small, last_small, least_small}
use Rattle.bucket_agg.proofs.DifferentValues.{distinct_count-le}
use Rattle.bucket_agg.proofs.tally.Tally.of.Goals as goal

pub invariant_of-result : goal.invariant_of-result
invariant_of-result c =
    let values = c.args.values.now in
    record {
      count = c.requires.few;
      total = search (rules, ints, c.sums_of-sums.ensures.small);
      least = search (rules, ints, least_small values c.requires.small);
      greatest = search (rules, ints, greatest_small values c.requires.small);
      first = search (rules, ints, first_small values c.requires.small);
      last = search (rules, ints, last_small values c.requires.small);
      distinct = omega (arith, c.in_ok-distinct.ensures, distinct_count-le values);
    }

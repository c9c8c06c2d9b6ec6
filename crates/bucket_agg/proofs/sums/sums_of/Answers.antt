use Rattle.std.proofs.Common.{arith, rules}
use Rattle.std.proofs.lemmas.Int.{to_z-of_z}
use Rattle.std.proofs.lemmas.List.Sums.{fold_more}
use Rattle.bucket_agg.proofs.sums.sums_of.Goals as goal

pub loop-value-preserved : goal.loop-value-preserved
loop-value-preserved c = record {
  total = grind (arith, to_z-of_z, fold_more);
  small = search rules;
  least = grind (arith, to_z-of_z, fold_more);
  greatest = grind (arith, to_z-of_z, fold_more);
}

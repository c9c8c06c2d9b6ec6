use Rattle.std.proofs.Common.{◌≡◌, List, [], ap, rules, subst, unwrap_or}
use Rattle.std.proofs.lemmas.List.Sorted.{answers_always}
use Rattle.std.specs.List.Sorted.{IsPermutation}
use Rattle.std.specs.Ordering.{is_lt}
use Rattle.front_api.specs.Tables.{name_cmp}
use Rattle.front_api.specs.declared.command.MetricDoc.{MetricDoc}
use Rattle.rest_api.specs.Members.{borrowed}
use Rattle.rest_api.proofs.NameOrder.{borrowed_order, borrowed_permutation, borrowed_sorted, is_borrowed_before}
use Rattle.rest_api.proofs.members.its_metrics.Goals as goal

pub returns : goal.returns
returns c =
    let said = c.in_ok-sort_by.ensures in
    let sorted = c.sort_by.new.self.items in
    record {
      all = subst (λ (l : List MetricDoc). IsPermutation l (borrowed sorted)) c.in_ok-its.ensures (borrowed_permutation c.in_ok-its.its.items sorted said.permutation);
      rising = borrowed_sorted sorted (said.sorted is_borrowed_before borrowed_order (answers_always _ _ _ (λ f a r f' k.
          let same : r ≡ name_cmp (unwrap_or a.0.now.now.name []) (unwrap_or a.1.0.now.now.name []) = search rules in
          ap is_lt same)));
    }

use Rattle.std.proofs.Common.{ℕ, List, sym, subst}
use Rattle.std.specs.List.{AllByRecursion}
use Rattle.std.specs.Ordering.{nat_cmp}
use Rattle.archive_policy.specs.Policies.{ArchivePolicy}
use Rattle.policy_rules.specs.declared.rule.Rule.{Rule}
use Rattle.front_api.specs.declared.command.MetricDoc.{MetricDoc}
use Rattle.front_api.specs.Tables.{Rises, name_cmp}
use Rattle.metric_index.specs.Catalog.{IsNamed}
use Rattle.metric_index.proofs.catalog.Catalog.new.Goals as goal

pub returns-clause-kept : goal.returns-clause-kept
returns-clause-kept c =
    let s = c.maps_are_sorted.ensures.first c.args.number in
    record {
      sorted = record {
        policies = subst (λ (xs : List ArchivePolicy). Rises name_cmp (λ p. p.name) xs) (sym c.new.ensures.items) s.policies;
        rules = subst (λ (xs : List Rule). Rises name_cmp (λ r. r.name) xs) (sym c.new-2.ensures.items) s.rules;
        metrics = subst (λ (xs : List MetricDoc). Rises nat_cmp (λ d. d.id.0) xs) (sym c.new-3.ensures.items) s.metrics;
        resources = subst (λ (xs : List ℕ). Rises nat_cmp (λ id. id) xs) (sym c.new-4.ensures.items) s.resources;
      };
      named = subst (AllByRecursion IsNamed) (sym c.new-3.ensures.items) tt;
      number = c.ranges.number.fits;
      counter = c.requires;
    }

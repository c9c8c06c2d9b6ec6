use Rattle.std.proofs.Common.{ℕ, refl}
use Rattle.std.specs.Cmp.{nat_cmp_total}
use Rattle.std.specs.Ordering.{nat_cmp}
use Rattle.std.proofs.lemmas.Cmp.{nat_list_cmp_total}
use Rattle.archive_policy.specs.Policies.{ArchivePolicy}
use Rattle.policy_rules.specs.declared.rule.Rule.{Rule}
use Rattle.front_api.specs.Tables.{name_cmp}
use Rattle.front_api.specs.declared.command.MetricDoc.{MetricDoc}
use Rattle.front_api.proofs.TableLemmas.{found-gone, found-put}
use Rattle.front_api.proofs.laws.one_key_changes.Goals as goal

pub returns-clause-policies : goal.returns-clause-policies
returns-clause-policies c policies = record {
  added = λ p name. found-put name_cmp nat_list_cmp_total (λ (q : ArchivePolicy). q.name) name p.name p policies refl;
  dropped = λ key name. found-gone name_cmp nat_list_cmp_total (λ (q : ArchivePolicy). q.name) name key policies;
}

pub returns-clause-rules : goal.returns-clause-rules
returns-clause-rules c rules = record {
  added = λ r name. found-put name_cmp nat_list_cmp_total (λ (q : Rule). q.name) name r.name r rules refl;
  dropped = λ key name. found-gone name_cmp nat_list_cmp_total (λ (q : Rule). q.name) name key rules;
}

pub returns-clause-metrics : goal.returns-clause-metrics
returns-clause-metrics c metrics = record {
  added = λ d id. found-put nat_cmp nat_cmp_total (λ (q : MetricDoc). q.id.0) id d.id.0 d metrics refl;
  dropped = λ key id. found-gone nat_cmp nat_cmp_total (λ (q : MetricDoc). q.id.0) id key metrics;
}

pub returns-clause-resources : goal.returns-clause-resources
returns-clause-resources c resources = record {
  added = λ r id. found-put nat_cmp nat_cmp_total (λ (q : ℕ). q) id r r resources refl;
  dropped = λ key id. found-gone nat_cmp nat_cmp_total (λ (q : ℕ). q) id key resources;
}

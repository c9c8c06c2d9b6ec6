use Rattle.std.proofs.Common.{◌≡◌, ℕ, List, Some, None, sym, ap, subst, ◌∙◌}
use Rattle.std.specs.Option.{option_copied}
use Rattle.front_api.specs.Maps.{policy_to}
use Rattle.front_api.specs.Replies.{metric_refusal, of_policy}
use Rattle.front_api.specs.Tables.{found}
use Rattle.metric_index.specs.Catalog.{maps_in}
use Rattle.metric_index.proofs.BeginLemmas.{accepted_metric}
use Rattle.metric_index.proofs.catalog.Catalog.accepted.Goals as goal

pub returns-in-Some-refuse_metric-clause-err : goal.returns-in-Some-refuse_metric-clause-err
returns-in-Some-refuse_metric-clause-err c =
    let m = maps_in c.args.self.now in
    let e = sym c.refuse_metric.ensures ∙ c.in-Some-refuse_metric.is in
    of_policy c.in-Some.got.now c.in-Some.ensures.some (subst (λ (t : List ℕ). metric_refusal m t c.args.resource.now c.args.name.now ≡ Some c.in-Some-refuse_metric.fault) c.bytes.ensures.value e)

pub returns-in-Some-policy-clause-ok : goal.returns-in-Some-policy-clause-ok
returns-in-Some-policy-clause-ok c =
    let m = maps_in c.args.self.now in
    let got = c.in-Some-policy.policy.now in
    let none = subst (λ (t : List ℕ). metric_refusal m t c.args.resource.now c.args.name.now ≡ None) c.bytes.ensures.value (sym c.refuse_metric.ensures ∙ c.in-None.is) in
    let is = subst (λ (t : List ℕ). found (policy_to t) m.policies ≡ Some got) c.bytes-in-None.ensures.value (sym c.policy.ensures ∙ ap option_copied c.in-Some-policy.is) in
    accepted_metric m c.args.policy.now c.args.name.now c.args.resource.now c.in-Some.got.now got c.in-Some.ensures.some none is

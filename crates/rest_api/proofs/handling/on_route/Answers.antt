use Rattle.rest_api.proofs.handling.on_route.Goals as goal

pub returns-in-Policies : goal.returns-in-Policies
returns-in-Policies g c = record { does = rw c.in-Policies.is c.policies.ensures.does; same = c.policies.ensures.same }

pub returns-in-Policy : goal.returns-in-Policy
returns-in-Policy g c = record { does = rw c.in-Policy.is c.policy.ensures.does; same = c.policy.ensures.same }

pub returns-in-Rules : goal.returns-in-Rules
returns-in-Rules g c = record { does = rw c.in-Rules.is c.rules.ensures.does; same = c.rules.ensures.same }

pub returns-in-Rule : goal.returns-in-Rule
returns-in-Rule g c = record { does = rw c.in-Rule.is c.rule.ensures.does; same = c.rule.ensures.same }

pub returns-in-Metrics : goal.returns-in-Metrics
returns-in-Metrics g c = record { does = rw c.in-Metrics.is c.metrics.ensures.does; same = c.metrics.ensures.same }

pub returns-in-Metric : goal.returns-in-Metric
returns-in-Metric g c = record { does = rw c.in-Metric.is c.metric.ensures.does; same = c.metric.ensures.same }

pub returns-in-Measures : goal.returns-in-Measures
returns-in-Measures g c = record { does = rw c.in-Measures.is c.measures.ensures.does; same = c.measures.ensures.same }

pub returns-in-BatchMeasures : goal.returns-in-BatchMeasures
returns-in-BatchMeasures g c = record { does = rw c.in-BatchMeasures.is c.batch.ensures.does; same = c.batch.ensures.same }

pub returns-in-Resources : goal.returns-in-Resources
returns-in-Resources g c = record { does = rw c.in-Resources.is c.resources.ensures.does; same = c.resources.ensures.same }

pub returns-in-Resource : goal.returns-in-Resource
returns-in-Resource g c = record { does = rw c.in-Resource.is c.resource.ensures.does; same = c.resource.ensures.same }

pub returns-in-ResourceMetrics : goal.returns-in-ResourceMetrics
returns-in-ResourceMetrics g c = record { does = rw c.in-ResourceMetrics.is c.resource_metrics.ensures.does; same = c.resource_metrics.ensures.same }

pub returns-in-NamedMeasures : goal.returns-in-NamedMeasures
returns-in-NamedMeasures g c = record { does = rw c.in-NamedMeasures.is c.named_measures.ensures.does; same = c.named_measures.ensures.same }

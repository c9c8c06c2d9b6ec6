use Rattle.std.proofs.Common.{rules}
use Rattle.control_docs.specs.Resource.{metrics_read}
use Rattle.control_docs.proofs.RisingLemmas.{metrics_found}
use Rattle.control_docs.proofs.resource.read_metrics_of_resource.Goals as goal

pub returns-clause-ok : goal.returns-clause-ok
unfolding metrics_read
returns-clause-ok c = search rules

pub returns-clause-rising : goal.returns-clause-rising
returns-clause-rising c = metrics_found (λ v. v.items) c.args.body.now c.metrics_asked.result (returns-clause-ok c)

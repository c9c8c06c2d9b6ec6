use Rattle.control_docs.proofs.JsonLemmas.{metric_json, resource_json}
use Rattle.control_docs.proofs.laws.documents_are_json.Goals as goal

pub returns : goal.returns
returns c = record { metric = metric_json; resource = resource_json }

-- What is shown of a reply.
use Rattle.std.specs.Prelude.{ℕ, ◌+◌, List, [], ◌∷◌, ◌++◌, Option, None, Some, map}
use Rattle.control_docs.specs.Lists.{separator}
use Rattle.control_docs.specs.Documents.{metric_value, policy_value, resource_value, rule_value}
use Rattle.front_api.specs.declared.command.MetricDoc.{MetricDoc}
use Rattle.front_api.specs.declared.command.Reply.{Reply}
use Rattle.front_api.specs.declared.command.Reply.TheVariants as replies
use Rattle.front_api.specs.declared.command.ResourceDoc.{ResourceDoc}
use Rattle.rest_api.specs.declared.shown.Shown.{Shown}
use Rattle.rest_api.specs.declared.shown.Shown.TheVariants.{Listed, Single, Made, Gone}
use Rattle.rest_replies.specs.declared.status.HttpStatus.{HttpStatus}
use Rattle.rest_replies.specs.declared.status.HttpStatus.TheVariants.{Okay, Created, NoContent}
use Rattle.serde_json.specs.Data.{Data, array}
use Rattle.serde_json.specs.View.{items_of}
use Rattle.serde_json.specs.Written.{compact_text}
use Rattle.series_model.specs.declared.metric.MetricId.{MetricId}

-- the document of a metric, and that of a resource
abbrev pub metric_shown : MetricDoc → Data
metric_shown d = metric_value d.id d.policy d.name d.unit d.resource

abbrev pub resource_shown : ResourceDoc → Data
resource_shown d = resource_value d.id d.metrics

-- the documents of a reply
abbrev pub documents_of : Reply → List Data
documents_of replies.Done = []
documents_of (replies.Policies policies) = map policy_value policies
documents_of (replies.Rules rules) = map rule_value rules
documents_of (replies.Metrics docs) = map metric_shown docs
documents_of (replies.Resources docs) = map resource_shown docs

-- the text of documents as a list
abbrev pub list_text : List Data → List ℕ
list_text documents = compact_text (array (items_of documents))

-- the text of the first document, where there is one
abbrev pub first_text : List Data → List ℕ
first_text [] = []
first_text (document ∷ documents) = compact_text document

-- the status of a command that is done
abbrev pub shown_status : Shown → HttpStatus
shown_status Listed = Okay
shown_status Single = Okay
shown_status Made = Created
shown_status Gone = NoContent

-- the body: the list of the documents, the document, nothing
abbrev pub shown_text : Shown → Reply → List ℕ
shown_text Listed reply = list_text (documents_of reply)
shown_text Single reply = first_text (documents_of reply)
shown_text Made reply = first_text (documents_of reply)
shown_text Gone reply = []

-- the metrics of a reply
abbrev pub metrics_in : Reply → List MetricDoc
metrics_in replies.Done = []
metrics_in (replies.Policies policies) = []
metrics_in (replies.Rules rules) = []
metrics_in (replies.Metrics docs) = docs
metrics_in (replies.Resources docs) = []

-- the identifier of the first of these, where there is one
abbrev pub first_id : List MetricDoc → Option MetricId
first_id [] = None
first_id (doc ∷ docs) = Some doc.id

-- the text of documents behind so many others of a list
abbrev pub text_behind : ℕ → List Data → List ℕ
text_behind count [] = []
text_behind count (document ∷ documents) = separator count ++ (compact_text document ++ text_behind (count + 1) documents)

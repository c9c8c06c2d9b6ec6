-- Requests that ask one command.
use Rattle.std.specs.Prelude.{ℕ, List, [], Option, None, Some, Result, Ok, Err}
use Rattle.control_docs.specs.Metric.{metric_read}
use Rattle.control_docs.specs.Policy.{policy_read}
use Rattle.control_docs.specs.Resource.{resource_read}
use Rattle.control_docs.specs.Rule.{rule_read}
use Rattle.control_docs.specs.declared.metric.MetricBody.{MetricBody}
use Rattle.front_api.specs.Front.{Controls}
use Rattle.front_api.specs.Seen.{SeenBooks}
use Rattle.front_api.specs.declared.command.Command.{Command}
use Rattle.front_api.specs.declared.command.Command.TheVariants as commands
use Rattle.front_api.specs.declared.command.Reply.{Reply}
use Rattle.front_api.specs.declared.fault.ControlFault.{ControlFault}
use Rattle.rest_api.specs.Doing.{Doing, ReadsDocument, RefusesAtOnce, TellsError}
use Rattle.rest_api.specs.Shown.{shown_status, shown_text}
use Rattle.rest_api.specs.declared.shown.Shown.{Shown}
use Rattle.rest_api.specs.declared.shown.Shown.TheVariants.{Listed, Single, Made, Gone}
use Rattle.rest_replies.specs.Error.{plain_error}
use Rattle.rest_replies.specs.Faults.{control_error}
use Rattle.rest_replies.specs.Handled.{AnswersWith}
use Rattle.rest_replies.specs.declared.code.ErrorCode.TheVariants as is
use Rattle.rest_replies.specs.declared.faults.NamedIn.{NamedIn}
use Rattle.rest_replies.specs.declared.faults.NamedIn.TheVariants.{Path, Body}
use Rattle.rest_replies.specs.declared.handled.Handled.{Handled}
use Rattle.rest_routes.specs.declared.method.Method.{Method}
use Rattle.rest_routes.specs.declared.method.Method.TheVariants.{Get, Post, Delete}
use Rattle.series_model.specs.declared.metric.MetricId.{MetricId}

-- what is answered by the result of a command: its reply as it is to be shown, or its refusal, by where its names stand
abbrev pub TellsResult : NamedIn → Shown → Result Reply ControlFault → Handled → Type 0
TellsResult named shown (Ok reply) answer = AnswersWith answer (shown_status shown) [] (shown_text shown reply)
TellsResult named shown (Err fault) answer = TellsError (control_error named fault) None answer

-- a command is asked, and its result is told
pub record Asks (named : NamedIn) (command : Command) (shown : Shown) (answer : Handled) (old new : SeenBooks) : Type 0 where
  pub result : Result Reply ControlFault
  pub controls : Controls command result old new
  pub tells : TellsResult named shown result answer

-- ---- the routes
-- The method is one that the route has: on a list what isn't POST is GET, on one item what isn't DELETE is GET. A
-- parameter that is broken is answered as one that is unknown.

abbrev pub OnPolicies : Method → List ℕ → Doing
OnPolicies Post body = ReadsDocument (policy_read body) None (λ policy. Asks Body (commands.AddPolicy policy) Made)
OnPolicies Get body = Asks Path commands.ListPolicies Listed
OnPolicies Delete body = Asks Path commands.ListPolicies Listed

abbrev pub OnPolicy : Option (List ℕ) → Method → Doing
OnPolicy None method = RefusesAtOnce (plain_error is.PolicyUnknown) None
OnPolicy (Some name) Delete = Asks Path (commands.DropPolicy name) Gone
OnPolicy (Some name) Get = Asks Path (commands.GetPolicy name) Single
OnPolicy (Some name) Post = Asks Path (commands.GetPolicy name) Single

abbrev pub OnRules : Method → List ℕ → Doing
OnRules Post body = ReadsDocument (rule_read body) None (λ rule. Asks Body (commands.AddRule rule) Made)
OnRules Get body = Asks Path commands.ListRules Listed
OnRules Delete body = Asks Path commands.ListRules Listed

abbrev pub OnRule : Option (List ℕ) → Method → Doing
OnRule None method = RefusesAtOnce (plain_error is.RuleUnknown) None
OnRule (Some name) Delete = Asks Path (commands.DropRule name) Gone
OnRule (Some name) Get = Asks Path (commands.GetRule name) Single
OnRule (Some name) Post = Asks Path (commands.GetRule name) Single

-- the command that the body of a metric asks
abbrev pub metric_command : MetricBody → Command
metric_command asked = commands.AddMetric asked.policy asked.name asked.unit asked.resource

abbrev pub OnMetrics : Method → List ℕ → Doing
OnMetrics Post body = ReadsDocument (metric_read body) None (λ asked. Asks Body (metric_command asked) Made)
OnMetrics Get body = Asks Path commands.ListMetrics Listed
OnMetrics Delete body = Asks Path commands.ListMetrics Listed

abbrev pub OnMetric : Option MetricId → Method → Doing
OnMetric None method = RefusesAtOnce (plain_error is.MetricUnknown) None
OnMetric (Some id) Delete = Asks Path (commands.DropMetric id) Gone
OnMetric (Some id) Get = Asks Path (commands.GetMetric id) Single
OnMetric (Some id) Post = Asks Path (commands.GetMetric id) Single

abbrev pub OnResources : Method → List ℕ → Doing
OnResources Post body = ReadsDocument (resource_read body) None (λ id. Asks Body (commands.AddResource id) Made)
OnResources Get body = Asks Path commands.ListResources Listed
OnResources Delete body = Asks Path commands.ListResources Listed

abbrev pub OnResource : Option ℕ → Method → Doing
OnResource None method = RefusesAtOnce (plain_error is.ResourceUnknown) None
OnResource (Some id) Delete = Asks Path (commands.DropResource id) Gone
OnResource (Some id) Get = Asks Path (commands.GetResource id) Single
OnResource (Some id) Post = Asks Path (commands.GetResource id) Single

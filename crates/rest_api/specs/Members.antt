-- The metrics of a resource: those that it has, and new ones.
use Rattle.std.specs.Prelude.{◌≡◌, ℕ, List, [], ◌∷◌, ◌++◌, length, filter, map, take, Option, None, Some, unwrap_or, Result, Ok, Err, Bool}
use Rattle.rest_api.specs.declared.members.AddStop.{AddStop}
use Rattle.rest_api.specs.declared.members.AddStop.TheVariants.{Starved, Refused}
use Rattle.std.specs.List.Sorted.{IsPermutation, IsSortedBy}
use Rattle.std.specs.Ordering.{is_lt}
use Rattle.std.specs.Borrow.{Bor}
use Rattle.control_docs.specs.Resource.{NamedPolicy, metrics_read}
use Rattle.front_api.specs.Front.{Controls}
use Rattle.front_api.specs.Maps.{is_in}
use Rattle.front_api.specs.Seen.{SeenBooks}
use Rattle.front_api.specs.Tables.{name_cmp}
use Rattle.front_api.specs.declared.command.Command.{Command}
use Rattle.front_api.specs.declared.command.Command.TheVariants as commands
use Rattle.front_api.specs.declared.command.MetricDoc.{MetricDoc}
use Rattle.front_api.specs.declared.command.Reply.{Reply}
use Rattle.front_api.specs.declared.fault.ControlFault.{ControlFault}
use Rattle.rest_api.specs.Doing.{Doing, ReadsDocument, TellsError}
use Rattle.rest_api.specs.Shown.{list_text, metric_shown, metrics_in}
use Rattle.rest_replies.specs.Error.{plain_error}
use Rattle.rest_replies.specs.Faults.{control_error}
use Rattle.rest_replies.specs.Handled.{AnswersWith, IsNoMemory}
use Rattle.rest_replies.specs.declared.code.ErrorCode.TheVariants as is
use Rattle.rest_replies.specs.declared.faults.NamedIn.TheVariants.{Path, Both}
use Rattle.rest_replies.specs.declared.handled.Handled.{Handled}
use Rattle.rest_replies.specs.declared.status.HttpStatus.TheVariants.{Okay, Created}
use Rattle.rest_routes.specs.declared.method.Method.{Method}
use Rattle.rest_routes.specs.declared.method.Method.TheVariants.{Get, Post, Delete}
use Rattle.serde_json.specs.Data.{Data}

-- ---- those that it has

-- the name of the one is before that of the other
abbrev pub is_named_before : MetricDoc → MetricDoc → Bool
is_named_before one other = is_lt (name_cmp (unwrap_or one.name []) (unwrap_or other.name []))

-- what borrowed documents are
abbrev pub borrowed : List (Bor MetricDoc) → List MetricDoc
borrowed docs = map (λ (doc : Bor MetricDoc). doc.now) docs

-- those of these metrics that are in the resource, by rising name
pub record AreItsMetrics (resource : ℕ) (listed its : List MetricDoc) : Type 0 where
  pub all : IsPermutation (filter (is_in resource) listed) its
  pub rising : IsSortedBy is_named_before its

-- what is answered by the result of listing all metrics
pub data TellsItsMetrics (resource : ℕ) : Result Reply ControlFault → Handled → Type 0 where
  told : (reply : Reply) (its : List MetricDoc) (answer : Handled) → AreItsMetrics resource (metrics_in reply) its
      → AnswersWith answer Okay [] (list_text (map metric_shown its)) → TellsItsMetrics resource (Ok reply) answer
  starved : (reply : Reply) (answer : Handled) → IsNoMemory answer → TellsItsMetrics resource (Ok reply) answer
  refused : (fault : ControlFault) (answer : Handled) → TellsError (control_error Path fault) None answer → TellsItsMetrics resource (Err fault) answer

-- the metrics are listed, and those of the resource are told
pub record ListsItsMetrics (resource : ℕ) (answer : Handled) (old new : SeenBooks) : Type 0 where
  pub result : Result Reply ControlFault
  pub controls : Controls commands.ListMetrics result old new
  pub tells : TellsItsMetrics resource result answer

-- ---- new ones

-- the command that adds a member
abbrev pub member_command : ℕ → NamedPolicy → Command
member_command resource member = commands.AddMetric member.1 (Some member.0) None (Some resource)

-- the document of a metric that was added, as its reply has it
abbrev pub documents_made : Reply → List Data
documents_made reply = map metric_shown (take 1 (metrics_in reply))

-- each of these members is added, one after another, and these are the documents
pub data AddsEach (resource : ℕ) : List NamedPolicy → List Data → SeenBooks → SeenBooks → Type 0 where
  none : (books : SeenBooks) → AddsEach resource [] [] books books
  one_more : (members : List NamedPolicy) (member : NamedPolicy) (documents : List Data) (reply : Reply) (old mid new : SeenBooks)
      → AddsEach resource members documents old mid → Controls (member_command resource member) (Ok reply) mid new
      → AddsEach resource (members ++ member ∷ []) (documents ++ documents_made reply) old new

-- The members are added, and the documents are told; or up to the first refusal, which is told with how many of them
-- stand; or up to where there is no memory.
pub data AddsMembers (resource : ℕ) (members : List NamedPolicy) (answer : Handled) (old new : SeenBooks) : Type 0 where
  all : (documents : List Data) → AddsEach resource members documents old new
      → AnswersWith answer Created [] (list_text documents) → AddsMembers resource members answer old new
  refused : (front : List NamedPolicy) (member : NamedPolicy) (rest : List NamedPolicy) (documents : List Data) (mid : SeenBooks) (fault : ControlFault)
      → members ≡ front ++ member ∷ rest → AddsEach resource front documents old mid
      → Controls (member_command resource member) (Err fault) mid new → TellsError (control_error Both fault) (Some (length front)) answer
      → AddsMembers resource members answer old new
  starved : (front rest : List NamedPolicy) (documents : List Data)
      → members ≡ front ++ rest → AddsEach resource front documents old new → IsNoMemory answer → AddsMembers resource members answer old new

-- why no more members are added: there was no memory, before this one or behind it, or it is refused
pub data StopsAdding (resource : ℕ) (member : NamedPolicy) : AddStop → SeenBooks → SeenBooks → Type 0 where
  before_it : (books : SeenBooks) → StopsAdding resource member Starved books books
  behind_it : (reply : Reply) (old new : SeenBooks) → Controls (member_command resource member) (Ok reply) old new → StopsAdding resource member Starved old new
  at_it : (fault : ControlFault) (old new : SeenBooks) → Controls (member_command resource member) (Err fault) old new → StopsAdding resource member (Refused fault) old new

-- ---- the resource

-- The resource is asked for: it is there, or this is the answer, with how many members of the body stand, where that is
-- told.
pub data FindsResource (stored : Option ℕ) : Option ℕ → Result ℕ Handled → SeenBooks → SeenBooks → Type 0 where
  there : (resource : ℕ) (reply : Reply) (old new : SeenBooks) → Controls (commands.GetResource resource) (Ok reply) old new
      → FindsResource stored (Some resource) (Ok resource) old new
  refused : (resource : ℕ) (fault : ControlFault) (answer : Handled) (old new : SeenBooks)
      → Controls (commands.GetResource resource) (Err fault) old new → TellsError (control_error Path fault) stored answer
      → FindsResource stored (Some resource) (Err answer) old new
  broken : (answer : Handled) (books : SeenBooks) → TellsError (plain_error is.ResourceUnknown) stored answer
      → FindsResource stored None (Err answer) books books

-- the resource is found, and then this is done
pub data WithResource (stored : Option ℕ) (id : Option ℕ) (Next : ℕ → Doing) (answer : Handled) (old new : SeenBooks) : Type 0 where
  found : (resource : ℕ) (mid : SeenBooks) → FindsResource stored id (Ok resource) old mid → Next resource answer mid new
      → WithResource stored id Next answer old new
  refused : FindsResource stored id (Err answer) old new → WithResource stored id Next answer old new

-- The route of the metrics of a resource: what isn't POST is GET.
abbrev pub OnResourceMetrics : Option ℕ → Method → List ℕ → Doing
OnResourceMetrics id Post body = ReadsDocument (metrics_read body) (Some 0) (λ members. WithResource (Some 0) id (λ resource. AddsMembers resource members))
OnResourceMetrics id Get body = WithResource None id ListsItsMetrics
OnResourceMetrics id Delete body = WithResource None id ListsItsMetrics

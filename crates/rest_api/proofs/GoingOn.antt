-- What was seen before a request is the beginning of what is seen behind it.
use Rattle.std.proofs.Common.{◌≡◌, ℕ, Bool, true, false, List, MatchBool, Option, Some, None, Result, Ok, Err, sym, subst, inl, inr, length, ◌==◌, ◌||◌}
use Rattle.control_docs.specs.declared.fault.ControlBodyFault.{ControlBodyFault}
use Rattle.control_docs.specs.Resource.{NamedPolicy}
use Rattle.front_api.proofs.GoingOn.{all_further, all_stay, controlling_goes_on, sack_goes_on}
use Rattle.front_api.specs.Seen.{SeenBooks}
use Rattle.front_api.specs.SeenLaws.{BooksGoOn}
use Rattle.front_api.specs.declared.command.Command.{Command}
use Rattle.measure_json.specs.Fault.{Placed}
use Rattle.measure_query.specs.declared.query.Asked.{Asked}
use Rattle.rest_api.specs.Commands.{Asks}
use Rattle.rest_api.specs.Doing.{Doing, ReadsDocument, ReadsMeasuresIn, RefusesAtOnce}
use Rattle.rest_api.specs.Handling.{Handles, OnRoute, OnRouting, has_query}
use Rattle.rest_api.specs.Measures.{AnswersRows, BatchEntry, FindsMetric, OfMetric, OfNamed, PostsAll, PostsEach, PostsTo, ReadsQuery, ReadsRows}
use Rattle.rest_api.specs.Members.{AddsEach, AddsMembers, FindsResource, ListsItsMetrics, WithResource, member_command}
use Rattle.rest_api.specs.Message.{Converses, Message}
use Rattle.rest_api.specs.declared.shown.Shown.{Shown}
use Rattle.rest_replies.specs.Error.{plain_error}
use Rattle.rest_replies.specs.declared.code.ErrorCode.TheVariants as is
use Rattle.rest_replies.specs.declared.error.RestError.{RestError}
use Rattle.rest_replies.specs.declared.faults.NamedIn.{NamedIn}
use Rattle.rest_replies.specs.declared.handled.Handled.{Handled}
use Rattle.rest_routes.specs.Routes.{Routing, found, no_method, no_route, routing_of}
use Rattle.rest_routes.specs.declared.method.Method.{Method}
use Rattle.rest_routes.specs.declared.method.Method.TheVariants.{Get, Post, Delete}
use Rattle.rest_routes.specs.declared.route.Route.{Route}
use Rattle.rest_routes.specs.declared.route.Route.TheVariants.{Policies, Policy, Rules, Rule, Metrics, Metric, Measures, BatchMeasures, Resources, Resource, ResourceMetrics, NamedMeasures}
use Rattle.series_model.specs.declared.metric.MetricId.{MetricId}
use Rattle.series_model.specs.declared.measure.Measure.{Measure}
use Rattle.sack_history.specs.Calls.{IsAnswering, IsPosting, IsRefreshing}
use Rattle.front_api.specs.FaultWords.{answer_words, sack_words}
use Rattle.front_api.specs.declared.command.Command.TheVariants as commands

-- what is as it was goes on
same_goes_on : (old new : SeenBooks) → new ≡ old → BooksGoOn old new
same_goes_on old new same = subst (BooksGoOn old) (sym same) (all_stay old)

-- whatever is done, what was seen goes on
abbrev pub Keeps : Doing → Type 0
Keeps Does = (answer : Handled) (old new : SeenBooks) → Does answer old new → BooksGoOn old new

refusing : (error : RestError) (stored : Option ℕ) → Keeps (RefusesAtOnce error stored)
refusing error stored answer old new h = same_goes_on old new h.0

asking : (named : NamedIn) (command : Command) (shown : Shown) → Keeps (Asks named command shown)
asking named command shown answer old new h = controlling_goes_on command h.result old new h.controls

reading : {A : Type 0} (read : Result A ControlBodyFault) (stored : Option ℕ) (Next : A → Doing) → ((asked : A) → Keeps (Next asked)) → Keeps (ReadsDocument read stored Next)
reading read stored Next next answer old new (ReadsDocument.read asked is h) = next asked answer old new h
reading read stored Next next answer old new (ReadsDocument.refused fault is h) = same_goes_on old new h.0

reading_measures : {A : Type 0} (read : Result A Placed) (stored : Option ℕ) (Next : A → Doing) → ((asked : A) → Keeps (Next asked)) → Keeps (ReadsMeasuresIn read stored Next)
reading_measures read stored Next next answer old new (ReadsMeasuresIn.read asked is h) = next asked answer old new h
reading_measures read stored Next next answer old new (ReadsMeasuresIn.refused fault is h) = same_goes_on old new h.0

reading_query : (query : List ℕ) (Next : Asked → Doing) → ((asked : Asked) → Keeps (Next asked)) → Keeps (ReadsQuery query Next)
reading_query query Next next answer old new (ReadsQuery.read asked is h) = next asked answer old new h
reading_query query Next next answer old new (ReadsQuery.refused fault is h) = same_goes_on old new h.0

-- ---- measures

posting : (measures : List Measure) (metric : MetricId) → Keeps (PostsTo measures metric)
posting measures metric answer old new h = sack_goes_on _ sack_words (IsPosting metric measures) h.result old new h.posts

answering : (asked : Asked) (metric : MetricId) → Keeps (AnswersRows asked metric)
answering asked metric answer old new h = sack_goes_on _ answer_words (IsAnswering metric asked.query) h.result old new h.answers

reading_rows : (asked : Asked) (metric : MetricId) → Keeps (ReadsRows asked metric)
reading_rows asked metric answer old new (ReadsRows.as_it_stands off h) = answering asked metric answer old new h
reading_rows asked metric answer old new (ReadsRows.refreshed done mid on r h) =
    all_further old mid new (sack_goes_on _ sack_words (IsRefreshing metric) (Ok done) old mid r) (answering asked metric answer mid new h)
reading_rows asked metric answer old new (ReadsRows.not_refreshed fault on r tells) = sack_goes_on _ sack_words (IsRefreshing metric) (Err fault) old new r

of_metric : (id : Option MetricId) (Next : MetricId → Doing) → ((metric : MetricId) → Keeps (Next metric)) → Keeps (OfMetric id Next)
of_metric None Next next answer old new h = same_goes_on old new h.0
of_metric (Some metric) Next next answer old new h = next metric answer old new h

pub finding : (resource : Option ℕ) (name : Option (List ℕ)) (result : Result MetricId Handled) (old new : SeenBooks) → FindsMetric resource name result old new → BooksGoOn old new
finding _ _ _ old new (FindsMetric.there resource name reply metric _ _ h first) = controlling_goes_on (commands.FindMetric resource name) (Ok reply) old new h
finding _ _ _ old new (FindsMetric.none_told resource name reply answer _ _ h first tells) = controlling_goes_on (commands.FindMetric resource name) (Ok reply) old new h
finding _ _ _ old new (FindsMetric.refused resource name fault answer _ _ h tells) = controlling_goes_on (commands.FindMetric resource name) (Err fault) old new h
finding _ _ _ old _ (FindsMetric.no_resource name answer _ tells) = all_stay old
finding _ _ _ old _ (FindsMetric.no_name resource answer _ tells) = all_stay old

of_named : (resource : Option ℕ) (name : Option (List ℕ)) (Next : MetricId → Doing) → ((metric : MetricId) → Keeps (Next metric)) → Keeps (OfNamed resource name Next)
of_named resource name Next next answer old new (OfNamed.found metric mid f h) = all_further old mid new (finding resource name (Ok metric) old mid f) (next metric answer mid new h)
of_named resource name Next next answer old new (OfNamed.refused f) = finding resource name (Err answer) old new f

pub posting_each : (entries : List BatchEntry) (old new : SeenBooks) → PostsEach entries old new → BooksGoOn old new
posting_each _ old _ (PostsEach.none _) = all_stay old
posting_each _ old new (PostsEach.one_more entries entry number _ mid _ first h) =
    all_further old mid new (posting_each entries old mid first) (sack_goes_on _ sack_words (IsPosting entry.0 entry.1) (Ok number) mid new h)

posting_all : (entries : List BatchEntry) → Keeps (PostsAll entries)
posting_all entries answer old new (PostsAll.all h tells) = posting_each entries old new h
posting_all entries answer old new (PostsAll.refused front entry rest mid fault is first h tells) =
    all_further old mid new (posting_each front old mid first) (sack_goes_on _ sack_words (IsPosting entry.0 entry.1) (Err fault) mid new h)

-- ---- the metrics of a resource

pub finding_resource : (stored id : Option ℕ) (result : Result ℕ Handled) (old new : SeenBooks) → FindsResource stored id result old new → BooksGoOn old new
finding_resource stored _ _ old new (FindsResource.there resource reply _ _ h) = controlling_goes_on (commands.GetResource resource) (Ok reply) old new h
finding_resource stored _ _ old new (FindsResource.refused resource fault answer _ _ h tells) = controlling_goes_on (commands.GetResource resource) (Err fault) old new h
finding_resource stored _ _ old _ (FindsResource.broken answer _ tells) = all_stay old

with_resource : (stored id : Option ℕ) (Next : ℕ → Doing) → ((resource : ℕ) → Keeps (Next resource)) → Keeps (WithResource stored id Next)
with_resource stored id Next next answer old new (WithResource.found resource mid f h) =
    all_further old mid new (finding_resource stored id (Ok resource) old mid f) (next resource answer mid new h)
with_resource stored id Next next answer old new (WithResource.refused f) = finding_resource stored id (Err answer) old new f

listing : (resource : ℕ) → Keeps (ListsItsMetrics resource)
listing resource answer old new h = controlling_goes_on commands.ListMetrics h.result old new h.controls

pub adding_each : (resource : ℕ) (members : List NamedPolicy) (documents : _) (old new : SeenBooks) → AddsEach resource members documents old new → BooksGoOn old new
adding_each resource _ _ old _ (AddsEach.none _) = all_stay old
adding_each resource _ _ old new (AddsEach.one_more members member documents reply _ mid _ first h) =
    all_further old mid new (adding_each resource members documents old mid first) (controlling_goes_on (member_command resource member) (Ok reply) mid new h)

adding : (resource : ℕ) (members : List NamedPolicy) → Keeps (AddsMembers resource members)
adding resource members answer old new (AddsMembers.all documents h tells) = adding_each resource members documents old new h
adding resource members answer old new (AddsMembers.refused front member rest documents mid fault is first h tells) =
    all_further old mid new (adding_each resource front documents old mid first) (controlling_goes_on (member_command resource member) (Err fault) mid new h)
adding resource members answer old new (AddsMembers.starved front rest documents is h starved) = adding_each resource front documents old new h

-- ---- routes

on_route : (route : Route) (method : Method) (query body : List ℕ) → Keeps (OnRoute route method query body)
on_route Policies Post query body answer old new h = reading _ _ _ (λ p. asking _ _ _) answer old new h
on_route Policies Get query body answer old new h = asking _ _ _ answer old new h
on_route Policies Delete query body answer old new h = asking _ _ _ answer old new h
on_route (Policy None) method query body answer old new h = same_goes_on old new h.0
on_route (Policy (Some name)) Get query body answer old new h = asking _ _ _ answer old new h
on_route (Policy (Some name)) Post query body answer old new h = asking _ _ _ answer old new h
on_route (Policy (Some name)) Delete query body answer old new h = asking _ _ _ answer old new h
on_route Rules Post query body answer old new h = reading _ _ _ (λ p. asking _ _ _) answer old new h
on_route Rules Get query body answer old new h = asking _ _ _ answer old new h
on_route Rules Delete query body answer old new h = asking _ _ _ answer old new h
on_route (Rule None) method query body answer old new h = same_goes_on old new h.0
on_route (Rule (Some name)) Get query body answer old new h = asking _ _ _ answer old new h
on_route (Rule (Some name)) Post query body answer old new h = asking _ _ _ answer old new h
on_route (Rule (Some name)) Delete query body answer old new h = asking _ _ _ answer old new h
on_route Metrics Post query body answer old new h = reading _ _ _ (λ p. asking _ _ _) answer old new h
on_route Metrics Get query body answer old new h = asking _ _ _ answer old new h
on_route Metrics Delete query body answer old new h = asking _ _ _ answer old new h
on_route (Metric None) method query body answer old new h = same_goes_on old new h.0
on_route (Metric (Some id)) Get query body answer old new h = asking _ _ _ answer old new h
on_route (Metric (Some id)) Post query body answer old new h = asking _ _ _ answer old new h
on_route (Metric (Some id)) Delete query body answer old new h = asking _ _ _ answer old new h
on_route (Measures id) Post query body answer old new h = reading_measures _ _ _ (λ ms. of_metric id _ (posting ms)) answer old new h
on_route (Measures id) Get query body answer old new h = reading_query query _ (λ asked. of_metric id _ (reading_rows asked)) answer old new h
on_route (Measures id) Delete query body answer old new h = reading_query query _ (λ asked. of_metric id _ (reading_rows asked)) answer old new h
on_route BatchMeasures method query body answer old new h = reading_measures _ _ _ posting_all answer old new h
on_route Resources Post query body answer old new h = reading _ _ _ (λ p. asking _ _ _) answer old new h
on_route Resources Get query body answer old new h = asking _ _ _ answer old new h
on_route Resources Delete query body answer old new h = asking _ _ _ answer old new h
on_route (Resource None) method query body answer old new h = same_goes_on old new h.0
on_route (Resource (Some id)) Get query body answer old new h = asking _ _ _ answer old new h
on_route (Resource (Some id)) Post query body answer old new h = asking _ _ _ answer old new h
on_route (Resource (Some id)) Delete query body answer old new h = asking _ _ _ answer old new h
on_route (ResourceMetrics id) Post query body answer old new h = reading _ _ _ (λ ms. with_resource _ id _ (λ resource. adding resource ms)) answer old new h
on_route (ResourceMetrics id) Get query body answer old new h = with_resource _ id _ listing answer old new h
on_route (ResourceMetrics id) Delete query body answer old new h = with_resource _ id _ listing answer old new h
on_route (NamedMeasures resource name) Post query body answer old new h = reading_measures _ _ _ (λ ms. of_named resource name _ (posting ms)) answer old new h
on_route (NamedMeasures resource name) Get query body answer old new h = reading_query query _ (λ asked. of_named resource name _ (reading_rows asked)) answer old new h
on_route (NamedMeasures resource name) Delete query body answer old new h = reading_query query _ (λ asked. of_named resource name _ (reading_rows asked)) answer old new h

by_query : (b : Bool) (does refuses : Doing) → Keeps does → Keeps refuses → (answer : Handled) (old new : SeenBooks)
    → MatchBool b (does answer old new) (refuses answer old new) → BooksGoOn old new
by_query true does refuses first second answer old new h = first answer old new h
by_query false does refuses first second answer old new h = second answer old new h

on_routing : (routing : Routing) (body : List ℕ) → Keeps (OnRouting routing body)
on_routing (found route method query) body answer old new h =
    by_query (has_query route method || (length query == 0)) (OnRoute route method query body) (RefusesAtOnce (plain_error is.BadQuery) None) (on_route route method query body) (refusing (plain_error is.BadQuery) None) answer old new h
on_routing no_route body answer old new h = same_goes_on old new h.0
on_routing (no_method allow) body answer old new h = same_goes_on old new h.0

pub request_goes_on : (method target body : List ℕ) → Keeps (Handles method target body)
request_goes_on method target body answer old new (inl h) = on_routing (routing_of method target) body answer old new h
request_goes_on method target body answer old new (inr h) = same_goes_on old new h.0

pub messages_go_on : (messages : List Message) (text : List ℕ) (old new : SeenBooks) → Converses messages text old new → BooksGoOn old new
messages_go_on _ _ old _ (Converses.nothing _) = all_stay old
messages_go_on _ _ old new (Converses.one_more messages m text response _ mid _ first h) =
    all_further old mid new (messages_go_on messages text old mid first) (request_goes_on m.head.method m.head.target m.body h.answer mid new h.handles)

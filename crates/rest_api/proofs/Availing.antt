-- Where no fault is seen, no request is answered 503.
use Rattle.std.proofs.Common.{◌≡◌, ℕ, Bool, true, false, List, [], ◌++◌, MatchBool, Option, Some, None, Result, Ok, Err, refl, sym, ap, subst, inl, inr, length, append-nil, ◌==◌, ◌||◌}
use Rattle.control_docs.specs.declared.fault.ControlBodyFault.{ControlBodyFault}
use Rattle.control_docs.specs.Resource.{NamedPolicy}
use Rattle.front_api.proofs.Failing.{answered, clean_earlier, in_sack, opened_later, posted, refreshed}
use Rattle.front_api.proofs.FailingIndex.{controlled}
use Rattle.front_api.proofs.GoingOn.{sack_goes_on}
use Rattle.front_api.specs.FaultWords.{answer_words, control_words, sack_words}
use Rattle.front_api.specs.Seen.{SeenBooks}
use Rattle.front_api.specs.SeenLaws.{SeeNoFault, TellsNoFault, WereAllOpened}
use Rattle.front_api.specs.declared.command.Command.{Command}
use Rattle.front_api.specs.declared.command.Command.TheVariants as commands
use Rattle.front_api.specs.declared.command.Reply.{Reply}
use Rattle.front_api.specs.declared.fault.ControlFault.{ControlFault}
use Rattle.measure_json.specs.Fault.{Placed}
use Rattle.measure_query.specs.declared.query.Asked.{Asked}
use Rattle.rest_api.specs.Available.{AreAvailable, BeginsAvailable, IsAvailable, IsAvailableText, waited}
use Rattle.rest_api.specs.Available as available
use Rattle.rest_api.specs.Commands.{Asks, TellsResult}
use Rattle.rest_api.specs.Doing.{Doing, ReadsDocument, ReadsMeasuresIn, RefusesAtOnce}
use Rattle.rest_api.specs.Handling.{Handles, OnRoute, OnRouting, has_query}
use Rattle.rest_api.specs.Measures.{AnswersRows, BatchEntry, FindsMetric, OfMetric, OfNamed, PostsAll, PostsTo, ReadsQuery, ReadsRows, TellsPost, TellsRows}
use Rattle.rest_api.specs.Members.{AddsMembers, FindsResource, ListsItsMetrics, TellsItsMetrics, WithResource, member_command}
use Rattle.rest_api.specs.Message.{Converses, IsResponse, Message, RespondsTo, continue_for}
use Rattle.rest_api.specs.Session.{Conversed, EndsSo, IsDue, IsRefusal}
use Rattle.rest_api.specs.Shown.{shown_status, shown_text}
use Rattle.rest_api.specs.declared.conn_end.ConnEnd.{ConnEnd}
use Rattle.rest_api.specs.declared.shown.Shown.{Shown}
use Rattle.rest_api.specs.declared.shown.Shown.TheVariants.{Listed, Single, Made, Gone}
use Rattle.rest_api.proofs.GoingOn.{adding_each, finding, finding_resource, messages_go_on, posting_each, request_goes_on}
use Rattle.rest_api.proofs.Statuses.{answer_other, body_other, control_other, document_other, error_other, head_other, is_503, other_than, query_other, rows_other, sack_other, starved_other}
use Rattle.rest_replies.specs.Error.{plain_error}
use Rattle.rest_replies.specs.Faults.{answer_error, body_error, control_body_error, control_error, query_error, sack_error}
use Rattle.rest_replies.specs.declared.code.ErrorCode.TheVariants as is
use Rattle.rest_replies.specs.declared.error.RestError.{RestError}
use Rattle.rest_replies.specs.declared.faults.NamedIn.{NamedIn}
use Rattle.rest_replies.specs.declared.faults.NamedIn.TheVariants.{Path, Both}
use Rattle.rest_replies.specs.declared.handled.Handled.{Handled}
use Rattle.rest_replies.specs.declared.status.HttpStatus.TheVariants.{Created, InternalError, MethodNotAllowed, Okay}
use Rattle.rest_routes.specs.Routes.{Routing, found, no_method, no_route, routing_of}
use Rattle.rest_routes.specs.declared.method.Method.{Method}
use Rattle.rest_routes.specs.declared.method.Method.TheVariants.{Get, Post, Delete}
use Rattle.rest_routes.specs.declared.route.Route.{Route}
use Rattle.rest_routes.specs.declared.route.Route.TheVariants.{Policies, Policy, Rules, Rule, Metrics, Metric, Measures, BatchMeasures, Resources, Resource, ResourceMetrics, NamedMeasures}
use Rattle.sack_history.specs.Calls.{IsRefreshing}
use Rattle.sack_history.specs.declared.fault.AnswerFault.{AnswerFault}
use Rattle.sack_history.specs.declared.fault.SackFault.{SackFault}
use Rattle.series_model.specs.declared.answer.Row.{Row}
use Rattle.series_model.specs.declared.measure.Measure.{Measure}
use Rattle.series_model.specs.declared.metric.MetricId.{MetricId}
use Rattle.front_api.specs.Front.{Posts, Refreshes}

-- whatever is done, it isn't answered 503
abbrev pub Avails : Doing → Type 0
Avails Does = (answer : Handled) (old new : SeenBooks) → WereAllOpened old → SeeNoFault new → Does answer old new → is_503 answer.status ≡ false

refusing : (error : RestError) (stored : Option ℕ) → is_503 error.status ≡ false → Avails (RefusesAtOnce error stored)
refusing error stored other answer old new opened none h = error_other error stored answer other h.1

shown_other : (shown : Shown) → is_503 (shown_status shown) ≡ false
shown_other Listed = refl
shown_other Single = refl
shown_other Made = refl
shown_other Gone = refl

telling : (named : NamedIn) (shown : Shown) (result : Result Reply ControlFault) (answer : Handled) → TellsNoFault control_words result → TellsResult named shown result answer → is_503 answer.status ≡ false
telling named shown (Ok reply) answer no_fault h = answer_other answer (shown_status shown) [] (shown_text shown reply) (shown_other shown) h
telling named shown (Err fault) answer no_fault h = error_other (control_error named fault) None answer (control_other named fault no_fault) h

asking : (named : NamedIn) (command : Command) (shown : Shown) → Avails (Asks named command shown)
asking named command shown answer old new opened none h = telling named shown h.result answer (controlled command h.result old new opened h.controls none) h.tells

reading : {A : Type 0} (read : Result A ControlBodyFault) (stored : Option ℕ) (Next : A → Doing) → ((asked : A) → Avails (Next asked)) → Avails (ReadsDocument read stored Next)
reading read stored Next next answer old new opened none (ReadsDocument.read asked is h) = next asked answer old new opened none h
reading read stored Next next answer old new opened none (ReadsDocument.refused fault is h) = error_other (control_body_error fault) stored answer (document_other fault) h.1

reading_measures : {A : Type 0} (read : Result A Placed) (stored : Option ℕ) (Next : A → Doing) → ((asked : A) → Avails (Next asked)) → Avails (ReadsMeasuresIn read stored Next)
reading_measures read stored Next next answer old new opened none (ReadsMeasuresIn.read asked is h) = next asked answer old new opened none h
reading_measures read stored Next next answer old new opened none (ReadsMeasuresIn.refused fault is h) = error_other (body_error fault) stored answer (body_other fault) h.1

reading_query : (query : List ℕ) (Next : Asked → Doing) → ((asked : Asked) → Avails (Next asked)) → Avails (ReadsQuery query Next)
reading_query query Next next answer old new opened none (ReadsQuery.read asked is h) = next asked answer old new opened none h
reading_query query Next next answer old new opened none (ReadsQuery.refused fault is h) = error_other (query_error fault) None answer (query_other fault) h.1

-- ---- measures

post_told : (metric : MetricId) (measures : List Measure) (result : Result ℕ SackFault) (old new : SeenBooks) → WereAllOpened old → SeeNoFault new → Posts metric measures result old new → TellsNoFault sack_words result
post_told metric measures result old new opened none call =
    in_sack _ sack_words (λ s. record { no_disk = refl; no_damage = refl }) _ result (λ h own does clean. posted metric measures result h own does clean) old new opened.sacks call none.sacks

refresh_told : (metric : MetricId) (result : Result ℕ SackFault) (old new : SeenBooks) → WereAllOpened old → SeeNoFault new → Refreshes metric result old new → TellsNoFault sack_words result
refresh_told metric result old new opened none call =
    in_sack _ sack_words (λ s. record { no_disk = refl; no_damage = refl }) _ result (λ h own does clean. refreshed metric result h own does clean) old new opened.sacks call none.sacks

posting : (measures : List Measure) (metric : MetricId) → Avails (PostsTo measures metric)
posting measures metric answer old new opened none h = by h.result (post_told metric measures h.result old new opened none h.posts) h.tells
  where
    by : (result : Result ℕ SackFault) → TellsNoFault sack_words result → TellsPost result answer → is_503 answer.status ≡ false
    by (Ok number) no_fault tells = ap is_503 tells.status
    by (Err fault) no_fault tells = error_other (sack_error fault) None answer (sack_other fault no_fault) tells

answering : (asked : Asked) (metric : MetricId) → Avails (AnswersRows asked metric)
answering asked metric answer old new opened none h =
    by h.result (in_sack _ answer_words (λ s. record { no_disk = refl; no_damage = refl }) _ h.result (λ past own does clean. answered metric asked.query h.result past own does clean) old new opened.sacks h.answers none.sacks) h.tells
  where
    by : (result : Result (List Row) AnswerFault) → TellsNoFault answer_words result → TellsRows asked.exact result answer → is_503 answer.status ≡ false
    by (Ok rows) no_fault tells = answer_other answer Okay [] _ refl tells
    by (Err fault) no_fault tells = error_other (answer_error fault) None answer (rows_other fault no_fault) tells

reading_rows : (asked : Asked) (metric : MetricId) → Avails (ReadsRows asked metric)
reading_rows asked metric answer old new opened none (ReadsRows.as_it_stands off h) = answering asked metric answer old new opened none h
reading_rows asked metric answer old new opened none (ReadsRows.refreshed done mid on r h) =
    answering asked metric answer mid new (opened_later old mid (sack_goes_on _ sack_words (IsRefreshing metric) (Ok done) old mid r) opened) none h
reading_rows asked metric answer old new opened none (ReadsRows.not_refreshed fault on r tells) =
    error_other (sack_error fault) None answer (sack_other fault (refresh_told metric (Err fault) old new opened none r)) tells

of_metric : (id : Option MetricId) (Next : MetricId → Doing) → ((metric : MetricId) → Avails (Next metric)) → Avails (OfMetric id Next)
of_metric None Next next answer old new opened none h = error_other (plain_error is.MetricUnknown) None answer refl h.1
of_metric (Some metric) Next next answer old new opened none h = next metric answer old new opened none h

not_found : (resource : Option ℕ) (name : Option (List ℕ)) (answer : Handled) (old new : SeenBooks) → WereAllOpened old → SeeNoFault new → FindsMetric resource name (Err answer) old new → is_503 answer.status ≡ false
not_found _ _ answer old new opened none (FindsMetric.none_told resource name reply _ _ _ h first tells) = error_other (plain_error is.MetricUnknown) None answer refl tells
not_found _ _ answer old new opened none (FindsMetric.refused resource name fault _ _ _ h tells) =
    error_other (control_error Path fault) None answer (control_other Path fault (controlled (commands.FindMetric resource name) (Err fault) old new opened h none)) tells
not_found _ _ answer old _ opened none (FindsMetric.no_resource name _ _ tells) = error_other (plain_error is.ResourceUnknown) None answer refl tells
not_found _ _ answer old _ opened none (FindsMetric.no_name resource _ _ tells) = error_other (plain_error is.MetricUnknown) None answer refl tells

of_named : (resource : Option ℕ) (name : Option (List ℕ)) (Next : MetricId → Doing) → ((metric : MetricId) → Avails (Next metric)) → Avails (OfNamed resource name Next)
of_named resource name Next next answer old new opened none (OfNamed.found metric mid f h) = next metric answer mid new (opened_later old mid (finding resource name (Ok metric) old mid f) opened) none h
of_named resource name Next next answer old new opened none (OfNamed.refused f) = not_found resource name answer old new opened none f

posting_all : (entries : List BatchEntry) → Avails (PostsAll entries)
posting_all entries answer old new opened none (PostsAll.all h tells) = ap is_503 tells.status
posting_all entries answer old new opened none (PostsAll.refused front entry rest mid fault is first h tells) =
    error_other (sack_error fault) (Some (length front)) answer (sack_other fault (post_told entry.0 entry.1 (Err fault) mid new (opened_later old mid (posting_each front old mid first) opened) none h)) tells

-- ---- the metrics of a resource

no_resource : (stored id : Option ℕ) (answer : Handled) (old new : SeenBooks) → WereAllOpened old → SeeNoFault new → FindsResource stored id (Err answer) old new → is_503 answer.status ≡ false
no_resource stored _ answer old new opened none (FindsResource.refused resource fault _ _ _ h tells) =
    error_other (control_error Path fault) stored answer (control_other Path fault (controlled (commands.GetResource resource) (Err fault) old new opened h none)) tells
no_resource stored _ answer old _ opened none (FindsResource.broken _ _ tells) = error_other (plain_error is.ResourceUnknown) stored answer refl tells

with_resource : (stored id : Option ℕ) (Next : ℕ → Doing) → ((resource : ℕ) → Avails (Next resource)) → Avails (WithResource stored id Next)
with_resource stored id Next next answer old new opened none (WithResource.found resource mid f h) =
    next resource answer mid new (opened_later old mid (finding_resource stored id (Ok resource) old mid f) opened) none h
with_resource stored id Next next answer old new opened none (WithResource.refused f) = no_resource stored id answer old new opened none f

listing : (resource : ℕ) → Avails (ListsItsMetrics resource)
listing resource answer old new opened none h = by h.result (controlled commands.ListMetrics h.result old new opened h.controls none) h.tells
  where
    by : (result : Result Reply ControlFault) → TellsNoFault control_words result → TellsItsMetrics resource result answer → is_503 answer.status ≡ false
    by _ no_fault (TellsItsMetrics.told reply its _ are tells) = answer_other answer Okay [] _ refl tells
    by _ no_fault (TellsItsMetrics.starved reply _ starved) = starved_other answer starved
    by _ no_fault (TellsItsMetrics.refused fault _ tells) = error_other (control_error Path fault) None answer (control_other Path fault no_fault) tells

adding : (resource : ℕ) (members : List NamedPolicy) → Avails (AddsMembers resource members)
adding resource members answer old new opened none (AddsMembers.all documents h tells) = answer_other answer Created [] _ refl tells
adding resource members answer old new opened none (AddsMembers.refused front member rest documents mid fault is first h tells) =
    error_other (control_error Both fault) (Some (length front)) answer
    (control_other Both fault (controlled (member_command resource member) (Err fault) mid new (opened_later old mid (adding_each resource front documents old mid first) opened) h none)) tells
adding resource members answer old new opened none (AddsMembers.starved front rest documents is h starved) = starved_other answer starved

-- ---- routes

on_route : (route : Route) (method : Method) (query body : List ℕ) → Avails (OnRoute route method query body)
on_route Policies Post query body answer old new opened none h = reading _ _ _ (λ p. asking _ _ _) answer old new opened none h
on_route Policies Get query body answer old new opened none h = asking _ _ _ answer old new opened none h
on_route Policies Delete query body answer old new opened none h = asking _ _ _ answer old new opened none h
on_route (Policy None) method query body answer old new opened none h = error_other (plain_error is.PolicyUnknown) None answer refl h.1
on_route (Policy (Some name)) Get query body answer old new opened none h = asking _ _ _ answer old new opened none h
on_route (Policy (Some name)) Post query body answer old new opened none h = asking _ _ _ answer old new opened none h
on_route (Policy (Some name)) Delete query body answer old new opened none h = asking _ _ _ answer old new opened none h
on_route Rules Post query body answer old new opened none h = reading _ _ _ (λ p. asking _ _ _) answer old new opened none h
on_route Rules Get query body answer old new opened none h = asking _ _ _ answer old new opened none h
on_route Rules Delete query body answer old new opened none h = asking _ _ _ answer old new opened none h
on_route (Rule None) method query body answer old new opened none h = error_other (plain_error is.RuleUnknown) None answer refl h.1
on_route (Rule (Some name)) Get query body answer old new opened none h = asking _ _ _ answer old new opened none h
on_route (Rule (Some name)) Post query body answer old new opened none h = asking _ _ _ answer old new opened none h
on_route (Rule (Some name)) Delete query body answer old new opened none h = asking _ _ _ answer old new opened none h
on_route Metrics Post query body answer old new opened none h = reading _ _ _ (λ p. asking _ _ _) answer old new opened none h
on_route Metrics Get query body answer old new opened none h = asking _ _ _ answer old new opened none h
on_route Metrics Delete query body answer old new opened none h = asking _ _ _ answer old new opened none h
on_route (Metric None) method query body answer old new opened none h = error_other (plain_error is.MetricUnknown) None answer refl h.1
on_route (Metric (Some id)) Get query body answer old new opened none h = asking _ _ _ answer old new opened none h
on_route (Metric (Some id)) Post query body answer old new opened none h = asking _ _ _ answer old new opened none h
on_route (Metric (Some id)) Delete query body answer old new opened none h = asking _ _ _ answer old new opened none h
on_route (Measures id) Post query body answer old new opened none h = reading_measures _ _ _ (λ ms. of_metric id _ (posting ms)) answer old new opened none h
on_route (Measures id) Get query body answer old new opened none h = reading_query query _ (λ asked. of_metric id _ (reading_rows asked)) answer old new opened none h
on_route (Measures id) Delete query body answer old new opened none h = reading_query query _ (λ asked. of_metric id _ (reading_rows asked)) answer old new opened none h
on_route BatchMeasures method query body answer old new opened none h = reading_measures _ _ _ posting_all answer old new opened none h
on_route Resources Post query body answer old new opened none h = reading _ _ _ (λ p. asking _ _ _) answer old new opened none h
on_route Resources Get query body answer old new opened none h = asking _ _ _ answer old new opened none h
on_route Resources Delete query body answer old new opened none h = asking _ _ _ answer old new opened none h
on_route (Resource None) method query body answer old new opened none h = error_other (plain_error is.ResourceUnknown) None answer refl h.1
on_route (Resource (Some id)) Get query body answer old new opened none h = asking _ _ _ answer old new opened none h
on_route (Resource (Some id)) Post query body answer old new opened none h = asking _ _ _ answer old new opened none h
on_route (Resource (Some id)) Delete query body answer old new opened none h = asking _ _ _ answer old new opened none h
on_route (ResourceMetrics id) Post query body answer old new opened none h = reading _ _ _ (λ ms. with_resource _ id _ (λ resource. adding resource ms)) answer old new opened none h
on_route (ResourceMetrics id) Get query body answer old new opened none h = with_resource _ id _ listing answer old new opened none h
on_route (ResourceMetrics id) Delete query body answer old new opened none h = with_resource _ id _ listing answer old new opened none h
on_route (NamedMeasures resource name) Post query body answer old new opened none h = reading_measures _ _ _ (λ ms. of_named resource name _ (posting ms)) answer old new opened none h
on_route (NamedMeasures resource name) Get query body answer old new opened none h = reading_query query _ (λ asked. of_named resource name _ (reading_rows asked)) answer old new opened none h
on_route (NamedMeasures resource name) Delete query body answer old new opened none h = reading_query query _ (λ asked. of_named resource name _ (reading_rows asked)) answer old new opened none h

by_query : (b : Bool) (does refuses : Doing) → Avails does → Avails refuses → (answer : Handled) (old new : SeenBooks) → WereAllOpened old → SeeNoFault new
    → MatchBool b (does answer old new) (refuses answer old new) → is_503 answer.status ≡ false
by_query true does refuses first second answer old new opened none h = first answer old new opened none h
by_query false does refuses first second answer old new opened none h = second answer old new opened none h

on_routing : (routing : Routing) (body : List ℕ) → Avails (OnRouting routing body)
on_routing (found route method query) body answer old new opened none h =
    by_query (has_query route method || (length query == 0)) (OnRoute route method query body) (RefusesAtOnce (plain_error is.BadQuery) None) (on_route route method query body) (refusing (plain_error is.BadQuery) None refl) answer old new opened none h
on_routing no_route body answer old new opened none h = error_other (plain_error is.NoRoute) None answer refl h.1
on_routing (no_method allow) body answer old new opened none h = answer_other answer MethodNotAllowed allow _ refl h.1

pub request_avails : (method target body : List ℕ) → Avails (Handles method target body)
request_avails method target body answer old new opened none (inl h) = on_routing (routing_of method target) body answer old new opened none h
request_avails method target body answer old new opened none (inr h) = starved_other answer h.1

-- ---- connections

response_avails : (is_head close : Bool) (answer : Handled) (text : List ℕ) → is_503 answer.status ≡ false → IsResponse is_head close answer text → IsAvailable text
response_avails is_head close answer text other (IsResponse.told is) =
    record { is_head = is_head; close = close; status = answer.status; allow = answer.allow.now; body = answer.body.items; is_other = other_than answer.status other; is = is }
response_avails is_head close answer text other (IsResponse.starved is) =
    record { is_head = is_head; close = close; status = InternalError; allow = []; body = []; is_other = other_than InternalError refl; is = is }

message_avails : (m : Message) (text : List ℕ) (old new : SeenBooks) → WereAllOpened old → SeeNoFault new → RespondsTo m text old new → IsAvailable text
message_avails m text old new opened none r = response_avails _ _ r.answer text (request_avails m.head.method m.head.target m.body r.answer old new opened none r.handles) r.response

pub messages_avail : (messages : List Message) (text : List ℕ) (old new : SeenBooks) → WereAllOpened old → SeeNoFault new → Converses messages text old new → AreAvailable messages text
messages_avail _ _ old _ opened none (Converses.nothing _) = available.nothing
messages_avail _ _ old new opened none (Converses.one_more messages m text response _ mid _ first h) =
    available.one_more messages m text response
    (messages_avail messages text old mid opened (clean_earlier mid new (request_goes_on m.head.method m.head.target m.body h.answer mid new h.handles) none) first)
    (message_avails m response mid new (opened_later old mid (messages_go_on messages text old mid first) opened) none h)

refusal_avails : (given : ℕ) (bytes : List ℕ) (left : Option (List ℕ)) (text : List ℕ) → IsRefusal given bytes left text → IsAvailable text
refusal_avails given bytes left text r = response_avails false true r.answer text (error_other r.error None r.answer (head_other r.cause r.error r.is_told) r.tells) r.response

due_avails : (given : ℕ) (bytes : List ℕ) (left : Option (List ℕ)) (text : List ℕ) (old new : SeenBooks) → WereAllOpened old → SeeNoFault new → IsDue given bytes left text old new → IsAvailableText text
due_avails given bytes left _ old _ opened none (IsDue.to_go_on head behind _ begins) = waited _
due_avails given bytes left _ old new opened none (IsDue.response m text _ _ has r) = available.response _ text (message_avails m text old new opened none r)
due_avails given bytes left text old _ opened none (IsDue.refusal _ _ r) = available.response false text (refusal_avails given bytes left text r)

whole_begins : (text : List ℕ) → IsAvailableText text → BeginsAvailable text
whole_begins text is = record { more = []; whole = subst IsAvailableText (sym (append-nil text)) is }

end_avails : (given : ℕ) (bytes : List ℕ) (left : Option (List ℕ)) (end : ConnEnd) (last : List ℕ) (old new : SeenBooks) → WereAllOpened old → SeeNoFault new → EndsSo given bytes left end last old new → BeginsAvailable last
end_avails given bytes left _ _ old _ opened none (EndsSo.no_head cause _ untold ends) = whole_begins [] (waited false)
end_avails given bytes left _ _ old _ opened none (EndsSo.refused text _ r) = whole_begins text (available.response false text (refusal_avails given bytes left text r))
end_avails given bytes left _ _ old _ opened none (EndsSo.no_body cause head part _ begins ends) = whole_begins (continue_for head) (waited _)
end_avails given bytes left _ _ old new opened none (EndsSo.closed m text _ _ has last r) = whole_begins (continue_for m.head ++ text) (available.response _ text (message_avails m text old new opened none r))
end_avails given bytes left _ _ old new opened none (EndsSo.unwritten text more _ _ due) = record { more = more; whole = due_avails given bytes left (text ++ more) old new opened none due }
end_avails given bytes left _ _ old _ opened none (EndsSo.too_many _ many) = whole_begins [] (waited false)

end_goes_on : (given : ℕ) (bytes : List ℕ) (left : Option (List ℕ)) (end : ConnEnd) (last : List ℕ) (old new : SeenBooks) → SeeNoFault new → EndsSo given bytes left end last old new → SeeNoFault old
end_goes_on given bytes left _ _ old _ none (EndsSo.no_head cause _ untold ends) = none
end_goes_on given bytes left _ _ old _ none (EndsSo.refused text _ r) = none
end_goes_on given bytes left _ _ old _ none (EndsSo.no_body cause head part _ begins ends) = none
end_goes_on given bytes left _ _ old new none (EndsSo.closed m text _ _ has last r) = clean_earlier old new (request_goes_on m.head.method m.head.target m.body r.answer old new r.handles) none
end_goes_on given bytes left _ _ old new none (EndsSo.unwritten text more _ _ due) = by old new (text ++ more) none due
  where
    by : (old new : SeenBooks) (whole : List ℕ) → SeeNoFault new → IsDue given bytes left whole old new → SeeNoFault old
    by old _ _ none (IsDue.to_go_on head behind _ begins) = none
    by old new _ none (IsDue.response m text _ _ has r) = clean_earlier old new (request_goes_on m.head.method m.head.target m.body r.answer old new r.handles) none
    by old _ _ none (IsDue.refusal _ _ r) = none
end_goes_on given bytes left _ _ old _ none (EndsSo.too_many _ many) = none

pub connection_avails : (messages : List Message) (behind : List ℕ) (left : Option (List ℕ)) (end : ConnEnd) (answered last : List ℕ) (old new : SeenBooks)
    → WereAllOpened old → SeeNoFault new → Conversed messages behind left end answered last old new → AreAvailable messages answered × BeginsAvailable last
connection_avails messages behind left end answered last old new opened none c = (
  messages_avail messages answered old c.mid opened (end_goes_on _ behind left end last c.mid new none c.ends) c.messages_are,
  end_avails _ behind left end last c.mid new (opened_later old c.mid (messages_go_on messages answered old c.mid c.messages_are) opened) none c.ends,
)

-- The metrics of a resource.
use Rattle.std.proofs.Common.{◌≡◌, ℕ, ◌<◌, List, [], ◌∷◌, ◌++◌, length, take, map, Option, Some, None, Result, Ok, Err, refl, sym, ◌∙◌, arith, append_assoc}
use Rattle.control_docs.specs.Resource.{NamedPolicy}
use Rattle.front_api.specs.Front.{Controls}
use Rattle.front_api.specs.Seen.{LeadsTo, SeenBooks}
use Rattle.front_api.specs.declared.command.Command.TheVariants as commands
use Rattle.front_api.specs.declared.command.Reply.{Reply}
use Rattle.front_api.specs.declared.fault.ControlFault.{ControlFault}
use Rattle.rest_api.specs.Doing.{Doing, TellsError}
use Rattle.rest_api.specs.Members.{AddsEach, AddsMembers, FindsResource, ListsItsMetrics, StopsAdding, TellsItsMetrics, WithResource, documents_made, member_command}
use Rattle.front_api.specs.declared.command.MetricDoc.{MetricDoc}
use Rattle.rest_api.specs.Shown.{list_text, metric_shown, metrics_in}
use Rattle.rest_api.specs.declared.members.AddStop.{AddStop}
use Rattle.rest_api.specs.declared.members.AddStop.TheVariants.{Starved, Refused}
use Rattle.rest_replies.specs.Error.{plain_error}
use Rattle.rest_replies.specs.Faults.{control_error}
use Rattle.rest_replies.specs.Handled.{AnswersWith, IsNoMemory}
use Rattle.rest_replies.specs.declared.code.ErrorCode.TheVariants as is
use Rattle.rest_replies.specs.declared.faults.NamedIn.TheVariants.{Path, Both}
use Rattle.rest_replies.specs.declared.handled.Handled.{Handled}
use Rattle.rest_replies.specs.declared.status.HttpStatus.TheVariants.{Created}
use Rattle.serde_json.specs.Data.{Data}

-- a reply to a metric that is added has at most one document that is told
few_of : (docs : List MetricDoc) → length (map metric_shown (take 1 docs)) < 2
few_of [] = omega arith
few_of (doc ∷ docs) = omega arith

pub made_few : (reply : Reply) → length (documents_made reply) < 2
made_few reply = few_of (metrics_in reply)

module _ {X : Type 0} (stands : X → SeenBooks → Type 0) where
  -- ---- the resource

  pub resource_there : (a b : X) (stored : Option ℕ) (resource : ℕ) (reply : Reply) → LeadsTo stands a b (Controls (commands.GetResource resource) (Ok reply))
      → LeadsTo stands a b (FindsResource stored (Some resource) (Ok resource))
  resource_there a b stored resource reply leads old is =
      let new = leads old is in
      (new.0, new.1, FindsResource.there resource reply old new.0 new.2)

  pub resource_refused : (a b : X) (stored : Option ℕ) (resource : ℕ) (fault : ControlFault) (answer : Handled)
      → LeadsTo stands a b (Controls (commands.GetResource resource) (Err fault)) → TellsError (control_error Path fault) stored answer
      → LeadsTo stands a b (FindsResource stored (Some resource) (Err answer))
  resource_refused a b stored resource fault answer leads tells old is =
      let new = leads old is in
      (new.0, new.1, FindsResource.refused resource fault answer old new.0 new.2 tells)

  pub resource_broken : (a : X) (stored : Option ℕ) (answer : Handled) → TellsError (plain_error is.ResourceUnknown) stored answer
      → LeadsTo stands a a (FindsResource stored None (Err answer))
  resource_broken a stored answer tells old is = (old, is, FindsResource.broken answer old tells)

  -- the resource is found, and then this is done
  pub with_found : (a b c : X) (stored id : Option ℕ) (Next : ℕ → Doing) (answer : Handled) (resource : ℕ)
      → LeadsTo stands a b (FindsResource stored id (Ok resource)) → LeadsTo stands b c (Next resource answer) → LeadsTo stands a c (WithResource stored id Next answer)
  with_found a b c stored id Next answer resource first leads old is =
      let mid = first old is in
      let new = leads mid.0 mid.1 in
      (new.0, new.1, WithResource.found resource mid.0 mid.2 new.2)

  -- it isn't
  pub with_none : (a b : X) (stored id : Option ℕ) (Next : ℕ → Doing) (answer : Handled)
      → LeadsTo stands a b (FindsResource stored id (Err answer)) → LeadsTo stands a b (WithResource stored id Next answer)
  with_none a b stored id Next answer leads old is =
      let new = leads old is in
      (new.0, new.1, WithResource.refused new.2)

  -- ---- those that it has

  pub lists_its_metrics : (a b : X) (resource : ℕ) (result : Result Reply ControlFault) (answer : Handled)
      → LeadsTo stands a b (Controls commands.ListMetrics result) → TellsItsMetrics resource result answer → LeadsTo stands a b (ListsItsMetrics resource answer)
  lists_its_metrics a b resource result answer leads tells old is =
      let new = leads old is in
      (new.0, new.1, record { result = result; controls = new.2; tells = tells })

  -- ---- new ones

  pub adds_none : (a : X) (resource : ℕ) → LeadsTo stands a a (AddsEach resource [] [])
  adds_none a resource old is = (old, is, AddsEach.none old)

  pub adds_more : (a b c : X) (resource : ℕ) (members : List NamedPolicy) (member : NamedPolicy) (documents : List Data) (reply : Reply)
      → LeadsTo stands a b (AddsEach resource members documents) → LeadsTo stands b c (Controls (member_command resource member) (Ok reply))
      → LeadsTo stands a c (AddsEach resource (members ++ member ∷ []) (documents ++ documents_made reply))
  adds_more a b c resource members member documents reply first leads old is =
      let mid = first old is in
      let new = leads mid.0 mid.1 in
      (new.0, new.1, AddsEach.one_more members member documents reply old mid.0 new.0 mid.2 new.2)

  -- all are added
  pub adds_all : (a b : X) (resource : ℕ) (members : List NamedPolicy) (documents : List Data) (answer : Handled)
      → LeadsTo stands a b (AddsEach resource members documents) → AnswersWith answer Created [] (list_text documents)
      → LeadsTo stands a b (AddsMembers resource members answer)
  adds_all a b resource members documents answer leads tells old is =
      let new = leads old is in
      (new.0, new.1, AddsMembers.all documents new.2 tells)

  -- there is no memory
  pub adds_starved : (a b : X) (resource : ℕ) (members front rest : List NamedPolicy) (documents : List Data) (answer : Handled)
      → members ≡ front ++ rest → LeadsTo stands a b (AddsEach resource front documents) → IsNoMemory answer
      → LeadsTo stands a b (AddsMembers resource members answer)
  adds_starved a b resource members front rest documents answer whole leads starved old is =
      let new = leads old is in
      (new.0, new.1, AddsMembers.starved front rest documents whole new.2 starved)

  -- it ends at a member
  adds_to : (resource : ℕ) (members front : List NamedPolicy) (member : NamedPolicy) (rest : List NamedPolicy) (documents : List Data) (answer : Handled) (stop : AddStop) (old mid new : SeenBooks)
      → members ≡ front ++ member ∷ rest → AddsEach resource front documents old mid → StopsAdding resource member stop mid new
      → (stop ≡ Starved → IsNoMemory answer) → ((fault : ControlFault) → stop ≡ Refused fault → TellsError (control_error Both fault) (Some (length front)) answer)
      → AddsMembers resource members answer old new
  adds_to resource members front member rest documents answer Starved old mid _ whole first (StopsAdding.before_it _) starved refused =
      AddsMembers.starved front (member ∷ rest) documents whole first (starved refl)
  adds_to resource members front member rest documents answer Starved old mid new whole first (StopsAdding.behind_it reply _ _ controls) starved refused =
      AddsMembers.starved (front ++ member ∷ []) rest (documents ++ documents_made reply) (whole ∙ sym (append_assoc front (member ∷ []) rest))
      (AddsEach.one_more front member documents reply old mid new first controls) (starved refl)
  adds_to resource members front member rest documents answer (Refused fault) old mid new whole first (StopsAdding.at_it _ _ _ controls) starved refused =
      AddsMembers.refused front member rest documents mid fault whole first controls (refused fault refl)

  pub adds_up_to : (a b c : X) (resource : ℕ) (members front : List NamedPolicy) (member : NamedPolicy) (rest : List NamedPolicy) (documents : List Data) (answer : Handled) (stop : AddStop)
      → members ≡ front ++ member ∷ rest → LeadsTo stands a b (AddsEach resource front documents) → LeadsTo stands b c (StopsAdding resource member stop)
      → (stop ≡ Starved → IsNoMemory answer) → ((fault : ControlFault) → stop ≡ Refused fault → TellsError (control_error Both fault) (Some (length front)) answer)
      → LeadsTo stands a c (AddsMembers resource members answer)
  adds_up_to a b c resource members front member rest documents answer stop whole first leads starved refused old is =
      let mid = first old is in
      let new = leads mid.0 mid.1 in
      (new.0, new.1, adds_to resource members front member rest documents answer stop old mid.0 new.0 whole mid.2 new.2 starved refused)

  pub stops_before : (a : X) (resource : ℕ) (member : NamedPolicy) → LeadsTo stands a a (StopsAdding resource member Starved)
  stops_before a resource member old is = (old, is, StopsAdding.before_it old)

  pub stops_behind_it : (a b : X) (resource : ℕ) (member : NamedPolicy) (reply : Reply) → LeadsTo stands a b (Controls (member_command resource member) (Ok reply))
      → LeadsTo stands a b (StopsAdding resource member Starved)
  stops_behind_it a b resource member reply leads old is =
      let new = leads old is in
      (new.0, new.1, StopsAdding.behind_it reply old new.0 new.2)

  pub stops_at_it : (a b : X) (resource : ℕ) (member : NamedPolicy) (fault : ControlFault) → LeadsTo stands a b (Controls (member_command resource member) (Err fault))
      → LeadsTo stands a b (StopsAdding resource member (Refused fault))
  stops_at_it a b resource member fault leads old is =
      let new = leads old is in
      (new.0, new.1, StopsAdding.at_it fault old new.0 new.2)

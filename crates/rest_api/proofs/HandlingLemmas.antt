-- A request, from its route to its answer.
use Rattle.std.proofs.Common.{◌≡◌, ℕ, ◌==◌, ◌||◌, Bool, true, false, MatchBool, List, length, None, refl, sym, subst, inl, inr}
use Rattle.front_api.specs.Seen.{LeadsTo, SeenBooks}
use Rattle.rest_api.specs.Doing.{RefusesAtOnce, TellsError}
use Rattle.rest_api.specs.Handling.{Handles, OnFound, OnRoute, OnRouting, has_query}
use Rattle.rest_replies.specs.Error.{plain_error}
use Rattle.rest_replies.specs.ErrorBody.{error_text}
use Rattle.rest_replies.specs.Handled.{AnswersWith, IsNoMemory}
use Rattle.rest_replies.specs.declared.code.ErrorCode.TheVariants as is
use Rattle.rest_replies.specs.declared.handled.Handled.{Handled}
use Rattle.rest_replies.specs.declared.status.HttpStatus.TheVariants.{MethodNotAllowed}
use Rattle.rest_routes.specs.Routes.{Routing, found, no_method, no_route, routing_of}
use Rattle.rest_routes.specs.declared.method.Method.{Method}
use Rattle.rest_routes.specs.declared.route.Route.{Route}

module _ {X : Type 0} (stands : X → SeenBooks → Type 0) where
  -- ---- a request

  module _ (method target body : List ℕ) where
    -- its route is found, and what that does is done
    pub handles_found : (a b : X) (route : Route) (named : Method) (query : List ℕ) (answer : Handled) → routing_of method target ≡ found route named query
        → LeadsTo stands a b (OnFound route named query body answer) → LeadsTo stands a b (Handles method target body answer)
    handles_found a b route named query answer is-routed leads old stood =
        let new = leads old stood in
        (new.0, new.1, inl (subst (λ (r : Routing). OnRouting r body answer old new.0) (sym is-routed) new.2))

    -- there is none
    pub handles_no_route : (a : X) (answer : Handled) → routing_of method target ≡ no_route → TellsError (plain_error is.NoRoute) None answer
        → LeadsTo stands a a (Handles method target body answer)
    handles_no_route a answer is-routed tells old stood =
        (old, stood, inl (subst (λ (r : Routing). OnRouting r body answer old old) (sym is-routed) (refl, tells)))

    -- it lacks the method
    pub handles_no_method : (a : X) (answer : Handled) (allow : List ℕ) → routing_of method target ≡ no_method allow
        → AnswersWith answer MethodNotAllowed allow (error_text is.NoMethod None None) → LeadsTo stands a a (Handles method target body answer)
    handles_no_method a answer allow is-routed tells old stood =
        (old, stood, inl (subst (λ (r : Routing). OnRouting r body answer old old) (sym is-routed) (refl, tells)))

    -- there was no memory for its parameters
    pub handles_no_memory : (a : X) (answer : Handled) → IsNoMemory answer → LeadsTo stands a a (Handles method target body answer)
    handles_no_memory a answer starved old stood = (old, stood, inr (refl, starved))

  -- ---- the query

  module _ (route : Route) (method : Method) (query body : List ℕ) where
    -- it may be asked
    pub found_asks : (a b : X) (answer : Handled) → (has_query route method || (length query == 0)) ≡ true
        → LeadsTo stands a b (OnRoute route method query body answer) → LeadsTo stands a b (OnFound route method query body answer)
    found_asks a b answer may leads old stood =
        let new = leads old stood in
        (new.0, new.1, subst (λ (x : Bool). MatchBool x (OnRoute route method query body answer old new.0) (RefusesAtOnce (plain_error is.BadQuery) None answer old new.0)) (sym may) new.2)

    -- it is bad
    pub found_refuses : (a : X) (answer : Handled) → (has_query route method || (length query == 0)) ≡ false
        → TellsError (plain_error is.BadQuery) None answer → LeadsTo stands a a (OnFound route method query body answer)
    found_refuses a answer may-not tells old stood =
        let refuses : RefusesAtOnce (plain_error is.BadQuery) None answer old old = (refl, tells) in
        (old, stood, subst (λ (x : Bool). MatchBool x (OnRoute route method query body answer old old) (RefusesAtOnce (plain_error is.BadQuery) None answer old old)) (sym may-not) refuses)

-- What stands once a call has answered Ok.
use Rattle.std.proofs.Common.{◌≡◌, ℕ, true, false, cond, List, [], ◌∷◌, ◌++◌, Option, Some, None, refl, sym, ap, subst, ◌∙◌, append-nil, append_assoc}
use Rattle.std.specs.Option.{IfSome, is_some, option_map}
use Rattle.std.specs.List.{Contains}
use Rattle.std.specs.declared.result.Result.{Result}
use Rattle.std.specs.declared.result.Result.TheVariants.{Ok, Err}
use Rattle.std.proofs.lemmas.Bool.{eq-eqb}
use Rattle.std.proofs.lemmas.List.Elements.{Contains-append_right}
use Rattle.archive_policy.specs.Policies.{ArchivePolicy}
use Rattle.series_model.specs.declared.answer.Row.{Row}
use Rattle.series_model.specs.declared.measure.Measure.{Measure}
use Rattle.series_model.specs.declared.metric.MetricId.{MetricId}
use Rattle.series_model.specs.declared.query.Query.{Query}
use Rattle.series_model.proofs.Members.{Contains-here}
use Rattle.bound_series.specs.Jobs.{PreparedView}
use Rattle.sack_history.specs.declared.entry.Counted.{Counted}
use Rattle.sack_history.specs.declared.entry.Counted.TheVariants as counted
use Rattle.sack_history.specs.declared.entry.Entry.{Entry}
use Rattle.sack_history.specs.declared.entry.Entry.TheVariants as entries
use Rattle.sack_history.specs.declared.holding.HeldClaim.{HeldClaim}
use Rattle.sack_history.specs.Answering.{answer_rows}
use Rattle.sack_history.specs.Calls.{AnswersNow, CommitsNow, CreatesNow, DrainsNow, DropsNow, GivesCommit, IsAnswering, IsCommitting, IsCreating, IsDraining, IsDropping, IsPosting, IsRefreshing, PostsNow, RefreshesNow, done_or_look}
use Rattle.sack_history.specs.Entries.{kept}
use Rattle.sack_history.specs.Failing.{Failure, IsMounted, whole, mounted, unmounted, IsOutcome, given, refused, failed}
use Rattle.sack_history.specs.Holding.{held_after, held_claim}
use Rattle.sack_history.specs.Legal.{IsLegal, MayComeNext, MayProcess}
use Rattle.sack_history.specs.Lives.{Life, Posted, all_posts, done_in, done_of, done_up_to, is_live, life_of, pending_of, pending_posts}
use Rattle.sack_history.specs.Turns.{drain_turns, refresh_turns}
use Rattle.sack_history.proofs.Draining.{drains, refreshes}
use Rattle.sack_history.proofs.Following.{FollowOn-more}
use Rattle.sack_history.proofs.Held.{held-more, holds_well}
use Rattle.sack_history.proofs.Keeping.{kept-all_counted, kept-counted, kept-noted, kept_legal}
use Rattle.sack_history.proofs.Living.{all_posts-more, life-created, life-done, life-dropped}

ok_err : {T F : Type 0} (t : T) (f : F) → (let r : Result T F = Ok t in r) ≡ Err f → ⊥
ok_err t f is = cc

same_ok : {T F : Type 0} (t u : T) → (let r : Result T F = Ok t in r) ≡ Ok u → t ≡ u
same_ok t u is = cc

-- an outcome that is Ok was given
ok_given : {T F : Type 0} (Gives : T → List Entry → Type 0) (Refuses : F → Type 0) (Fails : Failure → List Entry → Type 0) (fault : Failure → F) (m : Option MetricId) (value : T) (own : List Entry)
    → IsOutcome Gives Refuses Fails fault m (Ok value) own → Gives value own
ok_given Gives Refuses Fails fault m value own (given v g is) = subst (λ x. Gives x own) (sym (same_ok value v is)) g
ok_given Gives Refuses Fails fault m value own (refused f r look is) = absurd (ok_err value f is)
ok_given Gives Refuses Fails fault m value own (failed failure f is) = absurd (ok_err value (fault failure) is)

-- What a call that mounted, or had no need to, added behind that.
record Acted (sack : ℕ) (Own : List Entry → List Entry → Type 0) (before own : List Entry) : Type 0 where
  now : List Entry
  rest : List Entry
  parts : before ++ own ≡ now ++ rest
  legal : IsLegal sack now
  own_is : Own now rest

acted : (sack : ℕ) (m : Option MetricId) (Own : List Entry → List Entry → Type 0) (Fails : Failure → Type 0) (before own : List Entry) → IsLegal sack before → ((failure : Failure) → Fails failure → ⊥)
    → IsMounted m Own Fails before own → Acted sack Own before own
acted sack m Own Fails before own legal never (whole w o) = record { now = before; rest = own; parts = refl; legal = legal; own_is = o }
acted sack m Own Fails before own legal never (mounted found rest may is o) = record {
  now = before ++ entries.Reopened found ∷ [];
  rest = rest;
  parts = ap (λ l. before ++ l) is ∙ sym (append_assoc before (entries.Reopened found ∷ []) rest);
  legal = FollowOn-more (MayComeNext sack) before (entries.Reopened found) legal may;
  own_is = o;
}
acted sack m Own Fails before own legal never (unmounted failure b f r) = absurd (never failure r)

-- what counts, once one thing more does
kept_one : (now rest : List Entry) (c : Counted) → rest ≡ entries.Counted c ∷ [] → kept (now ++ rest) ≡ kept now ++ c ∷ []
kept_one now rest c is = ap (λ l. kept (now ++ l)) is ∙ kept-counted now c

-- and once turns do
kept_turns : (now rest : List Entry) (m : Option MetricId) (turns : List Counted) → rest ≡ done_or_look m turns → kept (now ++ rest) ≡ kept now ++ turns
kept_turns now rest m [] is = ap (λ l. kept (now ++ l)) is ∙ kept-noted now (entries.Look m) refl refl ∙ sym (append-nil (kept now))
kept_turns now rest m (c ∷ turns) is = ap (λ l. kept (now ++ l)) is ∙ kept-all_counted now (c ∷ turns)

module _ (sack : ℕ) (before own : List Entry) (legal : IsLegal sack before) where
  pub created_ok : (m : MetricId) (policy : ArchivePolicy) (value : Unit {0}) → IsCreating m policy (Ok value) before own → is_live m (kept (before ++ own)) ≡ true
  created_ok m policy value call =
      let a = acted sack (Some m) (CreatesNow m policy (Ok value)) _ before own legal (λ failure is. ok_err value _ is) call in
      let g = ok_given _ _ _ _ _ value a.rest a.own_is in
      ap (λ l. is_live m (kept l)) a.parts ∙ ap (is_live m) (kept_one a.now a.rest (counted.Create m policy) g.1) ∙ ap is_some (life-created m policy (kept a.now))

  pub dropped_ok : (m : MetricId) (value : Unit {0}) → IsDropping m (Ok value) before own → is_live m (kept (before ++ own)) ≡ false
  dropped_ok m value call =
      let a = acted sack (Some m) (DropsNow m (Ok value)) _ before own legal (λ failure is. ok_err value _ is) call in
      let g = ok_given _ _ _ _ _ value a.rest a.own_is in
      ap (λ l. is_live m (kept l)) a.parts ∙ ap (is_live m) (kept_one a.now a.rest (counted.Drop m) g.1) ∙ ap is_some (life-dropped m (kept a.now))

  pub posted_ok : (m : MetricId) (measures : List Measure) (number : ℕ) → IsPosting m measures (Ok number) before own → Contains (all_posts (kept (before ++ own))) (record { number = number; metric = m; measures = measures })
  posted_ok m measures number call =
      let p : Posted = record { number = number; metric = m; measures = measures } in
      let a = acted sack (Some m) (PostsNow m measures (Ok number)) _ before own legal (λ failure is. ok_err number _ is) call in
      let g = ok_given _ _ _ _ _ number a.rest a.own_is in
      let posts : all_posts (kept (before ++ own)) ≡ all_posts (kept a.now) ++ p ∷ [] = ap (λ l. all_posts (kept l)) a.parts ∙ ap all_posts (kept_one a.now a.rest (counted.Post number m measures) g.1.1) ∙ all_posts-more (kept a.now) (counted.Post number m measures) in
      subst (λ l. Contains l p) (sym posts) (Contains-append_right (all_posts (kept a.now)) (p ∷ []) p (Contains-here p [] p refl))

  pub answered_ok : (m : MetricId) (query : Query) (rows : List Row) → IsAnswering m query (Ok rows) before own → rows ≡ answer_rows m query (kept (before ++ own))
  answered_ok m query rows call =
      let a = acted sack (Some m) (AnswersNow m query (Ok rows)) _ before own legal (λ failure is. ok_err rows _ is) call in
      let g = ok_given _ _ _ _ _ rows a.rest a.own_is in
      g.1.0 ∙ sym (ap (λ l. answer_rows m query (kept l)) a.parts ∙ ap (λ l. answer_rows m query (kept (a.now ++ l))) g.1.1 ∙ ap (answer_rows m query) (kept-noted a.now (entries.Look (Some m)) refl refl))

  pub committed_ok : (p : PreparedView) (done : ℕ) → IsCommitting p (Ok done) before own → (done_of p.job.metric (kept (before ++ own)) ≡ done) × (held_claim (before ++ own) ≡ None)
  committed_ok p done call =
      let a = acted sack (Some p.job.metric) (CommitsNow p (Ok done)) _ before own legal (λ failure is. ok_err done _ is) call in
      let g : GivesCommit p a.now done a.rest = ok_given _ _ _ _ _ done a.rest a.own_is in
      let c = counted.Done p.job.metric p.job.upto in
      let live = subst (λ o. IfSome o (λ (x : HeldClaim). is_live x.metric (kept a.now) ≡ true)) g.0.1.held (usable a.now a.legal) in (
        ap (λ l. done_of p.job.metric (kept l)) a.parts ∙ ap (done_of p.job.metric) (kept_one a.now a.rest c g.2) ∙ ap done_in (life-done p.job.metric p.job.upto (kept a.now))
            ∙ now_done p.job.upto (life_of p.job.metric (kept a.now)) (ap (λ (m : MetricId). is_live m (kept a.now)) g.0.2.metric ∙ live) ∙ sym g.1,
        ap held_claim a.parts ∙ ap (λ l. held_claim (a.now ++ l)) g.2 ∙ held-more a.now (entries.Counted c) ∙ ap (λ o. held_after o (entries.Counted c)) g.0.1.held
            ∙ ap (λ b. cond b None (Some g.0.0)) (eq-eqb p.job.metric.0 g.0.0.metric.0 (ap (λ (m : MetricId). m.0) g.0.2.metric)),
      )
    where
      now_done : (u : ℕ) (o : Option Life) → is_some o ≡ true → done_in (option_map (done_up_to u) o) ≡ u
      now_done u None live = cc
      now_done u (Some life) live = refl

      usable : (now : List Entry) → IsLegal sack now → IfSome (held_claim now) (λ (x : HeldClaim). is_live x.metric (kept now) ≡ true)
      usable now l = by (held_claim now) (holds_well sack now l).usable
        where
          by : (o : Option HeldClaim) → IfSome o (λ (x : HeldClaim). MayProcess (kept now) x.metric x.upto) → IfSome o (λ (x : HeldClaim). is_live x.metric (kept now) ≡ true)
          by None u = tt
          by (Some x) u = u.live

  pub refreshed_ok : (m : MetricId) (done : ℕ) → IsRefreshing m (Ok done) before own → (pending_of m (kept (before ++ own)) ≡ []) × (done ≡ done_of m (kept (before ++ own)))
  refreshed_ok m done call =
      let a = acted sack (Some m) (RefreshesNow m (Ok done)) _ before own legal (λ failure is. ok_err done _ is) call in
      let g = ok_given _ _ _ _ _ done a.rest a.own_is in
      let turns = refresh_turns m (kept a.now) in
      let is : kept (before ++ own) ≡ kept a.now ++ turns = ap kept a.parts ∙ kept_turns a.now a.rest (Some m) turns g.2 in
      (ap (pending_of m) is ∙ (refreshes m (kept a.now) (kept_legal sack a.now a.legal)).nothing, g.1 ∙ sym (ap (done_of m) is))

  pub drained_ok : (number : ℕ) → IsDraining (Ok number) before own → pending_posts (kept (before ++ own)) ≡ []
  drained_ok number call =
      let a = acted sack None (DrainsNow (Ok number)) _ before own legal (λ failure is. ok_err number _ is) call in
      let g = ok_given _ _ _ _ _ number a.rest a.own_is in
      let turns = drain_turns (kept a.now) in
      ap pending_posts (ap kept a.parts ∙ kept_turns a.now a.rest None turns g.1) ∙ (drains (kept a.now) (kept_legal sack a.now a.legal)).nothing

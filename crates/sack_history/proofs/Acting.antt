-- What a call adds to a legal history keeps it legal.
use Rattle.std.proofs.Common.{◌≡◌, ℕ, zero, suc, ◌≤◌, Bool, true, false, cond, List, [], ◌∷◌, ◌++◌, length, take, drop, Option, Some, None, refl, sym, ap, subst, ◌∙◌, append-nil, append_assoc}
use Rattle.std.specs.Option.{IfSome, is_some, option_map}
use Rattle.std.specs.List.{slice_get}
use Rattle.std.specs.declared.result.Result.{Result}
use Rattle.std.specs.declared.result.Result.TheVariants.{Ok, Err}
use Rattle.std.proofs.Math.Logic.{⊎_elim}
use Rattle.std.proofs.lemmas.List.{take-append-drop}
use Rattle.std.proofs.lemmas.Option.{none-some, same_Some}
use Rattle.archive_policy.specs.Policies.{ArchivePolicy, IsArchivePolicy}
use Rattle.series_model.specs.declared.answer.Row.{Row}
use Rattle.series_model.specs.declared.measure.Measure.{Measure}
use Rattle.series_model.specs.declared.metric.MetricId.{MetricId}
use Rattle.series_model.specs.declared.query.Query.{Query}
use Rattle.series_model.specs.declared.ticket.Ticket.{Ticket}
use Rattle.bound_series.specs.Jobs.{PreparedView}
use Rattle.sack_history.specs.declared.entry.Counted.{Counted}
use Rattle.sack_history.specs.declared.entry.Counted.TheVariants as counted
use Rattle.sack_history.specs.declared.entry.Entry.{Entry}
use Rattle.sack_history.specs.declared.entry.Entry.TheVariants as entries
use Rattle.sack_history.specs.declared.fault.AnswerFault.{AnswerFault}
use Rattle.sack_history.specs.declared.fault.Claim.{Claim}
use Rattle.sack_history.specs.declared.fault.Claim.TheVariants as claims
use Rattle.sack_history.specs.declared.fault.CommitFault.{CommitFault}
use Rattle.sack_history.specs.declared.fault.CreateFault.{CreateFault}
use Rattle.sack_history.specs.declared.fault.CreateFault.TheVariants as create_fault
use Rattle.sack_history.specs.declared.fault.ReleaseFault.{ReleaseFault}
use Rattle.sack_history.specs.declared.fault.ReleaseFault.TheVariants as release_fault
use Rattle.sack_history.specs.declared.fault.SackFault.{SackFault}
use Rattle.sack_history.specs.declared.fault.SackFault.TheVariants as sack_fault
use Rattle.sack_history.specs.Calls.{FailsAmong, GivesClaim, IsAnswering, IsClaiming, IsCommitting, IsCreating, IsDraining, IsDropping, IsJobOf, IsPosting, IsRefreshing, IsReleasing, CreatesNow, DropsNow, PostsNow, AnswersNow, ClaimsNow, CommitsNow, RefreshesNow, DrainsNow, create_refusal, post_refusal, done_or_look, unknown}
use Rattle.sack_history.specs.Entries.{all_counted, kept}
use Rattle.sack_history.specs.Failing.{Failure, no_memory, on_disk, damage, FailsBehind, IsMounted, whole, mounted, unmounted, IsOutcome, given, refused, failed, IsTried, MayFail}
use Rattle.sack_history.specs.declared.holding.HeldClaim.{HeldClaim}
use Rattle.sack_history.specs.Holding.{held_claim, is_broken}
use Rattle.sack_history.specs.Legal.{FollowOn, IsLegal, MayComeNext, MayCount, MayHaveTried, MayProcess}
use Rattle.sack_history.specs.Lives.{Life, is_live, life_of, next_post}
use Rattle.sack_history.specs.Turns.{drain_turns, refresh_turns}
use Rattle.sack_history.proofs.Draining.{drains, refreshes}
use Rattle.sack_history.proofs.Following.{FollowOn-append, FollowOn-front, FollowOn-more, FollowOn-rest}
use Rattle.sack_history.proofs.Held.{holds_well}
use Rattle.sack_history.proofs.Keeping.{broken-more, kept-all_counted, kept-counted, kept_legal, whole_tried}

-- the item at a place may follow those in front of it
follows_at : {X : Type 0} (May : List X → X → Type 0) (before xs : List X) (k : ℕ) (x : X) → FollowOn May before xs → slice_get xs k ≡ Some x → May (before ++ take k xs) x
follows_at May before [] k x h there = absurd (none-some x there)
follows_at May before (y ∷ xs) zero x h there = subst (λ b. May b x) (sym (append-nil before)) (subst (May before) (same_Some y x there) h.0)
follows_at May before (y ∷ xs) (suc k) x h there = subst (λ b. May b x) (append_assoc before (y ∷ []) (take k xs)) (follows_at May (before ++ y ∷ []) xs k x h.1 there)

module _ (sack : ℕ) where
  -- these entries may follow
  abbrev Next : List Entry → List Entry → Type 0
  Next now own = FollowOn (MayComeNext sack) now own

  look_next : (now own : List Entry) (m : Option MetricId) → own ≡ entries.Look m ∷ [] → Next now own
  look_next now own m is = subst (Next now) (sym is) (tt, tt)

  -- what counts may follow a book that isn't broken
  pub counts_next : (now : List Entry) (cs : List Counted) → is_broken now ≡ false → FollowOn MayCount (kept now) cs → Next now (all_counted cs)
  counts_next now [] w h = tt
  counts_next now (c ∷ cs) w h =
      let e = entries.Counted c in (
        record { whole = w; counts = h.0 },
        counts_next (now ++ e ∷ []) cs (broken-more now e ∙ w) (subst (λ b. FollowOn MayCount b cs) (sym (kept-counted now c)) h.1),
      )

  still_whole : (now : List Entry) (cs : List Counted) → is_broken now ≡ false → is_broken (now ++ all_counted cs) ≡ false
  still_whole now [] w = ap is_broken (append-nil now) ∙ w
  still_whole now (c ∷ cs) w =
      ap is_broken (sym (append_assoc now (entries.Counted c ∷ []) (all_counted cs))) ∙ still_whole (now ++ entries.Counted c ∷ []) cs (broken-more now (entries.Counted c) ∙ w)

  one_next : (now own : List Entry) (c : Counted) → is_broken now ≡ false → MayCount (kept now) c → own ≡ entries.Counted c ∷ [] → Next now own
  one_next now own c w may is = subst (Next now) (sym is) (record { whole = w; counts = may }, tt)

  -- ---- failures

  tried_next : (h : List Entry) (next tried : Option Counted) → is_broken h ≡ false → IfSome next (MayCount (kept h)) → IsTried next tried → IfSome tried (MayHaveTried h)
  tried_next h next tried w may is =
      ⊎_elim
      (λ none. subst (λ o. IfSome o (MayHaveTried h)) (sym none) tt)
      (λ same. subst (λ o. IfSome o (MayHaveTried h)) (sym same) (by next may))
      is
    where
      by : (o : Option Counted) → IfSome o (MayCount (kept h)) → IfSome o (MayHaveTried h)
      by None m = tt
      by (Some c) m = record { only = whole_tried h w; counts = m }

  fails_next : (now : List Entry) (done : List Counted) (next : Option Counted) (m : Option MetricId) (failure : Failure) (own : List Entry) → is_broken now ≡ false
      → Next now (all_counted done) → IfSome next (MayCount (kept now ++ done)) → FailsBehind done next m failure own → Next now own
  fails_next now done next m no_memory own w h may f = subst (Next now) (sym f) (FollowOn-append (MayComeNext sack) now (all_counted done) (entries.Look m ∷ []) h (tt, tt))
  fails_next now done next m (on_disk d) own w h may f =
      subst (Next now) (sym f.1.2)
      (FollowOn-append (MayComeNext sack) now (all_counted done) (entries.Fault f.1.0 d.before d.after ∷ []) h
      (tried_next (now ++ all_counted done) next f.1.0 (still_whole now done w) (subst (λ l. IfSome next (MayCount l)) (sym (kept-all_counted now done)) may) f.1.1, tt))
  fails_next now done next m (damage d) own w h may f =
      subst (Next now) (sym f.3) (FollowOn-append (MayComeNext sack) now (all_counted done) (entries.Fault None f.0 f.1 ∷ []) h (tt, tt))

  -- nothing was tried
  fails_bare : (now : List Entry) (m : Option MetricId) (failure : Failure) (own : List Entry) → FailsBehind [] None m failure own → Next now own
  fails_bare now m no_memory own f = look_next now own m f
  fails_bare now m (on_disk d) own f = subst (Next now) (sym f.1.2) (subst (λ o. IfSome o (MayHaveTried now)) (sym (⊎_elim (λ a. a) (λ b. b) f.1.1)) tt, tt)
  fails_bare now m (damage d) own f = subst (Next now) (sym f.3) (tt, tt)

  -- ---- mounting

  mounts_next : (m : Option MetricId) (Own : List Entry → List Entry → Type 0) (Fails : Failure → Type 0) (before own : List Entry) → IsLegal sack before
      → ((now rest : List Entry) → IsLegal sack now → is_broken now ≡ false → Own now rest → Next now rest) → IsMounted m Own Fails before own → Next before own
  mounts_next m Own Fails before own legal step (whole w o) = step before own legal w o
  mounts_next m Own Fails before own legal step (mounted found rest may is o) =
      let e = entries.Reopened found in
      subst (Next before) (sym is) (may, step (before ++ e ∷ []) rest (FollowOn-more (MayComeNext sack) before e legal may) (broken-more before e) o)
  mounts_next m Own Fails before own legal step (unmounted failure b f r) = fails_bare before m failure own f

  -- what a call adds that adds one entry to what counts, which may come where the call isn't refused
  simple_next : {T F : Type 0} (refusal : Option F) (fault : Failure → F) (m : Option MetricId) (c : Counted) (Gives : T → List Entry → Type 0) (result : Result T F) (now own : List Entry)
      → is_broken now ≡ false → (refusal ≡ None → MayCount (kept now) c) → ((value : T) → Gives value own → own ≡ entries.Counted c ∷ [])
      → IsOutcome (λ value added. (refusal ≡ None) × Gives value added) (λ f. refusal ≡ Some f) (λ failure added. MayFail (refusal ≡ None) failure × FailsBehind [] (Some c) m failure added) fault m result own
      → Next now own
  simple_next refusal fault m c Gives result now own w may gives (given value g is) = one_next now own c w (may g.0) (gives value g.1)
  simple_next refusal fault m c Gives result now own w may gives (refused f r look is) = look_next now own m look
  simple_next refusal fault m c Gives result now own w may gives (failed failure f is) = by failure f
    where
      by : (failure : Failure) → MayFail (refusal ≡ None) failure × FailsBehind [] (Some c) m failure own → Next now own
      by no_memory f = look_next now own m f.1
      by (on_disk d) f = fails_next now [] (Some c) m (on_disk d) own w tt (subst (λ l. MayCount l c) (sym (append-nil (kept now))) (may f.0)) f.1
      by (damage d) f = fails_next now [] (Some c) m (damage d) own w tt (subst (λ l. MayCount l c) (sym (append-nil (kept now))) (may f.0)) f.1

  -- ---- each call

  pub creating_next : (m : MetricId) (policy : ArchivePolicy) (result : Result (Unit {0}) CreateFault) (before own : List Entry) → IsArchivePolicy policy → IsLegal sack before → IsCreating m policy result before own → Next before own
  creating_next m policy result before own is_policy legal call = mounts_next (Some m) (CreatesNow m policy result) _ before own legal step call
    where
      absent : (counts : List Counted) → create_refusal m counts ≡ None → life_of m counts ≡ None
      absent counts is = by (life_of m counts) is
        where
          by : (o : Option Life) → cond (is_some o) (Some create_fault.Exists) None ≡ None → o ≡ None
          by None is = refl
          by (Some life) is = absurd (none-some create_fault.Exists (sym is))

      step : (now rest : List Entry) → IsLegal sack now → is_broken now ≡ false → CreatesNow m policy result now rest → Next now rest
      step now rest legal w o = simple_next (create_refusal m (kept now)) _ (Some m) (counted.Create m policy) _ result now rest w (λ none. record { absent = absent (kept now) none; policy_is = is_policy }) (λ value is. is) o

  live_if : (m : MetricId) (counts : List Counted) → unknown m counts ≡ None → is_live m counts ≡ true
  live_if m counts is = by (is_live m counts) is
    where
      by : (b : Bool) → cond b None (Some sack_fault.Unknown) ≡ None → b ≡ true
      by true is = refl
      by false is = absurd (none-some sack_fault.Unknown (sym is))

  pub dropping_next : (m : MetricId) (result : Result (Unit {0}) SackFault) (before own : List Entry) → IsLegal sack before → IsDropping m result before own → Next before own
  dropping_next m result before own legal call = mounts_next (Some m) (DropsNow m result) _ before own legal step call
    where
      step : (now rest : List Entry) → IsLegal sack now → is_broken now ≡ false → DropsNow m result now rest → Next now rest
      step now rest legal w o = simple_next (unknown m (kept now)) _ (Some m) (counted.Drop m) _ result now rest w (live_if m (kept now)) (λ value is. is) o

  pub posting_next : (m : MetricId) (measures : List Measure) (result : Result ℕ SackFault) (before own : List Entry) → length measures ≤ 50000 → IsLegal sack before → IsPosting m measures result before own → Next before own
  posting_next m measures result before own few legal call = mounts_next (Some m) (PostsNow m measures result) _ before own legal step call
    where
      live : (counts : List Counted) → post_refusal m counts ≡ None → is_live m counts ≡ true
      live counts is = by (is_live m counts) _ is
        where
          by : (b : Bool) (spent : Option SackFault) → cond b spent (Some sack_fault.Unknown) ≡ None → b ≡ true
          by true spent is = refl
          by false spent is = absurd (none-some sack_fault.Unknown (sym is))

      step : (now rest : List Entry) → IsLegal sack now → is_broken now ≡ false → PostsNow m measures result now rest → Next now rest
      step now rest legal w o =
          simple_next (post_refusal m (kept now)) _ (Some m) (counted.Post (next_post (kept now)) m measures) _ result now rest w
          (λ none. record { number_is = refl; live = live (kept now) none; few = few })
          (λ number g. g.1 ∙ ap (λ n. entries.Counted (counted.Post n m measures) ∷ []) g.0) o

  pub answering_next : (m : MetricId) (query : Query) (result : Result (List Row) AnswerFault) (before own : List Entry) → IsLegal sack before → IsAnswering m query result before own → Next before own
  answering_next m query result before own legal call = mounts_next (Some m) (AnswersNow m query result) _ before own legal step call
    where
      step : (now rest : List Entry) → IsLegal sack now → is_broken now ≡ false → AnswersNow m query result now rest → Next now rest
      step now rest legal w (given rows g is) = look_next now rest (Some m) g.1.1
      step now rest legal w (refused f r look is) = look_next now rest (Some m) look
      step now rest legal w (failed failure f is) = fails_bare now (Some m) failure rest f.1

  pub claiming_next : (result : Result Claim SackFault) (before own : List Entry) → IsLegal sack before → IsClaiming sack result before own → Next before own
  claiming_next result before own legal call = mounts_next None (ClaimsNow sack result) _ before own legal step call
    where
      gives : (now rest : List Entry) (value : Claim) → is_broken now ≡ false → GivesClaim sack now value rest → Next now rest
      gives now rest (claims.Held ticket) w g = look_next now rest None g.1
      gives now rest claims.Nothing w g = look_next now rest None g.2
      gives now rest (claims.Job job) w g =
          subst (Next now) (sym g.4) (record { whole = w; free = g.0.free; first = g.0.first; upto_is = g.2.upto; ticket_is = g.3 }, tt)

      step : (now rest : List Entry) → IsLegal sack now → is_broken now ≡ false → ClaimsNow sack result now rest → Next now rest
      step now rest legal w (given value g is) = gives now rest value w g
      step now rest legal w (refused f r look is) = look_next now rest None look
      step now rest legal w (failed failure f is) = fails_bare now None failure rest f.2

  -- the work of the held claim may be done
  own_may : (p : PreparedView) (now : List Entry) (claim : HeldClaim) → IsLegal sack now → held_claim now ≡ Some claim → IsJobOf claim (kept now) p.job → MayProcess (kept now) p.job.metric p.job.upto
  own_may p now claim legal held job =
      subst (λ m. MayProcess (kept now) m p.job.upto) (sym job.metric)
      (subst (MayProcess (kept now) claim.metric) (sym job.upto)
      (subst (λ o. IfSome o (λ (c : HeldClaim). MayProcess (kept now) c.metric c.upto)) held (holds_well sack now legal).usable))

  pub committing_next : (p : PreparedView) (result : Result ℕ CommitFault) (before own : List Entry) → IsLegal sack before → IsCommitting p result before own → Next before own
  committing_next p result before own legal call = mounts_next (Some p.job.metric) (CommitsNow p result) _ before own legal step call
    where
      step : (now rest : List Entry) → IsLegal sack now → is_broken now ≡ false → CommitsNow p result now rest → Next now rest
      step now rest legal w (given done g is) = one_next now rest (counted.Done p.job.metric p.job.upto) w (own_may p now g.0.0 legal g.0.1.held g.0.2) g.2
      step now rest legal w (refused f r look is) = look_next now rest (Some p.job.metric) look
      step now rest legal w (failed failure f is) =
          ⊎_elim (fails_bare now (Some p.job.metric) failure rest)
          (λ own. fails_next now [] (Some (counted.Done p.job.metric p.job.upto)) (Some p.job.metric) failure rest w tt
          (subst (λ l. MayProcess l p.job.metric p.job.upto) (sym (append-nil (kept now))) (own_may p now own.0.0 legal own.0.1.held own.0.2)) own.1)
          f.1

  pub releasing_next : (ticket : Ticket) (result : Result (Unit {0}) ReleaseFault) (before own : List Entry) → IsLegal sack before → IsReleasing ticket result before own → Next before own
  releasing_next ticket (Ok done) before own legal call = subst (Next before) (sym call.1) (record { whole = by (is_broken before) refl; holder = call.0 }, tt)
    where
      by : (b : Bool) → is_broken before ≡ b → is_broken before ≡ false
      by false is = is
      by true is =
          absurd (none-some ticket (sym (ap (option_map (λ (c : HeldClaim). c.ticket)) ((holds_well sack before legal).broken is)) ∙ call.0))
  releasing_next ticket (Err (release_fault.NotHolder asked holder)) before own legal call = look_next before own None call.3

  -- turns that may follow, or a look
  turns_next : (now own : List Entry) (m : Option MetricId) (turns : List Counted) → is_broken now ≡ false → FollowOn MayCount (kept now) turns → own ≡ done_or_look m turns → Next now own
  turns_next now own m [] w h is = look_next now own m is
  turns_next now own m (c ∷ turns) w h is = subst (Next now) (sym is) (counts_next now (c ∷ turns) w h)

  among_next : (now own : List Entry) (m : Option MetricId) (turns : List Counted) (failure : Failure) → is_broken now ≡ false → FollowOn MayCount (kept now) turns → FailsAmong turns m failure own → Next now own
  among_next now own m turns failure w h f =
      fails_next now (take f.0 turns) (slice_get turns f.0) m failure own w
      (counts_next now (take f.0 turns) w (FollowOn-front MayCount (kept now) (take f.0 turns) (drop f.0 turns) (subst (FollowOn MayCount (kept now)) (sym (take-append-drop f.0 turns)) h)))
      (by (slice_get turns f.0) refl) f.2
    where
      by : (o : Option Counted) → slice_get turns f.0 ≡ o → IfSome o (MayCount (kept now ++ take f.0 turns))
      by None is = tt
      by (Some c) is = follows_at MayCount (kept now) turns f.0 c h is

  pub refreshing_next : (m : MetricId) (result : Result ℕ SackFault) (before own : List Entry) → IsLegal sack before → IsRefreshing m result before own → Next before own
  refreshing_next m result before own legal call = mounts_next (Some m) (RefreshesNow m result) _ before own legal step call
    where
      turns_may : (now : List Entry) → IsLegal sack now → FollowOn MayCount (kept now) (refresh_turns m (kept now))
      turns_may now legal = FollowOn-rest MayCount [] (kept now) (refresh_turns m (kept now)) (refreshes m (kept now) (kept_legal sack now legal)).legal

      step : (now rest : List Entry) → IsLegal sack now → is_broken now ≡ false → RefreshesNow m result now rest → Next now rest
      step now rest legal w (given done g is) = turns_next now rest (Some m) (refresh_turns m (kept now)) w (turns_may now legal) g.2
      step now rest legal w (refused f r look is) = look_next now rest (Some m) look
      step now rest legal w (failed failure f is) = among_next now rest (Some m) (refresh_turns m (kept now)) failure w (turns_may now legal) f.1

  pub draining_next : (result : Result ℕ SackFault) (before own : List Entry) → IsLegal sack before → IsDraining result before own → Next before own
  draining_next result before own legal call = mounts_next None (DrainsNow result) _ before own legal step call
    where
      turns_may : (now : List Entry) → IsLegal sack now → FollowOn MayCount (kept now) (drain_turns (kept now))
      turns_may now legal = FollowOn-rest MayCount [] (kept now) (drain_turns (kept now)) (drains (kept now) (kept_legal sack now legal)).legal

      step : (now rest : List Entry) → IsLegal sack now → is_broken now ≡ false → DrainsNow result now rest → Next now rest
      step now rest legal w (given number g is) = turns_next now rest None (drain_turns (kept now)) w (turns_may now legal) g.1
      step now rest legal w (refused f r look is) = look_next now rest None look
      step now rest legal w (failed failure f is) = among_next now rest None (drain_turns (kept now)) failure w (turns_may now legal) f

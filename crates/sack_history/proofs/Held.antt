-- The work of a claim stays what it is while the claim is held.
use Rattle.std.proofs.Common.{◌≡◌, ℕ, zero, suc, ◌<◌, ◌≤◌, Bool, true, false, cond, eqb, leb, ltb, List, [], ◌∷◌, ◌++◌, map, take, Option, Some, None, refl, sym, ap, subst, ◌∙◌, append-nil, arith}
use Rattle.std.specs.Option.{IfSome, is_some, option_map}
use Rattle.std.specs.List.{Contains, filter, slice_get}
use Rattle.std.proofs.Math.Logic.{⊎_elim}
use Rattle.std.proofs.lemmas.Bool.{cases_eq, eq-eqb, ne_eqb, false≢true}
use Rattle.std.proofs.lemmas.List.Elements.{filter-append}
use Rattle.std.proofs.lemmas.List.Sums.{fold-append}
use Rattle.std.proofs.lemmas.Option.{none-some, same_Some}
use Rattle.series_model.specs.declared.measure.Measure.{Measure}
use Rattle.series_model.specs.declared.metric.MetricId.{MetricId}
use Rattle.series_model.proofs.Members.{Contains-here, Contains-there, Contains-cases, Contains-none}
use Rattle.bound_series.specs.Jobs.{JobView}
use Rattle.series_model.specs.Tail.{accepted_under, kept_window}
use Rattle.sack_history.specs.declared.entry.Counted.{Counted}
use Rattle.sack_history.specs.declared.entry.Counted.TheVariants as counted
use Rattle.sack_history.specs.declared.entry.Entry.{Entry}
use Rattle.sack_history.specs.declared.entry.Entry.TheVariants as entries
use Rattle.sack_history.specs.Calls.{IsJobOf}
use Rattle.sack_history.specs.Entries.{kept}
use Rattle.sack_history.specs.declared.holding.HeldClaim.{HeldClaim}
use Rattle.sack_history.specs.Holding.{held_after, held_claim, held_through, is_broken, last_ticket, same_ticket, ticket_after}
use Rattle.sack_history.specs.Legal.{IsLegal, IsLegalCount, MayComeNext, MayCount, MayPost, MayProcess}
use Rattle.sack_history.specs.Lives.{Life, Posted, batches_in, batches_of, last_post, life_of, live_policy, pending_in, pending_of, pending_posts}
use Rattle.sack_history.specs.Turns.{longest_waiting, turn_end}
use Rattle.sack_history.proofs.Following.{induction}
use Rattle.sack_history.proofs.Keeping.{broken-more, kept-counted, kept-noted, kept_legal}
use Rattle.sack_history.proofs.Living.{life-other, same_id}
use Rattle.sack_history.proofs.Numbers.{AtMost-filter, numbers, up_to, up_to-none}
use Rattle.sack_history.proofs.Ordered.{AtMost-member, AtMost-take, IsLifeOf, ordered}
use Rattle.sack_history.proofs.Posting.{batches-posted, live-posted, pending-posted, policy-posted}
use Rattle.sack_history.proofs.Turning.{part_of_metric, turn_may}

-- ---- an entry more

pub held-more : (h : List Entry) (e : Entry) → held_claim (h ++ e ∷ []) ≡ held_after (held_claim h) e
held-more h e = fold-append held_after None h (e ∷ [])

pub ticket-more : (h : List Entry) (e : Entry) → last_ticket (h ++ e ∷ []) ≡ ticket_after (last_ticket h) e
ticket-more h e = fold-append ticket_after 0 h (e ∷ [])

-- ---- a post behind the work of a claim

-- the first posts stay the first
first_stays : (n u : ℕ) (xs ys : List Posted) → Contains (numbers (take n xs)) u → Contains (numbers (take n (xs ++ ys))) u
first_stays zero u xs ys c = absurd (Contains-none u c)
first_stays (suc n) u [] ys c = absurd (Contains-none u c)
first_stays (suc n) u (x ∷ xs) ys c =
    ⊎_elim (λ is. Contains-here x.number (numbers (take n (xs ++ ys))) u is)
    (λ later. Contains-there x.number (numbers (take n (xs ++ ys))) u (first_stays n u xs ys later))
    (Contains-cases x.number (numbers (take n xs)) u c)

-- the last post of a turn is no later than the last of all
pub turn_early : (m : MetricId) (u : ℕ) (counts : List Counted) → IsLegalCount counts → MayProcess counts m u → u ≤ last_post counts
turn_early m u counts legal may = by (life_of m counts) ((ordered counts legal).lives m) may.among
  where
    by : (o : Option Life) → IfSome o (IsLifeOf m counts) → Contains (numbers (take 64 (pending_in o))) u → u ≤ last_post counts
    by None l c = absurd (Contains-none u c)
    by (Some life) l c =
        AtMost-member (last_post counts) u (take 64 (pending_in (Some life)))
        (AtMost-take (last_post counts) 64 (pending_in (Some life)) (AtMost-filter (last_post counts) (λ (p : Posted). ltb life.done p.number) life.posts l.most)) c

-- what a claim on these posts has: the metric's policy, its batches, and the posts that wait up to a number
record SameWork (m : MetricId) (u : ℕ) (counts later : List Counted) : Type 0 where
  policy : live_policy m later ≡ live_policy m counts
  batches : batches_of m later ≡ batches_of m counts
  posts : up_to u (pending_of m later) ≡ up_to u (pending_of m counts)
  may : MayProcess later m u

same_life : (m : MetricId) (u : ℕ) (counts later : List Counted) → life_of m later ≡ life_of m counts → MayProcess counts m u → SameWork m u counts later
same_life m u counts later is may = record {
  policy = ap (option_map (λ (life : Life). life.policy)) is;
  batches = ap batches_in is;
  posts = ap (λ o. up_to u (pending_in o)) is;
  may = record { live = ap is_some is ∙ may.live; among = subst (λ o. Contains (numbers (take 64 (pending_in o))) u) (sym is) may.among };
}

behind_work : (m : MetricId) (u n : ℕ) (measures : List Measure) (counts : List Counted) → IsLegalCount counts → MayProcess counts m u → MayPost counts n m measures
    → SameWork m u counts (counts ++ counted.Post n m measures ∷ [])
behind_work m u n measures counts legal may posted =
    let p : Posted = record { number = n; metric = m; measures = measures } in
    let pending = pending-posted m n measures counts legal posted in
    let above : u < p.number = omega (arith, turn_early m u counts legal may, posted.number_is) in
    record {
      policy = policy-posted m n measures counts legal posted;
      batches = batches-posted m n measures counts legal posted;
      posts = ap (up_to u) pending ∙ filter-append (λ (q : Posted). leb q.number u) (pending_of m counts) (p ∷ []) ∙ ap (λ l. up_to u (pending_of m counts) ++ l) (up_to-none u (p ∷ []) (above, tt)) ∙ append-nil (up_to u (pending_of m counts));
      may = record {
        live = live-posted m n measures counts legal posted;
        among = subst (λ l. Contains (numbers (take 64 l)) u) (sym pending) (first_stays 64 u (pending_of m counts) (p ∷ []) may.among);
      };
    }

-- ---- what counts, while a claim is held

-- the claim is held still behind what counts, and its work is the same
through : (claim : HeldClaim) (counts : List Counted) (c : Counted) → IsLegalCount counts → MayCount counts c → MayProcess counts claim.metric claim.upto
    → IfSome (held_through claim c) (λ now. (now ≡ claim) × SameWork claim.metric claim.upto counts (counts ++ c ∷ []))
through claim counts (counted.Create k policy) legal create may =
    (refl, same_life claim.metric claim.upto counts (counts ++ counted.Create k policy ∷ []) (life-other claim.metric counts (counted.Create k policy) (ne_eqb k.0 claim.metric.0 other)) may)
  where
    other : k.0 ≡ claim.metric.0 → ⊥
    other is = false≢true (sym (ap (λ (x : MetricId). is_some (life_of x counts)) (sym (same_id k claim.metric is)) ∙ ap is_some create.absent) ∙ may.live)
through claim counts (counted.Post n k measures) legal post may = (
  refl,
  ⊎_elim
      (λ is. of_metric claim.metric (same_id k claim.metric is) may)
      (λ other. same_life claim.metric claim.upto counts (counts ++ counted.Post n k measures ∷ []) (life-other claim.metric counts (counted.Post n k measures) (ne_eqb k.0 claim.metric.0 other)) may)
      (cases_eq k.0 claim.metric.0),
)
  where
    of_metric : (m : MetricId) → k ≡ m → MayProcess counts m claim.upto → SameWork m claim.upto counts (counts ++ counted.Post n k measures ∷ [])
    of_metric m is p = subst (λ x. MayProcess counts x claim.upto → SameWork x claim.upto counts (counts ++ counted.Post n k measures ∷ [])) is (λ q. behind_work k claim.upto n measures counts legal q post) p
through claim counts (counted.Done k upto) legal done may = by (eqb k.0 claim.metric.0) refl
  where
    by : (b : Bool) → eqb k.0 claim.metric.0 ≡ b → IfSome (cond b None (Some claim)) (λ now. (now ≡ claim) × SameWork claim.metric claim.upto counts (counts ++ counted.Done k upto ∷ []))
    by true is = tt
    by false other = (refl, same_life claim.metric claim.upto counts (counts ++ counted.Done k upto ∷ []) (life-other claim.metric counts (counted.Done k upto) other) may)
through claim counts (counted.Drop k) legal drop may = by (eqb k.0 claim.metric.0) refl
  where
    by : (b : Bool) → eqb k.0 claim.metric.0 ≡ b → IfSome (cond b None (Some claim)) (λ now. (now ≡ claim) × SameWork claim.metric claim.upto counts (counts ++ counted.Drop k ∷ []))
    by true is = tt
    by false other = (refl, same_life claim.metric claim.upto counts (counts ++ counted.Drop k ∷ []) (life-other claim.metric counts (counted.Drop k) other) may)

-- ---- legal histories

-- the posts of a claim may be done
abbrev IsUsable : List Counted → HeldClaim → Type 0
IsUsable counts claim = MayProcess counts claim.metric claim.upto

-- A broken book has no claim, and the posts of one that is held may be done.
pub record HoldsWell (h : List Entry) : Type 0 where
  pub broken : is_broken h ≡ true → held_claim h ≡ None
  pub usable : IfSome (held_claim h) (IsUsable (kept h))

-- a claim is on the next turn of its metric
pub claim_may : (counts : List Counted) (m : MetricId) → IsLegalCount counts → longest_waiting counts ≡ Some m → MayProcess counts m (turn_end m counts)
claim_may counts m legal first = by (pending_posts counts) refl (sym first)
  where
    by : (posts : List Posted) → pending_posts counts ≡ posts → Some m ≡ longest_waiting counts → MayProcess counts m (turn_end m counts)
    by posts is first_is = from posts is (sym (first_is ∙ ap (λ l. option_map (λ (p : Posted). p.metric) (slice_get l 0)) is))
      where
        from : (posts : List Posted) → pending_posts counts ≡ posts → option_map (λ (p : Posted). p.metric) (slice_get posts 0) ≡ Some m → MayProcess counts m (turn_end m counts)
        from [] is f = absurd (none-some m f)
        from (p ∷ rest) is f =
            let own : p.metric ≡ m = same_Some p.metric m f in
            let first_of : (x : MetricId) → p.metric ≡ x → pending_of x counts ≡ p ∷ filter (λ (q : Posted). eqb q.metric.0 x.0) rest = λ x e. sym (part_of_metric x counts legal) ∙ ap (filter (λ (q : Posted). eqb q.metric.0 x.0)) is ∙ ap (λ b. cond b (p ∷ filter (λ (q : Posted). eqb q.metric.0 x.0) rest) (filter (λ (q : Posted). eqb q.metric.0 x.0) rest)) (eq-eqb p.metric.0 x.0 (ap (λ (k : MetricId). k.0) e)) in
            turn_may m counts p (filter (λ (q : Posted). eqb q.metric.0 m.0) rest) (first_of m own)

module _ (sack : ℕ) where
  -- an entry that is only noted, and leaves the claim or ends it
  noted : (h : List Entry) (e : Entry) → kept (h ++ e ∷ []) ≡ kept h → (is_broken (h ++ e ∷ []) ≡ true → is_broken h ≡ true) → IfSome (held_after (held_claim h) e) (IsUsable (kept h)) → held_after None e ≡ None → HoldsWell h → HoldsWell (h ++ e ∷ [])
  noted h e same broken usable none w = record {
    broken = λ b. held-more h e ∙ ap (λ o. held_after o e) (w.broken (broken b)) ∙ none;
    usable = subst (λ o. IfSome o (IsUsable (kept (h ++ e ∷ [])))) (sym (held-more h e)) (subst (λ l. IfSome (held_after (held_claim h) e) (IsUsable l)) (sym same) usable);
  }

  next : (h : List Entry) (e : Entry) → IsLegal sack h → HoldsWell h → MayComeNext sack h e → HoldsWell (h ++ e ∷ [])
  next h (entries.Counted c) legal w may = record {
    broken = λ b. absurd (false≢true (sym may.whole ∙ sym (broken-more h (entries.Counted c)) ∙ b));
    usable = subst (λ o. IfSome o (IsUsable (kept (h ++ entries.Counted c ∷ [])))) (sym (held-more h (entries.Counted c)))
        (subst (λ l. IfSome (held_after (held_claim h) (entries.Counted c)) (IsUsable l)) (sym (kept-counted h c)) (by (held_claim h) w.usable));
  }
    where
      pass : (claim : HeldClaim) (o : Option HeldClaim) → IfSome o (λ now. (now ≡ claim) × SameWork claim.metric claim.upto (kept h) (kept h ++ c ∷ [])) → IfSome o (IsUsable (kept h ++ c ∷ []))
      pass claim None s = tt
      pass claim (Some now) s = subst (IsUsable (kept h ++ c ∷ [])) (sym s.0) s.1.may

      by : (o : Option HeldClaim) → IfSome o (IsUsable (kept h)) → IfSome (held_after o (entries.Counted c)) (IsUsable (kept h ++ c ∷ []))
      by None u = tt
      by (Some claim) u = pass claim (held_through claim c) (through claim (kept h) c (kept_legal sack h legal) may.counts u)
  next h (entries.Claim t m u) legal w may =
      let e = entries.Claim t m u in
      let same : kept (h ++ e ∷ []) ≡ kept h = kept-noted h e refl refl in
      record {
        broken = λ b. absurd (false≢true (sym may.whole ∙ sym (broken-more h e) ∙ b));
        usable = subst (λ o. IfSome o (IsUsable (kept (h ++ e ∷ [])))) (sym (held-more h e))
            (subst (λ l. MayProcess l m u) (sym same) (subst (MayProcess (kept h) m) (sym may.upto_is) (claim_may (kept h) m (kept_legal sack h legal) may.first)));
      }
  next h (entries.Release t) legal w may =
      noted h (entries.Release t) (kept-noted h (entries.Release t) refl refl) (λ b. sym (broken-more h (entries.Release t)) ∙ b) (by (held_claim h) w.usable) refl w
    where
      either : (b : Bool) (claim : HeldClaim) → IsUsable (kept h) claim → IfSome (cond b None (Some claim)) (IsUsable (kept h))
      either true claim u = tt
      either false claim u = u

      by : (o : Option HeldClaim) → IfSome o (IsUsable (kept h)) → IfSome (held_after o (entries.Release t)) (IsUsable (kept h))
      by None u = tt
      by (Some claim) u = either (same_ticket t claim.ticket) claim u
  next h (entries.Look m) legal w may =
      noted h (entries.Look m) (kept-noted h (entries.Look m) refl refl) (λ b. sym (broken-more h (entries.Look m)) ∙ b) (by (held_claim h) w.usable) refl w
    where
      by : (o : Option HeldClaim) → IfSome o (IsUsable (kept h)) → IfSome (held_after o (entries.Look m)) (IsUsable (kept h))
      by None u = tt
      by (Some claim) u = u
  next h (entries.Fault tried b a) legal w may = record {
    broken = λ broken. held-more h (entries.Fault tried b a) ∙ gone (held_claim h);
    usable = subst (λ o. IfSome o (IsUsable (kept (h ++ entries.Fault tried b a ∷ [])))) (sym (held-more h (entries.Fault tried b a) ∙ gone (held_claim h))) tt;
  }
    where
      gone : (o : Option HeldClaim) → held_after o (entries.Fault tried b a) ≡ None
      gone None = refl
      gone (Some claim) = refl
  next h (entries.Reopened f) legal w may =
      let none : held_claim (h ++ entries.Reopened f ∷ []) ≡ None = held-more h (entries.Reopened f) ∙ ap (λ o. held_after o (entries.Reopened f)) (w.broken may.broken) in
      record { broken = λ b. none; usable = subst (λ o. IfSome o (IsUsable (kept (h ++ entries.Reopened f ∷ [])))) (sym none) tt }

  pub holds_well : (h : List Entry) → IsLegal sack h → HoldsWell h
  holds_well h legal = induction (MayComeNext sack) HoldsWell (record { broken = λ b. refl; usable = tt }) next h legal

  -- ---- the job of a claim

  moved_job : (claim : HeldClaim) (counts later : List Counted) (job : JobView) → SameWork claim.metric claim.upto counts later → IsJobOf claim counts job → IsJobOf claim later job
  moved_job claim counts later job s j = record {
    metric = j.metric;
    upto = j.upto;
    policy = s.policy ∙ j.policy;
    base = j.base ∙ ap (λ l. kept_window job.policy (accepted_under job.policy l)) (sym s.batches);
    batches = j.batches ∙ ap (map (λ (p : Posted). p.measures)) (sym s.posts);
  }

  same_job : (claim : HeldClaim) (h : List Entry) (e : Entry) (job : JobView) → kept (h ++ e ∷ []) ≡ kept h → IsJobOf claim (kept h) job → IsJobOf claim (kept (h ++ e ∷ [])) job
  same_job claim h e job same j = subst (λ l. IsJobOf claim l job) (sym same) j

  -- while a claim is held, a job of it stays one
  pub job_stays : (h : List Entry) (e : Entry) (claim : HeldClaim) (job : JobView) → IsLegal sack h → MayComeNext sack h e → held_claim h ≡ Some claim → held_claim (h ++ e ∷ []) ≡ Some claim
      → IsJobOf claim (kept h) job → IsJobOf claim (kept (h ++ e ∷ [])) job
  job_stays h (entries.Counted c) claim job legal may held still j =
      subst (λ l. IsJobOf claim l job) (sym (kept-counted h c))
      (by (held_through claim c) (sym (ap (λ o. held_after o (entries.Counted c)) held) ∙ sym (held-more h (entries.Counted c)) ∙ still)
      (through claim (kept h) c (kept_legal sack h legal) may.counts usable))
    where
      usable : MayProcess (kept h) claim.metric claim.upto
      usable = subst (λ o. IfSome o (IsUsable (kept h))) held (holds_well h legal).usable

      by : (o : Option HeldClaim) → o ≡ Some claim → IfSome o (λ now. (now ≡ claim) × SameWork claim.metric claim.upto (kept h) (kept h ++ c ∷ [])) → IsJobOf claim (kept h ++ c ∷ []) job
      by None is s = absurd (none-some claim is)
      by (Some now) is s = moved_job claim (kept h) (kept h ++ c ∷ []) job s.1 j
  job_stays h (entries.Claim t m u) claim job legal may held still j = same_job claim h (entries.Claim t m u) job (kept-noted h (entries.Claim t m u) refl refl) j
  job_stays h (entries.Release t) claim job legal may held still j = same_job claim h (entries.Release t) job (kept-noted h (entries.Release t) refl refl) j
  job_stays h (entries.Look m) claim job legal may held still j = same_job claim h (entries.Look m) job (kept-noted h (entries.Look m) refl refl) j
  job_stays h (entries.Fault tried b a) claim job legal may held still j = same_job claim h (entries.Fault tried b a) job (kept-noted h (entries.Fault tried b a) refl refl) j
  job_stays h (entries.Reopened f) claim job legal may held still j =
      absurd (none-some claim (sym ((holds_well h legal).broken may.broken) ∙ held))

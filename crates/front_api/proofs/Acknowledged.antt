-- What stands once a call of a front has answered Ok.
use Rattle.std.proofs.Common.{◌≡◌, ℕ, ◌+◌, ◌<◌, ◌≤◌, eqb, List, [], ◌∷◌, ◌++◌, refl, sym, ap, subst, ◌∙◌, append_assoc, arith}
use Rattle.std.specs.List.{Contains, filter}
use Rattle.std.specs.declared.result.Result.{Result}
use Rattle.std.specs.declared.result.Result.TheVariants.{Ok}
use Rattle.std.proofs.Math.Logic.{⊎_elim}
use Rattle.std.proofs.lemmas.Bool.{eq-eqb, ne_eqb}
use Rattle.series_model.specs.declared.answer.Row.{Row}
use Rattle.series_model.specs.declared.measure.Measure.{Measure}
use Rattle.series_model.specs.declared.metric.MetricId.{MetricId}
use Rattle.series_model.specs.declared.query.Query.{Query}
use Rattle.series_model.proofs.ByKey.{filter-keep, filter-skip}
use Rattle.series_model.proofs.Members.{Contains-cases, Contains-none}
use Rattle.sack_history.specs.declared.entry.Counted.TheVariants as counted
use Rattle.sack_history.specs.declared.entry.Entry.{Entry}
use Rattle.sack_history.specs.declared.entry.Entry.TheVariants as entries
use Rattle.sack_history.specs.declared.fault.SackFault.{SackFault}
use Rattle.sack_history.specs.Answering.{answer_rows}
use Rattle.sack_history.specs.Calls.{IsAnswering, IsDraining, IsPosting, IsRefreshing}
use Rattle.sack_history.specs.Entries.{kept}
use Rattle.sack_history.specs.Failing.{failed, given, mounted, refused as turned_away, unmounted, whole}
use Rattle.sack_history.specs.Lives.{Posted, all_posts, done_of, pending_of, pending_posts}
use Rattle.sack_history.proofs.Doing.{answered_ok, drained_ok, posted_ok, refreshed_ok}
use Rattle.sack_history.proofs.Keeping.{kept_legal}
use Rattle.sack_history.proofs.Ordered.{NumberedBehind, ordered}
use Rattle.front_api.specs.FaultWords.{FaultWords}
use Rattle.front_api.specs.Front.{AnswersQuery, Drains, DrainsFrom, Posts, Refreshes, all, one, refused}
use Rattle.front_api.specs.Seen.{EntersSackOf, SackBook, SeenBooks, sack_of}
use Rattle.front_api.specs.SeenLaws.{EndsWith, OfEachHistory, OfMetricHistory, OfSackHistory}
use Rattle.front_api.proofs.Entering.{SaidOk, as_many, holds_after, ok_err, said_ok}

-- ---- a post stands once

-- posts that are numbered on behind a number are above it
above_it : (n : ℕ) (posts : List Posted) (p : Posted) → NumberedBehind n posts → Contains posts p → n < p.number
above_it n [] p h c = absurd (Contains-none p c)
above_it n (q ∷ posts) p h c =
    ⊎_elim (λ same. omega (arith, h.0, ap (λ (x : Posted). x.number) same)) (λ there. omega (arith, above_it (n + 1) posts p h.1 there)) (Contains-cases q posts p c)

-- so none of them has that number, or a lower one
none_has : (n m : ℕ) (posts : List Posted) → NumberedBehind n posts → m ≤ n → filter (λ p. eqb p.number m) posts ≡ []
none_has n m [] h le = refl
none_has n m (q ∷ posts) h le =
    filter-skip (λ p. eqb p.number m) q posts (ne_eqb q.number m (λ is. absurd (omega (arith, h.0, is, le))))
    ∙ none_has (n + 1) m posts h.1 (omega (arith, le))

stands_once : (n : ℕ) (posts : List Posted) (p : Posted) → NumberedBehind n posts → Contains posts p → filter (λ q. eqb q.number p.number) posts ≡ p ∷ []
stands_once n [] p h c = absurd (Contains-none p c)
stands_once n (q ∷ posts) p h c = ⊎_elim here (λ later. there later (stands_once (n + 1) posts p h.1 later)) (Contains-cases q posts p c)
  where
    here : q ≡ p → filter (λ x. eqb x.number p.number) (q ∷ posts) ≡ p ∷ []
    here same =
        filter-keep (λ x. eqb x.number p.number) q posts (eq-eqb q.number p.number (ap (λ (x : Posted). x.number) same))
        ∙ ap (λ l. q ∷ l) (none_has (n + 1) p.number posts h.1 (omega (arith, h.0, ap (λ (x : Posted). x.number) same))) ∙ ap (λ x. x ∷ []) same

    there : Contains posts p → filter (λ x. eqb x.number p.number) posts ≡ p ∷ [] → filter (λ x. eqb x.number p.number) (q ∷ posts) ≡ p ∷ []
    there later is =
        filter-skip (λ x. eqb x.number p.number) q posts (ne_eqb q.number p.number (λ same. absurd (omega (arith, h.0, same, above_it (n + 1) posts p h.1 later))))
        ∙ is

-- ---- in a metric's sack

in_its_sack : {T F : Type 0} (metric : MetricId) (words : FaultWords F) (Call : Result T F → List Entry → List Entry → Type 0) (value : T) (old new : SeenBooks) (P : List Entry → Type 0)
    → ((sack : ℕ) (history : List Entry) → SaidOk sack Call value history → P history) → EntersSackOf metric words Call (Ok value) old new → OfMetricHistory metric P new
in_its_sack metric words Call value old new P holds e =
    subst (λ n. OfSackHistory (sack_of metric n) P new) (sym (as_many _ words Call (Ok value) old new e)) (holds_after _ words Call value old new P (holds _) e)

pub posted_once : (metric : MetricId) (measures : List Measure) (number : ℕ) (old new : SeenBooks) → Posts metric measures (Ok number) old new
    → OfMetricHistory metric (λ h. filter (λ p. eqb p.number number) (all_posts (kept h)) ≡ record { number = number; metric = metric; measures = measures } ∷ []) new
posted_once metric measures number old new = in_its_sack metric _ (IsPosting metric measures) number old new _ (λ sack history s.
    subst (λ h. filter (λ p. eqb p.number number) (all_posts (kept h)) ≡ record { number = number; metric = metric; measures = measures } ∷ []) (sym s.is)
    (stands_once 0 (all_posts (kept (s.before ++ s.own))) (record { number = number; metric = metric; measures = measures })
    (ordered (kept (s.before ++ s.own)) (kept_legal sack (s.before ++ s.own) s.whole)).numbered
    (posted_ok sack s.before s.own s.legal metric measures number s.call)))

post_ends : (metric : MetricId) (measures : List Measure) (number : ℕ) (before own : List Entry) → IsPosting metric measures (Ok number) before own
    → EndsWith (before ++ own) (entries.Counted (counted.Post number metric measures))
post_ends metric measures number before own (whole w (given v g is)) = (before, ap (λ l. before ++ l) g.1.1 ∙ ap (λ n. before ++ entries.Counted (counted.Post n metric measures) ∷ []) (same_ok v is))
  where
    same_ok : (v : ℕ) → (let r : Result ℕ SackFault = Ok number in r) ≡ Ok v → v ≡ number
    same_ok v is = cc
post_ends metric measures number before own (whole w (turned_away f r look is)) = absurd (ok_err number f is)
post_ends metric measures number before own (whole w (failed failure f is)) = absurd (ok_err number _ is)
post_ends metric measures number before own (mounted found rest may is (given v g k)) = (
  before ++ entries.Reopened found ∷ [],
  ap (λ l. before ++ l) (is ∙ ap (λ l. entries.Reopened found ∷ l) (g.1.1 ∙ ap (λ n. entries.Counted (counted.Post n metric measures) ∷ []) (same_ok v k)))
      ∙ sym (append_assoc before (entries.Reopened found ∷ []) (entries.Counted (counted.Post number metric measures) ∷ [])),
)
  where
    same_ok : (v : ℕ) → (let r : Result ℕ SackFault = Ok number in r) ≡ Ok v → v ≡ number
    same_ok v is = cc
post_ends metric measures number before own (mounted found rest may is (turned_away f r look k)) = absurd (ok_err number f k)
post_ends metric measures number before own (mounted found rest may is (failed failure f k)) = absurd (ok_err number _ k)
post_ends metric measures number before own (unmounted failure b f r) = absurd (ok_err number _ r)

pub posted_last : (metric : MetricId) (measures : List Measure) (number : ℕ) (old new : SeenBooks) → Posts metric measures (Ok number) old new
    → OfMetricHistory metric (λ h. EndsWith h (entries.Counted (counted.Post number metric measures))) new
posted_last metric measures number old new = in_its_sack metric _ (IsPosting metric measures) number old new _ (λ sack history s.
    subst (λ h. EndsWith h (entries.Counted (counted.Post number metric measures))) (sym s.is) (post_ends metric measures number s.before s.own s.call))

pub refreshed_now : (metric : MetricId) (done : ℕ) (old new : SeenBooks) → Refreshes metric (Ok done) old new
    → OfMetricHistory metric (λ h. (pending_of metric (kept h) ≡ []) × (done ≡ done_of metric (kept h))) new
refreshed_now metric done old new = in_its_sack metric _ (IsRefreshing metric) done old new _ (λ sack history s.
    subst (λ h. (pending_of metric (kept h) ≡ []) × (done ≡ done_of metric (kept h))) (sym s.is) (refreshed_ok sack s.before s.own s.legal metric done s.call))

pub answered_now : (metric : MetricId) (query : Query) (rows : List Row) (old new : SeenBooks) → AnswersQuery metric query (Ok rows) old new
    → OfMetricHistory metric (λ h. rows ≡ answer_rows metric query (kept h)) new
answered_now metric query rows old new = in_its_sack metric _ (IsAnswering metric query) rows old new _ (λ sack history s.
    subst (λ h. rows ≡ answer_rows metric query (kept h)) (sym s.is) (answered_ok sack s.before s.own s.legal metric query rows s.call))

-- ---- in every sack

drained_from : (sack turns number : ℕ) (olds news : List SackBook) (result : Result ℕ SackFault) → result ≡ Ok number → DrainsFrom sack turns olds news result
    → OfEachHistory (λ h. pending_posts (kept h) ≡ []) news
drained_from sack turns number olds news result is (all s t) = tt
drained_from sack turns number olds news result is (one s t more old new os ns r e rest) = (
  λ counts opening.
      let said = said_ok s _ IsDraining more old new e counts opening in
      subst (λ h. pending_posts (kept h) ≡ []) (sym said.is) (drained_ok s said.before said.own said.legal more said.call),
  drained_from _ _ number os ns r is rest,
)
drained_from sack turns number olds news result is (refused s t old new os fault e) = absurd (ok_err number fault (sym is))

pub drained_now : (turns : ℕ) (old new : SeenBooks) → Drains (Ok turns) old new → OfEachHistory (λ h. pending_posts (kept h) ≡ []) new.sacks
drained_now turns old new d = drained_from 0 0 turns old.sacks new.sacks (Ok turns) refl d.sacks

-- What a call answers that adds no fault to a history.
use Rattle.std.proofs.Common.{◌≡◌, ℕ, zero, suc, Bool, true, false, cond, List, [], ◌∷◌, ◌++◌, Option, None, Some, refl, sym, ap, subst, ◌∙◌}
use Rattle.std.specs.Bool.{MatchBool}
use Rattle.std.specs.List.{filter, slice_get}
use Rattle.std.specs.declared.result.Result.{Result}
use Rattle.std.specs.declared.result.Result.TheVariants.{Err}
use Rattle.std.proofs.lemmas.List.{map-append}
use Rattle.std.proofs.lemmas.List.Elements.{filter-append}
use Rattle.std.proofs.lemmas.Option.{none-some, same_Some}
use Rattle.archive_policy.specs.Policies.{ArchivePolicy}
use Rattle.gno_num.specs.declared.faults.Spent.{Spent}
use Rattle.series_model.specs.declared.answer.Row.{Row}
use Rattle.series_model.specs.declared.measure.Measure.{Measure}
use Rattle.series_model.specs.declared.metric.MetricId.{MetricId}
use Rattle.series_model.specs.declared.query.Query.{Query}
use Rattle.sack_history.specs.declared.entry.Counted.{Counted}
use Rattle.sack_history.specs.declared.entry.Entry.{Entry}
use Rattle.sack_history.specs.declared.entry.Entry.TheVariants as entries
use Rattle.sack_history.specs.declared.fault.AnswerFault.{AnswerFault}
use Rattle.sack_history.specs.declared.fault.AnswerFault.TheVariants as answer_fault
use Rattle.sack_history.specs.declared.fault.CreateFault.{CreateFault}
use Rattle.sack_history.specs.declared.fault.CreateFault.TheVariants as create_fault
use Rattle.sack_history.specs.declared.fault.SackFault.{SackFault}
use Rattle.sack_history.specs.declared.fault.SackFault.TheVariants as sack_fault
use Rattle.sack_history.specs.Answering.{lacks_granularity, lacks_kind, query_refusal}
use Rattle.sack_history.specs.Calls.{IsAnswering, IsCreating, IsDraining, IsDropping, IsPosting, IsRefreshing}
use Rattle.sack_history.specs.Entries.{all_counted, kept}
use Rattle.sack_history.specs.Failing.{Failure, FailsBehind, IsMounted, IsOutcome, answer_failure, create_failure, damage, failed, given, mounted, no_memory, on_disk, refused as turned_away, sack_failure, unmounted, whole}
use Rattle.sack_history.specs.Lives.{is_live, live_policy}
use Rattle.front_api.specs.FaultWords.{FaultWords, answer_words, create_words, sack_words}
use Rattle.front_api.specs.Seen.{EntersSack, EntersSackBook, OpensWith, SackBook, SeenBook, SeenBooks, entries_in, lacks_room, marked}
use Rattle.front_api.specs.SeenLaws.{BookGoesOn, BooksGoOn, EachGoesOn, EachSeesNoFault, IsNoFault, SeeNoFault, SeesNoFault, TellsNoFault, WereAllOpened, WereOpened, is_fault, is_index_fault}
use Rattle.front_api.proofs.Entering.{entries_in-marked, slice_get-set}

-- ---- lists

pub none_left : {X : Type 0} (xs ys : List X) → xs ++ ys ≡ [] → xs ≡ []
none_left [] ys is = refl
none_left (x ∷ xs) ys is = cc

pub none_right : {X : Type 0} (xs ys : List X) → xs ++ ys ≡ [] → ys ≡ []
none_right [] ys is = is
none_right (x ∷ xs) ys is = cc

-- what is none of a list is none of its parts
pub none_before : {X : Type 0} (p : X → Bool) (xs ys : List X) → filter p (xs ++ ys) ≡ [] → filter p xs ≡ []
none_before p xs ys is = none_left (filter p xs) (filter p ys) (sym (filter-append p xs ys) ∙ is)

pub none_behind : {X : Type 0} (p : X → Bool) (xs ys : List X) → filter p (xs ++ ys) ≡ [] → filter p ys ≡ []
none_behind p xs ys is = none_right (filter p xs) (filter p ys) (sym (filter-append p xs ys) ∙ is)

-- ---- what an entry of a failure is

pub no_failure : (done : List Counted) (next : Option Counted) (metric : Option MetricId) (failure : Failure) (own : List Entry)
    → FailsBehind done next metric failure own → filter is_fault own ≡ [] → failure ≡ no_memory
no_failure done next metric no_memory own fails none = refl
no_failure done next metric (on_disk f) own fails none = absurd (no_last (none_behind is_fault (all_counted done) _ (ap (λ l. filter is_fault l) (sym fails.1.2) ∙ none)))
  where
    no_last : (entries.Fault fails.1.0 f.before f.after ∷ []) ≡ [] → ⊥
    no_last is = cc
no_failure done next metric (damage d) own fails none = absurd (no_last (none_behind is_fault (all_counted done) _ (ap (λ l. filter is_fault l) (sym fails.3) ∙ none)))
  where
    no_last : (entries.Fault None fails.0 fails.1 ∷ []) ≡ [] → ⊥
    no_last is = cc

-- ---- one call on a sack, where refusals are told by these words, and failures so

module _ {T F : Type 0} (words : FaultWords F) (fault : Failure → F) (starved : IsNoFault words (fault no_memory)) (result : Result T F) where
  told : (f : F) → IsNoFault words f → result ≡ Err f → TellsNoFault words result
  told f is r = subst (λ (x : Result T F). TellsNoFault words x) (sym r) is

  pub outcome : (Gives : T → List Entry → Type 0) (Refuses : F → Type 0) (Fails : Failure → List Entry → Type 0) (metric : Option MetricId) (own : List Entry)
      → ((f : F) → Refuses f → IsNoFault words f)
      → ((failure : Failure) → Fails failure own → failure ≡ no_memory)
      → IsOutcome Gives Refuses Fails fault metric result own → TellsNoFault words result
  outcome Gives Refuses Fails metric own named only (given v g is) = subst (λ (x : Result T F). TellsNoFault words x) (sym is) tt
  outcome Gives Refuses Fails metric own named only (turned_away f r look is) = told f (named f r) is
  outcome Gives Refuses Fails metric own named only (failed failure f is) = told (fault failure) (subst (λ (x : Failure). IsNoFault words (fault x)) (sym (only failure f)) starved) is

  pub behind_mounting : (metric : Option MetricId) (Own : List Entry → List Entry → Type 0) (before own : List Entry)
      → ((now added : List Entry) → filter is_fault added ≡ [] → Own now added → TellsNoFault words result)
      → IsMounted metric Own (λ failure. result ≡ Err (fault failure)) before own → filter is_fault own ≡ [] → TellsNoFault words result
  behind_mounting metric Own before own then (whole b o) none = then before own none o
  behind_mounting metric Own before own then (mounted found rest may is o) none = then _ rest (none_behind is_fault (entries.Reopened found ∷ []) rest (ap (λ l. filter is_fault l) (sym is) ∙ none)) o
  behind_mounting metric Own before own then (unmounted failure b f r) none = told (fault failure) (subst (λ (x : Failure). IsNoFault words (fault x)) (sym (no_failure [] None metric failure own f none)) starved) r

-- ---- refusals by name

no_sack_fault : (f g : SackFault) → IsNoFault sack_words f → Some f ≡ Some g → IsNoFault sack_words g
no_sack_fault f g is e = subst (λ (x : SackFault). IsNoFault sack_words x) (same_Some f g e) is

starved_sack : IsNoFault sack_words sack_fault.Memory
starved_sack = record { no_disk = refl; no_damage = refl }

unknown_named : (live : Bool) (f : SackFault) → cond live None (Some sack_fault.Unknown) ≡ Some f → IsNoFault sack_words f
unknown_named true f is = cc
unknown_named false f is = no_sack_fault sack_fault.Unknown f (record { no_disk = refl; no_damage = refl }) is

post_named : (live spent : Bool) (s : Spent) (f : SackFault) → cond live (cond spent (Some (sack_fault.Spent s)) None) (Some sack_fault.Unknown) ≡ Some f → IsNoFault sack_words f
post_named true true s f is = no_sack_fault (sack_fault.Spent s) f (record { no_disk = refl; no_damage = refl }) is
post_named true false s f is = cc
post_named false spent s f is = no_sack_fault sack_fault.Unknown f (record { no_disk = refl; no_damage = refl }) is

create_named : (live : Bool) (f : CreateFault) → cond live (Some create_fault.Exists) None ≡ Some f → IsNoFault create_words f
create_named true f is = subst (λ (x : CreateFault). IsNoFault create_words x) (same_Some create_fault.Exists f is) (record { no_disk = refl; no_damage = refl })
create_named false f is = cc

query_named : (kind granularity : Bool) (f : AnswerFault) → cond kind (Some answer_fault.NoAggregation) (cond granularity (Some answer_fault.NoGranularity) None) ≡ Some f → IsNoFault answer_words f
query_named true granularity f is = subst (λ (x : AnswerFault). IsNoFault answer_words x) (same_Some answer_fault.NoAggregation f is) (record { no_disk = refl; no_damage = refl })
query_named false true f is = subst (λ (x : AnswerFault). IsNoFault answer_words x) (same_Some answer_fault.NoGranularity f is) (record { no_disk = refl; no_damage = refl })
query_named false false f is = cc

answer_named : (query : Query) (policy : Option ArchivePolicy) (f : AnswerFault) → query_refusal query policy ≡ Some f → IsNoFault answer_words f
answer_named query None f is = subst (λ (x : AnswerFault). IsNoFault answer_words x) (same_Some answer_fault.Unknown f is) (record { no_disk = refl; no_damage = refl })
answer_named query (Some policy) f is = query_named (lacks_kind policy query.kind) (lacks_granularity policy query.granularity) f is

-- ---- each call

pub posted : (metric : MetricId) (measures : List Measure) (result : Result ℕ SackFault) (before own : List Entry) → IsPosting metric measures result before own → filter is_fault own ≡ [] → TellsNoFault sack_words result
posted metric measures result before own does none =
    behind_mounting sack_words sack_failure starved_sack result (Some metric) _ before own
    (λ now added clean o. outcome sack_words sack_failure starved_sack result _ _ _ (Some metric) added
    (λ f is. post_named (is_live metric (kept now)) _ _ f is) (λ failure f. no_failure [] _ (Some metric) failure added f.1 clean) o)
    does none

pub refreshed : (metric : MetricId) (result : Result ℕ SackFault) (before own : List Entry) → IsRefreshing metric result before own → filter is_fault own ≡ [] → TellsNoFault sack_words result
refreshed metric result before own does none =
    behind_mounting sack_words sack_failure starved_sack result (Some metric) _ before own
    (λ now added clean o. outcome sack_words sack_failure starved_sack result _ _ _ (Some metric) added
    (λ f is. unknown_named (is_live metric (kept now)) f is) (λ failure f. no_failure _ _ (Some metric) failure added f.1.2 clean) o)
    does none

pub answered : (metric : MetricId) (query : Query) (result : Result (List Row) AnswerFault) (before own : List Entry) → IsAnswering metric query result before own → filter is_fault own ≡ [] → TellsNoFault answer_words result
answered metric query result before own does none =
    behind_mounting answer_words answer_failure (record { no_disk = refl; no_damage = refl }) result (Some metric) _ before own
    (λ now added clean o. outcome answer_words answer_failure (record { no_disk = refl; no_damage = refl }) result _ _ _ (Some metric) added
    (λ f is. answer_named query (live_policy metric (kept now)) f is) (λ failure f. no_failure [] None (Some metric) failure added f.1 clean) o)
    does none

pub drained : (result : Result ℕ SackFault) (before own : List Entry) → IsDraining result before own → filter is_fault own ≡ [] → TellsNoFault sack_words result
drained result before own does none =
    behind_mounting sack_words sack_failure starved_sack result None _ before own
    (λ now added clean o. outcome sack_words sack_failure starved_sack result _ _ _ None added
    (λ f is. absurd is) (λ failure f. no_failure _ _ None failure added f.2 clean) o)
    does none

pub created : (metric : MetricId) (policy : ArchivePolicy) (result : Result (Unit {0}) CreateFault) (before own : List Entry) → IsCreating metric policy result before own → filter is_fault own ≡ [] → TellsNoFault create_words result
created metric policy result before own does none =
    behind_mounting create_words create_failure (record { no_disk = refl; no_damage = refl }) result (Some metric) _ before own
    (λ now added clean o. outcome create_words create_failure (record { no_disk = refl; no_damage = refl }) result _ _ _ (Some metric) added
    (λ f is. create_named (is_live metric (kept now)) f is) (λ failure f. no_failure [] _ (Some metric) failure added f.1 clean) o)
    does none

pub dropped : (metric : MetricId) (result : Result (Unit {0}) SackFault) (before own : List Entry) → IsDropping metric result before own → filter is_fault own ≡ [] → TellsNoFault sack_words result
dropped metric result before own does none =
    behind_mounting sack_words sack_failure starved_sack result (Some metric) _ before own
    (λ now added clean o. outcome sack_words sack_failure starved_sack result _ _ _ (Some metric) added
    (λ f is. unknown_named (is_live metric (kept now)) f is) (λ failure f. no_failure [] _ (Some metric) failure added f.1 clean) o)
    does none

-- ---- a turn at a sack

pub by_turn : {T F E : Type 0} (words : FaultWords F) (s : Spent) (spent : IsNoFault words (words.spent s)) (result : Result T F) (own : List E) (Call : Type 0) (lacks : Bool)
    → (Call → TellsNoFault words result) → MatchBool lacks ((result ≡ Err (words.spent s)) × (own ≡ [])) Call → TellsNoFault words result
by_turn {T} {F} {E} words s spent result own Call true then h = subst (λ (x : Result T F). TellsNoFault words x) (sym h.0) spent
by_turn words s spent result own Call false then h = then h

own_seen : {O E : Type 0} (p : E → Bool) (old new : SeenBook O E) (others : List (ℕ × E)) (own : List E) → new ≡ record old { seen = (old.seen ++ others) ++ marked old.caller own } → SeesNoFault p new → filter p own ≡ []
own_seen p old new others own is none =
    none_behind p (entries_in (old.seen ++ others)) own
    (sym (ap (λ l. filter p l) (ap (λ b. entries_in b.seen) is ∙ map-append (λ x. x.1) (old.seen ++ others) (marked old.caller own) ∙ ap (λ l. entries_in (old.seen ++ others) ++ l) (entries_in-marked old.caller own))) ∙ none)

pub in_book : {T F : Type 0} (sack : ℕ) (words : FaultWords F) (spent : (s : Spent) → IsNoFault words (words.spent s)) (Call : Result T F → List Entry → List Entry → Type 0) (result : Result T F)
    → ((before own : List Entry) → Call result before own → filter is_fault own ≡ [] → TellsNoFault words result)
    → (old new : SackBook) (counts : List Counted) → OpensWith old.origin counts → EntersSackBook sack words Call result old new → SeesNoFault is_fault new → TellsNoFault words result
in_book sack words spent Call result by_call old new counts opens e none =
    let says = e.enters.says counts opens in
    by_turn words _ (spent _) result e.enters.own _ (lacks_room old.is_shared _ _) (λ c. by_call _ e.enters.own c (own_seen is_fault old new e.enters.others e.enters.own e.enters.adds.new_is none)) says.turn

-- the book of a number
opened_at : (books : List SackBook) (k : ℕ) (book : SackBook) → slice_get books k ≡ Some book → WereOpened books → (counts : List Counted) × OpensWith book.origin counts
opened_at [] k book is opened = absurd (none-some book is)
opened_at (b ∷ books) zero book is opened = subst (λ (x : SackBook). (counts : List Counted) × OpensWith x.origin counts) (same_Some b book is) opened.0
opened_at (b ∷ books) (suc k) book is opened = opened_at books k book is opened.1

clean_at : (books : List SackBook) (k : ℕ) (book : SackBook) → slice_get books k ≡ Some book → EachSeesNoFault books → SeesNoFault is_fault book
clean_at [] k book is none = absurd (none-some book is)
clean_at (b ∷ books) zero book is none = subst (λ (x : SackBook). SeesNoFault is_fault x) (same_Some b book is) none.0
clean_at (b ∷ books) (suc k) book is none = clean_at books k book is none.1

pub in_sack : {T F : Type 0} (sack : ℕ) (words : FaultWords F) (spent : (s : Spent) → IsNoFault words (words.spent s)) (Call : Result T F → List Entry → List Entry → Type 0) (result : Result T F)
    → ((before own : List Entry) → Call result before own → filter is_fault own ≡ [] → TellsNoFault words result)
    → (old new : SeenBooks) → WereOpened old.sacks → EntersSack sack words Call result old new → EachSeesNoFault new.sacks → TellsNoFault words result
in_sack sack words spent Call result by_call old new opened e none =
    let at = opened_at old.sacks sack e.before e.found opened in
    in_book sack words spent Call result by_call e.before e.after at.0 at.1 e.book
    (clean_at new.sacks sack e.after (ap (λ b. slice_get b.sacks sack) e.new_is ∙ slice_get-set old.sacks sack e.before e.after e.found) none)

-- ---- books that go on

clean_before : {O E : Type 0} (p : E → Bool) (old new : SeenBook O E) → BookGoesOn old new → SeesNoFault p new → SeesNoFault p old
clean_before p old new g none =
    none_before p (entries_in old.seen) (entries_in g.more)
    (ap (λ l. filter p l) (sym (map-append (λ x. x.1) old.seen g.more)) ∙ ap (λ l. filter p (entries_in l)) (sym g.seen) ∙ none)

each_clean_before : (olds news : List SackBook) → EachGoesOn olds news → EachSeesNoFault news → EachSeesNoFault olds
each_clean_before [] news g none = tt
each_clean_before (o ∷ olds) [] g none = absurd g
each_clean_before (o ∷ olds) (n ∷ news) g none = (clean_before is_fault o n g.0 none.0, each_clean_before olds news g.1 none.1)

pub clean_earlier : (old new : SeenBooks) → BooksGoOn old new → SeeNoFault new → SeeNoFault old
clean_earlier old new g none = record { index = clean_before is_index_fault old.index new.index g.index none.index; sacks = each_clean_before old.sacks new.sacks g.sacks none.sacks }

each_opened_later : (olds news : List SackBook) → EachGoesOn olds news → WereOpened olds → WereOpened news
each_opened_later [] [] g opened = tt
each_opened_later [] (n ∷ news) g opened = absurd g
each_opened_later (o ∷ olds) [] g opened = absurd g
each_opened_later (o ∷ olds) (n ∷ news) g opened =
    ((opened.0.0, subst (λ x. OpensWith x opened.0.0) (sym g.0.origin) opened.0.1), each_opened_later olds news g.1 opened.1)

pub opened_later : (old new : SeenBooks) → BooksGoOn old new → WereAllOpened old → WereAllOpened new
opened_later old new g opened = record { first = opened.first; index = g.index.origin ∙ opened.index; sacks = each_opened_later old.sacks new.sacks g.sacks opened.sacks }

-- The turns that a drain tells are the turns that it has added.
use Rattle.std.proofs.Common.{◌≡◌, ℕ, zero, suc, ◌+◌, ◌-◌, ◌^◌, ◌≤◌, List, [], ◌∷◌, ◌++◌, length, Option, Some, None, refl, sym, ap, ◌∙◌, arith}
use Rattle.std.specs.List.{filter}
use Rattle.std.specs.declared.result.Result.{Result}
use Rattle.std.specs.declared.result.Result.TheVariants.{Ok}
use Rattle.std.proofs.lemmas.List.{length-append}
use Rattle.std.proofs.lemmas.List.Elements.{filter-append}
use Rattle.series_model.specs.declared.metric.MetricId.{MetricId}
use Rattle.sack_history.specs.declared.entry.Counted.{Counted}
use Rattle.sack_history.specs.declared.entry.Entry.{Entry}
use Rattle.sack_history.specs.declared.entry.Entry.TheVariants as entries
use Rattle.sack_history.specs.declared.fault.SackFault.{SackFault}
use Rattle.sack_history.specs.Calls.{IsDraining, done_or_look}
use Rattle.sack_history.specs.Entries.{all_counted, kept}
use Rattle.sack_history.specs.Failing.{failed, given, mounted, refused as turned_away, unmounted, whole}
use Rattle.sack_history.specs.Turns.{drain_turns, longest_waiting, next_turn, turn_and_later, turns_by}
use Rattle.front_api.specs.FaultWords.{FaultWords}
use Rattle.front_api.specs.Front.{Drains, DrainsFrom, all, one, refused}
use Rattle.front_api.specs.Seen.{EntersSackBook, OpensWith, SackBook, SeenBooks, capped, entries_by}
use Rattle.front_api.specs.SeenLaws.{WereOpened, is_turn, own_turns, turns_in}
use Rattle.front_api.proofs.Entering.{ok_err, ok_turn, own_entries}

-- turns are all turns
all_turns : (whose : List Counted → Option MetricId) (most : ℕ) (counts : List Counted) → length (filter is_turn (all_counted (turns_by whose most counts))) ≡ length (turns_by whose most counts)
all_turns whose zero counts = refl
all_turns whose (suc most) counts = by (whose counts) (λ c. all_turns whose most c)
  where
    by : (o : Option MetricId) → ((c : List Counted) → length (filter is_turn (all_counted (turns_by whose most c))) ≡ length (turns_by whose most c))
        → length (filter is_turn (all_counted (turn_and_later o counts (turns_by whose most)))) ≡ length (turn_and_later o counts (turns_by whose most))
    by None rest = refl
    by (Some m) rest = ap suc (rest (counts ++ next_turn m counts ∷ []))

looked_or_done : (turns : List Counted) → length (filter is_turn (all_counted turns)) ≡ length turns → length (filter is_turn (done_or_look None turns)) ≡ length turns
looked_or_done [] is = refl
looked_or_done (c ∷ turns) is = is

same_number : (v turns : ℕ) → (let r : Result ℕ SackFault = Ok turns in r) ≡ Ok v → turns ≡ v
same_number v turns is = cc

by_turns : (turns v : ℕ) (now rest : List Entry) → turns ≡ v → v ≡ length (drain_turns (kept now)) → rest ≡ done_or_look None (drain_turns (kept now)) → turns ≡ length (filter is_turn rest)
by_turns turns v now rest same number is =
    same ∙ number ∙ sym (ap (λ l. length (filter is_turn l)) is ∙ looked_or_done (drain_turns (kept now)) (all_turns longest_waiting _ (kept now)))

pub drained_turns : (turns : ℕ) (before own : List Entry) → IsDraining (Ok turns) before own → turns ≡ length (filter is_turn own)
drained_turns turns before own (whole w (given v g is)) = by_turns turns v before own (same_number v turns is) g.0 g.1
drained_turns turns before own (whole w (turned_away f r look is)) = absurd (ok_err turns f is)
drained_turns turns before own (whole w (failed failure f is)) = absurd (ok_err turns _ is)
drained_turns turns before own (mounted found rest may is (given v g k)) = by_turns turns v (before ++ entries.Reopened found ∷ []) rest (same_number v turns k) g.0 g.1 ∙ sym (ap (λ l. length (filter is_turn l)) is)
drained_turns turns before own (mounted found rest may is (turned_away f r look k)) = absurd (ok_err turns f k)
drained_turns turns before own (mounted found rest may is (failed failure f k)) = absurd (ok_err turns _ k)
drained_turns turns before own (unmounted failure b f r) = absurd (ok_err turns _ r)

-- ---- in all sacks

-- so many turns more are told than were taken before, and the caller has made as many
record TellsMore (turns number : ℕ) (olds news : List SackBook) : Type 0 where
  more : ℕ
  made : turns_in news ≡ turns_in olds + more
  told : number ≡ capped (turns + more)

more_turns : (sack more : ℕ) (words : FaultWords SackFault) (old new : SackBook) (counts : List Counted) → OpensWith old.origin counts → EntersSackBook sack words IsDraining (Ok more) old new → own_turns new ≡ own_turns old + more
more_turns sack more words old new counts opening e =
    let own = e.enters.own in
    let says = e.enters.says counts opening in
    let number : more ≡ length (filter is_turn own) = drained_turns more _ own (ok_turn _ more _ own _ says.turn) in
    ap (λ l. length (filter is_turn l)) (own_entries e.enters.others own old new e.enters.adds)
    ∙ ap length (filter-append is_turn (entries_by old.caller old.seen) own) ∙ length-append (filter is_turn (entries_by old.caller old.seen)) (filter is_turn own)
    ∙ ap (λ n. own_turns old + n) (sym number)

tells_more : (sack turns number : ℕ) (olds news : List SackBook) (result : Result ℕ SackFault) → turns ≤ 2 ^ 64 - 1 → result ≡ Ok number → WereOpened olds → DrainsFrom sack turns olds news result
    → TellsMore turns number olds news
tells_more sack turns number olds news result le is opened (all s t) = record { more = 0; made = omega arith; told = omega (arith, same_number t number (sym is), le) }
tells_more sack turns number olds news result le is opened (one s t more old new os ns r e rest) =
    let later = tells_more _ (capped (t + more)) number os ns r (omega arith) is opened.1 rest in
    let here = more_turns s more _ old new opened.0.0 opened.0.1 e in
    record { more = more + later.more; made = omega (arith, here, later.made); told = omega (arith, later.told) }
tells_more sack turns number olds news result le is opened (refused s t old new os fault e) = absurd (ok_err number fault (sym is))

pub told_turns : (turns : ℕ) (old new : SeenBooks) → WereOpened old.sacks → Drains (Ok turns) old new → turns ≡ capped (turns_in new.sacks - turns_in old.sacks)
told_turns turns old new opened d =
    let t = tells_more 0 0 turns old.sacks new.sacks (Ok turns) (omega arith) refl opened d.sacks in
    omega (arith, t.made, t.told)

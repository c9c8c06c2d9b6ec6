-- Where no disk fails, nothing is answered 503.
use Rattle.std.proofs.Common.{◌≡◌, ℕ, ◌+◌, ◌-◌, ◌<◌, ◌≤◌, ◌^◌, true, List, [], ◌∷◌, ◌++◌, Option, Some, refl, sym, subst, ◌⊎◌, inl, inr, arith, min, leb, false}
use Rattle.std.proofs.KnownBytes.{Consumes-kept, Consumes-nil}
use Rattle.std.proofs.lemmas.Bool.Decides.{leb_tells}
use Rattle.std.specs.Io.KnownBytes.{Appends, Keeps}
use Rattle.command_line.specs.declared.status.Status.{Status}
use Rattle.gno_disk.specs.declared.disk.Disk.{Ghosts}
use Rattle.front_api.proofs.GoingOn.{all_further, all_stay}
use Rattle.front_api.specs.Maps.{Maps, new_maps}
use Rattle.front_api.specs.Seen.{SackBook, SeenBooks}
use Rattle.front_api.specs.SeenLaws.{BooksGoOn, EachGoesOn, SeeNoFault, WereAllOpened}
use Rattle.metric_index.specs.IndexLog.{HoldsIndex}
use Rattle.metric_index.specs.IndexView.{sum_of_faults}
use Rattle.front.specs.Creating.{StoreCame}
use Rattle.front.specs.Failing.{failed_at_first, failed_sacks}
use Rattle.front.specs.Opening.{IsOpenedOn, OfIndexDisks}
use Rattle.front.specs.Plan.{OnPlan}
use Rattle.front.specs.Ready.{AreWholeBooks, HoldStore}
use Rattle.front.specs.SoloView.{SoloView, StandsForBooks, disks_of_solo, do_tell}
use Rattle.rest_api.specs.Available as connections
use Rattle.rest_api.specs.Handling.{Handles}
use Rattle.rest_api.specs.Message.{Converses, Message}
use Rattle.rest_api.specs.Session.{Conversed, EndsSo, IsDue}
use Rattle.rest_api.specs.declared.conn_end.ConnEnd.{ConnEnd}
use Rattle.rest_replies.specs.declared.handled.Handled.{Handled}
use Rattle.rest_script.specs.Laws as scripts
use Rattle.rest_script.specs.Replying.{AnswersLines}
use Rattle.rest_script.specs.Serving.{Transcribes, WritesBehind}
use Rattle.rest_script.specs.declared.script_end.ScriptEnd.{ScriptEnd}
use Rattle.rest_script.specs.declared.script_end.ScriptEnd.TheVariants.{Ended, TooLong, Cut, TooMuch, ReadFault, WriteFault, Memory}
use Rattle.gnocchi_run.specs.declared.task.Start.{Start}
use Rattle.gnocchi_run.specs.declared.task.Start.TheVariants.{Found, New}
use Rattle.gnocchi_run.specs.Available.{AnswersLinesAvailable, AnswersMessagesAvailable, AreReady, NoneFailed}
use Rattle.gnocchi_run.specs.Doing.{AnswersConnection, AnswersScript, RunsOver}
use Rattle.gnocchi_run.specs.Opened.{OpensStore, faults_of_disks}

-- ---- how often the disks had failed as the books were opened, later

same_sacks : (olds news : List SackBook) → EachGoesOn olds news → failed_sacks news ≡ failed_sacks olds
same_sacks [] [] on = refl
same_sacks [] (new ∷ news) on = absurd on
same_sacks (old ∷ olds) [] on = absurd on
same_sacks (old ∷ olds) (new ∷ news) on = let here = on.0.failed in let rest = same_sacks olds news on.1 in omega (arith, here, rest)

same_failed : (old new : SeenBooks) → BooksGoOn old new → failed_at_first new ≡ failed_at_first old
same_failed old new on = let here = on.index.failed in let rest = same_sacks old.sacks new.sacks on.sacks in omega (arith, here, rest)

-- ---- what was seen before a transcript is the beginning of what is seen behind it

module _ (lines_on : (lines : List (List ℕ)) (text : List ℕ) (old new : SeenBooks) → AnswersLines lines text old new → BooksGoOn old new) where
  script_goes_on : (lines : List (List ℕ)) (behind : List ℕ) (end : ScriptEnd) (answered last : List ℕ) (old new : SeenBooks) → Transcribes lines behind end answered last old new → BooksGoOn old new
  script_goes_on lines behind end answered last old new t = all_further old t.mid new (lines_on lines answered old t.mid t.lines_are) (by end t.rest)
    where
      same : (new ≡ t.mid) → BooksGoOn t.mid new
      same is = subst (BooksGoOn t.mid) (sym is) (all_stay t.mid)

      by : (e : ScriptEnd) → WritesBehind e behind last t.mid new → BooksGoOn t.mid new
      by Ended w = same w.1
      by TooLong w = same w.1
      by Cut w = same w.1
      by TooMuch w = same w.1
      by ReadFault w = same w.1
      by WriteFault w = lines_on (w.line ∷ []) (last ++ w.more) t.mid new (AnswersLines.one_more [] w.line [] (last ++ w.more) t.mid t.mid new (AnswersLines.nothing t.mid) w.replies)
      by Memory w = same w.1

module _ (requests_on : (method target body : List ℕ) (answer : Handled) (old new : SeenBooks) → Handles method target body answer old new → BooksGoOn old new)
    (messages_on : (messages : List Message) (text : List ℕ) (old new : SeenBooks) → Converses messages text old new → BooksGoOn old new) where
  due_goes_on : (given : ℕ) (bytes : List ℕ) (left : Option (List ℕ)) (text : List ℕ) (old new : SeenBooks) → IsDue given bytes left text old new → BooksGoOn old new
  due_goes_on given bytes left _ old _ (IsDue.to_go_on head behind _ begins) = all_stay old
  due_goes_on given bytes left _ old new (IsDue.response m text _ _ has r) = requests_on m.head.method m.head.target m.body r.answer old new r.handles
  due_goes_on given bytes left _ old _ (IsDue.refusal _ _ r) = all_stay old

  end_goes_on : (given : ℕ) (bytes : List ℕ) (left : Option (List ℕ)) (end : ConnEnd) (last : List ℕ) (old new : SeenBooks) → EndsSo given bytes left end last old new → BooksGoOn old new
  end_goes_on given bytes left _ _ old _ (EndsSo.no_head cause _ untold ends) = all_stay old
  end_goes_on given bytes left _ _ old _ (EndsSo.refused text _ r) = all_stay old
  end_goes_on given bytes left _ _ old _ (EndsSo.no_body cause head part _ begins ends) = all_stay old
  end_goes_on given bytes left _ _ old new (EndsSo.closed m text _ _ has last r) = requests_on m.head.method m.head.target m.body r.answer old new r.handles
  end_goes_on given bytes left _ _ old new (EndsSo.unwritten text more _ _ due) = due_goes_on given bytes left (text ++ more) old new due
  end_goes_on given bytes left _ _ old _ (EndsSo.too_many _ many) = all_stay old

  connection_goes_on : (messages : List Message) (behind : List ℕ) (left : Option (List ℕ)) (end : ConnEnd) (answered last : List ℕ) (old new : SeenBooks) → Conversed messages behind left end answered last old new → BooksGoOn old new
  connection_goes_on messages behind left end answered last old new c =
      all_further old c.mid new (messages_on messages answered old c.mid c.messages_are) (end_goes_on _ behind left end last c.mid new c.ends)

-- ---- nothing was taken and written

module _ (left_before left_after taken_before taken_after : Option (List ℕ)) where
  pub no_lines : Keeps left_before left_after → Appends taken_before taken_after [] → AnswersLinesAvailable left_before left_after taken_before taken_after
  no_lines kept nothing = record {
    input = [];
    lines = [];
    behind = [];
    answered = [];
    last = [];
    from_source = Consumes-kept left_before left_before left_after [] (Consumes-nil left_before) kept;
    whole = refl;
    written = nothing;
    each = scripts.nothing;
    rest = record { more = []; whole = scripts.none };
  }

  pub no_messages : Keeps left_before left_after → Appends taken_before taken_after [] → AnswersMessagesAvailable left_before left_after taken_before taken_after
  no_messages kept nothing = record {
    input = [];
    messages = [];
    behind = [];
    answered = [];
    last = [];
    from_source = Consumes-kept left_before left_before left_after [] (Consumes-nil left_before) kept;
    whole = refl;
    written = nothing;
    each = connections.nothing;
    rest = record { more = []; whole = connections.waited false };
  }

-- ---- over the disks of a run

-- a count that didn't rise is below the last value, and where it isn't less than it was, it is the same
below_last : (old new : ℕ) → min new (2 ^ 64 - 1) < min (min old (2 ^ 64 - 1) + 1) (2 ^ 64 - 1) → new < 2 ^ 64 - 1
below_last old new less = omega (arith, less)

same_count : (old new : ℕ) → min new (2 ^ 64 - 1) < min (min old (2 ^ 64 - 1) + 1) (2 ^ 64 - 1) → old ≤ new → new ≤ old
same_count old new less le = omega (arith, less, le)

module _ {D : Type 0} (g : Ghosts D)
    (before : (front : SoloView D) (books : SeenBooks) → StandsForBooks g front books → WereAllOpened books
    → sum_of_faults g (disks_of_solo front) < 2 ^ 64 - 1 → failed_at_first books ≤ sum_of_faults g (disks_of_solo front))
    (clean : (front : SoloView D) (books : SeenBooks) → StandsForBooks g front books → WereAllOpened books
    → sum_of_faults g (disks_of_solo front) ≤ failed_at_first books → sum_of_faults g (disks_of_solo front) < 2 ^ 64 - 1 → SeeNoFault books)
    (made_whole : (sacks number : ℕ) (disks : List D) (front : SoloView D) → IsOpenedOn sacks true disks front → front.index.maps ≡ Some (new_maps number)
    → OnPlan (StoreCame g 15 9 9 1) disks (disks_of_solo front) → do_tell g disks ≡ true → (books : SeenBooks) × AreWholeBooks g disks front books)
    (found_whole : (sacks : ℕ) (disks : List D) (front : SoloView D) → IsOpenedOn sacks false disks front
    → OfIndexDisks g disks (λ x y. (m : Maps) → HoldsIndex sacks m x y → front.index.maps ≡ Some m)
    → OnPlan (StoreCame g 2 2 2 1) disks (disks_of_solo front) → HoldStore g sacks disks → (books : SeenBooks) × AreWholeBooks g disks front books)
    (later : (old new : SeenBooks) → BooksGoOn old new → WereAllOpened old → WereAllOpened new) where
  opened_books : (start : Start) (sacks : ℕ) (old : List D) (opened : SoloView D) → OpensStore g start sacks old opened → AreReady g start sacks old
      → (books : SeenBooks) × AreWholeBooks g old opened books × StandsForBooks g opened books
  opened_books (New number) sacks old opened is ready =
      let b = made_whole sacks number old opened is.opened is.maps is.came ready.tell in (b.0, b.1, is.stands b.0 b.1.new)
  opened_books Found sacks old opened is ready =
      let b = found_whole sacks old opened is.opened is.exact is.came ready in (b.0, b.1, is.stands b.0 b.1.new)

  -- the count of the disks didn't rise
  not_risen : (old new : List D) → NoneFailed g old new → faults_of_disks g new < min (faults_of_disks g old + 1) (2 ^ 64 - 1)
  not_risen old new none = by (leb_tells (min (faults_of_disks g old + 1) (2 ^ 64 - 1)) (faults_of_disks g new))
    where
      by : ((leb (min (faults_of_disks g old + 1) (2 ^ 64 - 1)) (faults_of_disks g new) ≡ true) × (min (faults_of_disks g old + 1) (2 ^ 64 - 1) ≤ faults_of_disks g new))
          ⊎ ((leb (min (faults_of_disks g old + 1) (2 ^ 64 - 1)) (faults_of_disks g new) ≡ false) × (faults_of_disks g new < min (faults_of_disks g old + 1) (2 ^ 64 - 1)))
          → faults_of_disks g new < min (faults_of_disks g old + 1) (2 ^ 64 - 1)
      by (inl le) = absurd (none (record { rose = le.1 }))
      by (inr lt) = lt.1

  no_fault_seen : (old : List D) (opened left : SoloView D) (first books : SeenBooks) → NoneFailed g old (disks_of_solo left) → AreWholeBooks g old opened first → BooksGoOn first books
      → StandsForBooks g left books → SeeNoFault books
  no_fault_seen old opened left first books none whole on stands =
      let less = not_risen old (disks_of_solo left) none in
      let were = later first books on whole.opened in
      let below = below_last (sum_of_faults g old) (sum_of_faults g (disks_of_solo left)) less in
      let kept = same_failed first books on in
      let at = before left books stands were below in
      let from = whole.failed (omega (arith, kept, at, below)) in
      let same = same_count (sum_of_faults g old) (sum_of_faults g (disks_of_solo left)) less (omega (arith, kept, at, from)) in
      clean left books stands were (omega (arith, same, from, kept)) below

  module _ (left_before left_after taken_before taken_after : Option (List ℕ)) where
    module _ (lines_on : (lines : List (List ℕ)) (text : List ℕ) (old new : SeenBooks) → AnswersLines lines text old new → BooksGoOn old new)
        (available : (lines : List (List ℕ)) (behind : List ℕ) (end : ScriptEnd) (answered last : List ℕ) (old new : SeenBooks)
        → WereAllOpened old → SeeNoFault new → Transcribes lines behind end answered last old new → scripts.AreAvailable lines answered × scripts.BeginsAvailable last) where
      pub script_available : (start : Start) (sacks : ℕ) (old new : List D) (status : Status) → RunsOver g start sacks (AnswersScript (StandsForBooks g)) old new left_before left_after taken_before taken_after status
          → AreReady g start sacks old → NoneFailed g old new → AnswersLinesAvailable left_before left_after taken_before taken_after
      script_available start sacks old new status (RunsOver.answered opened left opens answers is) ready none =
          let books = opened_books start sacks old opened opens ready in
          let s = answers.serves in
          let led = s.leads books.0 books.2 in
          let on = script_goes_on lines_on s.lines s.behind answers.end s.answered s.last books.0 led.0 led.2 in
          let clean_now = no_fault_seen old opened left books.0 led.0 (subst (NoneFailed g old) is none) books.1 on led.1 in
          let told = available s.lines s.behind answers.end s.answered s.last books.0 led.0 books.1.opened clean_now led.2 in
          record {
            input = s.input;
            lines = s.lines;
            behind = s.behind;
            answered = s.answered;
            last = s.last;
            from_source = s.from_source;
            whole = s.whole;
            written = s.written;
            each = told.0;
            rest = told.1;
          }
      script_available start sacks old new status (RunsOver.unopened fault un is kept nothing) ready none = no_lines left_before left_after taken_before taken_after kept nothing

    module _ (requests_on : (method target body : List ℕ) (answer : Handled) (old new : SeenBooks) → Handles method target body answer old new → BooksGoOn old new)
        (messages_on : (messages : List Message) (text : List ℕ) (old new : SeenBooks) → Converses messages text old new → BooksGoOn old new)
        (available : (messages : List Message) (behind : List ℕ) (left : Option (List ℕ)) (end : ConnEnd) (answered last : List ℕ) (old new : SeenBooks)
        → WereAllOpened old → SeeNoFault new → Conversed messages behind left end answered last old new → connections.AreAvailable messages answered × connections.BeginsAvailable last) where
      pub connection_available : (start : Start) (sacks : ℕ) (old new : List D) (status : Status) → RunsOver g start sacks (AnswersConnection (StandsForBooks g)) old new left_before left_after taken_before taken_after status
          → AreReady g start sacks old → NoneFailed g old new → AnswersMessagesAvailable left_before left_after taken_before taken_after
      connection_available start sacks old new status (RunsOver.answered opened left opens answers is) ready none =
          let books = opened_books start sacks old opened opens ready in
          let s = answers.serves in
          let led = s.leads books.0 books.2 in
          let on = connection_goes_on requests_on messages_on s.messages s.behind left_after answers.end s.answered s.last books.0 led.0 led.2 in
          let clean_now = no_fault_seen old opened left books.0 led.0 (subst (NoneFailed g old) is none) books.1 on led.1 in
          let told = available s.messages s.behind left_after answers.end s.answered s.last books.0 led.0 books.1.opened clean_now led.2 in
          record {
            input = s.input;
            messages = s.messages;
            behind = s.behind;
            answered = s.answered;
            last = s.last;
            from_source = s.from_source;
            whole = s.whole;
            written = s.written;
            each = told.0;
            rest = told.1;
          }
      connection_available start sacks old new status (RunsOver.unopened fault un is kept nothing) ready none = no_messages left_before left_after taken_before taken_after kept nothing

-- What a run comes to.
use Rattle.std.specs.Prelude.{◌≡◌, ℕ, List, [], ◌++◌, Option, codes}
use Rattle.std.specs.Fmt.{decimal}
use Rattle.std.specs.Io.KnownBytes.{Appends, Keeps}
use Rattle.command_line.specs.declared.status.Status.{Status}
use Rattle.command_line.specs.declared.status.Status.TheVariants.{Memory}
use Rattle.gno_disk.specs.declared.disk.Disk.{Ghosts}
use Rattle.sack_history.specs.declared.entry.Counted.{Counted}
use Rattle.front_api.specs.Seen.{SeenBooks}
use Rattle.front.specs.declared.counts.Counts.{Counts}
use Rattle.front.specs.declared.fault.StoreFault.{StoreFault}
use Rattle.front.specs.Counting.{AreCountedIn, counts_of}
use Rattle.front.specs.Opening.{AreNewBooks}
use Rattle.front.specs.SoloView.{SoloView, StandsForBooks, disks_of_solo}
use Rattle.rest_api.specs.Session.{Serves}
use Rattle.rest_api.specs.declared.conn_end.ConnEnd.{ConnEnd}
use Rattle.rest_script.specs.Serving.{ServesScript}
use Rattle.rest_script.specs.declared.script_end.ScriptEnd.{ScriptEnd}
use Rattle.gnocchi_run.specs.declared.task.Start.{Start}
use Rattle.gnocchi_run.specs.declared.task.Task.{Task}
use Rattle.gnocchi_run.specs.declared.task.Task.TheVariants.{Create, Replay, ReplayHttp, Check}
use Rattle.gnocchi_run.specs.Ending.{WritesText, status_of_connection, status_of_script, status_of_store}
use Rattle.gnocchi_run.specs.Opened.{IsFoundStore, IsMadeStore, IsUnfoundStore, IsUnmadeStore, OpensNoStore, OpensStore}

-- ---- create

-- An empty store was made, the disks that are given back are its, and that is told; or none was made, and nothing is told.
pub data CreatesStore {D : Type 0} (g : Ghosts D) (sacks number : ℕ) (old new : List D) (before after : Option (List ℕ)) (status : Status) : Type 0 where
  made : (v : SoloView D) → IsMadeStore g sacks number old v → new ≡ disks_of_solo v → WritesText (codes "created\n") before after status
      → CreatesStore g sacks number old new before after status
  unmade : (fault : StoreFault) → IsUnmadeStore g sacks number fault old new → status ≡ status_of_store fault → Appends before after []
      → CreatesStore g sacks number old new before after status

-- ---- check

-- the line that tells how many sacks, metrics and waiting posts there are
abbrev pub counts_text : ℕ → Counts → List ℕ
counts_text sacks counts =
    codes "sacks " ++ (decimal sacks ++ (codes " metrics " ++ (decimal counts.metrics ++ (codes " pending " ++ (decimal counts.pending ++ codes "\n")))))

-- it is written, or there was no memory for it
pub data TellsCounts (sacks : ℕ) (counts : Counts) (before after : Option (List ℕ)) (status : Status) : Type 0 where
  told : WritesText (counts_text sacks counts) before after status → TellsCounts sacks counts before after status
  starved : status ≡ Memory → Appends before after [] → TellsCounts sacks counts before after status

-- The store was found, and what is told of it is what its sacks hold together, whatever counted lists amount to that; or
-- none was found, and nothing is told.
pub data ChecksStore {D : Type 0} (g : Ghosts D) (sacks : ℕ) (old new : List D) (before after : Option (List ℕ)) (status : Status) : Type 0 where
  counted : (v : SoloView D) (counts : Counts) → IsFoundStore g sacks old v → new ≡ disks_of_solo v
      → ((books : SeenBooks) (lists : List (List Counted)) → AreNewBooks g v books → AreCountedIn books.sacks lists → counts ≡ counts_of lists)
      → TellsCounts sacks counts before after status → ChecksStore g sacks old new before after status
  unfound : (fault : StoreFault) → IsUnfoundStore g sacks fault old new → status ≡ status_of_store fault → Appends before after []
      → ChecksStore g sacks old new before after status

-- ---- replay

-- The bytes that were taken were served as a script, to the end that the status tells.
pub record AnswersScript {F : Type 0} (stands : F → SeenBooks → Type 0) (old new : F) (left_before left_after taken_before taken_after : Option (List ℕ)) (status : Status) : Type 0 where
  pub end : ScriptEnd
  pub status_is : status ≡ status_of_script end
  pub serves : ServesScript stands old new left_before left_after taken_before taken_after end

-- They were served as a connection, to the end that the status tells.
pub record AnswersConnection {F : Type 0} (stands : F → SeenBooks → Type 0) (old new : F) (left_before left_after taken_before taken_after : Option (List ℕ)) (status : Status) : Type 0 where
  pub end : ConnEnd
  pub status_is : status ≡ status_of_connection end
  pub serves : Serves stands old new left_before left_after taken_before taken_after end

-- The store was opened, and over what it stood for, the source was answered; the disks that are given back are those of a
-- front that stands for what this led to. Or none was opened, and nothing was taken or written.
pub data RunsOver {D : Type 0} (g : Ghosts D) (start : Start) (sacks : ℕ) (Answers : SoloView D → SoloView D → Option (List ℕ) → Option (List ℕ) → Option (List ℕ) → Option (List ℕ) → Status → Type 0) (old new : List D) (left_before left_after taken_before taken_after : Option (List ℕ)) (status : Status) : Type 0 where
  answered : (opened left : SoloView D) → OpensStore g start sacks old opened
      → Answers opened left left_before left_after taken_before taken_after status → new ≡ disks_of_solo left
      → RunsOver g start sacks Answers old new left_before left_after taken_before taken_after status
  unopened : (fault : StoreFault) → OpensNoStore g start sacks fault old new → status ≡ status_of_store fault
      → Keeps left_before left_after → Appends taken_before taken_after []
      → RunsOver g start sacks Answers old new left_before left_after taken_before taken_after status

-- ---- all of them

-- Nothing was done: the disks are as they were, and nothing was taken or written.
pub record DoesNothing {D : Type 0} (old new : List D) (left_before left_after taken_before taken_after : Option (List ℕ)) : Type 0 where
  pub disks : new ≡ old
  pub unread : Keeps left_before left_after
  pub unwritten : Appends taken_before taken_after []

-- What a run comes to: a script and a connection are answered by the transcript of all books of the store; a store that is
-- made or counted takes nothing of the source.
abbrev pub Performs : {D : Type 0} → Ghosts D → Task → List D → List D → Option (List ℕ) → Option (List ℕ) → Option (List ℕ) → Option (List ℕ) → Status → Type 0
Performs g (Create sacks number) old new left_before left_after taken_before taken_after status =
    CreatesStore g sacks number old new taken_before taken_after status × Keeps left_before left_after
Performs g (Replay start sacks) old new left_before left_after taken_before taken_after status =
    RunsOver g start sacks (AnswersScript (StandsForBooks g)) old new left_before left_after taken_before taken_after status
Performs g (ReplayHttp start sacks) old new left_before left_after taken_before taken_after status =
    RunsOver g start sacks (AnswersConnection (StandsForBooks g)) old new left_before left_after taken_before taken_after status
Performs g (Check sacks) old new left_before left_after taken_before taken_after status =
    ChecksStore g sacks old new taken_before taken_after status × Keeps left_before left_after

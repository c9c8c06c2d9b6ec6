-- Runs in which no disk fails.
use Rattle.std.specs.Prelude.{◌≡◌, ℕ, true, List, ◌++◌, Option}
use Rattle.std.specs.List.{flat_map}
use Rattle.std.specs.Io.KnownBytes.{Appends, Consumes}
use Rattle.gno_disk.specs.declared.disk.Disk.{Ghosts}
use Rattle.gno_num.specs.Faults.{Rose}
use Rattle.front.specs.Looking.{HaveNoStore}
use Rattle.front.specs.Ready.{HoldStore}
use Rattle.front.specs.SoloView.{do_tell}
use Rattle.rest_api.specs.Available as connections
use Rattle.rest_api.specs.Message.{Message, message_bytes}
use Rattle.rest_script.specs.Laws as scripts
use Rattle.rest_script.specs.Lines.{ended}
use Rattle.gnocchi_run.specs.declared.task.Start.{Start}
use Rattle.gnocchi_run.specs.declared.task.Start.TheVariants.{Found, New}
use Rattle.gnocchi_run.specs.declared.task.Task.{Task}
use Rattle.gnocchi_run.specs.declared.task.Task.TheVariants.{Create, Replay, ReplayHttp, Check}
use Rattle.gnocchi_run.specs.Opened.{faults_of_disks}

-- disks on which a store can be made: each tells its bytes, and there is no store
pub record AreFree {D : Type 0} (g : Ghosts D) (disks : List D) : Type 0 where
  pub tell : do_tell g disks ≡ true
  pub none : HaveNoStore g disks

-- disks over which a store can be opened: one can be made on them, or they hold the one that is to be found
abbrev pub AreReady : {D : Type 0} → Ghosts D → Start → ℕ → List D → Type 0
AreReady g (New number) sacks disks = AreFree g disks
AreReady g Found sacks disks = HoldStore g sacks disks

-- disks that are ready for a task
abbrev pub AreReadyFor : {D : Type 0} → Ghosts D → Task → List D → Type 0
AreReadyFor g (Create sacks number) disks = AreFree g disks
AreReadyFor g (Replay start sacks) disks = AreReady g start sacks disks
AreReadyFor g (ReplayHttp start sacks) disks = AreReady g start sacks disks
AreReadyFor g (Check sacks) disks = HoldStore g sacks disks

-- a count of faults didn't rise
abbrev pub IsUnrisen : ℕ → ℕ → Type 0
IsUnrisen before after = Rose before after → ⊥

-- the count of the disks' faults didn't rise
abbrev pub NoneFailed : {D : Type 0} → Ghosts D → List D → List D → Type 0
NoneFailed g old new = IsUnrisen (faults_of_disks g old) (faults_of_disks g new)

-- The bytes that were taken are lines, each with its end, and then others. What was written are the replies to the lines,
-- and the first bytes of another one; none of them is a 503.
pub record AnswersLinesAvailable (left_before left_after taken_before taken_after : Option (List ℕ)) : Type 0 where
  pub input : List ℕ
  pub lines : List (List ℕ)
  pub behind : List ℕ
  pub answered : List ℕ
  pub last : List ℕ
  pub from_source : Consumes left_before left_after input
  pub whole : input ≡ flat_map ended lines ++ behind
  pub written : Appends taken_before taken_after (answered ++ last)
  pub each : scripts.AreAvailable lines answered
  pub rest : scripts.BeginsAvailable last

-- The bytes that were taken are messages, and then others. What was written are the responses to the messages, each behind
-- what its client waits for, and the first bytes of another one; none of them is a 503.
pub record AnswersMessagesAvailable (left_before left_after taken_before taken_after : Option (List ℕ)) : Type 0 where
  pub input : List ℕ
  pub messages : List Message
  pub behind : List ℕ
  pub answered : List ℕ
  pub last : List ℕ
  pub from_source : Consumes left_before left_after input
  pub whole : input ≡ flat_map message_bytes messages ++ behind
  pub written : Appends taken_before taken_after (answered ++ last)
  pub each : connections.AreAvailable messages answered
  pub rest : connections.BeginsAvailable last

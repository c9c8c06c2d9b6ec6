-- What a run does by a command.
use Rattle.std.specs.Prelude.{◌≡◌, ℕ, List, length, Option, Some, None}
use Rattle.command_line.specs.declared.command.Command.{Command}
use Rattle.command_line.specs.declared.command.Command.TheVariants as commands
use Rattle.command_line.specs.declared.home.Home.{Home}
use Rattle.command_line.specs.declared.home.Home.TheVariants as homes
use Rattle.command_line.specs.Command.{IsCommand}
use Rattle.command_line.specs.Plan.{plan_of}
use Rattle.gnocchi_run.specs.declared.task.Start.{Start}
use Rattle.gnocchi_run.specs.declared.task.Start.TheVariants.{Found, New}
use Rattle.gnocchi_run.specs.declared.task.Task.{Task}
use Rattle.gnocchi_run.specs.declared.task.Task.TheVariants.{Create, Replay, ReplayHttp, Check}

-- a store in a folder is found there; one in memory is made first, with this number
abbrev pub start_at : Home → ℕ → Start
start_at homes.Memory number = New number
start_at (homes.Folder folder) number = Found

-- what a run does by a command; the others are done by other calls
abbrev pub task_of : Command → Option Task
task_of (commands.Create folder sacks number) = Some (Create sacks number)
task_of (commands.Replay home sacks number) = Some (Replay (start_at home number) sacks)
task_of (commands.ReplayHttp home sacks number) = Some (ReplayHttp (start_at home number) sacks)
task_of (commands.Check folder sacks) = Some (Check sacks)
task_of (commands.Load seed count sacks) = None
task_of (commands.Drill seed count) = None
task_of (commands.Serve home sacks number listen workers conns) = None

-- how many sacks the store has
abbrev pub sacks_of : Task → ℕ
sacks_of (Create sacks number) = sacks
sacks_of (Replay start sacks) = sacks
sacks_of (ReplayHttp start sacks) = sacks
sacks_of (Check sacks) = sacks

-- The words are a command by which a run does this, and there are as many disks as its plan has.
pub record IsTask (words : List (List ℕ)) (disks : ℕ) (task : Task) : Type 0 where
  pub command : Command
  pub is_command : IsCommand words command
  pub does : task_of command ≡ Some task
  pub planned : disks ≡ length (plan_of command).names

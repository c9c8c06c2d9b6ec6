-- The disks of a command.
use Rattle.std.specs.Prelude.{◌≡◌, ℕ, zero, suc, Bool, true, false, List, [], ◌∷◌, ◌++◌, map, Some, None, codes}
use Rattle.std.specs.Fmt.{decimal}
use Rattle.command_line.specs.declared.command.Command.{Command}
use Rattle.command_line.specs.declared.command.Command.TheVariants.{Create, Replay, ReplayHttp, Check, Load, Drill, Serve}
use Rattle.command_line.specs.declared.home.Home.{Home}
use Rattle.command_line.specs.declared.home.Home.TheVariants.{Memory, Folder}
use Rattle.command_line.specs.declared.plan.Plan.{Plan}
use Rattle.command_line.specs.Command.{IsCommand}

-- what stands before the names of disks in a folder
abbrev pub folder_front : List ℕ → List ℕ
folder_front folder = folder ++ codes "/"

-- what stands before the names of disks; nothing in memory
abbrev pub disk_front : Home → List ℕ
disk_front Memory = []
disk_front (Folder folder) = folder_front folder

-- the store is in memory
abbrev pub is_in_memory : Home → Bool
is_in_memory Memory = true
is_in_memory (Folder folder) = false

-- one disk of a sack
abbrev pub sack_disk : List ℕ → ℕ → List ℕ → List ℕ
sack_disk front sack kind = front ++ (codes "sack-" ++ (decimal sack ++ kind))

-- what the names of a sack's disks end with
abbrev pub sack_kinds : List (List ℕ)
sack_kinds = codes ".in.a" ∷ codes ".in.b" ∷ codes ".shelf.a" ∷ codes ".shelf.b" ∷ codes ".blocks" ∷ []

-- the disks of so many sacks, from this one on
abbrev pub sack_disks : List ℕ → ℕ → ℕ → List (List ℕ)
sack_disks front sack zero = []
sack_disks front sack (suc count) = map (λ kind. sack_disk front sack kind) sack_kinds ++ sack_disks front (suc sack) count

-- the disks of a store: two of the index, and five of each sack
abbrev pub store_disks : List ℕ → ℕ → List (List ℕ)
store_disks front sacks = (front ++ codes "index.a") ∷ (front ++ codes "index.b") ∷ sack_disks front 0 sacks

-- a plan of a command that doesn't serve
abbrev pub plain_plan : Bool → List (List ℕ) → Plan
plain_plan memory names = record { memory = memory; names = names; listen = None; workers = 0; conns = 0 }

-- a plan of a server
abbrev pub server_plan : Bool → List (List ℕ) → List ℕ → ℕ → ℕ → Plan
server_plan memory names listen workers conns =
    record { memory = memory; names = names; listen = Some listen; workers = workers; conns = conns }

-- the plan of a command
abbrev pub plan_of : Command → Plan
plan_of (Create folder sacks number) = plain_plan false (store_disks (folder_front folder) sacks)
plan_of (Replay home sacks number) = plain_plan (is_in_memory home) (store_disks (disk_front home) sacks)
plan_of (ReplayHttp home sacks number) = plain_plan (is_in_memory home) (store_disks (disk_front home) sacks)
plan_of (Check folder sacks) = plain_plan false (store_disks (folder_front folder) sacks)
plan_of (Load seed count sacks) = plain_plan true (store_disks [] sacks)
plan_of (Drill seed count) = plain_plan true []
plan_of (Serve home sacks number listen workers conns) =
    server_plan (is_in_memory home) (store_disks (disk_front home) sacks) listen workers conns

-- the words are a command with this plan
pub record HasPlan (words : List (List ℕ)) (plan : Plan) : Type 0 where
  pub command : Command
  pub is_command : IsCommand words command
  pub planned : plan ≡ plan_of command

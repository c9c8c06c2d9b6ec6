-- The commands that words are.
use Rattle.std.specs.Prelude.{◌≡◌, ℕ, List, ◌∷◌, Option, Some, None, All, IsTrue, option_and_then}
use Rattle.command_line.specs.declared.command.Command.{Command}
use Rattle.command_line.specs.declared.command.Command.TheVariants.{Create, Replay, ReplayHttp, Check, Load, Drill, Serve}
use Rattle.command_line.specs.declared.verb.Verb.{Verb}
use Rattle.command_line.specs.declared.verb.Verb.TheVariants as verbs
use Rattle.command_line.specs.Given.{folder_in, home_in, sacks_in, number_in, seed_in, count_in, listen_in, workers_in, conns_in}
use Rattle.command_line.specs.Setting.{Setting, Spells}
use Rattle.command_line.specs.Verb.{verb_name, takes}

-- what two values make, where both are there
abbrev pub of_two : {A B C : Type 0} → (A → B → C) → Option A → Option B → Option C
of_two make None b = None
of_two make (Some a) None = None
of_two make (Some a) (Some b) = Some (make a b)

-- what three values make, where all are there
abbrev pub of_three : {A B C D : Type 0} → (A → B → C → D) → Option A → Option B → Option C → Option D
of_three make None b c = None
of_three make (Some a) b c = of_two (make a) b c

-- the command that a verb and settings make
abbrev pub command_from : Verb → List Setting → Option Command
command_from verbs.Create settings = of_three Create (folder_in settings) (sacks_in settings) (number_in settings)
command_from verbs.Replay settings = of_three Replay (home_in settings) (sacks_in settings) (number_in settings)
command_from verbs.ReplayHttp settings = of_three ReplayHttp (home_in settings) (sacks_in settings) (number_in settings)
command_from verbs.Check settings = of_two Check (folder_in settings) (sacks_in settings)
command_from verbs.Load settings = of_three Load (seed_in settings) (count_in settings) (sacks_in settings)
command_from verbs.Drill settings = of_two Drill (seed_in settings) (count_in settings)
command_from verbs.Serve settings =
    option_and_then (λ serve. of_three serve (listen_in settings) (workers_in settings) (conns_in settings))
    (of_three (λ home sacks number listen workers conns. Serve home sacks number listen workers conns) (home_in settings) (sacks_in settings) (number_in settings))

-- The words are this command: the first is its verb, the others spell settings, each of an option that
-- the verb takes, and the command is what the verb and the settings make.
pub record IsCommand (words : List (List ℕ)) (command : Command) : Type 0 where
  pub verb : Verb
  pub settings : List Setting
  pub rest : List (List ℕ)
  pub named : words ≡ verb_name verb ∷ rest
  pub spelled : Spells settings rest
  pub taken : All (λ (setting : Setting). IsTrue (takes verb setting.0)) settings
  pub made : command_from verb settings ≡ Some command

-- What the words of a task are.
use Rattle.std.proofs.Common.{◌≡◌, ℕ, ◌+◌, ◌*◌, ◌^◌, ◌<◌, ◌≤◌, ◌↔◌, List, [], ◌∷◌, length, Option, Some, None, option_and_then, refl, sym, ap, subst, ◌∙◌, arith}
use Rattle.std.specs.Fmt.{decimal}
use Rattle.std.proofs.lemmas.Option.{none-some, same_Some}
use Rattle.command_line.specs.declared.command.Command.{Command}
use Rattle.command_line.specs.declared.command.Command.TheVariants as commands
use Rattle.command_line.specs.declared.flag.Flag.TheVariants.{Sacks}
use Rattle.command_line.specs.declared.verb.Verb.{Verb}
use Rattle.command_line.specs.declared.verb.Verb.TheVariants as verbs
use Rattle.command_line.specs.Command.{IsCommand, command_from, of_two, of_three}
use Rattle.command_line.specs.Given.{comes_to, conns_in, count_in, folder_in, given_for, home_in, listen_in, number_in, sacks_in, seed_in, workers_in}
use Rattle.command_line.specs.Number.{number_within}
use Rattle.command_line.specs.Plan.{plan_of, store_disks}
use Rattle.command_line.specs.Setting.{Setting}
use Rattle.gnocchi_run.specs.declared.task.Task.{Task}
use Rattle.gnocchi_run.specs.declared.task.Task.TheVariants.{Create, Replay, ReplayHttp, Check}
use Rattle.gnocchi_run.specs.Task.{IsTask, sacks_of, start_at, task_of}

-- ---- what stands of values that are all there

two_all : {A B C : Type 0} (P : C → Type 0) (make : A → B → C) (a : Option A) (b : Option B)
    → ((x : A) (y : B) → a ≡ Some x → b ≡ Some y → P (make x y)) → (c : C) → of_two make a b ≡ Some c → P c
two_all P make None b f c is = absurd (none-some c is)
two_all P make (Some x) None f c is = absurd (none-some c is)
two_all P make (Some x) (Some y) f c is = subst P (same_Some (make x y) c is) (f x y refl refl)

three_all : {A B C D : Type 0} (P : D → Type 0) (make : A → B → C → D) (a : Option A) (b : Option B) (c : Option C)
    → ((x : A) (y : B) (z : C) → a ≡ Some x → b ≡ Some y → c ≡ Some z → P (make x y z)) → (d : D) → of_three make a b c ≡ Some d → P d
three_all P make None b c f d is = absurd (none-some d is)
three_all P make (Some x) b c f d is = two_all P (make x) b c (λ y z. f x y z refl) d is

then_all : {A B : Type 0} (P : B → Type 0) (f : A → Option B) (a : Option A)
    → ((x : A) → a ≡ Some x → (b : B) → f x ≡ Some b → P b) → (b : B) → option_and_then f a ≡ Some b → P b
then_all P f None each b is = absurd (none-some b is)
then_all P f (Some x) each b is = each x refl b is

-- ---- limits

-- within the limits of the number of sacks
abbrev pub AreFew : ℕ → Type 0
AreFew n = (1 ≤ n) × (n ≤ 64)

-- numbers in words are read within their limits
abbrev pub AreWithin : Type 0
AreWithin = (least most number : ℕ) (word : List ℕ) → most < 2 ^ 64
    → (number_within least most word ≡ Some number) ↔ ((word ≡ decimal number) × (least ≤ number) × (number ≤ most))

few_given : AreWithin → (values : List (List ℕ)) (n : ℕ) → comes_to (number_within 1 64) (Some 4) values ≡ Some n → AreFew n
few_given within [] n is = subst AreFew (same_Some 4 n is) (omega arith, omega arith)
few_given within (value ∷ []) n is = let read = (within 1 64 n value (omega arith)).0 is in (read.1, read.2)
few_given within (value ∷ next ∷ values) n is = absurd (none-some n is)

few_chosen : AreWithin → (settings : List Setting) (n : ℕ) → sacks_in settings ≡ Some n → AreFew n
few_chosen within settings n is = few_given within (given_for Sacks settings) n is

-- the store of each task that is done by the command has few sacks
abbrev pub HasFew : Command → Type 0
HasFew command = (task : Task) → task_of command ≡ Some task → AreFew (sacks_of task)

few_of : (n : ℕ) (one other : Task) → sacks_of one ≡ n → Some one ≡ Some other → AreFew n → AreFew (sacks_of other)
few_of n one other size is few = subst (λ task. AreFew (sacks_of task)) (same_Some one other is) (subst AreFew (sym size) few)

few_made : AreWithin → (verb : Verb) (settings : List Setting) (command : Command) → command_from verb settings ≡ Some command → HasFew command
few_made within verbs.Create settings = three_all HasFew commands.Create (folder_in settings) (sacks_in settings) (number_in settings)
    (λ f n k _ e _ task is. few_of n (Create n k) task refl is (few_chosen within settings n e))
few_made within verbs.Replay settings = three_all HasFew commands.Replay (home_in settings) (sacks_in settings) (number_in settings)
    (λ h n k _ e _ task is. few_of n (Replay (start_at h k) n) task refl is (few_chosen within settings n e))
few_made within verbs.ReplayHttp settings = three_all HasFew commands.ReplayHttp (home_in settings) (sacks_in settings) (number_in settings)
    (λ h n k _ e _ task is. few_of n (ReplayHttp (start_at h k) n) task refl is (few_chosen within settings n e))
few_made within verbs.Check settings = two_all HasFew commands.Check (folder_in settings) (sacks_in settings)
    (λ f n _ e task is. few_of n (Check n) task refl is (few_chosen within settings n e))
few_made within verbs.Load settings = three_all HasFew commands.Load (seed_in settings) (count_in settings) (sacks_in settings)
    (λ s c n _ _ _ task is. absurd (none-some task is))
few_made within verbs.Drill settings = two_all HasFew commands.Drill (seed_in settings) (count_in settings)
    (λ s c _ _ task is. absurd (none-some task is))
few_made within verbs.Serve settings =
    then_all HasFew (λ serve. of_three serve (listen_in settings) (workers_in settings) (conns_in settings))
    (of_three (λ home sacks number listen workers conns. commands.Serve home sacks number listen workers conns) (home_in settings) (sacks_in settings) (number_in settings))
    (three_all (λ serve. (command : Command) → of_three serve (listen_in settings) (workers_in settings) (conns_in settings) ≡ Some command → HasFew command)
    (λ home sacks number listen workers conns. commands.Serve home sacks number listen workers conns) (home_in settings) (sacks_in settings) (number_in settings)
    (λ h n k _ _ _. three_all HasFew (commands.Serve h n k) (listen_in settings) (workers_in settings) (conns_in settings)
    (λ l w c _ _ _ task is. absurd (none-some task is))))

-- words of a task ask for few sacks
pub few_sacks : AreWithin → (words : List (List ℕ)) (command : Command) (task : Task) → IsCommand words command → task_of command ≡ Some task → AreFew (sacks_of task)
few_sacks within words command task is does = few_made within is.verb is.settings command is.made task does

-- ---- the plan

-- a store has two disks, and five for each sack
abbrev pub FiveASack : Type 0
FiveASack = (front : List ℕ) (sacks : ℕ) → length (store_disks front sacks) ≡ 2 + 5 * sacks

plan_for : (count : ℕ) (one other : Task) → count ≡ 2 + 5 * sacks_of one → Some one ≡ Some other → count ≡ 2 + 5 * sacks_of other
plan_for count one other size is = subst (λ task. count ≡ 2 + 5 * sacks_of task) (same_Some one other is) size

pub planned_disks : FiveASack → (command : Command) (task : Task) → task_of command ≡ Some task → length (plan_of command).names ≡ 2 + 5 * sacks_of task
planned_disks five (commands.Create folder sacks number) task is = plan_for _ (Create sacks number) task (five _ sacks) is
planned_disks five (commands.Replay home sacks number) task is = plan_for _ (Replay (start_at home number) sacks) task (five _ sacks) is
planned_disks five (commands.ReplayHttp home sacks number) task is = plan_for _ (ReplayHttp (start_at home number) sacks) task (five _ sacks) is
planned_disks five (commands.Check folder sacks) task is = plan_for _ (Check sacks) task (five _ sacks) is
planned_disks five (commands.Load seed count sacks) task is = absurd (none-some task is)
planned_disks five (commands.Drill seed count) task is = absurd (none-some task is)
planned_disks five (commands.Serve home sacks number listen workers conns) task is = absurd (none-some task is)

-- ---- the task of words

module _ (words : List (List ℕ)) (read : Command) (is_command : IsCommand words read) where
  pub is_task : FiveASack → (task : Task) (disks : ℕ) → task_of read ≡ Some task → disks ≡ 2 + 5 * sacks_of task → IsTask words disks task
  is_task five task disks does planned = record { command = read; is_command = is_command; does = does; planned = planned ∙ sym (planned_disks five read task does) }

  pub only_task : FiveASack → ((command : Command) → IsCommand words command → read ≡ command) → (task : Task) → task_of read ≡ Some task
      → (disks : ℕ) (other : Task) → IsTask words disks other → (other ≡ task) × (disks ≡ 2 + 5 * sacks_of task)
  only_task five one task does disks other is =
      let same : task_of read ≡ Some other = ap task_of (one is.command is.is_command) ∙ is.does in
      let tasks : other ≡ task = same_Some other task (sym same ∙ does) in
      (tasks, is.planned ∙ planned_disks five is.command other is.does ∙ ap (λ t. 2 + 5 * sacks_of t) tasks)

  pub no_task : ((command : Command) → IsCommand words command → read ≡ command) → task_of read ≡ None
      → (disks : ℕ) (task : Task) → IsTask words disks task → ⊥
  no_task one none disks task is = none-some task (sym none ∙ ap task_of (one is.command is.is_command) ∙ is.does)

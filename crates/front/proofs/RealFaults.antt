-- The faults of an index's history, as its calls come to be.
use Rattle.std.proofs.Common.{◌≡◌, ℕ, ◌≤◌, Bool, true, false, cond, List, [], ◌∷◌, ◌++◌, Option, None, Some, Result, Ok, Err, sym, subst, arith}
use Rattle.std.specs.Result.{IfErr}
use Rattle.archive_policy.specs.Policies.{ArchivePolicy}
use Rattle.gno_disk.specs.declared.disk.Disk.{Ghosts}
use Rattle.series_model.specs.declared.metric.MetricId.{MetricId}
use Rattle.front_api.specs.Calls.{AddsTo, AppliesTo, BeginsOn, FailedMounting, IsAdded, IsApplied, IsCall, RefusedCall, damaged, disk, failed, mounted, named, spent, starved, unmounted, whole}
use Rattle.front_api.specs.FaultWords.{control_words, is_control_damage}
use Rattle.front_api.specs.Maps.{Maps, is_change}
use Rattle.front_api.specs.Seen.{TellsNoDamage, capped}
use Rattle.front_api.specs.declared.command.Command.{Command}
use Rattle.front_api.specs.declared.command.Command.TheVariants as commands
use Rattle.front_api.specs.declared.command.MetricDoc.{MetricDoc}
use Rattle.front_api.specs.declared.command.Reply.{Reply}
use Rattle.front_api.specs.declared.fault.ControlFault.{ControlFault}
use Rattle.front_api.specs.declared.fault.ControlFault.TheVariants as faults
use Rattle.front_api.specs.declared.history.IndexCounted.{IndexCounted}
use Rattle.front_api.specs.declared.history.IndexCounted.TheVariants as counted
use Rattle.front_api.specs.declared.history.IndexEntry.{IndexEntry}
use Rattle.front_api.specs.declared.history.IndexEntry.TheVariants as entries
use Rattle.metric_index.specs.BookCalls.{MatchDisk}
use Rattle.metric_index.specs.IndexCalls.{IsBegunBy}
use Rattle.metric_index.specs.IndexView.{AllCame, IsFaultOf, sum_of_faults}
use Rattle.front.specs.SoloView.{AreRealFaults}

-- ---- one list behind another

real_from : (own : List IndexEntry) (low mid now : ℕ) → low ≤ mid → AreRealFaults mid own now → AreRealFaults low own now
real_from [] low mid now le is = omega (arith, le, is)
real_from (entries.Counted c ∷ own) low mid now le is = real_from own low mid now le is
real_from (entries.Look ∷ own) low mid now le is = real_from own low mid now le is
real_from (entries.Fault tried before after ∷ own) low mid now le is = (omega (arith, le, is.0), is.1, is.2)
real_from (entries.Reopened kept ∷ own) low mid now le is = real_from own low mid now le is

pub real_then : (h own : List IndexEntry) (low mid now : ℕ) → AreRealFaults low h mid → AreRealFaults mid own now → AreRealFaults low (h ++ own) now
real_then [] own low mid now first is = real_from own low mid now first is
real_then (entries.Counted c ∷ h) own low mid now first is = real_then h own low mid now first is
real_then (entries.Look ∷ h) own low mid now first is = real_then h own low mid now first is
real_then (entries.Fault tried before after ∷ h) own low mid now first is = (first.0, first.1, real_then h own after mid now first.2 is)
real_then (entries.Reopened kept ∷ h) own low mid now first is = real_then h own low mid now first is

-- ---- counts

module _ {D : Type 0} (g : Ghosts D) (later : (n : ℕ) (old new : D) → g.came n old new → g.faults old ≤ g.faults new) where
  sum_later : (n : ℕ) (olds news : List D) → AllCame g n olds news → sum_of_faults g olds ≤ sum_of_faults g news
  sum_later n [] [] came = omega arith
  sum_later n [] (d ∷ news) came = absurd came
  sum_later n (d ∷ olds) [] came = absurd came
  sum_later n (old ∷ olds) (new ∷ news) came = omega (arith, later n old new came.0, sum_later n olds news came.1)

  pub counts_later : (n : ℕ) (olds news : List D) → AllCame g n olds news → capped (sum_of_faults g olds) ≤ capped (sum_of_faults g news)
  counts_later n olds news came = omega (arith, sum_later n olds news came)

-- ---- a call

module _ {D : Type 0} (g : Ghosts D) (olds news : List D) (le : capped (sum_of_faults g olds) ≤ capped (sum_of_faults g news)) where
  -- its own entries are real
  abbrev IsRealOwn : List IndexEntry → Type 0
  IsRealOwn own = AreRealFaults (capped (sum_of_faults g olds)) own (capped (sum_of_faults g news))

  -- the cause of a refusal
  abbrev HasCause : ControlFault → Type 0
  HasCause fault = MatchDisk fault (IsFaultOf g olds news) (Unit {0})

  real_fault : (tried : Option IndexCounted) (before after : ℕ) → HasCause (faults.DiskFault (record { before = before; after = after })) → IsRealOwn (entries.Fault tried before after ∷ [])
  real_fault tried before after cause = (cause.before, cause.rose, omega (arith, cause.after))

  real_refused : (n : ControlFault → Type 0) (sp : ℕ → Type 0) (w : IndexCounted → Type 0) (fault : ControlFault) (own : List IndexEntry) → HasCause fault → RefusedCall n sp w fault own → IsRealOwn own
  real_refused n sp w fault own cause (named f is by_name) = le
  real_refused n sp w fault own cause (spent at is) = le
  real_refused n sp w fault own cause starved = le
  real_refused n sp w fault own cause (failed c before after is) = real_fault (Some c) before after cause

  real_unmounted : (fault : ControlFault) (own : List IndexEntry) → HasCause fault → is_control_damage fault ≡ false → FailedMounting fault own → IsRealOwn own
  real_unmounted fault own cause sound (disk before after) = real_fault None before after cause
  real_unmounted fault own cause sound (damaged d at before after) = cc
  real_unmounted fault own cause sound starved = le

  real_call : {R : Type 0} (onto : Maps → List IndexEntry → Result R ControlFault → Type 0) (result : Result R ControlFault) → IfErr result HasCause → TellsNoDamage control_words result
      → ((m : Maps) (own : List IndexEntry) → onto m own result → IsRealOwn own) → (first : Maps) (h own : List IndexEntry) → IsCall onto first h own result → IsRealOwn own
  real_call onto result cause sound by first h own (whole at_peace does) = by _ own does
  real_call onto result cause sound by first h own (mounted kept rest follows is does) = subst IsRealOwn (sym is) (by _ rest does)
  real_call {R} onto result cause sound by first h own (unmounted fault broken is fails) =
      real_unmounted fault own (subst (λ (r : Result R ControlFault). IfErr r HasCause) is cause) (subst (λ (r : Result R ControlFault). TellsNoDamage control_words r) is sound) fails

  real_applying : (command : Command) (m : Maps) (own : List IndexEntry) (result : Result Reply ControlFault) → IfErr result HasCause → AppliesTo command m own result → IsRealOwn own
  real_applying command m own (Ok reply) cause does = subst IsRealOwn (sym does.2) (by (is_change command))
    where
      by : (b : Bool) → IsRealOwn (cond b (entries.Counted (counted.Command command)) entries.Look ∷ [])
      by true = le
      by false = le
  real_applying command m own (Err fault) cause does = real_refused _ _ _ fault own cause does

  pub real_applied : (command : Command) (result : Result Reply ControlFault) → IfErr result HasCause → TellsNoDamage control_words result
      → (first : Maps) (h own : List IndexEntry) → IsApplied command first h own result → IsRealOwn own
  real_applied command result cause sound first h own is = real_call (AppliesTo command) result cause sound (λ m rest does. real_applying command m rest result cause does) first h own is

  real_beginning : (policy name : Option (List ℕ)) (resource : Option ℕ) (m : Maps) (own : List IndexEntry) (result : Result (MetricId × ArchivePolicy) ControlFault) → IfErr result HasCause
      → BeginsOn policy name resource m own result → IsRealOwn own
  real_beginning policy name resource m own (Ok drawn) cause does = subst IsRealOwn (sym does.3) le
  real_beginning policy name resource m own (Err fault) cause does = real_refused _ _ _ fault own cause does

  pub real_begun : (command : Command) (result : Result (MetricId × ArchivePolicy) ControlFault) → IfErr result HasCause → TellsNoDamage control_words result
      → (first : Maps) (h own : List IndexEntry) → IsBegunBy command first h own result → IsRealOwn own
  real_begun (commands.AddMetric policy name unit resource) result cause sound first h own is =
      real_call (BeginsOn policy name resource) result cause sound (λ m rest does. real_beginning policy name resource m rest result cause does) first h own is
  real_begun (commands.AddPolicy p) result cause sound first h own is = absurd is
  real_begun (commands.GetPolicy name) result cause sound first h own is = absurd is
  real_begun commands.ListPolicies result cause sound first h own is = absurd is
  real_begun (commands.DropPolicy name) result cause sound first h own is = absurd is
  real_begun (commands.AddRule r) result cause sound first h own is = absurd is
  real_begun (commands.GetRule name) result cause sound first h own is = absurd is
  real_begun commands.ListRules result cause sound first h own is = absurd is
  real_begun (commands.DropRule name) result cause sound first h own is = absurd is
  real_begun (commands.GetMetric id) result cause sound first h own is = absurd is
  real_begun commands.ListMetrics result cause sound first h own is = absurd is
  real_begun (commands.DropMetric id) result cause sound first h own is = absurd is
  real_begun (commands.AddResource id) result cause sound first h own is = absurd is
  real_begun (commands.GetResource id) result cause sound first h own is = absurd is
  real_begun commands.ListResources result cause sound first h own is = absurd is
  real_begun (commands.DropResource id) result cause sound first h own is = absurd is
  real_begun (commands.FindMetric resource name) result cause sound first h own is = absurd is

  real_adding : (doc : MetricDoc) (m : Maps) (own : List IndexEntry) (result : Result (Unit {0}) ControlFault) → IfErr result HasCause → AddsTo doc m own result → IsRealOwn own
  real_adding doc m own (Ok done) cause does = subst IsRealOwn (sym does.1) le
  real_adding doc m own (Err fault) cause does = real_refused _ _ _ fault own cause does

  pub real_added : (doc : MetricDoc) (result : Result (Unit {0}) ControlFault) → IfErr result HasCause → TellsNoDamage control_words result
      → (first : Maps) (h own : List IndexEntry) → IsAdded doc first h own result → IsRealOwn own
  real_added doc result cause sound first h own is = real_call (AddsTo doc) result cause sound (λ m rest does. real_adding doc m rest result cause does) first h own is

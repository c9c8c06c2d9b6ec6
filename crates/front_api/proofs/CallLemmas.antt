-- Calls leave legal histories; what is refused changes nothing; what is drawn is new.
use Rattle.std.proofs.Common.{◌≡◌, ℕ, ◌<◌, ◌≤◌, Bool, true, false, cond, List, [], ◌∷◌, ◌++◌, Option, Result, Ok, Err, refl, sym, subst, arith}
use Rattle.archive_policy.specs.Policies.{ArchivePolicy}
use Rattle.series_model.specs.declared.metric.MetricId.{MetricId}
use Rattle.front_api.specs.declared.command.Command.{Command}
use Rattle.front_api.specs.declared.command.MetricDoc.{MetricDoc}
use Rattle.front_api.specs.declared.command.Reply.{Reply}
use Rattle.front_api.specs.declared.command.Command.TheVariants as commands
use Rattle.front_api.specs.declared.fault.ControlFault.{ControlFault}
use Rattle.front_api.specs.declared.history.IndexCounted.{IndexCounted}
use Rattle.front_api.specs.declared.history.IndexCounted.TheVariants as counted
use Rattle.front_api.specs.declared.history.IndexEntry.{IndexEntry}
use Rattle.front_api.specs.declared.history.IndexEntry.TheVariants as entries
use Rattle.front_api.specs.Calls.{AddsTo, AppliesTo, BeginsOn, FailedMounting, IsCall, RefusedCall, damaged, disk, failed, mounted, named, spent, starved, unmounted, whole}
use Rattle.front_api.specs.IndexHistory.{IndexState, IsLegalIndex, MayAllCount, MayAllFollow, MayCount, after_entry, at_rest, maps_of, state_of}
use Rattle.front_api.specs.Maps.{Maps, after_command, after_counted, is_change}
use Rattle.front_api.proofs.HistoryLemmas.{MayAllFollow-append, after_entries-append}

-- a refused call's entries may follow where no fault is open
pub refused_follows : (n : ControlFault → Type 0) (sp : ℕ → Type 0) (w : IndexCounted → Type 0) (s : IndexState) (fault : ControlFault) (own : List IndexEntry)
    → s.is_open ≡ false → ((c : IndexCounted) → w c → MayCount s.maps c) → RefusedCall n sp w fault own → MayAllFollow s own
refused_follows n sp w s fault own at_peace may (named f is by_name) = (tt, tt)
refused_follows n sp w s fault own at_peace may (spent at is) = (tt, tt)
refused_follows n sp w s fault own at_peace may starved = (tt, tt)
refused_follows n sp w s fault own at_peace may (failed c before after is) = ((at_peace, may c is), tt)

pub refused_still : (n : ControlFault → Type 0) (sp : ℕ → Type 0) (w : IndexCounted → Type 0) (m : Maps) (fault : ControlFault) (own : List IndexEntry)
    → RefusedCall n sp w fault own → maps_of m own ≡ m
refused_still n sp w m fault own (named f is by_name) = refl
refused_still n sp w m fault own (spent at is) = refl
refused_still n sp w m fault own starved = refl
refused_still n sp w m fault own (failed c before after is) = refl

unmounted_follows : (s : IndexState) (fault : ControlFault) (own : List IndexEntry) → FailedMounting fault own → MayAllFollow s own
unmounted_follows s fault own (disk before after) = (tt, tt)
unmounted_follows s fault own (damaged d at before after) = (tt, tt)
unmounted_follows s fault own starved = (tt, tt)

closed_after : (s : IndexState) (kept : Bool) → (after_entry s (entries.Reopened kept)).is_open ≡ false
closed_after s true = refl
closed_after s false = refl

-- where what a call does on maps may follow them, the whole call may follow
pub call_follows : {R : Type 0} (onto : Maps → List IndexEntry → Result R ControlFault → Type 0)
    → ((s : IndexState) (own : List IndexEntry) (result : Result R ControlFault) → s.is_open ≡ false → onto s.maps own result → MayAllFollow s own)
    → (first : Maps) (h own : List IndexEntry) (result : Result R ControlFault) → IsLegalIndex first h → IsCall onto first h own result → IsLegalIndex first (h ++ own)
call_follows onto may first h own result legal (whole at_peace does) = MayAllFollow-append (at_rest first) h own legal (may (state_of first h) own result at_peace does)
call_follows onto may first h own result legal (mounted kept rest follows is does) =
    let s = state_of first h in
    let mid = after_entry s (entries.Reopened kept) in
    let there : state_of first (h ++ entries.Reopened kept ∷ []) ≡ mid = after_entries-append (at_rest first) h (entries.Reopened kept ∷ []) in
    let then : MayAllFollow mid rest = may mid rest result (closed_after s kept) (subst (λ (q : IndexState). onto q.maps rest result) there does) in
    subst (λ (e : List IndexEntry). IsLegalIndex first (h ++ e)) (sym is) (MayAllFollow-append (at_rest first) h (entries.Reopened kept ∷ rest) legal (follows, then))
call_follows onto may first h own result legal (unmounted fault open_fault is fails) = MayAllFollow-append (at_rest first) h own legal (unmounted_follows (state_of first h) fault own fails)

-- ---- identifiers

command_counter : (m : Maps) (command : Command) → (after_command m command).counter ≡ m.counter
command_counter m (commands.AddPolicy p) = refl
command_counter m (commands.GetPolicy name) = refl
command_counter m commands.ListPolicies = refl
command_counter m (commands.DropPolicy name) = refl
command_counter m (commands.AddRule r) = refl
command_counter m (commands.GetRule name) = refl
command_counter m commands.ListRules = refl
command_counter m (commands.DropRule name) = refl
command_counter m (commands.AddMetric policy name unit resource) = refl
command_counter m (commands.GetMetric id) = refl
command_counter m commands.ListMetrics = refl
command_counter m (commands.DropMetric id) = refl
command_counter m (commands.AddResource id) = refl
command_counter m (commands.GetResource id) = refl
command_counter m commands.ListResources = refl
command_counter m (commands.DropResource id) = refl
command_counter m (commands.FindMetric resource name) = refl

-- the counter doesn't fall
rises_by : (m : Maps) (c : IndexCounted) → MayCount m c → m.counter ≤ (after_counted m c).counter
rises_by m (counted.Command command) may = omega (arith, command_counter m command)
rises_by m (counted.Draw counter) may = omega (arith, may.0)
rises_by m (counted.Add doc) may = omega arith

later_draw : (m : Maps) (between rest : List IndexCounted) (earlier later : ℕ) → earlier ≤ m.counter → MayAllCount m (between ++ counted.Draw later ∷ rest) → earlier < later
later_draw m [] rest earlier later le may = omega (arith, may.0.0)
later_draw m (c ∷ between) rest earlier later le may = later_draw (after_counted m c) between rest earlier later (omega (arith, rises_by m c may.0)) may.1

pub draws_rise : (m : Maps) (front between rest : List IndexCounted) (earlier later : ℕ) → MayAllCount m (front ++ counted.Draw earlier ∷ (between ++ counted.Draw later ∷ rest)) → earlier < later
draws_rise m [] between rest earlier later may = later_draw (after_counted m (counted.Draw earlier)) between rest earlier later (omega arith) may.1
draws_rise m (c ∷ front) between rest earlier later may = draws_rise (after_counted m c) front between rest earlier later may.1

-- ---- each call

pub applied_follows : (command : Command) (s : IndexState) (own : List IndexEntry) (result : Result Reply ControlFault) → s.is_open ≡ false → AppliesTo command s.maps own result → MayAllFollow s own
applied_follows command s own (Ok reply) e does = subst (MayAllFollow s) (sym does.2) (by (is_change command) refl)
  where
    by : (b : Bool) → is_change command ≡ b → MayAllFollow s (cond b (entries.Counted (counted.Command command)) entries.Look ∷ [])
    by true h = ((e, (h, does.0)), tt)
    by false h = (tt, tt)
applied_follows command s own (Err fault) e does = refused_follows _ _ _ s fault own e (λ c w. subst (MayCount s.maps) (sym w.2) (w.0, w.1)) does

pub begun_follows : (policy name : Option (List ℕ)) (resource : Option ℕ) (s : IndexState) (own : List IndexEntry) (result : Result (MetricId × ArchivePolicy) ControlFault) → s.is_open ≡ false → BeginsOn policy name resource s.maps own result → MayAllFollow s own
begun_follows policy name resource s own (Ok drawn) e does = subst (MayAllFollow s) (sym does.3) ((e, (refl, does.1)), tt)
begun_follows policy name resource s own (Err fault) e does = refused_follows _ _ _ s fault own e (λ c w. subst (MayCount s.maps) (sym w.0) (refl, w.1)) does

pub added_follows : (doc : MetricDoc) (s : IndexState) (own : List IndexEntry) (result : Result (Unit {0}) ControlFault) → s.is_open ≡ false → AddsTo doc s.maps own result → MayAllFollow s own
added_follows doc s own (Ok done) e does = subst (MayAllFollow s) (sym does.1) ((e, does.0), tt)
added_follows doc s own (Err fault) e does = refused_follows _ _ _ s fault own e (λ c w. subst (MayCount s.maps) (sym w.1) w.0) does

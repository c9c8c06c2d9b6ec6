-- What a call on the index, and a command, answers that adds no fault to a history.
use Rattle.std.proofs.Common.{◌≡◌, ℕ, List, [], ◌∷◌, ◌++◌, Option, Some, refl, sym, ap, subst, ◌∙◌}
use Rattle.std.specs.List.{filter}
use Rattle.std.specs.declared.result.Result.{Result}
use Rattle.std.specs.declared.result.Result.TheVariants.{Ok, Err}
use Rattle.std.proofs.lemmas.List.{map-append}
use Rattle.std.proofs.lemmas.Option.{same_Some}
use Rattle.archive_policy.specs.Policies.{ArchivePolicy}
use Rattle.series_model.specs.declared.metric.MetricId.{MetricId}
use Rattle.sack_history.specs.declared.fault.CreateFault.{CreateFault}
use Rattle.sack_history.specs.declared.fault.CreateFault.TheVariants as create_fault
use Rattle.sack_history.specs.declared.fault.SackFault.{SackFault}
use Rattle.sack_history.specs.declared.fault.SackFault.TheVariants as sack_fault
use Rattle.front_api.specs.declared.command.Command.{Command}
use Rattle.front_api.specs.declared.command.Command.TheVariants as commands
use Rattle.front_api.specs.declared.command.MetricDoc.{MetricDoc}
use Rattle.front_api.specs.declared.command.Reply.{Reply}
use Rattle.front_api.specs.declared.fault.ControlFault.{ControlFault}
use Rattle.front_api.specs.declared.fault.ControlFault.TheVariants as faults
use Rattle.front_api.specs.declared.history.IndexCounted.{IndexCounted}
use Rattle.front_api.specs.declared.history.IndexEntry.{IndexEntry}
use Rattle.front_api.specs.declared.history.IndexEntry.TheVariants as entries
use Rattle.front_api.specs.Calls.{AddsTo, AppliesTo, BeginsOn, FailedMounting, IsAdded, IsApplied, IsBegun, IsByName, IsCall, RefusedCall, damaged, disk, failed, mounted, named, spent, starved, unmounted, whole}
use Rattle.front_api.specs.FaultWords.{control_words, create_words, sack_words}
use Rattle.front_api.specs.Front.{AddsMetric, Controls, DrainsFrom, DropsMetric, all, creating_refused, dropping_refused, one, refused}
use Rattle.front_api.specs.Front as front
use Rattle.front_api.specs.Maps.{Maps}
use Rattle.front_api.specs.Seen.{EntersIndex, SackBook, SeenBooks, entries_in, index_room, lacks_room, marked}
use Rattle.front_api.specs.SeenLaws.{EachSeesNoFault, IsNoFault, SeeNoFault, SeesNoFault, TellsNoFault, WereAllOpened, WereOpened, is_index_fault}
use Rattle.front_api.proofs.Entering.{entries_in-marked}
use Rattle.front_api.proofs.Failing.{by_turn, clean_earlier, created, drained, dropped, in_book, in_sack, none_behind, opened_later}
use Rattle.front_api.proofs.GoingOn.{index_goes_on, sack_goes_on}

-- ---- one call on the index

by_name_no_fault : (fault : ControlFault) → IsByName fault → IsNoFault control_words fault
by_name_no_fault (faults.Spent s) is = absurd is
by_name_no_fault (faults.DiskFault f) is = absurd is
by_name_no_fault (faults.Damaged d) is = absurd is
by_name_no_fault faults.Memory is = absurd is
by_name_no_fault faults.PolicyExists is = record { no_disk = refl; no_damage = refl }
by_name_no_fault faults.PolicyUnknown is = record { no_disk = refl; no_damage = refl }
by_name_no_fault faults.PolicyInUse is = record { no_disk = refl; no_damage = refl }
by_name_no_fault faults.RuleExists is = record { no_disk = refl; no_damage = refl }
by_name_no_fault faults.RuleUnknown is = record { no_disk = refl; no_damage = refl }
by_name_no_fault faults.NoRule is = record { no_disk = refl; no_damage = refl }
by_name_no_fault faults.NameTaken is = record { no_disk = refl; no_damage = refl }
by_name_no_fault faults.MetricUnknown is = record { no_disk = refl; no_damage = refl }
by_name_no_fault faults.ResourceExists is = record { no_disk = refl; no_damage = refl }
by_name_no_fault faults.ResourceUnknown is = record { no_disk = refl; no_damage = refl }
by_name_no_fault faults.ResourceInUse is = record { no_disk = refl; no_damage = refl }
by_name_no_fault (faults.IdTaken id) is = record { no_disk = refl; no_damage = refl }

refused_no_fault : (n : ControlFault → Type 0) (sp : ℕ → Type 0) (w : IndexCounted → Type 0) (fault : ControlFault) (own : List IndexEntry)
    → RefusedCall n sp w fault own → filter is_index_fault own ≡ [] → IsNoFault control_words fault
refused_no_fault n sp w fault own (named f is by_name) none = by_name_no_fault f is
refused_no_fault n sp w fault own (spent at is) none = record { no_disk = refl; no_damage = refl }
refused_no_fault n sp w fault own starved none = record { no_disk = refl; no_damage = refl }
refused_no_fault n sp w fault own (failed c before after is) none = cc

unmounted_no_fault : (fault : ControlFault) (own : List IndexEntry) → FailedMounting fault own → filter is_index_fault own ≡ [] → IsNoFault control_words fault
unmounted_no_fault fault own (disk before after) none = cc
unmounted_no_fault fault own (damaged d at before after) none = cc
unmounted_no_fault fault own starved none = record { no_disk = refl; no_damage = refl }

call_no_fault : {R : Type 0} (onto : Maps → List IndexEntry → Result R ControlFault → Type 0) (result : Result R ControlFault)
    → ((m : Maps) (own : List IndexEntry) → onto m own result → filter is_index_fault own ≡ [] → TellsNoFault control_words result)
    → (first : Maps) (h own : List IndexEntry) → IsCall onto first h own result → filter is_index_fault own ≡ [] → TellsNoFault control_words result
call_no_fault onto result by first h own (whole at_peace does) none = by _ own does none
call_no_fault onto result by first h own (mounted kept rest follows is does) none =
    by _ rest does (none_behind is_index_fault (entries.Reopened kept ∷ []) rest (ap (λ l. filter is_index_fault l) (sym is) ∙ none))
call_no_fault {R} onto result by first h own (unmounted fault open_fault is fails) none =
    subst (λ (x : Result R ControlFault). TellsNoFault control_words x) (sym is) (unmounted_no_fault fault own fails none)

applied_no_fault : (command : Command) (m : Maps) (own : List IndexEntry) (result : Result Reply ControlFault) → AppliesTo command m own result → filter is_index_fault own ≡ [] → TellsNoFault control_words result
applied_no_fault command m own (Ok reply) does none = tt
applied_no_fault command m own (Err fault) does none = refused_no_fault _ _ _ fault own does none

begun_no_fault : (policy name : Option (List ℕ)) (resource : Option ℕ) (m : Maps) (own : List IndexEntry) (result : Result (MetricId × ArchivePolicy) ControlFault)
    → BeginsOn policy name resource m own result → filter is_index_fault own ≡ [] → TellsNoFault control_words result
begun_no_fault policy name resource m own (Ok drawn) does none = tt
begun_no_fault policy name resource m own (Err fault) does none = refused_no_fault _ _ _ fault own does none

added_no_fault : (doc : MetricDoc) (m : Maps) (own : List IndexEntry) (result : Result (Unit {0}) ControlFault) → AddsTo doc m own result → filter is_index_fault own ≡ [] → TellsNoFault control_words result
added_no_fault doc m own (Ok done) does none = tt
added_no_fault doc m own (Err fault) does none = refused_no_fault _ _ _ fault own does none

in_index : {R : Type 0} (onto : Maps → List IndexEntry → Result R ControlFault → Type 0) (result : Result R ControlFault)
    → ((m : Maps) (own : List IndexEntry) → onto m own result → filter is_index_fault own ≡ [] → TellsNoFault control_words result)
    → (old new : SeenBooks) → WereAllOpened old → EntersIndex (λ first h own r. IsCall onto first h own r) result old new → SeesNoFault is_index_fault new.index → TellsNoFault control_words result
in_index onto result by old new opened e none =
    let says = e.enters.says opened.first opened.index in
    let since = entries_in (old.index.seen ++ e.enters.others) in
    let own = e.enters.own in
    let seen : entries_in new.index.seen ≡ since ++ own =
    ap (λ b. entries_in b.index.seen) e.new_is ∙ ap (λ b. entries_in b.seen) e.enters.adds.new_is
    ∙ map-append (λ x. x.1) (old.index.seen ++ e.enters.others) (marked old.index.caller own) ∙ ap (λ l. since ++ l) (entries_in-marked old.index.caller own) in
    by_turn control_words _ (record { no_disk = refl; no_damage = refl }) result own _ (lacks_room old.index.is_shared _ index_room)
    (λ c. call_no_fault onto result by opened.first since own c (none_behind is_index_fault since own (sym (ap (λ l. filter is_index_fault l) seen) ∙ none)))
    says.turn

index_applied : (command : Command) (result : Result Reply ControlFault) (old new : SeenBooks) → WereAllOpened old → EntersIndex (IsApplied command) result old new → SeeNoFault new → TellsNoFault control_words result
index_applied command result old new opened e none = in_index (AppliesTo command) result (λ m own does clean. applied_no_fault command m own result does clean) old new opened e none.index

index_begun : (policy name : Option (List ℕ)) (resource : Option ℕ) (result : Result (MetricId × ArchivePolicy) ControlFault) (old new : SeenBooks) → WereAllOpened old → EntersIndex (IsBegun policy name resource) result old new → SeeNoFault new → TellsNoFault control_words result
index_begun policy name resource result old new opened e none = in_index (BeginsOn policy name resource) result (λ m own does clean. begun_no_fault policy name resource m own result does clean) old new opened e none.index

index_added : (doc : MetricDoc) (result : Result (Unit {0}) ControlFault) (old new : SeenBooks) → WereAllOpened old → EntersIndex (IsAdded doc) result old new → SeeNoFault new → TellsNoFault control_words result
index_added doc result old new opened e none = in_index (AddsTo doc) result (λ m own does clean. added_no_fault doc m own result does clean) old new opened e none.index

-- ---- commands

no_fault_of_creating : (metric : MetricId) (fault : CreateFault) → IsNoFault create_words fault → IsNoFault control_words (creating_refused metric fault)
no_fault_of_creating metric create_fault.Exists is = record { no_disk = refl; no_damage = refl }
no_fault_of_creating metric (create_fault.Spent s) is = record { no_disk = refl; no_damage = refl }
no_fault_of_creating metric (create_fault.DiskFault f) is = cc (is.no_disk)
no_fault_of_creating metric (create_fault.Damaged d) is = cc (is.no_damage)
no_fault_of_creating metric create_fault.Memory is = record { no_disk = refl; no_damage = refl }

no_fault_of_dropping : (dropping : Result (Unit {0}) SackFault) (fault : ControlFault) → TellsNoFault sack_words dropping → dropping_refused dropping ≡ Some fault → IsNoFault control_words fault
no_fault_of_dropping (Ok done) fault is e = cc
no_fault_of_dropping (Err sack_fault.Unknown) fault is e = cc
no_fault_of_dropping (Err (sack_fault.Spent s)) fault is e = subst (λ (x : ControlFault). IsNoFault control_words x) (same_Some (faults.Spent s) fault e) (record { no_disk = refl; no_damage = refl })
no_fault_of_dropping (Err (sack_fault.DiskFault f)) fault is e = cc (is.no_disk)
no_fault_of_dropping (Err (sack_fault.Damaged d)) fault is e = cc (is.no_damage)
no_fault_of_dropping (Err sack_fault.Memory) fault is e = subst (λ (x : ControlFault). IsNoFault control_words x) (same_Some faults.Memory fault e) (record { no_disk = refl; no_damage = refl })

metric_added : (policy name unit : Option (List ℕ)) (resource : Option ℕ) (old new : SeenBooks) (result : Result Reply ControlFault) → WereAllOpened old → AddsMetric policy name unit resource old new result → SeeNoFault new → TellsNoFault control_words result
metric_added policy name unit resource old new result opened (front.not_begun fault b) none = index_begun policy name resource (Err fault) old new opened b none
metric_added policy name unit resource old new result opened (front.starved drawn b) none = record { no_disk = refl; no_damage = refl }
metric_added policy name unit resource old new result opened (front.not_created drawn begun fault b c) none =
    no_fault_of_creating drawn.0 fault
    (in_sack _ create_words (λ s. record { no_disk = refl; no_damage = refl }) _ (Err fault) (λ h own does clean. created drawn.0 drawn.1 (Err fault) h own does clean) begun new
    (opened_later old begun (index_goes_on _ _ old begun b) opened).sacks c none.sacks)
metric_added policy name unit resource old new result opened (front.added drawn doc begun made is b c a) none = tt
metric_added policy name unit resource old new result opened (front.left drawn doc begun made fault is b c a broken) none =
    index_added doc (Err fault) made new (opened_later begun made (sack_goes_on _ _ _ _ begun made c) (opened_later old begun (index_goes_on _ _ old begun b) opened)) a none
metric_added policy name unit resource old new result opened (front.dropped_again drawn doc begun made gone fault dropping is b c a kept d) none =
    index_added doc (Err fault) made gone (opened_later begun made (sack_goes_on _ _ _ _ begun made c) (opened_later old begun (index_goes_on _ _ old begun b) opened)) a
    (clean_earlier gone new (sack_goes_on _ _ _ _ gone new d) none)

metric_dropped : (metric : MetricId) (old new : SeenBooks) (result : Result Reply ControlFault) → WereAllOpened old → DropsMetric metric old new result → SeeNoFault new → TellsNoFault control_words result
metric_dropped metric old new result opened (front.refused dropping fault d is r) none =
    subst (λ (x : Result Reply ControlFault). TellsNoFault control_words x) (sym r)
    (no_fault_of_dropping dropping fault
    (in_sack _ sack_words (λ s. record { no_disk = refl; no_damage = refl }) _ dropping (λ h own does clean. dropped metric dropping h own does clean) old new opened.sacks d none.sacks) is)
metric_dropped metric old new result opened (front.asked dropping gone d is a) none =
    index_applied (commands.DropMetric metric) result gone new (opened_later old gone (sack_goes_on _ _ _ _ old gone d) opened) a none

pub controlled : (command : Command) (result : Result Reply ControlFault) (old new : SeenBooks) → WereAllOpened old → Controls command result old new → SeeNoFault new → TellsNoFault control_words result
controlled (commands.AddMetric policy name unit resource) result old new opened c none = metric_added policy name unit resource old new result opened c none
controlled (commands.DropMetric metric) result old new opened c none = metric_dropped metric old new result opened c none
controlled (commands.AddPolicy p) result old new opened c none = index_applied (commands.AddPolicy p) result old new opened c none
controlled (commands.GetPolicy name) result old new opened c none = index_applied (commands.GetPolicy name) result old new opened c none
controlled commands.ListPolicies result old new opened c none = index_applied commands.ListPolicies result old new opened c none
controlled (commands.DropPolicy name) result old new opened c none = index_applied (commands.DropPolicy name) result old new opened c none
controlled (commands.AddRule r) result old new opened c none = index_applied (commands.AddRule r) result old new opened c none
controlled (commands.GetRule name) result old new opened c none = index_applied (commands.GetRule name) result old new opened c none
controlled commands.ListRules result old new opened c none = index_applied commands.ListRules result old new opened c none
controlled (commands.DropRule name) result old new opened c none = index_applied (commands.DropRule name) result old new opened c none
controlled (commands.GetMetric id) result old new opened c none = index_applied (commands.GetMetric id) result old new opened c none
controlled commands.ListMetrics result old new opened c none = index_applied commands.ListMetrics result old new opened c none
controlled (commands.AddResource id) result old new opened c none = index_applied (commands.AddResource id) result old new opened c none
controlled (commands.GetResource id) result old new opened c none = index_applied (commands.GetResource id) result old new opened c none
controlled commands.ListResources result old new opened c none = index_applied commands.ListResources result old new opened c none
controlled (commands.DropResource id) result old new opened c none = index_applied (commands.DropResource id) result old new opened c none
controlled (commands.FindMetric resource name) result old new opened c none = index_applied (commands.FindMetric resource name) result old new opened c none

-- ---- drains

drained_from : (sack turns : ℕ) (olds news : List SackBook) (result : Result ℕ SackFault) → WereOpened olds → DrainsFrom sack turns olds news result → EachSeesNoFault news → TellsNoFault sack_words result
drained_from sack turns olds news result opened (all s t) none = tt
drained_from sack turns olds news result opened (one s t more old new os ns r e rest) none = drained_from _ _ os ns r opened.1 rest none.1
drained_from sack turns olds news result opened (refused s t old new os fault e) none =
    in_book s sack_words (λ x. record { no_disk = refl; no_damage = refl }) _ (Err fault) (λ h own does clean. drained (Err fault) h own does clean) old new opened.0.0 opened.0.1 e none.0

pub all_drained : (turns : ℕ) (olds news : List SackBook) (result : Result ℕ SackFault) → WereOpened olds → DrainsFrom 0 turns olds news result → EachSeesNoFault news → TellsNoFault sack_words result
all_drained turns olds news result opened d none = drained_from 0 turns olds news result opened d none

-- What calls on a book come to.
use Rattle.std.proofs.Common.{◌≡◌, inl, ℕ, ◌≤◌, Bool, true, false, cond, not, ◌||◌, List, [], ◌∷◌, Option, Some, None, Result, Ok, Err, refl, sym, ap, subst, ◌∙◌, arith}
use Rattle.std.specs.Bool.{⊤}
use Rattle.std.specs.Option.{is_some, unwrap_or}
use Rattle.std.specs.Result.{IfErr}
use Rattle.gno_disk.specs.Phases.{phase}
use Rattle.gno_disk.specs.declared.disk.Disk.{Ghosts}
use Rattle.gno_disk.proofs.PhaseLemmas.{EachMoment-exit}
use Rattle.gno_num.specs.declared.faults.DiskFault.{DiskFault as Fault}
use Rattle.archive_policy.specs.Policies.{ArchivePolicy}
use Rattle.front_api.specs.Calls.{AddsTo, AppliesTo, BeginsOn, IsByName, RefusedCall, failed, named, spent, starved}
use Rattle.front_api.specs.FaultWords.{is_control_damage}
use Rattle.front_api.specs.declared.command.Command.{Command}
use Rattle.front_api.specs.declared.command.Command.TheVariants as commands
use Rattle.front_api.specs.declared.command.MetricDoc.{MetricDoc}
use Rattle.front_api.specs.declared.command.Reply.{Reply}
use Rattle.front_api.specs.declared.fault.ControlFault.{ControlFault}
use Rattle.front_api.specs.declared.fault.ControlFault.TheVariants as faults
use Rattle.front_api.specs.declared.history.IndexCounted.{IndexCounted}
use Rattle.front_api.specs.declared.history.IndexCounted.TheVariants as counted
use Rattle.front_api.specs.declared.history.IndexEntry.{IndexEntry}
use Rattle.front_api.specs.declared.history.IndexEntry.TheVariants as entries
use Rattle.front_api.specs.Maps.{Maps, is_change, is_drawn, is_policy_in_use, is_resource_in_use, metric_in, metric_to, policy_to, resource_to, rule_to}
use Rattle.front_api.specs.Tables.{has}
use Rattle.front_api.specs.Replies.{IsRefusedMetric, doc_refusal, metric_refusal, no_rule, of_policy, or_else, place_refusal, refusal_of, reply_of, unless, where_true}
use Rattle.series_model.specs.declared.metric.MetricId.{MetricId}
use Rattle.log_pair.specs.PairView.{OfTwo}
use Rattle.metric_index.specs.BookCalls.{AreOldOrWritten, IsAt, LeavesBook, MatchDisk, MatchWrite, counted_entry, entry_by, refusal_entry, state_by, written_by}
use Rattle.metric_index.specs.BookView.{BookView, IsLastingBook}
use Rattle.metric_index.specs.Items.{after_one}
use Rattle.metric_index.proofs.WriteMoments.{still_moments}

-- ---- refusals by name

abbrev ByName : Option ControlFault → Type 0
ByName None = ⊤
ByName (Some fault) = IsByName fault

by_where : (b : Bool) (fault : ControlFault) → IsByName fault → ByName (where_true b fault)
by_where true fault is = is
by_where false fault is = tt

by_unless : (b : Bool) (fault : ControlFault) → IsByName fault → ByName (unless b fault)
by_unless true fault is = tt
by_unless false fault is = is

by_else : (a b : Option ControlFault) → ByName a → ByName b → ByName (or_else a b)
by_else (Some fault) b is is_too = is
by_else None b is is_too = is_too

by_two : (b c : Bool) (fault other : ControlFault) → IsByName fault → IsByName other → ByName (or_else (unless b fault) (where_true c other))
by_two b c fault other is is_too = by_else (unless b fault) (where_true c other) (by_unless b fault is) (by_where c other is_too)

refusal_named : (m : Maps) (command : Command) → ByName (refusal_of m command)
refusal_named m (commands.AddPolicy p) = by_where (has (policy_to p.name) m.policies) faults.PolicyExists tt
refusal_named m (commands.GetPolicy name) = by_unless (has (policy_to name) m.policies) faults.PolicyUnknown tt
refusal_named m commands.ListPolicies = tt
refusal_named m (commands.DropPolicy name) = by_two (has (policy_to name) m.policies) (is_policy_in_use m name) faults.PolicyUnknown faults.PolicyInUse tt tt
refusal_named m (commands.AddRule r) = by_two (has (policy_to r.policy) m.policies) (has (rule_to r.name) m.rules) faults.PolicyUnknown faults.RuleExists tt tt
refusal_named m (commands.GetRule name) = by_unless (has (rule_to name) m.rules) faults.RuleUnknown tt
refusal_named m commands.ListRules = tt
refusal_named m (commands.DropRule name) = by_unless (has (rule_to name) m.rules) faults.RuleUnknown tt
refusal_named m (commands.AddMetric policy name unit resource) = tt
refusal_named m (commands.GetMetric id) = by_unless (has (metric_to id.0) m.metrics) faults.MetricUnknown tt
refusal_named m commands.ListMetrics = tt
refusal_named m (commands.DropMetric id) = by_unless (has (metric_to id.0) m.metrics) faults.MetricUnknown tt
refusal_named m (commands.AddResource id) = by_where (has (resource_to id) m.resources) faults.ResourceExists tt
refusal_named m (commands.GetResource id) = by_unless (has (resource_to id) m.resources) faults.ResourceUnknown tt
refusal_named m commands.ListResources = tt
refusal_named m (commands.DropResource id) = by_two (has (resource_to id) m.resources) (is_resource_in_use m id) faults.ResourceUnknown faults.ResourceInUse tt tt
refusal_named m (commands.FindMetric resource name) = by_else (unless (has (resource_to resource) m.resources) faults.ResourceUnknown) (unless (is_some (metric_in m resource name)) faults.MetricUnknown) (by_unless (has (resource_to resource) m.resources) faults.ResourceUnknown tt) (by_unless (is_some (metric_in m resource name)) faults.MetricUnknown tt)

pub by_name : (m : Maps) (command : Command) (fault : ControlFault) → refusal_of m command ≡ Some fault → IsByName fault
by_name m command fault e = subst ByName e (refusal_named m command)

pub look_by_name : (written : Option IndexCounted) (fault : ControlFault) → IsByName fault → refusal_entry written fault ≡ entries.Look
look_by_name written (faults.Spent s) is = absurd is
look_by_name written (faults.DiskFault f) is = absurd is
look_by_name written (faults.Damaged d) is = absurd is
look_by_name written faults.Memory is = absurd is
look_by_name written faults.PolicyExists is = refl
look_by_name written faults.PolicyUnknown is = refl
look_by_name written faults.PolicyInUse is = refl
look_by_name written faults.RuleExists is = refl
look_by_name written faults.RuleUnknown is = refl
look_by_name written faults.NoRule is = refl
look_by_name written faults.NameTaken is = refl
look_by_name written faults.MetricUnknown is = refl
look_by_name written faults.ResourceExists is = refl
look_by_name written faults.ResourceUnknown is = refl
look_by_name written faults.ResourceInUse is = refl
look_by_name written (faults.IdTaken id) is = refl

pub other_by_name : (fault : ControlFault) (P : Fault → Type 0) (Q : Type 0) → IsByName fault → Q → MatchDisk fault P Q
other_by_name (faults.Spent s) P Q is q = absurd is
other_by_name (faults.DiskFault f) P Q is q = absurd is
other_by_name (faults.Damaged d) P Q is q = absurd is
other_by_name faults.Memory P Q is q = absurd is
other_by_name faults.PolicyExists P Q is q = q
other_by_name faults.PolicyUnknown P Q is q = q
other_by_name faults.PolicyInUse P Q is q = q
other_by_name faults.RuleExists P Q is q = q
other_by_name faults.RuleUnknown P Q is q = q
other_by_name faults.NoRule P Q is q = q
other_by_name faults.NameTaken P Q is q = q
other_by_name faults.MetricUnknown P Q is q = q
other_by_name faults.ResourceExists P Q is q = q
other_by_name faults.ResourceUnknown P Q is q = q
other_by_name faults.ResourceInUse P Q is q = q
other_by_name (faults.IdTaken id) P Q is q = q

place_named : (m : Maps) (resource : Option ℕ) (name : Option (List ℕ)) → ByName (place_refusal m resource name)
place_named m None name = tt
place_named m (Some resource) name = by_two (has (resource_to resource) m.resources) (is_some (metric_in m resource (unwrap_or name []))) faults.ResourceUnknown faults.NameTaken tt tt

metric_named : (m : Maps) (policy : List ℕ) (resource : Option ℕ) (name : Option (List ℕ)) → ByName (metric_refusal m policy resource name)
metric_named m policy resource name =
    by_else (unless (has (policy_to policy) m.policies) faults.PolicyUnknown) (place_refusal m resource name) (by_unless (has (policy_to policy) m.policies) faults.PolicyUnknown tt) (place_named m resource name)

pub doc_by_name : (m : Maps) (doc : MetricDoc) (fault : ControlFault) → doc_refusal m doc ≡ Some fault → IsByName fault
doc_by_name m doc fault e =
    subst ByName e (by_else (metric_refusal m doc.policy doc.resource doc.name) (where_true (has (metric_to doc.id.0) m.metrics || not (is_drawn m doc.id.0)) (faults.IdTaken doc.id))
    (metric_named m doc.policy doc.resource doc.name) (by_where (has (metric_to doc.id.0) m.metrics || not (is_drawn m doc.id.0)) (faults.IdTaken doc.id) tt))

pub begun_by_name : (m : Maps) (policy name : Option (List ℕ)) (resource : Option ℕ) (fault : ControlFault) → IsRefusedMetric m policy name resource fault → IsByName fault
begun_by_name m policy name resource fault (no_rule none is) = subst IsByName (sym is) tt
begun_by_name m policy name resource fault (of_policy got gets e) = subst ByName e (metric_named m got resource name)

-- a call that was refused before it wrote anything
pub refused_early : (n : ControlFault → Type 0) (sp : ℕ → Type 0) (w : IndexCounted → Type 0) (written : Option IndexCounted) (fault : ControlFault) (own : List IndexEntry) → RefusedCall n sp (λ c. ⊥) fault own → RefusedCall n sp w fault (refusal_entry written fault ∷ [])
refused_early n sp w written fault own (named f is holds) = subst (λ (e : IndexEntry). RefusedCall n sp w f (e ∷ [])) (sym (look_by_name written f is)) (named f is holds)
refused_early n sp w written fault own (spent at is) = spent at is
refused_early n sp w written fault own starved = starved
refused_early n sp w written fault own (failed c before after never) = absurd never

pub early_at : {D : Type 0} (v : BookView D) (n : ControlFault → Type 0) (sp : ℕ → Type 0) (written : Option IndexCounted) (fault : ControlFault) (own : List IndexEntry) → v.broken ≡ false → RefusedCall n sp (λ c. ⊥) fault own → IsAt v (state_by v.maps (refusal_entry written fault))
early_at v n sp written fault own whole (named f is holds) = subst (λ (e : IndexEntry). IsAt v (state_by v.maps e)) (sym (look_by_name written f is)) (record { maps = refl; broken = whole })
early_at v n sp written fault own whole (spent at is) = record { maps = refl; broken = whole }
early_at v n sp written fault own whole starved = record { maps = refl; broken = whole }
early_at v n sp written fault own whole (failed c before after never) = absurd never

pub early_cause : (n : ControlFault → Type 0) (sp : ℕ → Type 0) (fault : ControlFault) (own : List IndexEntry) (P : Fault → Type 0) (Q : Type 0) → Q → RefusedCall n sp (λ c. ⊥) fault own → MatchDisk fault P Q
early_cause n sp fault own P Q q (named f is holds) = other_by_name f P Q is q
early_cause n sp fault own P Q q (spent at is) = q
early_cause n sp fault own P Q q starved = q
early_cause n sp fault own P Q q (failed c before after never) = absurd never

-- a refusal by name is a refused call
pub refused_named : (n : ControlFault → Type 0) (sp : ℕ → Type 0) (w : IndexCounted → Type 0) (written : Option IndexCounted) (fault : ControlFault) → IsByName fault → n fault → RefusedCall n sp w fault (refusal_entry written fault ∷ [])
refused_named n sp w written fault is holds = subst (λ (e : IndexEntry). RefusedCall n sp w fault (e ∷ [])) (sym (look_by_name written fault is)) (named fault is holds)

-- a call that writes this was refused by a disk or for want of memory
pub refused_write : (n : ControlFault → Type 0) (sp : ℕ → Type 0) (w : IndexCounted → Type 0) (written : Option IndexCounted) (c : IndexCounted) (fault : ControlFault) (P : Fault → Type 0) (Q : Type 0)
    → written ≡ Some c → w c → MatchWrite fault P Q → RefusedCall n sp w fault (refusal_entry written fault ∷ [])
refused_write n sp w written c (faults.DiskFault f) P Q is holds cause =
    subst (λ (o : Option IndexCounted). RefusedCall n sp w (faults.DiskFault f) (entries.Fault o f.before f.after ∷ [])) (sym is) (failed c f.before f.after holds)
refused_write n sp w written c faults.Memory P Q is holds cause = starved
refused_write n sp w written c (faults.Spent s) P Q is holds cause = absurd cause
refused_write n sp w written c (faults.Damaged d) P Q is holds cause = absurd cause
refused_write n sp w written c faults.PolicyExists P Q is holds cause = absurd cause
refused_write n sp w written c faults.PolicyUnknown P Q is holds cause = absurd cause
refused_write n sp w written c faults.PolicyInUse P Q is holds cause = absurd cause
refused_write n sp w written c faults.RuleExists P Q is holds cause = absurd cause
refused_write n sp w written c faults.RuleUnknown P Q is holds cause = absurd cause
refused_write n sp w written c faults.NoRule P Q is holds cause = absurd cause
refused_write n sp w written c faults.NameTaken P Q is holds cause = absurd cause
refused_write n sp w written c faults.MetricUnknown P Q is holds cause = absurd cause
refused_write n sp w written c faults.ResourceExists P Q is holds cause = absurd cause
refused_write n sp w written c faults.ResourceUnknown P Q is holds cause = absurd cause
refused_write n sp w written c faults.ResourceInUse P Q is holds cause = absurd cause
refused_write n sp w written c (faults.IdTaken id) P Q is holds cause = absurd cause

pub write_disk : (fault : ControlFault) (P P' : Fault → Type 0) (Q : Type 0) → ((f : Fault) → P f → P' f) → MatchWrite fault P Q → MatchDisk fault P' Q
write_disk (faults.DiskFault f) P P' Q has cause = has f cause
write_disk faults.Memory P P' Q has cause = cause
write_disk (faults.Spent s) P P' Q has cause = absurd cause
write_disk (faults.Damaged d) P P' Q has cause = absurd cause
write_disk faults.PolicyExists P P' Q has cause = absurd cause
write_disk faults.PolicyUnknown P P' Q has cause = absurd cause
write_disk faults.PolicyInUse P P' Q has cause = absurd cause
write_disk faults.RuleExists P P' Q has cause = absurd cause
write_disk faults.RuleUnknown P P' Q has cause = absurd cause
write_disk faults.NoRule P P' Q has cause = absurd cause
write_disk faults.NameTaken P P' Q has cause = absurd cause
write_disk faults.MetricUnknown P P' Q has cause = absurd cause
write_disk faults.ResourceExists P P' Q has cause = absurd cause
write_disk faults.ResourceUnknown P P' Q has cause = absurd cause
write_disk faults.ResourceInUse P P' Q has cause = absurd cause
write_disk (faults.IdTaken id) P P' Q has cause = absurd cause

-- ---- states

pub still_at : {D : Type 0} (v : BookView D) → v.broken ≡ false → IsAt v (state_by v.maps entries.Look)
still_at v whole = record { maps = refl; broken = whole }

pub refused_at : {D : Type 0} (v : BookView D) (written : Option IndexCounted) (fault : ControlFault) → v.broken ≡ false → IsByName fault → IsAt v (state_by v.maps (refusal_entry written fault))
refused_at v written fault whole is = subst (λ (e : IndexEntry). IsAt v (state_by v.maps e)) (sym (look_by_name written fault is)) (still_at v whole)

pub counted_at : {D : Type 0} (v : BookView D) (m : Maps) (written : Option IndexCounted) → v.broken ≡ false → v.maps ≡ after_one m written → IsAt v (state_by m (counted_entry written))
counted_at v m None whole maps = record { maps = maps; broken = whole }
counted_at v m (Some c) whole maps = record { maps = maps; broken = whole }

pub failed_at : {D : Type 0} (old new : BookView D) (written : Option IndexCounted) (fault : ControlFault) (F : Fault → Type 0) → old.broken ≡ false → new.maps ≡ old.maps → MatchWrite fault (λ f. F f × (new.broken ≡ true)) (new ≡ old)
    → IsAt new (state_by old.maps (refusal_entry written fault))
failed_at old new written (faults.DiskFault f) F whole maps cause = record { maps = maps; broken = cause.1 }
failed_at {D} old new written faults.Memory F whole maps cause = record { maps = maps; broken = ap (λ (v : BookView D). v.broken) cause ∙ whole }
failed_at old new written (faults.Spent s) F whole maps cause = absurd cause
failed_at old new written (faults.Damaged d) F whole maps cause = absurd cause
failed_at old new written faults.PolicyExists F whole maps cause = absurd cause
failed_at old new written faults.PolicyUnknown F whole maps cause = absurd cause
failed_at old new written faults.PolicyInUse F whole maps cause = absurd cause
failed_at old new written faults.RuleExists F whole maps cause = absurd cause
failed_at old new written faults.RuleUnknown F whole maps cause = absurd cause
failed_at old new written faults.NoRule F whole maps cause = absurd cause
failed_at old new written faults.NameTaken F whole maps cause = absurd cause
failed_at old new written faults.MetricUnknown F whole maps cause = absurd cause
failed_at old new written faults.ResourceExists F whole maps cause = absurd cause
failed_at old new written faults.ResourceUnknown F whole maps cause = absurd cause
failed_at old new written faults.ResourceInUse F whole maps cause = absurd cause
failed_at old new written (faults.IdTaken id) F whole maps cause = absurd cause

-- ---- what is left

pub still_left : {D : Type 0} (g : Ghosts D) (only_now : (disk : D) (image : List ℕ) → g.left_since disk (g.moment disk) image → g.may_leave disk image)
    (counts_now : (disk : D) (since : ℕ) (image : List ℕ) → since ≤ g.moment disk → g.may_leave disk image → g.left_since disk since image)
    (came_none : (disk : D) → g.came 0 disk disk) (came_more : (m n : ℕ) (old new : D) → m ≤ n → g.came m old new → g.came n old new)
    (written : Option IndexCounted) (v : BookView D) → IsLastingBook g v → LeavesBook g written v v
still_left g only_now counts_now came_none came_more written v lasting =
    let le : 0 ≤ 4 = omega arith in
    let moments = still_moments g only_now v.first v.second (AreOldOrWritten v written) (λ a b left left_too told. inl (lasting a b left left_too told)) in
    record {
      sacks = refl;
      told = refl;
      came_first = came_more 0 4 _ _ le (came_none v.first);
      came_second = came_more 0 4 _ _ le (came_none v.second);
      any_moment = moments;
      left = EachMoment-exit g counts_now only_now (phase v.first v.first) (phase v.second v.second ∷ []) (OfTwo (AreOldOrWritten v written)) moments;
    }

-- ---- commands

pub writes : (command : Command) → is_change command ≡ true → written_by command ≡ Some (counted.Command command)
writes command e = ap (λ b. cond b (Some (counted.Command command)) None) e

pub writes_none : (command : Command) → is_change command ≡ false → written_by command ≡ None
writes_none command e = ap (λ b. cond b (Some (counted.Command command)) None) e

entry_of_written : (b : Bool) (c : IndexCounted) → counted_entry (cond b (Some c) None) ≡ cond b (entries.Counted c) entries.Look
entry_of_written true c = refl
entry_of_written false c = refl

pub applied_ok : (command : Command) (m : Maps) (reply : Reply) → refusal_of m command ≡ None → reply ≡ reply_of m command → AppliesTo command m (counted_entry (written_by command) ∷ []) (Ok reply)
applied_ok command m reply accepted exact = (accepted, exact, ap (λ (e : IndexEntry). e ∷ []) (entry_of_written (is_change command) (counted.Command command)))

pub added_does : (doc : MetricDoc) (m : Maps) (r : Result (Unit {0}) ControlFault) (P : Fault → Type 0) (Q : Type 0) → doc_refusal m doc ≡ None → IfErr r (λ e. MatchWrite e P Q) → AddsTo doc m (entry_by (Some (counted.Add doc)) r ∷ []) r
added_does doc m (Ok done) P Q none cause = (none, refl)
added_does doc m (Err fault) P Q none cause =
    refused_write (λ f. doc_refusal m doc ≡ Some f) (λ at. ⊥) (λ c. (doc_refusal m doc ≡ None) × (c ≡ counted.Add doc)) (Some (counted.Add doc)) (counted.Add doc) fault P Q refl (none, refl) cause

-- ---- no refusal of a book says that bytes were damaged

by_name_sound : (fault : ControlFault) → IsByName fault → is_control_damage fault ≡ false
by_name_sound (faults.Spent s) is = absurd is
by_name_sound (faults.DiskFault f) is = absurd is
by_name_sound (faults.Damaged d) is = absurd is
by_name_sound faults.Memory is = absurd is
by_name_sound faults.PolicyExists is = refl
by_name_sound faults.PolicyUnknown is = refl
by_name_sound faults.PolicyInUse is = refl
by_name_sound faults.RuleExists is = refl
by_name_sound faults.RuleUnknown is = refl
by_name_sound faults.NoRule is = refl
by_name_sound faults.NameTaken is = refl
by_name_sound faults.MetricUnknown is = refl
by_name_sound faults.ResourceExists is = refl
by_name_sound faults.ResourceUnknown is = refl
by_name_sound faults.ResourceInUse is = refl
by_name_sound (faults.IdTaken id) is = refl

refused_sound : (n : ControlFault → Type 0) (sp : ℕ → Type 0) (w : IndexCounted → Type 0) (fault : ControlFault) (own : List IndexEntry) → RefusedCall n sp w fault own → is_control_damage fault ≡ false
refused_sound n sp w fault own (named f is holds) = by_name_sound f is
refused_sound n sp w fault own (spent at is) = refl
refused_sound n sp w fault own starved = refl
refused_sound n sp w fault own (failed c before after holds) = refl

pub applied_sound : (command : Command) (m : Maps) (own : List IndexEntry) (result : Result Reply ControlFault) → AppliesTo command m own result → IfErr result (λ e. is_control_damage e ≡ false)
applied_sound command m own (Ok reply) does = tt
applied_sound command m own (Err fault) does = refused_sound _ _ _ fault own does

pub begun_sound : (policy name : Option (List ℕ)) (resource : Option ℕ) (m : Maps) (own : List IndexEntry) (result : Result (MetricId × ArchivePolicy) ControlFault) → BeginsOn policy name resource m own result → IfErr result (λ e. is_control_damage e ≡ false)
begun_sound policy name resource m own (Ok drawn) does = tt
begun_sound policy name resource m own (Err fault) does = refused_sound _ _ _ fault own does

pub added_sound : (doc : MetricDoc) (m : Maps) (own : List IndexEntry) (result : Result (Unit {0}) ControlFault) → AddsTo doc m own result → IfErr result (λ e. is_control_damage e ≡ false)
added_sound doc m own (Ok done) does = tt
added_sound doc m own (Err fault) does = refused_sound _ _ _ fault own does

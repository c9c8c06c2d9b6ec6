-- What a call of the index says of its disks: how many calls were made of them, and their faults.
use Rattle.std.proofs.Common.{◌≡◌, ℕ, ◌+◌, ◌-◌, ◌≤◌, ◌^◌, min, Bool, List, [], ◌∷◌, Option, Some, Result, Ok, Err, sym, subst, ◌∙◌, arith}
use Rattle.std.specs.Result.{IfErr}
use Rattle.std.specs.Bool.{⊤}
use Rattle.gno_disk.specs.declared.disk.Disk.{Ghosts}
use Rattle.gno_num.specs.Faults.{Rose}
use Rattle.gno_num.specs.declared.faults.DiskFault.{DiskFault as Fault}
use Rattle.gate_log.specs.LogView.{IsFault}
use Rattle.log_pair.specs.PairView.{both_faults}
use Rattle.front_api.specs.declared.fault.ControlFault.{ControlFault}
use Rattle.front_api.specs.declared.fault.ControlFault.TheVariants as faults
use Rattle.metric_index.specs.BookCalls.{MatchDisk}
use Rattle.metric_index.specs.BookView.{BookView}
use Rattle.metric_index.specs.declared.holding.Held.{Held}
use Rattle.metric_index.specs.declared.holding.Held.TheVariants.{Mounted}
use Rattle.metric_index.specs.Holding.{TakesBook, as_it_was, disks_in, mounted_anew}
use Rattle.metric_index.specs.IndexView.{AllCame, IsFaultOf, capped, sum_of_faults}

disk_weaker : (e : ControlFault) (P P' : Fault → Type 0) (Q Q' : Type 0) → ((f : Fault) → P f → P' f) → (Q → Q') → MatchDisk e P Q → MatchDisk e P' Q'
disk_weaker (faults.DiskFault f) P P' Q Q' some other fault = some f fault
disk_weaker (faults.Spent s) P P' Q Q' some other q = other q
disk_weaker (faults.Damaged d) P P' Q Q' some other q = other q
disk_weaker faults.Memory P P' Q Q' some other q = other q
disk_weaker faults.PolicyExists P P' Q Q' some other q = other q
disk_weaker faults.PolicyUnknown P P' Q Q' some other q = other q
disk_weaker faults.PolicyInUse P P' Q Q' some other q = other q
disk_weaker faults.RuleExists P P' Q Q' some other q = other q
disk_weaker faults.RuleUnknown P P' Q Q' some other q = other q
disk_weaker faults.NoRule P P' Q Q' some other q = other q
disk_weaker faults.NameTaken P P' Q Q' some other q = other q
disk_weaker faults.MetricUnknown P P' Q Q' some other q = other q
disk_weaker faults.ResourceExists P P' Q Q' some other q = other q
disk_weaker faults.ResourceUnknown P P' Q Q' some other q = other q
disk_weaker faults.ResourceInUse P P' Q Q' some other q = other q
disk_weaker (faults.IdTaken id) P P' Q Q' some other q = other q

same_sum : (x y : ℕ) → min (x + (y + 0)) (2 ^ 64 - 1) ≡ min (x + y) (2 ^ 64 - 1)
same_sum x y = omega arith

later_sum : (x y z w : ℕ) → x ≤ z → y ≤ w → min (x + (y + 0)) (2 ^ 64 - 1) ≤ min (z + w) (2 ^ 64 - 1)
later_sum x y z w first second = omega (arith, first, second)

no_less : (x : ℕ) → x ≤ x
no_less x = omega arith

module _ {D : Type 0} (g : Ghosts D) (came_then : (m n : ℕ) (old mid new : D) → g.came m old mid → g.came n mid new → g.came (m + n) old new)
    (came_more : (m n : ℕ) (old new : D) → m ≤ n → g.came m old new → g.came n old new) (came_later : (n : ℕ) (old new : D) → g.came n old new → g.faults old ≤ g.faults new)
    (sacks : ℕ) (held then : Option (Held D)) (book new : BookView D) (anew : Bool) (takes : TakesBook g sacks held book anew) (then_is : then ≡ Some (Mounted new)) where
  pub call_came : g.came 4 book.first new.first → g.came 4 book.second new.second → AllCame g 6 (disks_in held) (disks_in then)
  call_came first second = subst (λ (o : Option (Held D)). AllCame g 6 (disks_in held) (disks_in o)) (sym then_is) (by takes)
    where
      by : TakesBook g sacks held book anew → AllCame g 6 (disks_in held) (new.first ∷ new.second ∷ [])
      by (as_it_was is unbroken not_anew) =
          let le : 4 ≤ 6 = omega arith in
          subst (λ (o : Option (Held D)). AllCame g 6 (disks_in o) (new.first ∷ new.second ∷ [])) (sym is) (came_more 4 6 _ _ le first, (came_more 4 6 _ _ le second, tt))
      by (mounted_anew a b disks broken from is_anew) =
          subst (λ (olds : List D). AllCame g 6 olds (new.first ∷ new.second ∷ [])) (sym disks) (came_then 2 4 a _ _ from.came_first first, (came_then 2 4 b _ _ from.came_second second, tt))

  began : TakesBook g sacks held book anew → capped (sum_of_faults g (disks_in held)) ≤ both_faults g book.first book.second
  began (as_it_was is unbroken not_anew) =
      subst (λ (o : Option (Held D)). capped (sum_of_faults g (disks_in o)) ≤ both_faults g book.first book.second) (sym is)
      (later_sum (g.faults book.first) (g.faults book.second) (g.faults book.first) (g.faults book.second) (no_less (g.faults book.first)) (no_less (g.faults book.second)))
  began (mounted_anew a b disks broken from is_anew) =
      subst (λ (olds : List D). capped (sum_of_faults g olds) ≤ both_faults g book.first book.second) (sym disks)
      (later_sum (g.faults a) (g.faults b) (g.faults book.first) (g.faults book.second) (came_later 2 _ _ from.came_first) (came_later 2 _ _ from.came_second))

  fault_of : (f : Fault) → IsFault (both_faults g book.first book.second) (both_faults g new.first new.second) f → IsFaultOf g (disks_in held) (disks_in then) f
  fault_of f fault =
      let le = began takes in
      let same = same_sum (g.faults new.first) (g.faults new.second) in
      subst (λ (o : Option (Held D)). IsFaultOf g (disks_in held) (disks_in o) f) (sym then_is) (record {
        before = subst (λ (n : ℕ). capped (sum_of_faults g (disks_in held)) ≤ n) (sym fault.before_is) le;
        after = fault.after_is ∙ sym same;
        rose = subst (λ (n : ℕ). Rose n f.after) (sym fault.before_is) (subst (λ (n : ℕ). Rose (both_faults g book.first book.second) n) (sym fault.after_is) fault.rose);
      })

  pub call_cause : {R : Type 0} (result : Result R ControlFault) (Q : Type 0) → IfErr result (λ e. MatchDisk e (IsFault (both_faults g book.first book.second) (both_faults g new.first new.second)) Q)
      → IfErr result (λ e. MatchDisk e (IsFaultOf g (disks_in held) (disks_in then)) ⊤)
  call_cause (Ok r) Q fault = tt
  call_cause (Err e) Q fault = disk_weaker e _ _ Q ⊤ fault_of (λ q. tt) fault

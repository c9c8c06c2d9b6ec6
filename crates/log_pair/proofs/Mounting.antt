-- A mounting of two disks: first the headers are found, then the log that counts.
use Rattle.std.proofs.Common.{◌≡◌, ℕ, ◌+◌, ◌≤◌, Result, Ok, Err, sym, subst, arith}
use Rattle.std.specs.Bool.{⊤}
use Rattle.std.specs.Result.{IfOk, IfErr}
use Rattle.gno_num.specs.Faults.{Rose}
use Rattle.gno_num.specs.declared.faults.DiskFault.{DiskFault as Fault}
use Rattle.gno_num.specs.declared.faults.Damaged.{Damaged as Damage}
use Rattle.gno_disk.specs.declared.disk.Disk.{Ghosts}
use Rattle.gate_log.specs.LogView.{IsFault, MatchMountFault}
use Rattle.gate_log.specs.declared.fault.MountFault.{MountFault}
use Rattle.gate_log.specs.declared.fault.MountFault.TheVariants.{DiskFault as MountDisk, Damaged as MountDamaged, Memory as MountMemory}
use Rattle.log_pair.specs.PairView.{both_faults}

-- facts of an Ok, and of an Err, have another
pub IfOk-both : {X E : Type 0} (r : Result X E) (P Q R : X → Type 0) → ((x : X) → P x → Q x → R x) → IfOk r P → IfOk r Q → IfOk r R
IfOk-both (Ok x) P Q R has p q = has x p q
IfOk-both (Err e) P Q R has p q = tt

pub IfErr-both : {X E : Type 0} (r : Result X E) (P Q R : E → Type 0) → ((e : E) → P e → Q e → R e) → IfErr r P → IfErr r Q → IfErr r R
IfErr-both (Ok x) P Q R has p q = tt
IfErr-both (Err e) P Q R has p q = has e p q

-- a fact of each kind of fault has another
pub fault_to : (e : MountFault) (P P' : Fault → Type 0) (Q Q' : Damage → Type 0) → ((f : Fault) → P f → P' f) → ((d : Damage) → Q d → Q' d) → MatchMountFault e P Q ⊤ → MatchMountFault e P' Q' ⊤
fault_to (MountDisk f) P P' Q Q' has has_too fact = has f fact
fault_to (MountDamaged d) P P' Q Q' has has_too fact = has_too d fact
fault_to MountMemory P P' Q Q' has has_too fact = fact

module _ {D : Type 0} (g : Ghosts D) (came_then : (m n : ℕ) (old mid new : D) → g.came m old mid → g.came n mid new → g.came (m + n) old new) (came_more : (m n : ℕ) (old new : D) → m ≤ n → g.came m old new → g.came n old new) where
  -- two calls on the disk whose log counts, and one on the other
  pub came_two : (a mid new b next last : D) → g.came 1 a mid → g.came 1 mid new → g.came 1 b next → last ≡ next → g.came 2 a new × g.came 2 b last
  came_two a mid new b next last first second once same =
      (came_then 1 1 a mid new first second, subst (g.came 2 b) (sym same) (let le : 1 ≤ 2 = omega arith in came_more 1 2 b next le once))

  -- a fault of one disk of two
  pub fault_of_two : (a b x y : D) (old : ℕ) (f : Fault) → g.faults a ≤ old → g.faults b ≤ g.faults y → Rose old (g.faults x) → f.before ≡ both_faults g a b → f.after ≡ both_faults g x y → IsFault (both_faults g a b) (both_faults g x y) f
  fault_of_two a b x y old f less less_too rose before after = record {
    before_is = before;
    after_is = after;
    rose = record { rose = omega (arith, less, less_too, rose.rose) };
  }

  -- and of the other disk
  pub fault_of_other : (a b x y : D) (old : ℕ) (f : Fault) → g.faults b ≤ old → g.faults a ≤ g.faults x → Rose old (g.faults y) → f.before ≡ both_faults g a b → f.after ≡ both_faults g y x → IsFault (both_faults g a b) (both_faults g x y) f
  fault_of_other a b x y old f less less_too rose before after = record {
    before_is = before;
    after_is = omega (arith, after);
    rose = record { rose = omega (arith, less, less_too, rose.rose) };
  }

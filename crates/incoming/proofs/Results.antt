-- Facts of results from others.
use Rattle.std.proofs.Common.{◌≡◌, ℕ, ◌<◌, Result, Ok, Err, Option, Some, None}
use Rattle.std.specs.Result.{IfOk, IfErr}
use Rattle.gno_num.specs.declared.faults.DiskFault.{DiskFault as Fault}
use Rattle.gate_log.specs.LogView.{MatchMountFault}
use Rattle.gate_log.specs.declared.fault.MountFault.{MountFault}
use Rattle.gate_log.specs.declared.fault.MountFault.TheVariants.{DiskFault, Damaged, Memory}

pub ok_then : {X E : Type 0} (r : Result X E) (P Q : X → Type 0) → ((x : X) → P x → Q x) → IfOk r P → IfOk r Q
ok_then (Ok x) P Q has p = has x p
ok_then (Err e) P Q has p = tt

pub cause_then : {X : Type 0} (r : Result X MountFault) (F : Fault → Type 0) (B N M R : Type 0) → (N → M)
    → IfErr r (λ e. MatchMountFault e F (λ d. B × (d.disk < 2) × N) R) → IfErr r (λ e. MatchMountFault e F (λ d. B × (d.disk < 2) × M) R)
cause_then (Ok x) F B N M R has cause = tt
cause_then (Err (DiskFault f)) F B N M R has cause = cause
cause_then (Err (Damaged d)) F B N M R has cause = (cause.0, cause.1, has cause.2)
cause_then (Err Memory) F B N M R has cause = cause

pub match_then : (e : MountFault) (F : Fault → Type 0) (B N M R : Type 0) → (N → M)
    → MatchMountFault e F (λ d. B × (d.disk < 2) × N) R → MatchMountFault e F (λ d. B × (d.disk < 2) × M) R
match_then (DiskFault f) F B N M R has cause = cause
match_then (Damaged d) F B N M R has cause = (cause.0, cause.1, has cause.2)
match_then Memory F B N M R has cause = cause

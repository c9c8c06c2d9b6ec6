-- Making a pair: the second disk is made ready, and then a log is made on the first.
use Rattle.std.proofs.Common.{◌≡◌, ◌⊎◌, ℕ, ◌+◌, ◌≤◌, Bool, true, false, List, [], ◌∷◌, ◌++◌, length, Option, Some, None, inl, inr, sym, subst, arith}
use Rattle.std.specs.Option.{IfSome, IsSome}
use Rattle.gno_disk.specs.Disk.{Told}
use Rattle.gno_disk.specs.Moments.{LeavesOnly}
use Rattle.gno_disk.specs.Phases.{EachMoment, phase}
use Rattle.gno_disk.specs.declared.disk.Disk.{Ghosts}
use Rattle.gno_disk.proofs.Moments.{LeavesOnly-then, LeavesOnly-weaker, leaves_now}
use Rattle.gno_disk.proofs.PhaseLemmas.{EachMoment-two}
use Rattle.gate_log.specs.LogView.{IsOldOrMade}
use Rattle.gate_log.specs.Records.{HasNoLog, Holds, total_length}
use Rattle.gate_log.specs.Steps.{IsReady, IsRemade, IsRemadeOrStill, OldOrNone}
use Rattle.gate_log.proofs.Bytes.{no_log-short}
use Rattle.log_pair.specs.declared.place.Place.{Place}
use Rattle.log_pair.specs.Header.{FitsHeader, log_header}
use Rattle.log_pair.specs.Pair.{IsOlder}
use Rattle.log_pair.specs.PairView.{AreNoneOrMade, LeavesNoLog, OfTwo}

-- one body more
pub total_length-push : (bodies : List (List ℕ)) (body : List ℕ) → total_length (bodies ++ body ∷ []) ≡ total_length bodies + length body
total_length-push [] body = omega arith
total_length-push (first ∷ bodies) body = omega (arith, total_length-push bodies body)

-- no log counts in the place of another
pub none_older : (s : Bool) (epoch : ℕ) (bytes : List ℕ) → HasNoLog bytes → IsOlder s epoch bytes
none_older false epoch bytes none = λ place other has. absurd (none (log_header place other) has.first)
none_older true epoch bytes none = λ place other has. absurd (none (log_header place other) has.first)

-- a disk that was made ready has no log
pub ready_older : (s : Bool) (epoch : ℕ) (old new : Option (List ℕ)) → Told (λ _ bytes. IsReady bytes) old new → IfSome new (IsOlder s epoch)
ready_older s epoch None None ready = tt
ready_older s epoch None (Some new) ready = absurd ready
ready_older s epoch (Some old) None ready = tt
ready_older s epoch (Some old) (Some new) ready = none_older s epoch new (no_log-short new (omega (arith, ready.one)))

module _ {D : Type 0} (g : Ghosts D) where
  -- what the bytes at first have no log of, no image has after a step that makes none
  stepped : (told : Option (List ℕ)) (may : List ℕ → Type 0) (step : List ℕ → List ℕ → Type 0) (Q : List ℕ → Type 0) → IsSome told → IfSome told may → ((image : List ℕ) → may image → HasNoLog image)
      → ((bytes image : List ℕ) → HasNoLog bytes → step bytes image → Q image) → (image : List ℕ) → IfSome told (λ bytes. step bytes image) → Q image
  stepped None may step Q some reads none has image fact = cc
  stepped (Some bytes) may step Q some reads none has image fact = has bytes image (none bytes reads) fact

  pub remade_leaves : (old new : D) (step : List ℕ → List ℕ → Type 0) (Q : List ℕ → Type 0) → IsSome (g.told old) → IfSome (g.told old) (g.may_leave old) → LeavesNoLog g old
      → ((bytes image : List ℕ) → HasNoLog bytes → step bytes image → Q image) → ((image : List ℕ) → HasNoLog image → Q image) → IsRemade g step old new → LeavesOnly g old new Q
  remade_leaves old new step Q some reads none has has_none remade =
      LeavesOnly-then g old remade.synced new Q
      (LeavesOnly-weaker g old remade.synced (g.may_leave old) Q (λ image left. has_none image (none image left)) remade.until)
      (LeavesOnly-weaker g remade.synced new _ Q (λ image fact. stepped (g.told old) (g.may_leave old) step Q some reads none has image (subst (λ t. IfSome t (λ bytes. step bytes image)) remade.same_bytes fact)) remade.since)

  pub remade_or_still_leaves : (old new : D) (step : List ℕ → List ℕ → Type 0) (Q : List ℕ → Type 0) → IsSome (g.told old) → IfSome (g.told old) (g.may_leave old) → LeavesNoLog g old
      → ((bytes image : List ℕ) → HasNoLog bytes → step bytes image → Q image) → ((image : List ℕ) → HasNoLog image → Q image) → IsRemadeOrStill g step old new → LeavesOnly g old new Q
  remade_or_still_leaves old new step Q some reads none has has_none (inl still) = LeavesOnly-weaker g old new (g.may_leave old) Q (λ image left. has_none image (none image left)) still
  remade_or_still_leaves old new step Q some reads none has has_none (inr remade) = remade_leaves old new step Q some reads none has has_none remade

  -- the steps of making
  pub none_step : (bytes image : List ℕ) → HasNoLog bytes → OldOrNone bytes image → HasNoLog image
  none_step bytes image none (inl same) = subst HasNoLog (sym same) none
  none_step bytes image none (inr gone) = gone

  abbrev pub NoneOr : List (List ℕ) → List ℕ → Type 0
  NoneOr records image = HasNoLog image ⊎ Holds image records

  pub made_step : (records : List (List ℕ)) (bytes image : List ℕ) → HasNoLog bytes → IsOldOrMade records bytes image → NoneOr records image
  made_step records bytes image none (inl old) = inl (none_step bytes image none old)
  made_step records bytes image none (inr held) = inr held

  module _ (counts_now : (disk : D) (since : ℕ) (image : List ℕ) → since ≤ g.moment disk → g.may_leave disk image → g.left_since disk since image) where
    -- first no log on the second disk, then one on the first
    pub making_moments : (place : Place) (records : List (List ℕ)) (a first b second : D) → FitsHeader place 1 → LeavesNoLog g a → LeavesOnly g b second HasNoLog → LeavesOnly g a first (NoneOr (log_header place 1 ∷ records))
        → EachMoment g (phase b second ∷ phase a first ∷ []) (OfTwo (AreNoneOrMade place records))
    making_moments place records a first b second fits none ready made = EachMoment-two g (phase b second) (phase a first) (OfTwo (AreNoneOrMade place records)) ready.later made.later
        (λ y x left left_too. inl (none x left_too, ready.each y left))
        (λ y x left left_too. by y x (leaves_now g b second HasNoLog counts_now ready y left) (made.each x left_too))
      where
        by : (y x : List ℕ) → HasNoLog y → NoneOr (log_header place 1 ∷ records) x → AreNoneOrMade place records y x
        by y x none_too (inl gone) = inl (gone, none_too)
        by y x none_too (inr held) = inr (record {
          second = false;
          fits = fits;
          in_range = record { first = omega arith; last = omega arith };
          held = held;
          older = none_older false 1 y none_too;
        })

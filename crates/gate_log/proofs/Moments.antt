-- What the device calls of a log may leave.
use Rattle.std.proofs.Common.{◌≡◌, ℕ, List, Option, Some, None, Result, Ok, Err, OnOk, IfSome, inl, inr, refl, sym, subst, ◌∙◌}
use Rattle.gno_disk.specs.Disk.{Told, Follows, NoMore, Elapses}
use Rattle.gno_disk.proofs.Moments.{LeavesOnly-start, LeavesOnly-call, LeavesOnly-then, LeavesOnly-weaker}
use Rattle.gno_disk.specs.declared.disk.Disk.{Ghosts}
use Rattle.gate_log.specs.Steps.{IsSynced, Leaves, IsUntouched, IsRemade, IsRemadeOrStill}

-- what images after a call have, where they are those of known bytes after a step
pub follows_has : (told : Option (List ℕ)) (old new : List ℕ → Type 0) (step Q : List ℕ → List ℕ → Type 0) → IsSynced told old → Follows step old new
    → ((bytes image : List ℕ) → step bytes image → Q bytes image) → (image : List ℕ) → new image → IfSome told (λ bytes. Q bytes image)
follows_has None old new step Q synced follows has image left = synced
follows_has (Some bytes) old new step Q synced follows has image left =
    let back = follows image left in
    has bytes image (subst (λ (b : List ℕ). step b image) (synced back.0 back.1) back.2)

-- and of synced bytes before any call
pub only_has : (told : Option (List ℕ)) (images : List ℕ → Type 0) (Q : List ℕ → List ℕ → Type 0) → IsSynced told images → ((bytes : List ℕ) → Q bytes bytes)
    → (image : List ℕ) → images image → IfSome told (λ bytes. Q bytes image)
only_has None images Q synced has image left = synced
only_has (Some bytes) images Q synced has image left = subst (λ (c : List ℕ). Q bytes c) (sym (synced image left)) (has bytes)

-- A fact of the bytes told after a step is one of those told before.
pub told_back : (old new : Option (List ℕ)) (step P Q : List ℕ → List ℕ → Type 0) (H : List ℕ → Type 0) (image : List ℕ) → Told step old new → IfSome old H
    → ((b c : List ℕ) → H b → step b c → P c image → Q b image) → IfSome new (λ bytes. P bytes image) → IfSome old (λ bytes. Q bytes image)
told_back None None step P Q H image told has back fact = told
told_back None (Some new) step P Q H image told has back fact = absurd told
told_back (Some old) None step P Q H image told has back fact = absurd told
told_back (Some old) (Some new) step P Q H image told has back fact = back old new has told fact

-- no step was done
pub same_told : (told : Option (List ℕ)) → Told (λ old new. new ≡ old) told told
same_told None = tt
same_told (Some bytes) = refl

pub told_equal : (old new : Option (List ℕ)) → new ≡ old → Told (λ old new. new ≡ old) old new
told_equal old new same = subst (λ (t : Option (List ℕ)). Told (λ a b. b ≡ a) old t) (sym same) (same_told old)

-- what holds in any case holds on Ok
pub on_ok : {T E : Type 0} (result : Result T E) {P : Type 0} → P → OnOk result P
on_ok (Ok value) has = has
on_ok (Err fault) has = tt

-- a fact of the bytes told
pub told_weaker : (told : Option (List ℕ)) (P Q : List ℕ → Type 0) → ((b : List ℕ) → P b → Q b) → IfSome told P → IfSome told Q
told_weaker None P Q weaker fact = fact
told_weaker (Some bytes) P Q weaker fact = weaker bytes fact

-- two facts of the bytes told
pub told_with : (told : Option (List ℕ)) {P Q R : List ℕ → Type 0} → IfSome told P → IfSome told Q → ((b : List ℕ) → P b → Q b → R b) → IfSome told R
told_with None p q both = p
told_with (Some bytes) p q both = both bytes p q

-- what a step leaves of the bytes told
pub told_onto : (old new : Option (List ℕ)) (step : List ℕ → List ℕ → Type 0) (Q : List ℕ → Type 0) → Told step old new → ((image : List ℕ) → IfSome old (λ bytes. step bytes image) → Q image) → IfSome new Q
told_onto None None step Q told has = told
told_onto None (Some new) step Q told has = absurd told
told_onto (Some old) None step Q told has = absurd told
told_onto (Some old) (Some new) step Q told has = has new told

-- one step of the bytes told
pub told_step : (old new : Option (List ℕ)) (P R : List ℕ → List ℕ → Type 0) (H : List ℕ → Type 0) → IfSome old H → Told P old new → ((a b : List ℕ) → H a → P a b → R a b) → Told R old new
told_step None None P R H has told follows = told
told_step None (Some new) P R H has told follows = told
told_step (Some old) None P R H has told follows = told
told_step (Some old) (Some new) P R H has told follows = follows old new has told

-- two steps
pub told_steps : (old mid new : Option (List ℕ)) (P Q R : List ℕ → List ℕ → Type 0) (H : List ℕ → Type 0) → IfSome old H → Told P old mid → Told Q mid new → ((a b c : List ℕ) → H a → P a b → Q b c → R a c) → Told R old new
told_steps None None None P Q R H has first second follows = second
told_steps None None (Some new) P Q R H has first second follows = second
told_steps None (Some mid) new P Q R H has first second follows = absurd first
told_steps (Some old) None new P Q R H has first second follows = absurd first
told_steps (Some old) (Some mid) None P Q R H has first second follows = absurd second
told_steps (Some old) (Some mid) (Some new) P Q R H has first second follows = follows old mid new has first second

module _ {D : Type 0} (g : Ghosts D) (only_now : (disk : D) (image : List ℕ) → g.left_since disk (g.moment disk) image → g.may_leave disk image) where
  -- nothing was called
  pub untouched_start : (disk : D) → IsUntouched g disk disk
  untouched_start disk = record {
    same_bytes = refl;
    same_size = refl;
    no_more = λ image left. left;
    leaves = LeavesOnly-start g disk (g.may_leave disk) (only_now disk);
  }

  -- one call that changed no byte
  pub untouched_call : (old new : D) → g.told new ≡ g.told old → g.size new ≡ g.size old → NoMore (g.may_leave old) (g.may_leave new) → Elapses (g.moment old) (g.moment new) (g.left_since old) (g.left_since new) (g.may_leave new)
      → IsUntouched g old new
  untouched_call old new same long no_more time = record {
    same_bytes = same;
    same_size = long;
    no_more = no_more;
    leaves = LeavesOnly-call g old old new (g.may_leave old) (g.may_leave new) (LeavesOnly-start g old (g.may_leave old) (only_now old)) time no_more;
  }

  -- two runs that changed no byte
  pub untouched_then : (old mid new : D) → IsUntouched g old mid → IsUntouched g mid new
      → IsUntouched g old new
  untouched_then old mid new first second = record {
    same_bytes = second.same_bytes ∙ first.same_bytes;
    same_size = second.same_size ∙ first.same_size;
    no_more = λ image left. first.no_more image (second.no_more image left);
    leaves = LeavesOnly-then g old mid new (g.may_leave old) first.leaves (LeavesOnly-weaker g mid new (g.may_leave mid) (g.may_leave old) first.no_more second.leaves);
  }

  -- what is synced stays so
  pub untouched_synced : (old new : D) → IsUntouched g old new → IsSynced (g.told old) (g.may_leave old) → IsSynced (g.told new) (g.may_leave new)
  untouched_synced old new same synced = subst (λ (t : Option (List ℕ)). IsSynced t (g.may_leave new)) (sym same.same_bytes) (told_weaker (g.told old) _ _ (λ b only image left. only image (same.no_more image left)) synced)

  -- a run that changed no byte leaves what synced bytes have
  pub untouched_leaves : (old new : D) (Q : List ℕ → List ℕ → Type 0) → IsUntouched g old new → IsSynced (g.told old) (g.may_leave old) → ((bytes : List ℕ) → Q bytes bytes)
      → Leaves g Q old new
  untouched_leaves old new Q same synced has =
      LeavesOnly-weaker g old new (g.may_leave old) (λ image. IfSome (g.told old) (λ bytes. Q bytes image)) (only_has (g.told old) (g.may_leave old) Q synced has) same.leaves

  -- a write or a cut over synced bytes
  pub change_leaves : (old new : D) (step : List ℕ → List ℕ → Type 0) → IsSynced (g.told old) (g.may_leave old) → ((bytes : List ℕ) → step bytes bytes)
      → Follows step (g.may_leave old) (g.may_leave new) → Elapses (g.moment old) (g.moment new) (g.left_since old) (g.left_since new) (g.may_leave new) → Leaves g step old new
  change_leaves old new step synced same follows time =
      LeavesOnly-call g old old new (λ image. IfSome (g.told old) (λ bytes. step bytes image)) (g.may_leave new)
      (LeavesOnly-start g old (λ image. IfSome (g.told old) (λ bytes. step bytes image)) (λ image left. only_has (g.told old) (g.may_leave old) step synced same image (only_now old image left))) time
      (follows_has (g.told old) (g.may_leave old) (g.may_leave new) step step synced follows (λ bytes image has. has))

  -- and a sync after it
  pub sync_leaves : (old mid new : D) (step : List ℕ → List ℕ → Type 0) → IsSynced (g.told old) (g.may_leave old) → ((bytes : List ℕ) → step bytes bytes)
      → Follows step (g.may_leave old) (g.may_leave mid) → Elapses (g.moment old) (g.moment mid) (g.left_since old) (g.left_since mid) (g.may_leave mid)
      → NoMore (g.may_leave mid) (g.may_leave new) → Elapses (g.moment mid) (g.moment new) (g.left_since mid) (g.left_since new) (g.may_leave new) → Leaves g step old new
  sync_leaves old mid new step synced same follows time no_more later =
      LeavesOnly-call g old mid new (λ image. IfSome (g.told old) (λ bytes. step bytes image)) (g.may_leave new)
      (change_leaves old mid step synced same follows time) later
      (λ image left. follows_has (g.told old) (g.may_leave old) (g.may_leave mid) step step synced follows (λ bytes c has. has) image (no_more image left))

  -- two runs, the second over what the first left
  pub leaves_then : (old mid new : D) (step P Q : List ℕ → List ℕ → Type 0) (H : List ℕ → Type 0) → IfSome (g.told old) H → Leaves g Q old mid → Told step (g.told old) (g.told mid)
      → ((b c image : List ℕ) → H b → step b c → P c image → Q b image) → Leaves g P mid new → Leaves g Q old new
  leaves_then old mid new step P Q H has first over back second =
      LeavesOnly-then g old mid new (λ image. IfSome (g.told old) (λ bytes. Q bytes image)) first
      (LeavesOnly-weaker g mid new (λ image. IfSome (g.told mid) (λ bytes. P bytes image)) (λ image. IfSome (g.told old) (λ bytes. Q bytes image))
      (λ image fact. told_back (g.told old) (g.told mid) step P Q H image over has (λ b c h s p. back b c image h s p) fact) second)

  -- what a run leaves has also this
  pub leaves_weaker : (old new : D) (P Q : List ℕ → List ℕ → Type 0) (H : List ℕ → Type 0) → IfSome (g.told old) H → ((b image : List ℕ) → H b → P b image → Q b image)
      → Leaves g P old new → Leaves g Q old new
  leaves_weaker old new P Q H has weaker leaves =
      LeavesOnly-weaker g old new (λ image. IfSome (g.told old) (λ bytes. P bytes image)) (λ image. IfSome (g.told old) (λ bytes. Q bytes image))
      (λ image fact. told_back (g.told old) (g.told old) (λ b c. c ≡ b) P Q H image (same_told (g.told old)) has (λ b c h e p. weaker b image h (subst (λ (x : List ℕ). P x image) e p)) fact) leaves

  -- a disk that is remade in another way
  pub remade_weaker : (old new : D) (P Q : List ℕ → List ℕ → Type 0) → ((b image : List ℕ) → P b image → Q b image) → IsRemade g P old new → IsRemade g Q old new
  remade_weaker old new P Q weaker remade = record {
    synced = remade.synced;
    same_bytes = remade.same_bytes;
    until = remade.until;
    since = LeavesOnly-weaker g remade.synced new (λ image. IfSome (g.told remade.synced) (λ bytes. P bytes image)) (λ image. IfSome (g.told remade.synced) (λ bytes. Q bytes image))
        (λ image fact. told_weaker (g.told remade.synced) (λ b. P b image) (λ b. Q b image) (λ b p. weaker b image p) fact) remade.since;
  }

  pub remade_or_still_weaker : (old new : D) (P Q : List ℕ → List ℕ → Type 0) → ((b image : List ℕ) → P b image → Q b image) → IsRemadeOrStill g P old new → IsRemadeOrStill g Q old new
  remade_or_still_weaker old new P Q weaker (inl still) = inl still
  remade_or_still_weaker old new P Q weaker (inr remade) = inr (remade_weaker old new P Q weaker remade)

  -- nothing was called
  pub still_start : (disk : D) (step : List ℕ → List ℕ → Type 0) → IsRemadeOrStill g step disk disk
  still_start disk step = inl (LeavesOnly-start g disk (g.may_leave disk) (only_now disk))

  -- a disk that was remade, and then a run over what that left
  pub remade_then : (old mid new : D) (step P Q R : List ℕ → List ℕ → Type 0) (H : List ℕ → Type 0) → IfSome (g.told old) H → IsRemade g P old mid → Told step (g.told old) (g.told mid)
      → ((b image : List ℕ) → P b image → R b image) → ((b c image : List ℕ) → H b → step b c → Q c image → R b image) → Leaves g Q mid new → IsRemade g R old new
  remade_then old mid new step P Q R H has remade over weaker back second = record {
    synced = remade.synced;
    same_bytes = remade.same_bytes;
    until = remade.until;
    since = leaves_then remade.synced mid new step Q R H (subst (λ (t : Option (List ℕ)). IfSome t H) (sym remade.same_bytes) has)
        (leaves_weaker remade.synced mid P R H (subst (λ (t : Option (List ℕ)). IfSome t H) (sym remade.same_bytes) has) (λ b image h p. weaker b image p) remade.since) (subst (λ (t : Option (List ℕ)). Told step t (g.told mid)) (sym remade.same_bytes) over) back second;
  }

  -- a run over a disk that was synced
  pub remade_from : (old synced new : D) (step : List ℕ → List ℕ → Type 0) → IsUntouched g old synced → Leaves g step synced new → IsRemade g step old new
  remade_from old synced new step same since = record { synced = synced; same_bytes = same.same_bytes; until = same.leaves; since = since }

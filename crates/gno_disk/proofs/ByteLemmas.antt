-- What a call does to the bytes that a disk in memory holds.
use Rattle.std.proofs.Common.{◌≡◌, ◌⊎◌, ℕ, ◌+◌, ◌≤◌, max, min, Bool, true, false, List, [], ◌∷◌, ◌++◌, length, take, inl, inr, refl, sym, ap, subst, ◌∙◌, arith, length-take}
use Rattle.std.specs.Prelude.{Result, Ok, Err, is_err, IsErr, OnOk, OnErr}
use Rattle.std.proofs.lemmas.List.{take_all}
use Rattle.gno_disk.specs.Disk.{Overwrites, Torn, PartCut}
use Rattle.gno_disk.specs.Memory.{MemView, Step, has_read, wrote, cut_to, synced, IsMade, LacksMemory}
use Rattle.gno_disk.specs.Images.{State, fresh, after_step, after_all, bytes_after, bytes_of}
use Rattle.gno_disk.proofs.StepLemmas.{after_all-push}
use Rattle.gno_disk.proofs.ContentLemmas.{length-overwrites}

-- a place within these bytes
pub inside_of : (first : List ℕ) (steps : List Step) (s : State) (at : ℕ) → after_all (fresh first) steps ≡ s → at ≤ length (bytes_after first steps) → at ≤ length s.bytes
inside_of first steps s at tracked inside = omega (arith, inside, ap (λ (t : State). length t.bytes) tracked)

-- after a read
pub pushed_read : (first next : List ℕ) (old new : List Step) (failed : Bool) → next ≡ first → new ≡ old ++ has_read failed ∷ [] → bytes_after next new ≡ bytes_after first old
pushed_read first next old new failed same made =
    ap (λ (f : List ℕ). bytes_after f new) same ∙ ap (λ (steps : List Step). bytes_after first steps) made
    ∙ ap (λ (s : State). s.bytes) (after_all-push (fresh first) old (has_read failed))

module _ (old new : MemView) (first : new.first ≡ old.first) where
  -- after a call that was made
  made_bytes : (step : Step) → IsMade old new step → bytes_of new ≡ (after_step (after_all (fresh old.first) old.steps) step).bytes
  made_bytes step made =
      ap (λ (f : List ℕ). bytes_after f new.steps) first ∙ ap (λ (steps : List Step). bytes_after old.first steps) made.remembered
      ∙ ap (λ (s : State). s.bytes) (after_all-push (fresh old.first) old.steps step)

  -- there was no memory for the call
  lacking_bytes : LacksMemory old new → bytes_of new ≡ bytes_of old
  lacking_bytes none = ap (λ (f : List ℕ). bytes_after f new.steps) first ∙ ap (λ (steps : List Step). bytes_after old.first steps) none.steps

  pub read_bytes : {R : Type 0} (failed : Bool) → IsMade old new (has_read failed) ⊎ (R × LacksMemory old new) → bytes_of new ≡ bytes_of old
  read_bytes failed (inl made) = made_bytes (has_read failed) made
  read_bytes failed (inr none) = lacking_bytes none.1

  synced_same : (s : State) (failed : Bool) → (after_step s (synced failed)).bytes ≡ s.bytes
  synced_same s true = refl
  synced_same s false = refl

  pub sync_bytes : {R : Type 0} (failed : Bool) → IsMade old new (synced failed) ⊎ (R × LacksMemory old new) → bytes_of new ≡ bytes_of old
  sync_bytes failed (inl made) = made_bytes (synced failed) made ∙ synced_same (after_all (fresh old.first) old.steps) failed
  sync_bytes failed (inr none) = lacking_bytes none.1

  module _ (at : ℕ) (bytes : List ℕ) {T E : Type 0} where
    pub written : (result : Result T E) → IsMade old new (wrote at bytes (is_err result)) ⊎ (IsErr result × LacksMemory old new) → OnOk result (Overwrites at bytes (bytes_of old) (bytes_of new))
    written (Ok done) (inl made) = made_bytes (wrote at bytes false) made
    written (Ok done) (inr none) = cc none.0
    written (Err fault) made = tt

    pub written_size : (result : Result T E) → at ≤ length (bytes_of old) → IsMade old new (wrote at bytes (is_err result)) ⊎ (IsErr result × LacksMemory old new)
        → OnOk result (length (bytes_of new) ≡ max (length (bytes_of old)) (at + length bytes))
    written_size (Ok done) inside made = length-overwrites at bytes (bytes_of old) (bytes_of new) (written (Ok done) made) inside
    written_size (Err fault) inside made = tt

    pub unwritten : (result : Result T E) → IsMade old new (wrote at bytes (is_err result)) ⊎ (IsErr result × LacksMemory old new) → OnErr result (bytes_of new ≡ bytes_of old)
    unwritten (Ok done) made = tt
    unwritten (Err fault) (inl made) = made_bytes (wrote at bytes true) made
    unwritten (Err fault) (inr none) = lacking_bytes none.1

    pub torn : (result : Result T E) → IsMade old new (wrote at bytes (is_err result)) ⊎ (IsErr result × LacksMemory old new) → OnErr result (Torn at (length bytes) (bytes_of old) (bytes_of new))
    torn (Ok done) made = tt
    torn (Err fault) made = subst (λ (b : List ℕ). Torn at (length bytes) (bytes_of old) b) (sym (unwritten (Err fault) made)) (record { before = refl; after = refl; no_shorter = omega arith; no_longer = omega arith })

  module _ (to : ℕ) {T E : Type 0} where
    pub cut : (result : Result T E) → IsMade old new (cut_to to (is_err result)) ⊎ (IsErr result × LacksMemory old new) → OnOk result (bytes_of new ≡ take to (bytes_of old))
    cut (Ok done) (inl made) = made_bytes (cut_to to false) made
    cut (Ok done) (inr none) = cc none.0
    cut (Err fault) made = tt

    pub cut_size : (result : Result T E) → to ≤ length (bytes_of old) → IsMade old new (cut_to to (is_err result)) ⊎ (IsErr result × LacksMemory old new) → OnOk result (length (bytes_of new) ≡ to)
    cut_size (Ok done) inside made = omega (arith, inside, ap length (cut (Ok done) made), length-take to (bytes_of old))
    cut_size (Err fault) inside made = tt

    pub uncut : (result : Result T E) → IsMade old new (cut_to to (is_err result)) ⊎ (IsErr result × LacksMemory old new) → OnErr result (bytes_of new ≡ bytes_of old)
    uncut (Ok done) made = tt
    uncut (Err fault) (inl made) = made_bytes (cut_to to true) made
    uncut (Err fault) (inr none) = lacking_bytes none.1

    pub part_cut : (result : Result T E) → to ≤ length (bytes_of old) → IsMade old new (cut_to to (is_err result)) ⊎ (IsErr result × LacksMemory old new) → OnErr result (PartCut to (bytes_of old) (bytes_of new))
    part_cut (Ok done) inside made = tt
    part_cut (Err fault) inside made = subst (λ (b : List ℕ). PartCut to (bytes_of old) b) (sym (uncut (Err fault) made)) (record { no_shorter = inside; front = take_all (length (bytes_of old)) (bytes_of old) (omega arith) })

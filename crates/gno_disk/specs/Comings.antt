-- The laws of a disk in memory: that its bytes are one of its images, and how it came from another.
use Rattle.std.specs.Prelude.{◌≡◌, ◌⊎◌, ℕ, ◌+◌, ◌-◌, ◌≤◌, ◌^◌, min, Bool, true, false, if◌then◌else◌, List, [], ◌∷◌, ◌++◌, length, take, drop, Contains, Option, Some, None, Result, Ok, Err, is_err, IsErr, OnErr, option_map}
use Rattle.std.proofs.Common.{inl, inr, refl, sym, ap, subst, ◌∙◌, ⊎_elim, arith}
use Rattle.std.proofs.lemmas.List.{append_assoc, append-nil, take-append-le, length-append, length-take, length-drop}
use Rattle.std.proofs.lemmas.Bool.{cases_lt}
use Rattle.gno_num.specs.Faults.{Rose, Rose-from, Rose-until}
use Rattle.gno_disk.specs.Disk.{TimeGoesOn}
use Rattle.gno_disk.specs.Images.{State, fresh, after_step, after_all, bytes_of, LeftSince, MayLeave}
use Rattle.gno_disk.specs.Memory.{Step, has_read, wrote, cut_to, synced, MemView, burnt, raised, changes_of, Came, IsListed, HasFailed, IsPlanned, IsMade, LacksMemory, IsNumbered}

-- the least and the greatest length are such
record IsSane (s : State) : Type 0 where
  least : s.least ≤ length s.bytes
  greatest : length s.bytes ≤ s.greatest

sane_step : (s : State) (step : Step) → IsSane s → IsSane (after_step s step)
sane_step s (has_read failed) sane = sane
sane_step s (wrote at bytes false) sane =
    let low = sane.least in
    let high = sane.greatest in
    let long : length (take at s.bytes ++ bytes ++ drop (at + length bytes) s.bytes) ≡ min at (length s.bytes) + length bytes + (length s.bytes - (at + length bytes)) =
    omega (arith, length-append (take at s.bytes ++ bytes) (drop (at + length bytes) s.bytes), length-append (take at s.bytes) bytes, length-take at s.bytes, length-drop (at + length bytes) s.bytes) in
    record { least = omega (arith, low, long); greatest = omega (arith, high, long) }
sane_step s (wrote at bytes true) sane = record { least = sane.least; greatest = sane.greatest }
sane_step s (cut_to to false) sane =
    let low = sane.least in
    let high = sane.greatest in
    record { least = omega (arith, low, length-take to s.bytes); greatest = omega (arith, high, length-take to s.bytes) }
sane_step s (cut_to to true) sane = sane
sane_step s (synced false) sane = record { least = omega arith; greatest = omega arith }
sane_step s (synced true) sane = sane

sane_all : (s : State) (steps : List Step) → IsSane s → IsSane (after_all s steps)
sane_all s [] sane = sane
sane_all s (step ∷ steps) sane = sane_all (after_step s step) steps (sane_step s step sane)

-- the disk as it reads is one of its images
pub reads_image : (disk : MemView) → MayLeave disk.first disk.steps (bytes_of disk)
reads_image disk =
    let sane = sane_all (fresh disk.first) disk.steps (record { least = omega arith; greatest = omega arith }) in
    record { least = sane.least; greatest = sane.greatest; firm = λ place lt firm. refl }

pub Came-none : (disk : MemView) → Came 0 disk disk
Came-none disk = record {
  made = [];
  first = refl;
  steps = sym (append-nil disk.steps);
  few = omega arith;
  fail = refl;
  fuse = λ k fuse_is. (k, fuse_is, omega arith, omega arith);
  no_fuse = λ none. none;
  faults = omega arith;
  starved = omega arith;
  failed = inl refl;
}

changes_of-append : (first second : List Step) → changes_of (first ++ second) ≡ changes_of first + changes_of second
changes_of-append [] second = omega arith
changes_of-append (has_read failed ∷ first) second = changes_of-append first second
changes_of-append (wrote at bytes failed ∷ first) second = omega (arith, changes_of-append first second)
changes_of-append (cut_to to failed ∷ first) second = omega (arith, changes_of-append first second)
changes_of-append (synced failed ∷ first) second = omega (arith, changes_of-append first second)

-- a fuse that lets nothing pass stays so
spent : (n : ℕ) (old new : MemView) → Came n old new → old.fuse ≡ Some 0 → new.fuse ≡ Some 0
spent n old new came none =
    let rest = came.fuse 0 none in
    let left = rest.2 in
    let is : rest.0 ≡ 0 = omega (arith, left) in
    rest.1 ∙ ap (λ (k : ℕ). Some k) is

-- why one of two runs failed
failed_then : (m n : ℕ) (old mid new : MemView) → Came m old mid → Came n mid new → (mid.faults ≡ old.faults) ⊎ HasFailed old mid → (new.faults ≡ mid.faults) ⊎ HasFailed mid new
    → (new.faults ≡ old.faults) ⊎ HasFailed old new
failed_then m n old mid new first second (inl same) (inl same_too) = inl (same_too ∙ same)
failed_then m n old mid new first second (inr (inl listed)) why = inr (inl listed)
failed_then m n old mid new first second (inr (inr (inl none))) why = inr (inr (inl (spent n mid new second none)))
failed_then m n old mid new first second (inr (inr (inr rose))) why = inr (inr (inr (Rose-until new.starved rose second.starved)))
failed_then m n old mid new first second (inl same) (inr (inl listed)) = inr (inl (listed.0, subst (λ (fail : List ℕ). Contains fail listed.0) first.fail listed.1))
failed_then m n old mid new first second (inl same) (inr (inr (inl none))) = inr (inr (inl none))
failed_then m n old mid new first second (inl same) (inr (inr (inr rose))) = inr (inr (inr (Rose-from old.starved first.starved rose)))

pub Came-then : (m n : ℕ) (old mid new : MemView) → Came m old mid → Came n mid new → Came (m + n) old new
Came-then m n old mid new first second =
    let few = first.few in
    let few_more = second.few in
    record {
      made = first.made ++ second.made;
      first = second.first ∙ first.first;
      steps = second.steps ∙ ap (λ (steps : List Step). steps ++ second.made) first.steps ∙ append_assoc old.steps first.made second.made;
      few = omega (arith, few, few_more, changes_of-append first.made second.made);
      fail = second.fail ∙ first.fail;
      fuse = λ k fuse_is.
          let one = first.fuse k fuse_is in
          let one_low = one.2 in
          let one_left = one.3 in
          let two = second.fuse one.0 one.1 in
          let two_low = two.2 in
          let two_left = two.3 in
          (two.0, two.1, omega (arith, one_low, two_low), omega (arith, one_left, two_left));
      no_fuse = λ none. second.no_fuse (first.no_fuse none);
      faults = omega (arith, first.faults, second.faults);
      starved = omega (arith, first.starved, second.starved);
      failed = failed_then m n old mid new first second first.failed second.failed;
    }

pub Came-more : (m n : ℕ) (old new : MemView) → m ≤ n → Came m old new → Came n old new
Came-more m n old new le came =
    let few = came.few in
    record {
      made = came.made;
      first = came.first;
      steps = came.steps;
      few = omega (arith, le, few);
      fail = came.fail;
      fuse = λ k fuse_is. let rest = came.fuse k fuse_is in let left = rest.3 in (rest.0, rest.1, rest.2, omega (arith, left, le));
      no_fuse = came.no_fuse;
      faults = came.faults;
      starved = came.starved;
      failed = came.failed;
    }

pub Came-later : (n : ℕ) (old new : MemView) → Came n old new → old.faults ≤ new.faults
Came-later n old new came = came.faults

-- the moments of the calls that were made
goes_on : (first : List ℕ) (old made : List Step) → TimeGoesOn (length old) (length (old ++ made)) (LeftSince first old) (LeftSince first (old ++ made))
goes_on first old made = record {
  later = omega (arith, length-append old made);
  splits = λ t image le since. elim (cases_lt (length old) since.moment) [
    | inl lt ↦ inr (record { moment = since.moment; no_earlier = omega (arith, lt); no_later = since.no_later; left = since.left })
    | inr ge ↦ inl (record { moment = since.moment; no_earlier = since.no_earlier; no_later = omega (arith, ge); left = subst (λ (steps : List Step). MayLeave first steps image) (take-append-le since.moment old made (omega (arith, ge))) since.left })
  ];
  keeps = λ t image le past. record {
    moment = past.moment;
    no_earlier = past.no_earlier;
    no_later = omega (arith, past.no_later, length-append old made);
    left = subst (λ (steps : List Step). MayLeave first steps image) (sym (take-append-le past.moment old made past.no_later)) past.left;
  };
  more = λ t image le since. record { moment = since.moment; no_earlier = omega (arith, le, since.no_earlier); no_later = since.no_later; left = since.left };
}

pub Came-goes_on : (n : ℕ) (old new : MemView) → Came n old new → TimeGoesOn (length old.steps) (length new.steps) (LeftSince old.first old.steps) (LeftSince new.first new.steps)
Came-goes_on n old new came =
    subst (λ (first : List ℕ). TimeGoesOn (length old.steps) (length new.steps) (LeftSince old.first old.steps) (LeftSince first new.steps)) (sym came.first)
    (subst (λ (steps : List Step). TimeGoesOn (length old.steps) (length steps) (LeftSince old.first old.steps) (LeftSince old.first steps)) (sym came.steps) (goes_on old.first old.steps came.made))

pub Came-fused : (n : ℕ) (old new : MemView) (calls : ℕ) → Came n old new → old.fuse ≡ Some calls → (left : ℕ) × (new.fuse ≡ Some left) × (left ≤ calls) × (calls ≤ left + n)
Came-fused n old new calls came set = came.fuse calls set

pub Came-unfused : (n : ℕ) (old new : MemView) → Came n old new → old.fuse ≡ None → new.fuse ≡ None
Came-unfused n old new came none = came.no_fuse none

pub Came-listed : (n : ℕ) (old new : MemView) → Came n old new → IsListed new → IsListed old
Came-listed n old new came listed = (listed.0, subst (λ (fail : List ℕ). Contains fail listed.0) came.fail listed.1)

pub Came-starved : (n : ℕ) (old new : MemView) → Came n old new → old.starved ≤ new.starved
Came-starved n old new came = came.starved

pub Came-failed : (n : ℕ) (old new : MemView) → Came n old new → (new.faults ≡ old.faults) ⊎ HasFailed old new
Came-failed n old new came = came.failed

-- a fuse after a call that may have used it
burnt_left : (old new : Option ℕ) (failed : Bool) → new ≡ (if failed then old else burnt old) → (k : ℕ) → old ≡ Some k → (left : ℕ) × (new ≡ Some left) × (left ≤ k) × (k ≤ left + 1)
burnt_left old new true new_is k old_is = (k, new_is ∙ old_is, omega arith, omega arith)
burnt_left old new false new_is k old_is = (k - 1, new_is ∙ ap burnt old_is, omega arith, omega arith)

burnt_none : (old new : Option ℕ) (failed : Bool) → new ≡ (if failed then old else burnt old) → old ≡ None → new ≡ None
burnt_none old new true new_is none = new_is ∙ none
burnt_none old new false new_is none = new_is ∙ ap burnt none

-- why one call failed
failed_once : (old new : MemView) {T E : Type 0} (result : Result T E) → IsNumbered old new (is_err result) → new.fuse ≡ (if is_err result then old.fuse else burnt old.fuse) → OnErr result (IsPlanned old ⊎ LacksMemory old new)
    → (new.faults ≡ old.faults) ⊎ HasFailed old new
failed_once old new (Ok done) counted fuse why = inl counted.faults
failed_once old new (Err fault) counted fuse (inl (inl listed)) = inr (inl (old.number, listed))
failed_once old new (Err fault) counted fuse (inl (inr none)) = inr (inr (inl (fuse ∙ none)))
failed_once old new (Err fault) counted fuse (inr starved) = let is = starved.starved in inr (inr (inr (record { rose = omega (arith, is) })))

-- one write, cut or sync
pub Came-change : (old new : MemView) (step : Step) {T E : Type 0} (result : Result T E) → changes_of (step ∷ []) ≡ 1 → IsMade old new step ⊎ (IsErr result × LacksMemory old new) → IsNumbered old new (is_err result)
    → new.fuse ≡ (if is_err result then old.fuse else burnt old.fuse) → old.faults ≤ new.faults → old.starved ≤ new.starved → OnErr result (IsPlanned old ⊎ LacksMemory old new) → Came 1 old new
Came-change old new step result one made counted fuse faults starved why = record {
  made = ⊎_elim (λ _. step ∷ []) (λ _. []) made;
  first = counted.first;
  steps = elim made as (λ m. new.steps ≡ old.steps ++ ⊎_elim (λ _. step ∷ []) (λ _. []) m) [ inl is ↦ is.remembered | inr none ↦ none.1.steps ∙ sym (append-nil old.steps) ];
  few = elim made as (λ m. changes_of (⊎_elim (λ _. step ∷ []) (λ _. []) m) ≤ 1) [ inl is ↦ omega (arith, one) | inr none ↦ omega arith ];
  fail = counted.fail;
  fuse = burnt_left old.fuse new.fuse (is_err result) fuse;
  no_fuse = burnt_none old.fuse new.fuse (is_err result) fuse;
  faults = faults;
  starved = starved;
  failed = failed_once old new result counted fuse why;
}

-- a result that is no error, or has a cause
pub fine_or : {T E : Type 0} (result : Result T E) (P : Type 0) → OnErr result P → (is_err result ≡ false) ⊎ P
fine_or (Ok done) P has = inl refl
fine_or (Err fault) P has = inr has

-- one read
pub Came-read : (old new : MemView) (failed : Bool) {R : Type 0} → IsMade old new (has_read failed) ⊎ (R × LacksMemory old new) → IsNumbered old new failed
    → new.fuse ≡ old.fuse → old.faults ≤ new.faults → old.starved ≤ new.starved → (failed ≡ false) ⊎ (IsPlanned old ⊎ LacksMemory old new) → Came 0 old new
Came-read old new failed made counted fuse faults starved why = record {
  made = ⊎_elim (λ _. has_read failed ∷ []) (λ _. []) made;
  first = counted.first;
  steps = elim made as (λ m. new.steps ≡ old.steps ++ ⊎_elim (λ _. has_read failed ∷ []) (λ _. []) m) [ inl is ↦ is.remembered | inr none ↦ none.1.steps ∙ sym (append-nil old.steps) ];
  few = elim made as (λ m. changes_of (⊎_elim (λ _. has_read failed ∷ []) (λ _. []) m) ≤ 0) [ inl is ↦ omega arith | inr none ↦ omega arith ];
  fail = counted.fail;
  fuse = λ k old_is. (k, fuse ∙ old_is, omega arith, omega arith);
  no_fuse = λ none. fuse ∙ none;
  faults = faults;
  starved = starved;
  failed = elim why [
    | inl none ↦ inl (counted.faults ∙ ap (λ (b : Bool). if b then raised old.faults else old.faults) none)
    | inr (inl (inl listed)) ↦ inr (inl (old.number, listed))
    | inr (inl (inr none)) ↦ inr (inr (inl (fuse ∙ none)))
    | inr (inr lack) ↦ (let is = lack.starved in inr (inr (inr (record { rose = omega (arith, is) }))))
  ];
}

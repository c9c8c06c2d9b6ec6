-- Reading items one after the other, as a loop does.
use Rattle.std.proofs.Common.{◌≡◌, ℕ, zero, suc, ◌-◌, ◌+◌, ◌≤◌, ◌<◌, List, [], ◌∷◌, ◌++◌, Option, Some, None, Result, Ok, Err, refl, sym, ap, subst, ◌∙◌, append_assoc, arith}
use Rattle.std.proofs.lemmas.List.{append-nil}
use Rattle.gno_codec.specs.declared.fault.ReadFault.{ReadFault}
use Rattle.gno_codec.specs.declared.fault.ReadFault.TheVariants as faults
use Rattle.gno_codec.specs.Reading.{Unread, Reading, Refuses, on_read, then_at, done, items_at, last_of}
use Rattle.gno_codec.proofs.Lists.{last_push}

-- what was read before, and what is still read
abbrev pub with_front : {A : Type 0} → List A → Result (List A × Unread) ℕ → Result (List A × Unread) ℕ
with_front front read = on_read read (λ xs to. Ok (front ++ xs, to))

regroup : {A : Type 0} (front : List A) (x : A) (read : Result (List A × Unread) ℕ) → with_front front (on_read read (λ xs to. Ok (x ∷ xs, to))) ≡ with_front (front ++ x ∷ []) read
regroup {A} front x (Ok r) = ap (λ (xs : List A). Ok (xs, r.1)) (simp append_assoc)
regroup front x (Err at) = refl

module _ {A : Type 0} (item : Option A → Reading A) where
  pub goes_on : (before : Option A) (front : List A) (count i : ℕ) (from : Unread) (x : A) (after : Unread) (total : Result (List A × Unread) ℕ) → i < count → item before from ≡ Ok (x, after)
      → with_front front (items_at item before (count - i) from) ≡ total → with_front (front ++ x ∷ []) (items_at item (Some x) (count - (i + 1)) after) ≡ total
  unfolding items_at then_at done
  goes_on before front count i from x after total lt h so_far =
      let k : count - i ≡ suc (count - (i + 1)) = omega arith in
      let one : with_front front (items_at item before (count - i) from) ≡ with_front (front ++ x ∷ []) (items_at item (Some x) (count - (i + 1)) after) = rw (k, h) (regroup front x (items_at item (Some x) (count - (i + 1)) after)) in
      sym one ∙ so_far

  pub ends : (fault : ReadFault) (before : Option A) (front : List A) (count i : ℕ) (from : Unread) (total : Result (List A × Unread) ℕ) → i < count → Refuses fault (item before from)
      → with_front front (items_at item before (count - i) from) ≡ total → Refuses fault total
  unfolding items_at then_at
  ends faults.Memory before front count i from total lt h so_far = tt
  ends (faults.Bad at) before front count i from total lt h so_far =
      let k : count - i ≡ suc (count - (i + 1)) = omega arith in
      let one : with_front front (items_at item before (count - i) from) ≡ Err at = rw (k, h) refl in
      sym so_far ∙ one

  pub is_done : (before : Option A) (front : List A) (count i : ℕ) (from : Unread) (total : Result (List A × Unread) ℕ) → count ≤ i → with_front front (items_at item before (count - i) from) ≡ total → total ≡ Ok (front, from)
  unfolding items_at done
  is_done before front count i from total le so_far =
      let k : count - i ≡ 0 = omega arith in
      let one : with_front front (items_at item before (count - i) from) ≡ Ok (front, from) = rw k (ap (λ (xs : List A). Ok (xs, from)) (append-nil front)) in
      sym so_far ∙ one

-- where items don't depend on the one before, none is like any
pub any_before : {A : Type 0} (item : Reading A) (before other : Option A) (n : ℕ) (from : Unread) → items_at (λ _. item) before n from ≡ items_at (λ _. item) other n from
unfolding items_at
any_before item before other zero from = refl
any_before item before other (suc n) from = refl

pub goes_on_any : {A : Type 0} (item : Reading A) (front : List A) (count i : ℕ) (from : Unread) (x : A) (after : Unread) (total : Result (List A × Unread) ℕ) → i < count → item from ≡ Ok (x, after)
    → with_front front (items_at (λ _. item) None (count - i) from) ≡ total → with_front (front ++ x ∷ []) (items_at (λ _. item) None (count - (i + 1)) after) ≡ total
goes_on_any {A} item front count i from x after total lt h so_far =
    ap (λ (r : Result (List A × Unread) ℕ). with_front (front ++ x ∷ []) r) (any_before item None (Some x) (count - (i + 1)) after)
    ∙ goes_on (λ _. item) None front count i from x after total lt h so_far

-- the same, where the item before is the last of those that were read
module _ {A : Type 0} (item : Option A → Reading A) where
  pub goes_on_last : (seen front now : List A) (count i : ℕ) (from : Unread) (x : A) (after : Unread) (total : Result (List A × Unread) ℕ) → i < count → seen ≡ front → item (last_of seen) from ≡ Ok (x, after)
      → with_front front (items_at item (last_of front) (count - i) from) ≡ total → now ≡ front ++ x ∷ [] → with_front now (items_at item (last_of now) (count - (i + 1)) after) ≡ total
  goes_on_last seen front now count i from x after total lt same read so_far pushed =
      let step = goes_on item (last_of front) front count i from x after total lt (ap (λ (xs : List A). item (last_of xs) from) (sym same) ∙ read) so_far in
      let last : last_of now ≡ Some x = ap (λ (xs : List A). last_of xs) pushed ∙ last_push front x in
      ap (λ (b : Option A). with_front now (items_at item b (count - (i + 1)) after)) last
      ∙ ap (λ (xs : List A). with_front xs (items_at item (Some x) (count - (i + 1)) after)) pushed ∙ step

  pub ends_last : (fault : ReadFault) (seen front : List A) (count i : ℕ) (from : Unread) (total : Result (List A × Unread) ℕ) → i < count → seen ≡ front → Refuses fault (item (last_of seen) from)
      → with_front front (items_at item (last_of front) (count - i) from) ≡ total → Refuses fault total
  ends_last fault seen front count i from total lt same refused so_far =
      ends item fault (last_of front) front count i from total lt (subst (λ (xs : List A). Refuses fault (item (last_of xs) from)) same refused) so_far

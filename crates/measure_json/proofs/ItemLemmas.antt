-- Reading a list item by item.
use Rattle.std.proofs.Common.{◌≡◌, ℕ, suc, ◌-◌, ◌+◌, ◌≤◌, ◌<◌, Bool, true, false, List, [], ◌∷◌, ◌++◌, Result, Ok, Err, refl, sym, ◌∙◌, arith}
use Rattle.measure_json.specs.declared.fault.Fault.{Fault}
use Rattle.measure_json.specs.declared.fault.ReadError.{ReadError}
use Rattle.measure_json.specs.declared.fault.ReadError.TheVariants as errors
use Rattle.measure_json.specs.Fault.{Fails, with_front}
use Rattle.measure_json.specs.Marks.{next_at}
use Rattle.measure_json.specs.Items.{items_within}
use Rattle.measure_json.proofs.TextLemmas.{regroup}

-- what has been read of a list, with what is still read, is what reading it gives
pub record SoFar {A : Type 0} (item : List ℕ → Result (A × List ℕ) Fault) (closing : ℕ) (over : List ℕ → Result (List A × List ℕ) Fault) (front : List A) (most i : ℕ) (rest : List ℕ) (total : Result (List A × List ℕ) Fault) : Type 0 where
  pub read : with_front front (items_within item closing over (most - i) rest) ≡ total

pub goes_on : {A : Type 0} {item : List ℕ → Result (A × List ℕ) Fault} {closing : ℕ} {over : List ℕ → Result (List A × List ℕ) Fault} {front : List A} {most i : ℕ} {rest : List ℕ} {total : Result (List A × List ℕ) Fault} → SoFar item closing over front most i rest total
    → (m : A) (behind next : List ℕ) (another : Bool) → i < most → item rest ≡ Ok (m, behind) → next_at closing behind ≡ Ok (another, next) → another ≡ true
    → SoFar item closing over (front ++ m ∷ []) most (i + 1) next total
unfolding items_within
goes_on {A = A} {item = item} {closing = closing} {over = over} {front = front} {most = most} {i = i} {rest = rest} so m behind next another lt h follows comma =
    let k : most - i ≡ suc (most - (i + 1)) = omega arith in
    let one : with_front front (items_within item closing over (most - i) rest) ≡ with_front (front ++ m ∷ []) (items_within item closing over (most - (i + 1)) next) = rw (k, h, follows, comma) (regroup front (m ∷ []) (items_within item closing over (most - (i + 1)) next)) in
    record { read = sym one ∙ so.read }

pub closes : {A : Type 0} {item : List ℕ → Result (A × List ℕ) Fault} {closing : ℕ} {over : List ℕ → Result (List A × List ℕ) Fault} {front : List A} {most i : ℕ} {rest : List ℕ} {total : Result (List A × List ℕ) Fault} → SoFar item closing over front most i rest total
    → (m : A) (behind next : List ℕ) (another : Bool) → i < most → item rest ≡ Ok (m, behind) → next_at closing behind ≡ Ok (another, next) → another ≡ false → total ≡ Ok (front ++ m ∷ [], next)
unfolding items_within
closes {A = A} {item = item} {closing = closing} {over = over} {front = front} {most = most} {i = i} {rest = rest} so m behind next another lt h follows bracket =
    let k : most - i ≡ suc (most - (i + 1)) = omega arith in
    let one : with_front front (items_within item closing over (most - i) rest) ≡ Ok (front ++ m ∷ [], next) = rw (k, h, follows, bracket) refl in
    sym so.read ∙ one

pub no_item : {A : Type 0} {item : List ℕ → Result (A × List ℕ) Fault} {closing : ℕ} {over : List ℕ → Result (List A × List ℕ) Fault} {front : List A} {most i : ℕ} {rest : List ℕ} {total : Result (List A × List ℕ) Fault} → SoFar item closing over front most i rest total
    → (e : ReadError) → i < most → Fails e (item rest) → Fails e total
unfolding items_within
no_item so errors.Memory lt h = tt
no_item {item = item} {closing = closing} {over = over} {front = front} {most = most} {i = i} {rest = rest} so (errors.Fault fault) lt h =
    let k : most - i ≡ suc (most - (i + 1)) = omega arith in
    let one : with_front front (items_within item closing over (most - i) rest) ≡ Err fault = rw (k, h) refl in
    sym so.read ∙ one

pub no_next : {A : Type 0} {item : List ℕ → Result (A × List ℕ) Fault} {closing : ℕ} {over : List ℕ → Result (List A × List ℕ) Fault} {front : List A} {most i : ℕ} {rest : List ℕ} {total : Result (List A × List ℕ) Fault} → SoFar item closing over front most i rest total
    → (e : ReadError) (m : A) (behind : List ℕ) → i < most → item rest ≡ Ok (m, behind) → Fails e (next_at closing behind) → Fails e total
unfolding items_within
no_next so errors.Memory m behind lt h bad = tt
no_next {item = item} {closing = closing} {over = over} {front = front} {most = most} {i = i} {rest = rest} so (errors.Fault fault) m behind lt h bad =
    let k : most - i ≡ suc (most - (i + 1)) = omega arith in
    let one : with_front front (items_within item closing over (most - i) rest) ≡ Err fault = rw (k, h, bad) refl in
    sym so.read ∙ one

pub is_over : {A : Type 0} {item : List ℕ → Result (A × List ℕ) Fault} {closing : ℕ} {over : List ℕ → Result (List A × List ℕ) Fault} {front : List A} {most i : ℕ} {rest : List ℕ} {total : Result (List A × List ℕ) Fault} → SoFar item closing over front most i rest total
    → (fault : Fault) → most ≤ i → over rest ≡ Err fault → total ≡ Err fault
unfolding items_within
is_over {item = item} {closing = closing} {over = over} {front = front} {most = most} {i = i} {rest = rest} so fault le h =
    let k : most - i ≡ 0 = omega arith in
    let one : with_front front (items_within item closing over (most - i) rest) ≡ Err fault = rw (k, h) refl in
    sym so.read ∙ one

pub over_fails : {A : Type 0} {item : List ℕ → Result (A × List ℕ) Fault} {closing : ℕ} {over : List ℕ → Result (List A × List ℕ) Fault} {front : List A} {most i : ℕ} {rest : List ℕ} {total : Result (List A × List ℕ) Fault} → SoFar item closing over front most i rest total
    → (e : ReadError) → most ≤ i → Fails e (over rest) → Fails e total
over_fails so errors.Memory le h = tt
over_fails so (errors.Fault fault) le h = is_over so fault le h

nothing_before : {A : Type 0} (r : Result (List A × List ℕ) Fault) → with_front [] r ≡ r
nothing_before (Ok x) = refl
nothing_before (Err e) = refl

pub begins : {A : Type 0} (item : List ℕ → Result (A × List ℕ) Fault) (closing : ℕ) (over : List ℕ → Result (List A × List ℕ) Fault) (most : ℕ) (text : List ℕ) → SoFar item closing over [] most 0 text (items_within item closing over most text)
begins item closing over most text =
    let k : most - 0 ≡ most = omega arith in
    record { read = rw k (nothing_before (items_within item closing over most text)) }

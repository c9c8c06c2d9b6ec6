-- What parts of a record, and closed gates, hold.
use Rattle.std.proofs.Common.{◌≡◌, ◌≢◌, ◌⊎◌, ℕ, ◌+◌, ◌<◌, ◌≤◌, List, [], ◌∷◌, ◌++◌, length, take, drop, get_or, slice_index, inl, inr, refl, sym, ap, subst, ◌∙◌, arith, append_assoc, length-append, length-drop, take-append-drop}
use Rattle.std.proofs.lemmas.Bool.{cases_eq}
use Rattle.std.proofs.lemmas.List.{take-take, take_at, drop_at, take-append-le, get_or-take, drop_more, length-take-le}
use Rattle.byteorder.specs.Endian.{big_bytes}
use Rattle.byteorder.specs.Numbers.{length-bytes_high_first}
use Rattle.gno_disk.specs.Disk.{Overwrites, Torn, LooseCut}
use Rattle.gate_log.specs.Records.{HasNoLog, log_bytes, record_bytes}
use Rattle.gate_log.specs.Steps.{IsReady, IsShut, PartOf, OldOrNone, StandsFirst}

pub Torn-itself : (at n : ℕ) (bytes : List ℕ) → Torn at n bytes bytes
Torn-itself at n bytes = record { before = refl; after = refl; no_shorter = omega arith; no_longer = omega arith }

pub LooseCut-itself : (to : ℕ) (bytes : List ℕ) → LooseCut to bytes bytes
LooseCut-itself to bytes = record { front = refl; no_shorter = omega arith; no_longer = omega arith }

-- a whole write is a part of one
pub Torn-overwritten : (at : ℕ) (bytes old new : List ℕ) → at ≤ length old → Overwrites at bytes old new → Torn at (length bytes) old new
Torn-overwritten at bytes old new inside over =
    let front_long : length (take at old) ≡ at = length-take-le at old inside in
    let apart : new ≡ take at old ++ (bytes ++ drop (at + length bytes) old) = over ∙ append_assoc (take at old) bytes (drop (at + length bytes) old) in
    let long : length new ≡ at + length bytes + length (drop (at + length bytes) old) =
    omega (arith, ap length apart, length-append (take at old) (bytes ++ drop (at + length bytes) old), length-append bytes (drop (at + length bytes) old), front_long) in
    let end_long : length (take at old ++ bytes) ≡ at + length bytes = omega (arith, length-append (take at old) bytes, front_long) in
    let left = length-drop (at + length bytes) old in
    record {
      before = ap (λ (l : List ℕ). take at l) apart ∙ take_at (take at old) (bytes ++ drop (at + length bytes) old) at front_long;
      after = ap (λ (l : List ℕ). drop (at + length bytes) l) over ∙ drop_at (take at old ++ bytes) (drop (at + length bytes) old) (at + length bytes) end_long;
      no_shorter = omega (arith, long, left);
      no_longer = omega (arith, long, left);
    }

-- where the first gate is closed there is no log
pub no_log-closed : (bytes : List ℕ) → slice_index bytes 0 ≢ 1 → HasNoLog bytes
no_log-closed bytes closed = λ body begins. closed (ap (λ (l : List ℕ). slice_index l 0) begins.begins.bytes_are)

-- nor in one byte
pub no_log-short : (bytes : List ℕ) → length bytes ≤ 1 → HasNoLog bytes
no_log-short bytes short = λ body begins.
    let next = begins.next_gate in
    omega (arith, next, short, length-append (record_bytes body) (log_bytes []), length-append (1 ∷ big_bytes 8 (length body)) body, length-bytes_high_first 8 (length body))

-- a first gate that is torn
pub torn_first_gate : (old new : List ℕ) → (length old ≡ 0) ⊎ (slice_index old 0 ≡ 1) → Torn 0 1 old new → OldOrNone old new
torn_first_gate [] new gate torn = inr (no_log-short new torn.no_longer)
torn_first_gate (x ∷ xs) [] gate torn = absurd (let h = torn.no_shorter in omega arith)
torn_first_gate (x ∷ xs) (y ∷ ys) gate torn =
    let x_is : x ≡ 1 = elim gate as (λ _. x ≡ 1) [ inl none ↦ absurd (omega (arith, none)) | inr is ↦ is ] in
    let rest : ys ≡ xs = torn.after in
    elim (cases_eq y 1) [
      | inl open_ ↦ inl (ap (λ (b : ℕ). b ∷ ys) (open_ ∙ sym x_is) ∙ ap (λ (l : List ℕ). x ∷ l) rest)
      | inr closed ↦ inr (no_log-closed (y ∷ ys) closed)
    ]

-- the first byte of bytes that begin alike
first_same : (old new : List ℕ) → take 1 new ≡ take 1 old → slice_index new 0 ≡ slice_index old 0
first_same old new same = sym (get_or-take 1 new 0 0 (omega arith)) ∙ ap (λ (l : List ℕ). get_or l 0 0) same ∙ get_or-take 1 old 0 0 (omega arith)

-- behind a closed gate a cut leaves no log
pub cut_none : (old new : List ℕ) → IsShut old → LooseCut 1 old new → HasNoLog new
cut_none old new closed cut = no_log-closed new (λ is. closed.closed (sym (first_same old new cut.front) ∙ is))

-- The gate of a record is torn, with the record behind it.
module _ (gate : ℕ) (frame old mid new : List ℕ) (inside : gate < length old) (over : Overwrites (gate + 1) frame old mid) (torn : Torn gate 1 mid new) where
  front_long : length (take (gate + 1) old) ≡ gate + 1
  front_long = length-take-le (gate + 1) old (omega arith)

  rest : List ℕ
  rest = drop (gate + 1 + length frame) old

  mid_is : mid ≡ take (gate + 1) old ++ (frame ++ rest)
  unfolding rest
  mid_is = over ∙ append_assoc (take (gate + 1) old) frame (drop (gate + 1 + length frame) old)

  mid_long : gate < length mid
  mid_long = omega (arith, ap length mid_is, length-append (take (gate + 1) old) (frame ++ rest), front_long)

  front : take gate new ≡ take gate old
  front =
      torn.before ∙ ap (λ (l : List ℕ). take gate l) mid_is
      ∙ take-append-le gate (take (gate + 1) old) (frame ++ rest) (omega (arith, front_long)) ∙ take-take gate (gate + 1) old (omega arith)

  back : drop (gate + 1) new ≡ frame ++ rest
  back = torn.after ∙ ap (λ (l : List ℕ). drop (gate + 1) l) mid_is ∙ drop_at (take (gate + 1) old) (frame ++ rest) (gate + 1) front_long

  byte : ℕ
  byte = get_or new gate 0

  pub torn_gate : (b : ℕ) × Overwrites gate (b ∷ frame) old new
  unfolding byte rest
  torn_gate = (
    get_or new gate 0,
    let long : gate < length new = let h = torn.no_shorter in omega (arith, mid_long) in
        let place : gate + 1 + length frame ≡ gate + length (get_or new gate 0 ∷ frame) = omega arith in
        sym (take-append-drop gate new) ∙ ap (λ (l : List ℕ). l ++ drop gate new) front
        ∙ ap (λ (l : List ℕ). take gate old ++ l) (drop_more new gate 0 long ∙ ap (λ (l : List ℕ). get_or new gate 0 ∷ l) back)
        ∙ ap (λ (n : ℕ). take gate old ++ (get_or new gate 0 ∷ (frame ++ drop n old))) place
        ∙ sym (append_assoc (take gate old) (get_or new gate 0 ∷ frame) (drop (gate + length (get_or new gate 0 ∷ frame)) old)),
  )

-- a part of a first record behind one closed gate
pub first_part : (frame old new : List ℕ) → IsReady old → PartOf 0 frame old new → HasNoLog new ⊎ StandsFirst frame new
first_part frame [] new ready part = absurd (let h = ready.one in omega arith)
first_part frame (x ∷ y ∷ xs) new ready part = absurd (let h = ready.one in omega arith)
first_part frame (x ∷ []) new ready (inl same) = inl (no_log-closed new (λ is. ready.closed (sym (first_same (x ∷ []) new same) ∙ is)))
first_part frame (x ∷ []) new ready (inr (byte, over)) = elim (cases_eq byte 1) [
  | inl open_ ↦ inr (x, subst (λ (b : ℕ). Overwrites 0 (b ∷ frame) (x ∷ []) new) open_ over)
  | inr closed ↦ inl (no_log-closed new (λ is. closed (sym (ap (λ (l : List ℕ). slice_index l 0) over) ∙ is)))
]

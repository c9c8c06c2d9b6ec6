-- What a piece of the disk says of the record whose head it has.
use Rattle.std.proofs.Common.{◌≡◌, ◌≢◌, ◌⊎◌, ℕ, ◌+◌, ◌-◌, ◌<◌, ◌≤◌, List, length, take, drop, get_or, slice_index, Option, Some, None, IfSome, inl, inr, sym, ap, subst, ◌∙◌, arith, length-drop}
use Rattle.std.proofs.lemmas.List.{drop-take, drop-drop, take-take, get_or-take, get_or-drop}
use Rattle.std.proofs.lemmas.Bool.{cases_lt}
use Rattle.byteorder.specs.Endian.{big_number}
use Rattle.byteorder.specs.Numbers.{big_from-take}
use Rattle.gate_log.specs.Places.{IsClosed}
use Rattle.gate_log.specs.Records.{IsCutShort}
use Rattle.gate_log.specs.Scan.{IfCutShort, IsRecordAt, IsHeadCutShort, IsPieceOf, ReachesHead, head_in}
use Rattle.gate_log.specs.declared.place.Place.{Place}
use Rattle.gate_log.specs.declared.piece.Piece.{Piece}
use Rattle.gate_log.specs.declared.scan.Stop.{Stop}
use Rattle.gate_log.specs.declared.scan.Stop.TheVariants.{Failed, CutShort, NoMemory}
use Rattle.gate_log.proofs.Moments.{told_with}
use Rattle.std.specs.declared.alloc.Global.{Global}
use Rattle.std.specs.Prelude.{min, vec_len, Vec, OnOk, Result, Ok, Err, IfOk, IfErr, OnErr, IfNone}

module _ (bytes items : List ℕ) (at gate : ℕ) (read : items ≡ take (length items) (drop at bytes)) (before : at ≤ gate) where
  -- what stands from the gate on
  from_gate : gate - at ≤ length items → drop (gate - at) items ≡ take (length items - (gate - at)) (drop gate bytes)
  from_gate inside =
      let k = gate - at in
      let split : length items ≡ k + (length items - k) = omega (arith, inside) in
      let place : at + k ≡ gate = omega (arith, before) in
      ap (λ (l : List ℕ). drop k l) read ∙ ap (λ (n : ℕ). drop k (take n (drop at bytes))) split ∙ drop-take k (length items - k) (drop at bytes)
      ∙ ap (λ (l : List ℕ). take (length items - k) l) (drop-drop k at bytes ∙ ap (λ (i : ℕ). drop i bytes) place)

  pub gate_byte : gate - at < length items → slice_index (drop (gate - at) items) 0 ≡ slice_index bytes gate
  gate_byte inside =
      let some : 0 < length items - (gate - at) = omega (arith, inside) in
      let place : gate + 0 ≡ gate = omega arith in
      ap (λ (l : List ℕ). slice_index l 0) (from_gate (omega (arith, inside))) ∙ get_or-take (length items - (gate - at)) (drop gate bytes) 0 0 some
      ∙ get_or-drop gate bytes 0 0 ∙ ap (λ (i : ℕ). get_or bytes i 0) place

  behind_gate : gate - at + 9 ≤ length items → drop 1 (drop (gate - at) items) ≡ take (length items - (gate - at) - 1) (drop (gate + 1) bytes)
  behind_gate inside =
      let m = length items - (gate - at) in
      let split : m ≡ 1 + (m - 1) = omega (arith, inside) in
      ap (λ (l : List ℕ). drop 1 l) (from_gate (omega (arith, inside))) ∙ ap (λ (n : ℕ). drop 1 (take n (drop gate bytes))) split
      ∙ drop-take 1 (m - 1) (drop gate bytes) ∙ ap (λ (l : List ℕ). take (m - 1) l) (drop-drop 1 gate bytes)

  pub head_number : gate - at + 9 ≤ length items → big_number 8 (drop 1 (drop (gate - at) items)) ≡ big_number 8 (drop 1 (drop gate bytes))
  head_number inside =
      let m = length items - (gate - at) in
      ap (λ (l : List ℕ). big_number 8 l) (behind_gate inside) ∙ big_from-take 0 8 (m - 1) (drop (gate + 1) bytes) (omega (arith, inside))
      ∙ ap (λ (l : List ℕ). big_number 8 l) (sym (drop-drop 1 gate bytes))

  pub head_length : gate - at + 9 ≤ length items → take 8 (drop 1 (drop (gate - at) items)) ≡ take 8 (drop (gate + 1) bytes)
  head_length inside =
      let m = length items - (gate - at) in
      ap (λ (l : List ℕ). take 8 l) (behind_gate inside) ∙ take-take 8 (m - 1) (drop (gate + 1) bytes) (omega (arith, inside))

-- a first piece is as long as it may be
pub enough_first : (len size most : ℕ) → len ≡ min size most → 9 ≤ most → (9 ≤ len) ⊎ (0 + len ≡ size)
enough_first len size most len_is head = elim (cases_lt size 9) [ inl few ↦ inr (omega (arith, few, len_is, head)) | inr many ↦ inl (omega (arith, many, len_is, head)) ]

-- and a later one
pub enough_later : (at old len gate size : ℕ) → (9 ≤ old) ⊎ (at + old ≡ size) → at + old ≢ size → len ≡ min old (size - gate) → gate < size → (9 ≤ len) ⊎ (gate + len ≡ size)
enough_later at old len gate size (inr all) not_all len_is inside = absurd (not_all all)
enough_later at old len gate size (inl nine) not_all len_is inside = elim (cases_lt (size - gate) 9) [ inl few ↦ inr (omega (arith, few, len_is, nine, inside)) | inr many ↦ inl (omega (arith, many, len_is, nine)) ]

pub reach_later : (gate len size : ℕ) → (9 ≤ len) ⊎ (gate + len ≡ size) → (gate + 9 ≤ gate + len) ⊎ (gate + len ≡ size)
reach_later gate len size (inl nine) = inl (omega (arith, nine))
reach_later gate len size (inr all) = inr all

-- a vector's length, by its other name
pub length_of_items : (items : Vec ℕ Global) → length items.items ≡ vec_len items
length_of_items items = let h = items.ok.0 in omega (arith, h)

-- what was read is a piece
pub is_piece : (told : Option (List ℕ)) (size at : ℕ) (items : Vec ℕ Global) (n : ℕ) → length items.items ≡ n → at + n ≤ size → (9 ≤ n) ⊎ (at + n ≡ size) → IfSome told (λ bytes. items.items ≡ take n (drop at bytes))
    → IsPieceOf size told (record { at = at; bytes = items })
is_piece told size at items n long inside enough read = record {
  inside = omega (arith, long, inside);
  enough = elim enough [ inl nine ↦ inl (omega (arith, nine, long)) | inr all ↦ inr (omega (arith, all, long)) ];
  read = subst (λ (m : ℕ). IfSome told (λ bytes. items.items ≡ take m (drop at bytes))) (sym long) read;
}

pub on_ok_then : {T E : Type 0} (result : Result T E) {P Q : Type 0} → (P → Q) → OnOk result P → OnOk result Q
on_ok_then (Ok done) follows has = follows has
on_ok_then (Err fault) follows has = tt

-- bytes that aren't cut short
pub never_cut : (stop : Stop) (P : ℕ → Type 0) → IfCutShort stop (λ _. ⊥) → IfCutShort stop P
never_cut Failed P not_cut = not_cut
never_cut (CutShort at) P not_cut = absurd not_cut
never_cut NoMemory P not_cut = not_cut

-- the same where the disk tells its bytes
module _ (told : Option (List ℕ)) (size : ℕ) (whole : IfSome told (λ bytes. length bytes ≡ size)) (piece : Piece) (gate : ℕ) (is : IsPieceOf size told piece) (before : piece.at ≤ gate) (inside : gate < size)
    (reached : ReachesHead size piece gate) where
  within : gate - piece.at < length piece.bytes.items
  within = elim reached [ inl head ↦ omega (arith, head, before) | inr all ↦ omega (arith, all, before, inside) ]

  head_there : gate + 9 ≤ size → gate - piece.at + 9 ≤ length piece.bytes.items
  head_there long = elim reached [ inl head ↦ omega (arith, head, before) | inr all ↦ omega (arith, all, before, long) ]

  pub told_closed : IsClosed 0 (head_in piece gate) → IfSome told (IsClosed gate)
  told_closed closed = told_with told whole is.read (λ bytes long read. record { gate = λ open_. closed.gate (gate_byte bytes piece.bytes.items piece.at gate read before within ∙ open_) })

  pub told_record : (place : Place) → gate + 9 ≤ size → IsRecordAt 0 place (head_in piece gate) → IfSome told (IsRecordAt gate place)
  told_record place long found = told_with told whole is.read (λ bytes n read. record {
    open_gate = sym (gate_byte bytes piece.bytes.items piece.at gate read before within) ∙ found.open_gate;
    length_of = sym (head_length bytes piece.bytes.items piece.at gate read before (head_there long)) ∙ found.length_of;
  })

  pub told_cut : IsHeadCutShort (size - gate) (head_in piece gate) → IfSome told (λ bytes. (length bytes ≡ gate) ⊎ IsCutShort (drop gate bytes))
  told_cut cut = told_with told whole is.read (λ bytes long read.
      let items = piece.bytes.items in
      let place : gate + 0 ≡ gate = omega arith in
      let open_ = get_or-drop gate bytes 0 0 ∙ ap (λ (i : ℕ). get_or bytes i 0) place ∙ sym (gate_byte bytes items piece.at gate read before within) ∙ cut.0 in
      let left : length (drop gate bytes) ≡ size - gate = omega (arith, long, length-drop gate bytes) in
      inr (open_, short bytes read left cut.1))
    where
      short : (bytes : List ℕ) → piece.bytes.items ≡ take (length piece.bytes.items) (drop piece.at bytes) → length (drop gate bytes) ≡ size - gate → (size - gate < 9) ⊎ (size - gate ≤ 9 + big_number 8 (drop 1 (head_in piece gate)))
          → (length (drop gate bytes) < 9) ⊎ (length (drop gate bytes) ≤ 9 + big_number 8 (drop 1 (drop gate bytes)))
      short bytes read left (inl few) = inl (omega (arith, few, left))
      short bytes read left (inr cut) = elim (cases_lt (size - gate) 9) [
        | inl few ↦ inl (omega (arith, few, left))
        | inr long ↦ inr (omega (arith, cut, left, head_number bytes piece.bytes.items piece.at gate read before (head_there (omega (arith, long, inside)))))
      ]

  -- what is found at the gate
  pub found_record : (result : Result (Option Place) Stop) → IfOk result (λ found. IfSome found (λ place. place.at ≡ gate + 9)) → IfOk result (λ found. IfSome found (λ place. place.at + place.len < size))
      → IfOk result (λ found. IfSome found (λ place. IsRecordAt 0 place (head_in piece gate))) → IfOk result (λ found. IfSome found (λ place. IfSome told (IsRecordAt gate place)))
  found_record (Ok (Some place)) at len is = told_record place (omega (arith, at, len)) is
  found_record (Ok None) at len is = is
  found_record (Err stop) at len is = is

  pub found_closed : (result : Result (Option Place) Stop) → IfOk result (λ found. IfNone found (IsClosed 0 (head_in piece gate))) → IfOk result (λ found. IfNone found (IfSome told (IsClosed gate)))
  found_closed (Ok (Some place)) is = is
  found_closed (Ok None) is = told_closed is
  found_closed (Err stop) is = is

  pub found_cut : (result : Result (Option Place) Stop) → OnErr result (IsHeadCutShort (size - gate) (head_in piece gate)) → IfErr result (λ e. IfCutShort e (λ at. IfSome told (λ bytes. (length bytes ≡ gate) ⊎ IsCutShort (drop gate bytes))))
  found_cut (Ok found) cut = tt
  found_cut (Err Failed) cut = tt
  found_cut (Err (CutShort at)) cut = told_cut cut
  found_cut (Err NoMemory) cut = tt

-- What the places of a log say of its bytes.
use Rattle.std.proofs.Common.{◌≡◌, ℕ, zero, suc, ◌+◌, ◌<◌, ◌≤◌, List, [], ◌∷◌, ◌++◌, length, get_or, take, drop, slice_index, refl, sym, ap, ◌∙◌, arith, append_assoc, length-append, take-append-drop, ◌≢◌, ◌⊎◌, inl, inr, subst}
use Rattle.std.proofs.lemmas.List.{take-take, drop-take, take_at, drop_at, map_push, flat_map_more, length-take-le, length-drop, get_or_at, drop_more, take_more}
use Rattle.std.specs.Prelude.{◌-◌, Option, Some, None, IfSome, option_map}
use Rattle.std.proofs.lemmas.Bool.{cases_eq}
use Rattle.gate_log.specs.Steps.{KeepsBefore, PartOf}
use Rattle.byteorder.specs.Endian.{big_bytes}
use Rattle.byteorder.specs.Numbers.{length-bytes_high_first}
use Rattle.gno_disk.specs.Disk.{Overwrites}
use Rattle.gate_log.specs.Records.{Holds, log_bytes, record_bytes}
use Rattle.gate_log.specs.Places.{body_at, bodies_at, Spans, AreWritten, IsClosed}
use Rattle.gate_log.specs.declared.place.Place.{Place}

-- a span doesn't end before it begins
pub Spans-le : (places : List Place) (from to : ℕ) → Spans places from to → from ≤ to
Spans-le [] from to spans = omega arith
Spans-le (place ∷ places) from to spans =
    let first = spans.0 in
    let rest = Spans-le places (place.at + place.len) to spans.1 in
    omega arith

-- each body lies within the span
pub Spans-get_or : (places : List Place) (from to i : ℕ) (d : Place) → Spans places from to → i < length places → (get_or places i d).at + (get_or places i d).len ≤ to
Spans-get_or [] from to i d spans h = absurd (omega arith)
Spans-get_or (place ∷ places) from to zero d spans h = Spans-le places (place.at + place.len) to spans.1
Spans-get_or (place ∷ places) from to (suc i) d spans h = Spans-get_or places (place.at + place.len) to i d spans.1 (omega arith)

-- one place more
pub Spans-push : (places : List Place) (from to : ℕ) (place : Place) → Spans places from to → place.at ≡ to + 9 → Spans (places ++ place ∷ []) from (place.at + place.len)
Spans-push [] from to place spans at = let e : from ≡ to = spans in (at ∙ ap (λ n. n + 9) (sym e), refl)
Spans-push (first ∷ places) from to place spans at = (spans.0, Spans-push places (first.at + first.len) to place spans.1 at)

-- each body has its gate and its length before it
pub Spans-above : (places : List Place) (from to i : ℕ) (d : Place) → Spans places from to → i < length places → from + 9 ≤ (get_or places i d).at
Spans-above [] from to i d spans h = absurd (omega arith)
Spans-above (place ∷ places) from to zero d spans h = omega (arith, spans.0)
Spans-above (place ∷ places) from to (suc i) d spans h =
    let rest = Spans-above places (place.at + place.len) to i d spans.1 (omega arith) in
    omega (arith, spans.0, rest)

-- the records before one take the bytes up to its gate
pub gate_of : (places : List Place) (from to i : ℕ) (d : Place) (bytes : List ℕ) → Spans places from to → to ≤ length bytes → i < length places
    → length (log_bytes (take i (bodies_at places bytes))) + from + 9 ≡ (get_or places i d).at
gate_of [] from to i d bytes spans le h = absurd (omega arith)
gate_of (place ∷ places) from to zero d bytes spans le h = omega (arith, spans.0)
gate_of (place ∷ places) from to (suc i) d bytes spans le h =
    let behind : place.at + place.len ≤ to = Spans-le places (place.at + place.len) to spans.1 in
    let long : length (body_at bytes place) ≡ place.len = length-take-le place.len (drop place.at bytes) (omega (arith, length-drop place.at bytes, behind, le)) in
    let rest = gate_of places (place.at + place.len) to i d bytes spans.1 le (omega arith) in
    let front : length (record_bytes (body_at bytes place)) ≡ 9 + length (body_at bytes place) = omega (arith, length-append (big_bytes 8 (length (body_at bytes place))) (body_at bytes place), length-bytes_high_first 8 (length (body_at bytes place))) in
    let all = length-append (record_bytes (body_at bytes place)) (log_bytes (take i (bodies_at places bytes))) in
    omega (arith, spans.0, long, rest, front, all)

-- the same of a disk that may tell its bytes
pub told_gate : (places : List Place) (to size i : ℕ) (d : Place) (told : Option (List ℕ)) → Spans places 0 to → IfSome told (λ bytes. length bytes ≡ size) → to < size → i < length places
    → IfSome (option_map (bodies_at places) told) (λ records. (get_or places i d).at - 9 ≡ length (log_bytes (take i records)))
told_gate places to size i d None spans whole lt h = tt
told_gate places to size i d (Some bytes) spans whole lt h = omega (arith, gate_of places 0 to i d bytes spans (omega (arith, whole, lt)) h)

body_at-take : (bytes : List ℕ) (place : Place) → body_at bytes place ≡ drop place.at (take (place.at + place.len) bytes)
body_at-take bytes place = sym (drop-take place.at place.len bytes)

-- a body depends on the bytes up to its end
body_at-same : (place : Place) (n : ℕ) (old new : List ℕ) → place.at + place.len ≤ n → take n new ≡ take n old → body_at new place ≡ body_at old place
body_at-same place n old new le same =
    let m = place.at + place.len in
    body_at-take new place
    ∙ ap (λ (bytes : List ℕ). drop place.at bytes) (sym (take-take m n new le) ∙ ap (λ (bytes : List ℕ). take m bytes) same ∙ take-take m n old le)
    ∙ sym (body_at-take old place)

-- the bodies depend on the bytes up to the end of the span
pub bodies_at-same : (places : List Place) (from to : ℕ) (old new : List ℕ) → Spans places from to → take to new ≡ take to old → bodies_at places new ≡ bodies_at places old
bodies_at-same [] from to old new spans same = refl
bodies_at-same (place ∷ places) from to old new spans same =
    let first = body_at-same place to old new (Spans-le places (place.at + place.len) to spans.1) same in
    let rest = bodies_at-same places (place.at + place.len) to old new spans.1 same in
    ap (λ (body : List ℕ). body ∷ bodies_at places new) first ∙ ap (λ (bodies : List (List ℕ)). body_at old place ∷ bodies) rest

-- what is written stays where the bytes up to the end do
pub AreWritten-same : (places : List Place) (end : ℕ) (old new : List ℕ) → Spans places 0 end → take end new ≡ take end old → AreWritten places end old → AreWritten places end new
AreWritten-same places end old new spans same written =
    same ∙ written ∙ ap log_bytes (sym (bodies_at-same places 0 end old new spans same))

-- where the bytes hold records and a closed gate behind them
pub Holds-from_written : (places : List Place) (end : ℕ) (bytes : List ℕ) → end < length bytes → AreWritten places end bytes → IsClosed end bytes → Holds bytes (bodies_at places bytes)
Holds-from_written places end bytes inside written closed = record {
  gate = get_or bytes end 0;
  rest = drop (end + 1) bytes;
  closed = closed.gate;
  bytes_are =
      sym (take-append-drop end bytes) ∙ ap (λ (front : List ℕ). front ++ drop end bytes) written
      ∙ ap (λ (back : List ℕ). log_bytes (bodies_at places bytes) ++ back) (drop_more bytes end 0 inside);
}

-- A record behind the end: its gate, what stands behind the gate, and a closed gate.
module _ (places : List Place) (end : ℕ) (old new body : List ℕ) (spans : Spans places 0 end) (inside : end < length old)
    (written : AreWritten places end old)
    (over : Overwrites end (1 ∷ (big_bytes 8 (length body) ++ body ++ 0 ∷ [])) old new) where
  place : Place
  place = record { at = end + 9; len = length body }

  head : List ℕ
  head = 1 ∷ big_bytes 8 (length body)

  rest : List ℕ
  rest = drop (end + length (1 ∷ (big_bytes 8 (length body) ++ body ++ 0 ∷ []))) old

  head_length : length head ≡ 9
  unfolding head
  head_length = omega (arith, length-bytes_high_first 8 (length body))

  front_length : length (take end old) ≡ end
  front_length = length-take-le end old (omega arith)

  -- the new bytes, piece by piece
  pieces : new ≡ take end old ++ (head ++ (body ++ (0 ∷ rest)))
  unfolding head rest
  pieces = over ∙ simp append_assoc

  same : take end new ≡ take end old
  same = ap (λ (bytes : List ℕ). take end bytes) pieces ∙ take_at (take end old) (head ++ (body ++ (0 ∷ rest))) end front_length

  pub kept_bodies : bodies_at places new ≡ bodies_at places old
  kept_bodies = bodies_at-same places 0 end old new spans same

  behind_head : new ≡ (take end old ++ head) ++ (body ++ (0 ∷ rest))
  behind_head = pieces ∙ sym (append_assoc (take end old) head (body ++ (0 ∷ rest)))

  to_body : length (take end old ++ head) ≡ end + 9
  to_body = omega (arith, length-append (take end old) head, front_length, head_length)

  pub new_body : body_at new (record { at = end + 9; len = length body }) ≡ body
  new_body =
      ap (λ (bytes : List ℕ). take (length body) (drop (end + 9) bytes)) behind_head
      ∙ ap (λ (bytes : List ℕ). take (length body) bytes) (drop_at (take end old ++ head) (body ++ (0 ∷ rest)) (end + 9) to_body)
      ∙ take_at body (0 ∷ rest) (length body) refl

  pub new_bodies : bodies_at (places ++ (record { at = end + 9; len = length body }) ∷ []) new ≡ bodies_at places old ++ body ∷ []
  unfolding place
  new_bodies =
      map_push (body_at new) places place ∙ ap (λ (bodies : List (List ℕ)). bodies ++ body_at new place ∷ []) kept_bodies
      ∙ ap (λ (last : List ℕ). bodies_at places old ++ last ∷ []) new_body

  whole : new ≡ (take end old ++ (head ++ body)) ++ (0 ∷ rest)
  whole = pieces ∙ simp append_assoc

  to_gate : length (take end old ++ (head ++ body)) ≡ end + 9 + length body
  to_gate = omega (arith, length-append (take end old) (head ++ body), length-append head body, front_length, head_length)

  front_of_new : take (end + 9 + length body) new ≡ take end old ++ (head ++ body)
  front_of_new = ap (λ (bytes : List ℕ). take (end + 9 + length body) bytes) whole ∙ take_at (take end old ++ (head ++ body)) (0 ∷ rest) (end + 9 + length body) to_gate

  log_bytes_push : log_bytes (bodies_at places old ++ body ∷ []) ≡ log_bytes (bodies_at places old) ++ record_bytes body
  log_bytes_push = sym (flat_map_more record_bytes [] (bodies_at places old) body)

  pub new_written : AreWritten (places ++ (record { at = end + 9; len = length body }) ∷ []) (end + 9 + length body) new
  unfolding head
  new_written =
      front_of_new ∙ ap (λ (front : List ℕ). front ++ (head ++ body)) written ∙ sym log_bytes_push ∙ ap log_bytes (sym new_bodies)

  pub new_closed : IsClosed (end + 9 + length body) new
  new_closed = record {
    gate =
        let e : slice_index new (end + 9 + length body) ≡ 0 = ap (λ (bytes : List ℕ). slice_index bytes (end + 9 + length body)) whole ∙ get_or_at (take end old ++ (head ++ body)) 0 rest 0 (end + 9 + length body) to_gate in
        omega arith;
  }

  -- the new bytes hold the record too
  pub new_holds : Holds new (bodies_at places old ++ body ∷ [])
  unfolding head rest
  new_holds = record {
    gate = 0;
    rest = rest;
    closed = omega arith;
    bytes_are = whole ∙ ap (λ (front : List ℕ). front ++ (0 ∷ rest)) (ap (λ (front : List ℕ). front ++ (head ++ body)) written ∙ sym log_bytes_push);
  }

-- behind a closed gate a record doesn't count
closed_holds : (places : List Place) (end byte : ℕ) (frame old new : List ℕ) → AreWritten places end old → byte ≢ 1 → Overwrites end (byte ∷ frame) old new → Holds new (bodies_at places old)
closed_holds places end byte frame old new written closed over = record {
  gate = byte;
  rest = frame ++ drop (end + length (byte ∷ frame)) old;
  closed = closed;
  bytes_are =
      over ∙ append_assoc (take end old) (byte ∷ frame) (drop (end + length (byte ∷ frame)) old)
      ∙ ap (λ (front : List ℕ). front ++ (byte ∷ (frame ++ drop (end + length (byte ∷ frame)) old))) written;
}

-- as long as the gate stays, the records are those before it
before_holds : (places : List Place) (end : ℕ) (old new : List ℕ) → AreWritten places end old → IsClosed end old → end < length old → KeepsBefore (end + 1) old new → Holds new (bodies_at places old)
before_holds places end old new written closed inside same = record {
  gate = get_or old end 0;
  rest = drop (end + 1) new;
  closed = closed.gate;
  bytes_are =
      sym (take-append-drop (end + 1) new)
      ∙ ap (λ (front : List ℕ). front ++ drop (end + 1) new) (same ∙ take_more old end 0 inside ∙ ap (λ (front : List ℕ). front ++ get_or old end 0 ∷ []) written)
      ∙ append_assoc (log_bytes (bodies_at places old)) (get_or old end 0 ∷ []) (drop (end + 1) new);
}

-- a record in part is the records as they were, or with it
pub part_holds : (places : List Place) (end : ℕ) (frame old new body : List ℕ) → Spans places 0 end → AreWritten places end old → IsClosed end old → end < length old → frame ≡ big_bytes 8 (length body) ++ body ++ 0 ∷ []
    → PartOf end frame old new → Holds new (bodies_at places old) ⊎ Holds new (bodies_at places old ++ body ∷ [])
part_holds places end frame old new body spans written closed inside framed (inl kept) = inl (before_holds places end old new written closed inside kept)
part_holds places end frame old new body spans written closed inside framed (inr (byte, over)) = elim (cases_eq byte 1) [
  | inl open_ ↦ inr (new_holds places end old new body spans inside written
      (subst (λ (f : List ℕ). Overwrites end (1 ∷ f) old new) framed (subst (λ (b : ℕ). Overwrites end (b ∷ frame) old new) open_ over)))
  | inr shut ↦ inl (closed_holds places end byte frame old new written shut over)
]

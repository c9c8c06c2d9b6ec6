-- A log that was made of records at once.
use Rattle.std.proofs.Common.{◌≡◌, ◌⊎◌, inl, inr, ℕ, suc, ◌+◌, ◌*◌, ◌<◌, ◌≤◌, List, [], ◌∷◌, ◌++◌, length, take, drop, get_or, slice_index, Option, Some, None, IfSome, refl, sym, ap, subst, ◌∙◌, arith, append_assoc, length-append, take-append-drop, vec_capacity}
use Rattle.std.specs.Prelude.{option_map, Vec}
use Rattle.std.specs.declared.alloc.Global.{Global}
use Rattle.std.proofs.lemmas.List.{take_at, drop_at, drop_all, get_or_at, take_more, map_push, map-append, length-map, flat_map_more}
use Rattle.std.proofs.lemmas.Grind.{flat_map-append}
use Rattle.std.proofs.lemmas.Bool.{cases_lt}
use Rattle.byteorder.specs.Endian.{big_bytes}
use Rattle.byteorder.specs.Numbers.{length-bytes_high_first}
use Rattle.gno_disk.specs.Disk.{Told}
use Rattle.gate_log.specs.LogView.{IsOldOrMade}
use Rattle.gate_log.specs.Records.{log_bytes, record_bytes, bodies_of, total_length}
use Rattle.gate_log.specs.Steps.{OldOrNoneOr, StandsFirst}
use Rattle.gate_log.specs.Places.{bodies_at, places_of, Spans, AreWritten, IsClosed}
use Rattle.gate_log.specs.declared.place.Place.{Place}
use Rattle.gate_log.proofs.Exact.{record_long}

-- the places lie from one to another
pub made_spans : (from : ℕ) (records : List (List ℕ)) → Spans (places_of from records) from (from + length (log_bytes records))
made_spans from [] = omega arith
made_spans from (body ∷ records) =
    let to : from + 9 + length body + length (log_bytes records) ≡ from + length (log_bytes (body ∷ records)) = omega (arith, record_long body (log_bytes records)) in
    (refl, subst (λ (n : ℕ). Spans (places_of (from + 9 + length body) records) (from + 9 + length body) n) to (made_spans (from + 9 + length body) records))

-- and the bodies are the records
made_bodies : (front : List ℕ) (records : List (List ℕ)) (rest bytes : List ℕ) (from : ℕ) → length front ≡ from → bytes ≡ front ++ (log_bytes records ++ rest) → bodies_at (places_of from records) bytes ≡ records
made_bodies front [] rest bytes from long are = refl
made_bodies front (body ∷ records) rest bytes from long are =
    let head = 1 ∷ big_bytes 8 (length body) in
    let apart : bytes ≡ (front ++ head) ++ (body ++ (log_bytes records ++ rest)) = are ∙ simp append_assoc in
    let behind : bytes ≡ (front ++ record_bytes body) ++ (log_bytes records ++ rest) = are ∙ simp append_assoc in
    let to_body : length (front ++ head) ≡ from + 9 = omega (arith, long, length-append front head, length-bytes_high_first 8 (length body)) in
    let to_next : length (front ++ record_bytes body) ≡ from + 9 + length body = omega (arith, long, length-append front (record_bytes body), length-append head body, length-bytes_high_first 8 (length body)) in
    let first : take (length body) (drop (from + 9) bytes) ≡ body =
    ap (λ (l : List ℕ). take (length body) (drop (from + 9) l)) apart
    ∙ ap (λ (l : List ℕ). take (length body) l) (drop_at (front ++ head) (body ++ (log_bytes records ++ rest)) (from + 9) to_body)
    ∙ take_at body (log_bytes records ++ rest) (length body) refl in
    ap (λ (l : List ℕ). l ∷ bodies_at (places_of (from + 9 + length body) records) bytes) first
    ∙ ap (λ (l : List (List ℕ)). body ∷ l) (made_bodies (front ++ record_bytes body) records rest bytes (from + 9 + length body) to_next behind)

-- one record more
pub places_of-push : (from : ℕ) (records : List (List ℕ)) (body : List ℕ) → places_of from (records ++ body ∷ []) ≡ places_of from records ++ (record { at = from + length (log_bytes records) + 9; len = length body }) ∷ []
places_of-push from [] body = ap (λ (n : ℕ). (let p : Place = record { at = n; len = length body } in p) ∷ []) (omega arith)
places_of-push from (first ∷ records) body =
    let to : from + 9 + length first + length (log_bytes records) + 9 ≡ from + length (log_bytes (first ∷ records)) + 9 = omega (arith, record_long first (log_bytes records)) in
    ap (λ (ps : List Place). (let p : Place = record { at = from + 9; len = length first } in p) ∷ ps)
    (places_of-push (from + 9 + length first) records body
    ∙ ap (λ (n : ℕ). places_of (from + 9 + length first) records ++ (let p : Place = record { at = n; len = length body } in p) ∷ []) to)

-- as many as there are records
pub places_of-long : (from : ℕ) (records : List (List ℕ)) → length (places_of from records) ≡ length records
places_of-long from [] = refl
places_of-long from (body ∷ records) = ap suc (places_of-long (from + 9 + length body) records)

pub bodies_of-long : (bodies : List (Vec ℕ Global)) → length (bodies_of bodies) ≡ length bodies
bodies_of-long bodies = length-map bodies (λ (body : Vec ℕ Global). body.items)

pub log_bytes-push : (records : List (List ℕ)) (body : List ℕ) → log_bytes (records ++ body ∷ []) ≡ log_bytes records ++ record_bytes body
log_bytes-push records body = sym (flat_map_more record_bytes [] records body)

pub log_long-push : (records : List (List ℕ)) (body : List ℕ) → length (log_bytes (records ++ body ∷ [])) ≡ length (log_bytes records) + 9 + length body
log_long-push records body = omega (arith, ap length (log_bytes-push records body), length-append (log_bytes records) (record_bytes body), record_long body [], length-append (record_bytes body) [])

-- how long a log is
pub log_long : (records : List (List ℕ)) → length (log_bytes records) ≡ length records * 9 + total_length records
log_long [] = omega arith
log_long (body ∷ records) = omega (arith, record_long body (log_bytes records), log_long records)

-- a log within what was reserved
pub within_room : (first : List ℕ) (rest : List (Vec ℕ Global)) (records bytes : ℕ) → length rest < records → total_length (first ∷ bodies_of rest) ≤ bytes → length (log_bytes (first ∷ bodies_of rest)) ≤ records * 9 + bytes
within_room first rest records bytes few short = omega (arith, few, short, log_long (first ∷ bodies_of rest), bodies_of-long rest)

-- where too little was reserved
pub too_little : (first : List ℕ) (rest : List (Vec ℕ Global)) (records bytes : ℕ) → (length rest < records → total_length (first ∷ bodies_of rest) ≤ bytes → ⊥) → (records ≤ length rest) ⊎ (bytes < total_length (first ∷ bodies_of rest))
too_little first rest records bytes never = elim (cases_lt (length rest) records) [
  | inr few ↦ inl few
  | inl enough ↦ (elim (cases_lt bytes (total_length (first ∷ bodies_of rest))) [ inl less ↦ inr less | inr fits ↦ absurd (never enough fits) ])
]

-- the bodies up to the next one
pub bodies_of-more : (bodies : List (Vec ℕ Global)) (i : ℕ) (d : Vec ℕ Global) → i < length bodies → bodies_of (take (i + 1) bodies) ≡ bodies_of (take i bodies) ++ (get_or bodies i d).items ∷ []
bodies_of-more bodies i d within = ap bodies_of (take_more bodies i d within) ∙ map_push (λ (body : Vec ℕ Global). body.items) (take i bodies) (get_or bodies i d)

-- the records up to one take no more than all of them
pub log_long-take : (first : List ℕ) (rest : List (Vec ℕ Global)) (i : ℕ) → length (log_bytes (first ∷ bodies_of (take i rest))) ≤ length (log_bytes (first ∷ bodies_of rest))
log_long-take first rest i =
    let apart : log_bytes (bodies_of rest) ≡ log_bytes (bodies_of (take i rest)) ++ log_bytes (bodies_of (drop i rest)) =
    ap (λ (l : List (Vec ℕ Global)). log_bytes (bodies_of l)) (sym (take-append-drop i rest)) ∙ ap log_bytes (map-append (λ (body : Vec ℕ Global). body.items) (take i rest) (drop i rest))
    ∙ flat_map-append record_bytes (bodies_of (take i rest)) (bodies_of (drop i rest)) in
    omega (arith, ap length apart, length-append (log_bytes (bodies_of (take i rest))) (log_bytes (bodies_of (drop i rest))), length-append (record_bytes first) (log_bytes (bodies_of (take i rest))), length-append (record_bytes first) (log_bytes (bodies_of rest)))

-- with the next one they take at most as much
pub log_long-next : (first : List ℕ) (rest : List (Vec ℕ Global)) (i : ℕ) (d : Vec ℕ Global) → i < length rest
    → length (log_bytes (first ∷ bodies_of (take i rest))) + 9 + length (get_or rest i d).items ≤ length (log_bytes (first ∷ bodies_of rest))
log_long-next first rest i d within =
    let more : length (log_bytes (first ∷ bodies_of (take (i + 1) rest))) ≡ length (log_bytes ((first ∷ bodies_of (take i rest)) ++ (get_or rest i d).items ∷ [])) = ap (λ (bs : List (List ℕ)). length (log_bytes (first ∷ bs))) (bodies_of-more rest i d within) in
    omega (arith, more, log_long-take first rest (i + 1), log_long-push (first ∷ bodies_of (take i rest)) (get_or rest i d).items)

-- so many records are in the frame
pub record IsFilled (initial frame : Vec ℕ Global) (first : List ℕ) (rest : List (Vec ℕ Global)) (i : ℕ) : Type 0 where
  pub bytes : 1 ∷ frame.items ≡ log_bytes (first ∷ bodies_of (take i rest))
  pub capacity : vec_capacity initial ≤ vec_capacity frame

-- and have their places
pub record ArePlaced (initial found : Vec Place Global) (last : ℕ) (first : List ℕ) (rest : List (Vec ℕ Global)) (i : ℕ) : Type 0 where
  pub places : found.items ≡ places_of 0 (first ∷ bodies_of (take i rest))
  pub end : last ≡ length (log_bytes (first ∷ bodies_of (take i rest)))
  pub count : length found.items ≡ i + 1
  pub capacity : vec_capacity initial ≤ vec_capacity found

-- one more has its place
pub placed_next : (initial found new : Vec Place Global) (last next : ℕ) (first : List ℕ) (rest : List (Vec ℕ Global)) (i : ℕ) (d : Vec ℕ Global) (body : List ℕ) → i < length rest → body ≡ (get_or rest i d).items
    → ArePlaced initial found last first rest i → new.items ≡ found.items ++ (record { at = last + 9; len = length body }) ∷ [] → next ≡ last + 9 + length body → vec_capacity found ≤ vec_capacity new
    → ArePlaced initial new next first rest (i + 1)
placed_next initial found new last next first rest i d body within body_is placed new_is next_is capacity =
    let so_far = first ∷ bodies_of (take i rest) in
    let all_are : first ∷ bodies_of (take (i + 1) rest) ≡ so_far ++ body ∷ [] = ap (λ (bs : List (List ℕ)). first ∷ bs) (bodies_of-more rest i d within) ∙ ap (λ (b : List ℕ). so_far ++ b ∷ []) (sym body_is) in
    let at_is : last + 9 ≡ 0 + length (log_bytes so_far) + 9 = omega (arith, placed.end) in
    record {
      places =
          new_is ∙ ap (λ (ps : List Place). ps ++ (let p : Place = record { at = last + 9; len = length body } in p) ∷ []) placed.places
          ∙ ap (λ (n : ℕ). places_of 0 so_far ++ (let p : Place = record { at = n; len = length body } in p) ∷ []) at_is
          ∙ sym (places_of-push 0 so_far body) ∙ ap (places_of 0) (sym all_are);
      end = omega (arith, next_is, placed.end, log_long-push so_far body, ap (λ (bs : List (List ℕ)). length (log_bytes bs)) all_are);
      count = omega (arith, placed.count, ap length new_is, length-append found.items ((let p : Place = record { at = last + 9; len = length body } in p) ∷ []));
      capacity = let earlier = placed.capacity in omega (arith, capacity, earlier);
    }

-- what stands behind a first gate, with the gate
module _ (records : List (List ℕ)) (frame : List ℕ) (framed : 1 ∷ frame ≡ log_bytes records ++ 0 ∷ []) where
  made_is : (new : List ℕ) → StandsFirst frame new → new ≡ log_bytes records ++ 0 ∷ []
  made_is new (gate, over) =
      let past : drop (0 + length (1 ∷ frame)) (gate ∷ []) ≡ [] = drop_all (0 + length (1 ∷ frame)) (gate ∷ []) (omega arith) in
      over ∙ ap (λ (l : List ℕ). (1 ∷ frame) ++ l) past ∙ ap (λ (l : List ℕ). l ++ []) framed ∙ simp append_assoc

  -- what a making leaves
  pub made_holds : (old new : List ℕ) → OldOrNoneOr frame old new → IsOldOrMade records old new
  made_holds old new (inl has) = inl has
  made_holds old new (inr first) = inr (record { gate = 0; rest = []; closed = omega arith; bytes_are = made_is new first })

  made_told : (old new : Option (List ℕ)) → Told (λ _ image. StandsFirst frame image) old new → IfSome new (λ bytes. bytes ≡ log_bytes records ++ 0 ∷ [])
  made_told None None told = told
  made_told None (Some new) told = absurd told
  made_told (Some old) None told = absurd told
  made_told (Some old) (Some new) told = made_is new told

  written_is : (bytes : List ℕ) → bytes ≡ log_bytes records ++ 0 ∷ [] → AreWritten (places_of 0 records) (length (log_bytes records)) bytes
  written_is bytes are =
      ap (λ (l : List ℕ). take (length (log_bytes records)) l) are ∙ take_at (log_bytes records) (0 ∷ []) (length (log_bytes records)) refl
      ∙ ap log_bytes (sym (made_bodies [] records (0 ∷ []) bytes 0 refl are))

  closed_is : (bytes : List ℕ) → bytes ≡ log_bytes records ++ 0 ∷ [] → IsClosed (length (log_bytes records)) bytes
  closed_is bytes are = record {
    gate =
        let e : slice_index bytes (length (log_bytes records)) ≡ 0 = ap (λ (l : List ℕ). slice_index l (length (log_bytes records))) are ∙ get_or_at (log_bytes records) 0 [] 0 (length (log_bytes records)) refl in
        omega (arith, e);
  }

  -- where the places and the end go by other names
  module _ (places : List Place) (end : ℕ) (places_are : places ≡ places_of 0 records) (end_is : end ≡ length (log_bytes records)) where
    pub made_places : Spans places 0 end
    made_places =
        subst (λ (ps : List Place). Spans ps 0 end) (sym places_are)
        (subst (λ (n : ℕ). Spans (places_of 0 records) 0 n) (let e : 0 + length (log_bytes records) ≡ end = omega (arith, end_is) in e) (made_spans 0 records))

    pub made_written : (old new : Option (List ℕ)) → Told (λ _ image. StandsFirst frame image) old new → IfSome new (AreWritten places end)
    made_written old new told =
        subst (λ (ps : List Place). IfSome new (AreWritten ps end)) (sym places_are)
        (subst (λ (n : ℕ). IfSome new (AreWritten (places_of 0 records) n)) (sym end_is) (told_is new written_is (made_told old new told)))
      where
        told_is : (told : Option (List ℕ)) {P Q : List ℕ → Type 0} → ((bytes : List ℕ) → P bytes → Q bytes) → IfSome told P → IfSome told Q
        told_is None follows has = has
        told_is (Some bytes) follows has = follows bytes has

    pub made_closed : (old new : Option (List ℕ)) → Told (λ _ image. StandsFirst frame image) old new → IfSome new (IsClosed end)
    made_closed old new told = subst (λ (n : ℕ). IfSome new (IsClosed n)) (sym end_is) (told_is new closed_is (made_told old new told))
      where
        told_is : (told : Option (List ℕ)) {P Q : List ℕ → Type 0} → ((bytes : List ℕ) → P bytes → Q bytes) → IfSome told P → IfSome told Q
        told_is None follows has = has
        told_is (Some bytes) follows has = follows bytes has

    pub made_records : (old new : Option (List ℕ)) → Told (λ _ image. StandsFirst frame image) old new → IfSome (option_map (bodies_at places) new) (λ found. found ≡ records)
    made_records old new told = bodies_are new (made_told old new told)
      where
        bodies_are : (told : Option (List ℕ)) → IfSome told (λ bytes. bytes ≡ log_bytes records ++ 0 ∷ []) → IfSome (option_map (bodies_at places) told) (λ found. found ≡ records)
        bodies_are None has = has
        bodies_are (Some bytes) are = ap (λ (ps : List Place). bodies_at ps bytes) places_are ∙ made_bodies [] records (0 ∷ []) bytes 0 refl are

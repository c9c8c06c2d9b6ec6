-- What has been found of the records of a log.
use Rattle.std.proofs.Common.{◌≡◌, ◌⊎◌, ℕ, ◌+◌, ◌<◌, ◌≤◌, ◌^◌, List, [], ◌∷◌, ◌++◌, length, take, drop, get_or, Option, Some, None, IfSome, inl, inr, refl, sym, ap, subst, ◌∙◌, arith, append_assoc, length-append, length-take, length-drop, take-append-drop}
use Rattle.std.proofs.lemmas.Nat.{be_bytes_8}
use Rattle.std.proofs.lemmas.List.{take_at, drop_more, map_push, flat_map_more, length-take-le, drop-drop}
use Rattle.byteorder.specs.Endian.{big_bytes, big_number}
use Rattle.byteorder.specs.Numbers.{length-bytes_high_first}
use Rattle.gate_log.specs.Records.{log_bytes, record_bytes, BeginsWith, HoldsNoList, IsCutShort, IsDamaged}
use Rattle.gate_log.proofs.Exact.{told_never}
use Rattle.gate_log.specs.Places.{body_at, bodies_at, Spans, AreWritten}
use Rattle.gate_log.specs.Scan.{IfCutShort, IsRecordAt, IsPieceOf}
use Rattle.gate_log.specs.declared.scan.Stop.{Stop}
use Rattle.gate_log.specs.declared.scan.Stop.TheVariants.{Failed, CutShort, NoMemory}
use Rattle.gate_log.specs.Steps.{IsSynced, IsUntouched}
use Rattle.gate_log.specs.declared.place.Place.{Place}
use Rattle.gate_log.specs.declared.piece.Piece.{Piece}
use Rattle.gno_disk.specs.declared.disk.Disk.{Ghosts}

-- a number's bytes, from the bytes that it was read from
pub big_back : (bytes : List ℕ) → length bytes ≡ 8 → ((i : ℕ) → get_or bytes i 0 < 256) → big_bytes 8 (big_number 8 bytes) ≡ bytes
big_back bytes long fit = be_bytes_8 bytes (big_number 8 bytes) long fit (grind arith)

-- The records up to an end are found, and nothing has changed since.
pub record IsScanned {D : Type 0} (g : Ghosts D) (old disk : D) (places : List Place) (p : Piece) (end len : ℕ) : Type 0 where
  pub untouched : IsUntouched g old disk
  pub synced : IsSynced (g.told disk) (g.may_leave disk)
  pub spans : Spans places 0 end
  pub written : IfSome (g.told old) (AreWritten places end)
  pub inside : end ≤ len
  pub begun : (end ≡ 0) ⊎ (end < len)
  pub len_is : len ≡ g.size old
  pub limit : len ≤ 2 ^ 60
  pub later : g.faults old ≤ g.faults disk
  pub came : g.came 1 old disk
  pub piece : IsPieceOf len (g.told old) p
  pub before : p.at ≤ end

-- one record more
pub AreWritten-next : (places : List Place) (end : ℕ) (place : Place) (bytes : List ℕ) → Spans places 0 end → end < length bytes → AreWritten places end bytes → place.at ≡ end + 9 → place.at + place.len < length bytes → IsRecordAt end place bytes
    → AreWritten (places ++ place ∷ []) (place.at + place.len) bytes
AreWritten-next places end place bytes spans inside written at fits is =
    let body = body_at bytes place in
    let big = big_bytes 8 place.len in
    let back = drop place.len (drop place.at bytes) in
    let body_long : length body ≡ place.len = omega (arith, length-take place.len (drop place.at bytes), length-drop place.at bytes) in
    let gate : drop end bytes ≡ 1 ∷ drop (end + 1) bytes = drop_more bytes end 0 inside ∙ ap (λ (b : ℕ). b ∷ drop (end + 1) bytes) is.open_gate in
    let number : drop (end + 1) bytes ≡ big ++ drop (end + 1 + 8) bytes =
    sym (take-append-drop 8 (drop (end + 1) bytes)) ∙ ap (λ (l : List ℕ). l ++ drop 8 (drop (end + 1) bytes)) is.length_of ∙ ap (λ (l : List ℕ). big ++ l) (drop-drop 8 (end + 1) bytes) in
    let there : end + 1 + 8 ≡ place.at = omega (arith, at) in
    let behind : drop (end + 1 + 8) bytes ≡ body ++ back = ap (λ (n : ℕ). drop n bytes) there ∙ sym (take-append-drop place.len (drop place.at bytes)) in
    let whole : bytes ≡ take end bytes ++ (1 ∷ (big ++ (body ++ back))) =
    sym (take-append-drop end bytes) ∙ ap (λ (l : List ℕ). take end bytes ++ l) (gate ∙ ap (λ (l : List ℕ). 1 ∷ l) (number ∙ ap (λ (l : List ℕ). big ++ l) behind)) in
    let split : take end bytes ++ (1 ∷ (big ++ (body ++ back))) ≡ (take end bytes ++ (1 ∷ (big ++ body))) ++ back = sym (append_assoc (take end bytes) (1 ∷ (big ++ body)) back) in
    let long : length (take end bytes ++ (1 ∷ (big ++ body))) ≡ place.at + place.len =
    omega (arith, length-append (take end bytes) (1 ∷ (big ++ body)), length-append big body, length-bytes_high_first 8 place.len, length-take-le end bytes (omega arith), body_long, at) in
    ap (λ (l : List ℕ). take (place.at + place.len) l) (whole ∙ split) ∙ take_at (take end bytes ++ (1 ∷ (big ++ body))) back (place.at + place.len) long
    ∙ ap (λ (front : List ℕ). front ++ (1 ∷ (big ++ body))) written
    ∙ ap (λ (n : ℕ). log_bytes (bodies_at places bytes) ++ (1 ∷ (big_bytes 8 n ++ body))) (sym body_long)
    ∙ flat_map_more record_bytes [] (bodies_at places bytes) body
    ∙ ap log_bytes (sym (map_push (body_at bytes) places place))

-- where the bytes are cut short behind the records
pub IsDamaged-from : (places : List Place) (end : ℕ) (bytes : List ℕ) → end ≤ length bytes → AreWritten places end bytes → (length bytes ≡ 0) ⊎ IsCutShort (drop end bytes) → IsDamaged bytes end
IsDamaged-from places end bytes inside written cut = record {
  records = bodies_at places bytes;
  rest = drop end bytes;
  bytes_are = sym (take-append-drop end bytes) ∙ ap (λ (front : List ℕ). front ++ drop end bytes) written;
  at_is = sym (length-take-le end bytes inside) ∙ ap length written;
  cut_short = cut;
}

-- three facts of the bytes that are told, and what follows
told_both : (told : Option (List ℕ)) {A B C E : List ℕ → Type 0} → IfSome told A → IfSome told B → IfSome told C → ((bytes : List ℕ) → A bytes → B bytes → C bytes → E bytes) → IfSome told E
told_both None a b c follows = a
told_both (Some bytes) a b c follows = follows bytes a b c

-- the same where the disk tells its bytes
module _ (told : Option (List ℕ)) (size : ℕ) (whole : IfSome told (λ bytes. length bytes ≡ size)) (places : List Place) (end : ℕ) where
  pub told_next : (place : Place) → Spans places 0 end → IfSome told (AreWritten places end) → place.at ≡ end + 9 → place.at + place.len < size → IfSome told (IsRecordAt end place) → IfSome told (AreWritten (places ++ place ∷ []) (place.at + place.len))
  told_next place spans written at fits is = told_both told whole written is (λ bytes long w i. AreWritten-next places end place bytes spans (omega arith) w at (omega arith) i)

  pub damaged_from : (stop : Stop) → (end ≡ 0) ⊎ (end < size) → IfSome told (AreWritten places end) → IfCutShort stop (λ at. at ≡ end) → IfCutShort stop (λ at. IfSome told (λ bytes. (length bytes ≡ end) ⊎ IsCutShort (drop end bytes))) → IfCutShort stop (λ at. IfSome told (λ bytes. IsDamaged bytes at))
  damaged_from Failed begun written is cut = is
  damaged_from NoMemory begun written is cut = is
  damaged_from (CutShort at) begun written is cut =
      told_both told whole written cut (λ bytes long w i. subst (λ (n : ℕ). IsDamaged bytes n) (sym is)
      (IsDamaged-from places end bytes (elim begun [ inl none ↦ omega (arith, none) | inr lt ↦ omega (arith, lt, long) ]) w (at_gate bytes long begun i)))
    where
      at_gate : (bytes : List ℕ) → length bytes ≡ size → (end ≡ 0) ⊎ (end < size) → (length bytes ≡ end) ⊎ IsCutShort (drop end bytes) → (length bytes ≡ 0) ⊎ IsCutShort (drop end bytes)
      at_gate bytes long (inl none) (inl all) = inl (all ∙ none)
      at_gate bytes long (inr lt) (inl all) = absurd (omega (arith, lt, all, long))
      at_gate bytes long begun (inr cut) = inr cut

  -- bytes that are cut short hold no list of records
  pub never_from : (stop : Stop) → size ≤ 2 ^ 60 → IfCutShort stop (λ at. IfSome told (λ bytes. IsDamaged bytes at)) → IfCutShort stop (λ at. IfSome told HoldsNoList)
  never_from Failed short damaged = damaged
  never_from NoMemory short damaged = damaged
  never_from (CutShort at) short damaged = told_never told size whole short at damaged

-- the record at the first gate, and its body
BeginsWith-at : (place : Place) (body bytes : List ℕ) → place.at ≡ 9 → place.at + place.len < length bytes → IsRecordAt 0 place bytes → body ≡ take place.len (drop place.at bytes) → BeginsWith body bytes
BeginsWith-at place body bytes at fits is body_is =
    let end = place.at + place.len in
    let written : take end bytes ≡ log_bytes (body_at bytes place ∷ []) = AreWritten-next [] 0 place bytes refl (omega (arith, fits)) refl at fits is in
    let front : take end bytes ≡ log_bytes (body ∷ []) = written ∙ ap (λ (b : List ℕ). log_bytes (b ∷ [])) (sym body_is) in
    record {
      begins = record {
        rest = drop end bytes;
        bytes_are = sym (take-append-drop end bytes) ∙ ap (λ (l : List ℕ). l ++ drop end bytes) front;
      };
      next_gate = omega (arith, fits, ap length front, length-take-le end bytes (omega (arith, fits)));
    }

pub told_first : (told : Option (List ℕ)) (size : ℕ) → IfSome told (λ bytes. length bytes ≡ size) → (place : Place) (body : List ℕ) → place.at ≡ 9 → place.at + place.len < size
    → IfSome told (IsRecordAt 0 place) → IfSome told (λ bytes. body ≡ take place.len (drop place.at bytes)) → IfSome told (BeginsWith body)
told_first told size whole place body at fits is body_is =
    told_both told whole is body_is (λ bytes long i b. BeginsWith-at place body bytes at (omega (arith, long, fits)) i b)

-- Bytes hold at most one list of records, and bytes that are cut short hold none.
use Rattle.std.proofs.Common.{◌≡◌, ◌≢◌, ◌⊎◌, ℕ, ◌+◌, ◌<◌, ◌≤◌, ◌^◌, List, [], ◌∷◌, ◌++◌, length, take, drop, slice_index, inl, inr, refl, sym, ap, subst, ◌∙◌, arith, append_assoc, length-append, Option, IfSome}
use Rattle.std.proofs.lemmas.List.{take_at, drop_at}
use Rattle.byteorder.specs.Endian.{big_bytes, big_number}
use Rattle.byteorder.specs.Numbers.{length-bytes_high_first, big_number-reads_back}
use Rattle.gate_log.specs.Records.{BeginsWith, HasNoLog, Holds, HoldsNoList, IsCutShort, IsDamaged, log_bytes, record_bytes}
use Rattle.gate_log.proofs.Moments.{told_with}

-- a record and what stands behind it, with the body apart
record_apart : (body rest : List ℕ) → record_bytes body ++ rest ≡ (1 ∷ big_bytes 8 (length body)) ++ (body ++ rest)
record_apart body rest = append_assoc (1 ∷ big_bytes 8 (length body)) body rest

head_long : (n : ℕ) → length (1 ∷ big_bytes 8 n) ≡ 9
head_long n = omega (arith, length-bytes_high_first 8 n)

-- how long they are
pub record_long : (body rest : List ℕ) → length (record_bytes body ++ rest) ≡ 9 + length body + length rest
record_long body rest =
    omega (arith, ap length (record_apart body rest), length-append (1 ∷ big_bytes 8 (length body)) (body ++ rest), head_long (length body), length-append body rest)

-- the length that is spelled is that of the body
spelled : (body rest : List ℕ) → length body < 2 ^ 64 → big_number 8 (drop 1 (record_bytes body ++ rest)) ≡ length body
spelled body rest short =
    ap (λ (l : List ℕ). big_number 8 (drop 1 l)) (record_apart body rest) ∙ big_number-reads_back 8 (length body) (body ++ rest) (omega arith)

-- equal bytes begin with the same record
same_front : (a b s t : List ℕ) → length a < 2 ^ 64 → length b < 2 ^ 64 → record_bytes a ++ s ≡ record_bytes b ++ t → (a ≡ b) × (s ≡ t)
same_front a b s t short_a short_b same =
    let len : length a ≡ length b = sym (spelled a s short_a) ∙ ap (λ (l : List ℕ). big_number 8 (drop 1 l)) same ∙ spelled b t short_b in
    let behind : a ++ s ≡ b ++ t =
    sym (drop_at (1 ∷ big_bytes 8 (length a)) (a ++ s) 9 (head_long (length a))) ∙ ap (λ (l : List ℕ). drop 9 l) (sym (record_apart a s) ∙ same ∙ record_apart b t)
    ∙ drop_at (1 ∷ big_bytes 8 (length b)) (b ++ t) 9 (head_long (length b)) in (
      sym (take_at a s (length a) refl) ∙ ap (λ (l : List ℕ). take (length a) l) behind ∙ take_at b t (length a) (sym len),
      sym (drop_at a s (length a) refl) ∙ ap (λ (l : List ℕ). drop (length a) l) behind ∙ drop_at b t (length a) (sym len),
    )

-- the first record apart from the others
first_apart : (body : List ℕ) (records : List (List ℕ)) (rest : List ℕ) → log_bytes (body ∷ records) ++ rest ≡ record_bytes body ++ (log_bytes records ++ rest)
first_apart body records rest = append_assoc (record_bytes body) (log_bytes records) rest

-- bytes begin with one record
pub BeginsWith-one : (a b bytes : List ℕ) → length a < 2 ^ 64 → length b < 2 ^ 64 → BeginsWith a bytes → BeginsWith b bytes → a ≡ b
BeginsWith-one a b bytes short_a short_b first second =
    let one : bytes ≡ record_bytes a ++ first.begins.rest = first.begins.bytes_are ∙ first_apart a [] first.begins.rest in
    let two : bytes ≡ record_bytes b ++ second.begins.rest = second.begins.bytes_are ∙ first_apart b [] second.begins.rest in
    (same_front a b first.begins.rest second.begins.rest short_a short_b (sym one ∙ two)).0

-- the first of the records that are held stands first
pub Holds-first : (bytes body : List ℕ) (records : List (List ℕ)) → Holds bytes (body ∷ records) → BeginsWith body bytes
Holds-first bytes body records held =
    let rest = log_bytes records ++ held.gate ∷ held.rest in
    let apart : bytes ≡ record_bytes body ++ rest = held.bytes_are ∙ first_apart body records (held.gate ∷ held.rest) in
    let whole : bytes ≡ log_bytes (body ∷ []) ++ rest = apart ∙ sym (first_apart body [] rest) in
    record {
      begins = record { rest = rest; bytes_are = whole };
      next_gate = omega (arith, ap length whole, length-append (log_bytes (body ∷ [])) rest, length-append (log_bytes records) (held.gate ∷ held.rest));
    }

-- the same bytes begin with one record
same_first : (a b : List ℕ) (rs ss : List (List ℕ)) (s t : List ℕ) → length (log_bytes (a ∷ rs) ++ s) ≤ 2 ^ 60 → log_bytes (a ∷ rs) ++ s ≡ log_bytes (b ∷ ss) ++ t → (a ≡ b) × (log_bytes rs ++ s ≡ log_bytes ss ++ t)
same_first a b rs ss s t short same =
    let first = first_apart a rs s in
    let second = first_apart b ss t in
    let equal : record_bytes a ++ (log_bytes rs ++ s) ≡ record_bytes b ++ (log_bytes ss ++ t) = sym first ∙ same ∙ second in
    same_front a b (log_bytes rs ++ s) (log_bytes ss ++ t) (omega (arith, short, ap length first, record_long a (log_bytes rs ++ s)))
    (omega (arith, short, ap length first, ap length equal, record_long b (log_bytes ss ++ t))) equal

rest_short : (a : List ℕ) (rs : List (List ℕ)) (s : List ℕ) → length (log_bytes (a ∷ rs) ++ s) ≤ 2 ^ 60 → length (log_bytes rs ++ s) ≤ 2 ^ 60
rest_short a rs s short = omega (arith, short, ap length (first_apart a rs s), record_long a (log_bytes rs ++ s))

-- two lists of records with a closed gate behind each
same_records : (rs ss : List (List ℕ)) (g h : ℕ) (s t : List ℕ) → g ≢ 1 → h ≢ 1 → length (log_bytes rs ++ g ∷ s) ≤ 2 ^ 60 → log_bytes rs ++ g ∷ s ≡ log_bytes ss ++ h ∷ t → rs ≡ ss
same_records [] [] g h s t shut shut_too short same = refl
same_records [] (b ∷ ss) g h s t shut shut_too short same = absurd (shut (ap (λ (l : List ℕ). slice_index l 0) same))
same_records (a ∷ rs) [] g h s t shut shut_too short same = absurd (shut_too (sym (ap (λ (l : List ℕ). slice_index l 0) same)))
same_records (a ∷ rs) (b ∷ ss) g h s t shut shut_too short same =
    let both = same_first a b rs ss (g ∷ s) (h ∷ t) short same in
    ap (λ (x : List ℕ). x ∷ rs) both.0 ∙ ap (λ (l : List (List ℕ)). b ∷ l) (same_records rs ss g h s t shut shut_too (rest_short a rs (g ∷ s) short) both.1)

-- bytes hold one list of records
pub Holds-one : (bytes : List ℕ) (rs ss : List (List ℕ)) → length bytes ≤ 2 ^ 60 → Holds bytes rs → Holds bytes ss → rs ≡ ss
Holds-one bytes rs ss short first second =
    same_records rs ss first.gate second.gate first.rest second.rest first.closed second.closed (omega (arith, short, ap length first.bytes_are)) (sym first.bytes_are ∙ second.bytes_are)

-- no whole record stands first, with a gate behind it, where the bytes are cut short
pub cut_short_first : (body rest : List ℕ) → length (record_bytes body ++ rest) ≤ 2 ^ 60 → 0 < length rest → IsCutShort (record_bytes body ++ rest) → ⊥
cut_short_first body rest short some (gate, inl few) = omega (arith, few, record_long body rest)
cut_short_first body rest short some (gate, inr cut) =
    let long = record_long body rest in
    omega (arith, cut, long, spelled body rest (omega (arith, long, short)))

-- nor is it a closed gate
cut_short_gate : (gate : ℕ) (rest : List ℕ) → gate ≢ 1 → IsCutShort (gate ∷ rest) → ⊥
cut_short_gate gate rest shut cut = shut cut.0

-- records that are cut short aren't records with a closed gate behind them
cut_short_records : (rs ss : List (List ℕ)) (rest : List ℕ) (gate : ℕ) (t : List ℕ) → gate ≢ 1 → length (log_bytes rs ++ rest) ≤ 2 ^ 60 → IsCutShort rest → log_bytes rs ++ rest ≡ log_bytes ss ++ gate ∷ t → ⊥
cut_short_records [] [] rest gate t shut short cut same = cut_short_gate gate t shut (subst IsCutShort same cut)
cut_short_records [] (b ∷ ss) rest gate t shut short cut same =
    let equal : rest ≡ record_bytes b ++ (log_bytes ss ++ gate ∷ t) = same ∙ first_apart b ss (gate ∷ t) in
    cut_short_first b (log_bytes ss ++ gate ∷ t) (omega (arith, short, ap length equal)) (omega (arith, length-append (log_bytes ss) (gate ∷ t))) (subst IsCutShort equal cut)
cut_short_records (a ∷ rs) [] rest gate t shut short cut same = shut (sym (ap (λ (l : List ℕ). slice_index l 0) same))
cut_short_records (a ∷ rs) (b ∷ ss) rest gate t shut short cut same =
    cut_short_records rs ss rest gate t shut (rest_short a rs rest short) cut (same_first a b rs ss rest (gate ∷ t) short same).1

-- damaged bytes hold no list of records
pub IsDamaged-never : (bytes : List ℕ) (at : ℕ) → length bytes ≤ 2 ^ 60 → IsDamaged bytes at → HoldsNoList bytes
IsDamaged-never bytes at short damaged = λ records held. elim damaged.cut_short [
  | inl none ↦ omega (arith, none, ap length held.bytes_are, length-append (log_bytes records) (held.gate ∷ held.rest))
  | inr cut ↦ cut_short_records damaged.records records damaged.rest held.gate held.rest held.closed (omega (arith, short, ap length damaged.bytes_are)) cut (sym damaged.bytes_are ∙ held.bytes_are)
]

-- What stands behind a record that is whole isn't empty, where it is cut short.
some_left : (rest : List ℕ) → IsCutShort rest → 0 < length rest
some_left [] cut = let gate = cut.0 in omega (arith, gate)
some_left (gate ∷ rest) cut = omega arith

-- behind two lists of records the same bytes are cut short
cut_short_one : (rs ss : List (List ℕ)) (r s : List ℕ) → length (log_bytes rs ++ r) ≤ 2 ^ 60 → IsCutShort r → IsCutShort s → log_bytes rs ++ r ≡ log_bytes ss ++ s → length (log_bytes rs) ≡ length (log_bytes ss)
cut_short_one [] [] r s short cut cut_too same = refl
cut_short_one [] (b ∷ ss) r s short cut cut_too same =
    let equal : r ≡ record_bytes b ++ (log_bytes ss ++ s) = same ∙ first_apart b ss s in
    let some = some_left s cut_too in
    absurd (cut_short_first b (log_bytes ss ++ s) (omega (arith, short, ap length equal)) (omega (arith, some, length-append (log_bytes ss) s)) (subst IsCutShort equal cut))
cut_short_one (a ∷ rs) [] r s short cut cut_too same =
    let equal : record_bytes a ++ (log_bytes rs ++ r) ≡ s = sym (first_apart a rs r) ∙ same in
    let some = some_left r cut in
    absurd (cut_short_first a (log_bytes rs ++ r) (omega (arith, short, ap length (first_apart a rs r))) (omega (arith, some, length-append (log_bytes rs) r)) (subst IsCutShort (sym equal) cut_too))
cut_short_one (a ∷ rs) (b ∷ ss) r s short cut cut_too same =
    let both = same_first a b rs ss r s short same in
    let rest = cut_short_one rs ss r s (rest_short a rs r short) cut cut_too both.1 in
    omega (arith, rest, ap length both.0, length-append (record_bytes a) (log_bytes rs), length-append (record_bytes b) (log_bytes ss), ap (λ (l : List ℕ). length (record_bytes l)) both.0)

-- no byte is at place 0 alone
none_at : (bytes : List ℕ) (records : List (List ℕ)) (rest : List ℕ) → length bytes ≡ 0 → bytes ≡ log_bytes records ++ rest → length (log_bytes records) ≡ 0
none_at bytes records rest none are = omega (arith, none, ap length are, length-append (log_bytes records) rest)

none_cut : (bytes : List ℕ) (records : List (List ℕ)) (rest : List ℕ) → length bytes ≡ 0 → bytes ≡ log_bytes records ++ rest → IsCutShort rest → ⊥
none_cut bytes records rest none are cut = let some = some_left rest cut in omega (arith, none, some, ap length are, length-append (log_bytes records) rest)

-- damaged bytes are damaged at one place
pub IsDamaged-one : (bytes : List ℕ) (a b : ℕ) → length bytes ≤ 2 ^ 60 → IsDamaged bytes a → IsDamaged bytes b → a ≡ b
IsDamaged-one bytes a b short first second = first.at_is ∙ places first.cut_short second.cut_short ∙ sym second.at_is
  where
    places : (length bytes ≡ 0) ⊎ IsCutShort first.rest → (length bytes ≡ 0) ⊎ IsCutShort second.rest → length (log_bytes first.records) ≡ length (log_bytes second.records)
    places (inl none) why = none_at bytes first.records first.rest none first.bytes_are ∙ sym (none_at bytes second.records second.rest none second.bytes_are)
    places (inr cut) (inl none) = absurd (none_cut bytes first.records first.rest none first.bytes_are cut)
    places (inr cut) (inr cut_too) =
        cut_short_one first.records second.records first.rest second.rest (omega (arith, short, ap length first.bytes_are)) cut cut_too (sym first.bytes_are ∙ second.bytes_are)

-- there is no log where the first record is cut short
pub cut_short_none : (bytes : List ℕ) → length bytes ≤ 2 ^ 60 → (length bytes ≡ 0) ⊎ IsCutShort bytes → HasNoLog bytes
cut_short_none bytes short (inl none) = λ body whole. let next = whole.next_gate in omega (arith, next, none)
cut_short_none bytes short (inr cut) = λ body whole.
    let rest = whole.begins.rest in
    let equal : bytes ≡ record_bytes body ++ rest = whole.begins.bytes_are ∙ first_apart body [] rest in
    let next = whole.next_gate in
    cut_short_first body rest (omega (arith, short, ap length equal)) (omega (arith, next, ap length equal, record_long body rest, record_long body [])) (subst IsCutShort equal cut)

-- the same where the disk tells its bytes
module _ (told : Option (List ℕ)) (size : ℕ) (whole : IfSome told (λ bytes. length bytes ≡ size)) (short : size ≤ 2 ^ 60) where
  pub told_never : (at : ℕ) → IfSome told (λ bytes. IsDamaged bytes at) → IfSome told HoldsNoList
  told_never at damaged = told_with told whole damaged (λ bytes long d. IsDamaged-never bytes at (omega (arith, long, short)) d)

  pub told_cut_none : IfSome told (λ bytes. (length bytes ≡ 0) ⊎ IsCutShort bytes) → IfSome told HasNoLog
  told_cut_none cut = told_with told whole cut (λ bytes long c. cut_short_none bytes (omega (arith, long, short)) c)

-- Blocks: what is read is spelled so, and what is spelled so is read.
use Rattle.std.proofs.Common.{◌≡◌, ℕ, ◌+◌, ◌-◌, ◌*◌, ◌/◌, ◌^◌, ◌<◌, ◌≤◌, Bool, true, cond, leb, ltb, ◌&&◌, List, [], ◌∷◌, ◌++◌, length, Option, Some, None, Result, Ok, Err, refl, sym, ap, subst, ◌∙◌, append_assoc, arith, lit<}
use Rattle.std.specs.Prelude.{IfOk, unsigned_abs}
use Rattle.std.specs.List.{flat_map, AllByRecursion}
use Rattle.std.specs.Int.{w128, cast_unsigned}
use Rattle.std.specs.Cmp.Derive.{both_true}
use Rattle.std.proofs.lemmas.Bool.{leb-true, ltb-true, le-leb, lt-ltb}
use Rattle.std.proofs.lemmas.Int.{fits_signed_from_abs}
use Rattle.std.proofs.lemmas.List.{append-nil}
use Rattle.std.proofs.lemmas.List.Elements.{All-from_recursion, recursion_from_All, All-weaker}
use Rattle.std.proofs.lemmas.Nat.{div-mul-add}
use Rattle.byteorder.specs.Endian.{big_bytes}
use Rattle.gno_num.specs.Fraction.{Fraction, IsFraction}
use Rattle.series_model.specs.declared.measure.Measure.{Measure}
use Rattle.series_model.specs.declared.point.Point.{Point}
use Rattle.series_model.specs.declared.point.Split.{Split}
use Rattle.gno_codec.specs.declared.fault.ReadFault.{ReadFault}
use Rattle.gno_codec.specs.Incoming.{measure_bytes, IsMeasure}
use Rattle.gno_codec.specs.Blocks.{point_bytes, split_bytes, raw_bytes, IsPlaced, IsPointOf, IsSplit, IsChunk}
use Rattle.gno_codec.specs.Reading.{Answers, whole, is_above}
use Rattle.gno_codec.specs.BlocksReading.{is_next_time, count_at, bucket_time, time_after, num_at, fraction_at, point_after, later_time, measure_after, split_at, raw_at}
use Rattle.gno_codec.proofs.Steps.{IsBytes, IsField, whole_takes, Again, IsChain, goes_then, goes_done, goes_last, again_then, again_done, again_field, again_text, made_of, standing_field, tested_field, items_field, some_if}
use Rattle.gno_codec.proofs.Fields.{number_field, signed_field, whole_128}
use Rattle.gno_codec.proofs.Lists.{RisesFrom, increases, from_increasing}
use Rattle.gno_codec.proofs.Records.{both_passed, numbered, at_least, value_field}

count_field : IsField count_at (big_bytes 2) (λ n. (1 ≤ n) × (n ≤ 3600))
unfolding count_at
count_field = numbered 2 1 3600 (lit< tt)

next_time : {A : Type 0} (time : A → ℕ) (before : Option A) (n : ℕ) → is_next_time time before n ≡ true → (n < 9 * 10 ^ 18) × (is_above time before n ≡ true)
next_time time before n e = let b = both_passed (ltb n (9 * 10 ^ 18)) (is_above time before n) e in (ltb-true _ _ b.0, b.1)

is_next : {A : Type 0} (time : A → ℕ) (before : Option A) (n : ℕ) → n < 9 * 10 ^ 18 → is_above time before n ≡ true → is_next_time time before n ≡ true
is_next time before n lt above = both_true (lt-ltb _ _ lt) above

-- ---- chunks

-- a measure that may stand behind another
abbrev IsLater : Option Measure → Measure → Type 0
IsLater before m = IsMeasure m × (is_above (λ x. x.at) before m.at ≡ true)

later_field : (before : Option Measure) → IsField (later_time before) (big_bytes 8) (λ n. (n < 9 * 10 ^ 18) × (is_above (λ x. x.at) before n ≡ true))
unfolding later_time
later_field before =
    tested_field (is_next_time (λ x. x.at) before) (number_field 8) (λ n. (n < 9 * 10 ^ 18) × (is_above (λ x. x.at) before n ≡ true))
    (λ n has e. next_time (λ x. x.at) before n e)
    (λ n is. (omega (arith, is.0), is_next (λ x. x.at) before n is.0 is.1))

measure_field : (before : Option Measure) → IsField (measure_after before) measure_bytes (IsLater before)
unfolding measure_after
measure_field before = made_of measure_bytes (IsLater before)
    (goes_then (later_field before) (λ at time. goes_then value_field (λ value magnitude. goes_done (record { at = at; value = value }) refl (record { time = time.0; magnitude = magnitude }, time.1))))
    (λ m is. again_text (measure_bytes m) (ap (λ (t : List ℕ). big_bytes 8 m.at ++ t) (append-nil _)) (again_then _ (later_field before) m.at (is.0.time, is.1) (again_then _ value_field m.value is.0.magnitude (again_done m))))

chain_later : (before : Option Measure) (ms : List Measure) → IsChain IsLater before ms → AllByRecursion IsMeasure ms × RisesFrom (λ x. x.at) before ms
chain_later before [] h = (tt, tt)
chain_later before (m ∷ ms) h = let r = chain_later (Some m) ms h.1 in ((h.0.0, r.0), (h.0.1, r.1))

later_chain : (before : Option Measure) (ms : List Measure) → AllByRecursion IsMeasure ms → RisesFrom (λ x. x.at) before ms → IsChain IsLater before ms
later_chain before [] h r = tt
later_chain before (m ∷ ms) h r = ((h.0, r.0), later_chain (Some m) ms h.1 r.1)

is_chunk : (n : ℕ) (ms : List Measure) → (1 ≤ n) × (n ≤ 3600) → (length ms ≡ n) × IsChain IsLater None ms → IsChunk ms
is_chunk n ms range have =
    let c = chain_later None ms have.1 in
    record {
      rising = record { some = omega (arith, have.0, range.0); few = omega (arith, have.0, range.1); rising = increases (λ x. x.at) ms c.1 };
      each = All-from_recursion IsMeasure ms c.0;
    }

pub raw_field : IsField raw_at raw_bytes IsChunk
unfolding raw_at
raw_field = made_of raw_bytes IsChunk
    (goes_then count_field (λ n range. goes_last (items_field measure_after measure_bytes IsLater measure_field None n) (λ ms have. (ap (λ (k : ℕ). big_bytes 2 k ++ flat_map measure_bytes ms) have.0, is_chunk n ms range have))))
    (λ ms is. again_then _ count_field (length ms) (is.rising.some, is.rising.few)
    (again_field (items_field measure_after measure_bytes IsLater measure_field None (length ms)) ms (refl, later_chain None ms (recursion_from_All IsMeasure ms is.each) (from_increasing (λ x. x.at) ms is.rising.rising))))

-- ---- fractions

num_field : IsField num_at (λ num. big_bytes 16 (cast_unsigned w128 num)) (λ num. unsigned_abs num ≤ 10 ^ 38)
unfolding num_at
num_field =
    tested_field (λ num. leb (unsigned_abs num) (10 ^ 38)) (signed_field w128 whole_128) (λ num. unsigned_abs num ≤ 10 ^ 38)
    (λ num has e. leb-true _ _ e)
    (λ num is. (fits_signed_from_abs w128 num (omega (arith, is)), le-leb _ _ is))

abbrev fraction_bytes : Fraction → List ℕ
fraction_bytes f = big_bytes 16 (cast_unsigned w128 f.num) ++ big_bytes 8 f.den

abbrev IsWritten : Fraction → Type 0
IsWritten f = IsFraction f.num f.den × (f.den < 256 ^ 8)

fraction_field : IsField fraction_at fraction_bytes IsWritten
unfolding fraction_at
fraction_field = made_of fraction_bytes IsWritten
    (goes_then num_field (λ num small. goes_then (at_least 8 1) (λ den range. goes_done (record { num = num; den = den }) refl (record { above = omega (arith, range.0); small = small }, range.1))))
    (λ f is. again_text (fraction_bytes f) (ap (λ (t : List ℕ). big_bytes 16 (cast_unsigned w128 f.num) ++ t) (append-nil (big_bytes 8 f.den)))
    (again_then _ num_field f.num is.0.small (again_then _ (at_least 8 1) f.den (omega (arith, is.0.above), is.1) (again_done f))))

-- ---- points

module _ (granularity key : ℕ) (length : 0 < granularity) where
  place_again : (n : ℕ) → (key + n * granularity - key) / granularity ≡ n
  place_again n =
      let same : key + n * granularity - key ≡ n * granularity + 0 = omega arith in
      ap (λ (x : ℕ). x / granularity) same ∙ div-mul-add n granularity 0 length

  -- a time at which a point may stand behind another
  pub record IsTime (before : Option Point) (at : ℕ) : Type 0 where
    pub position : ℕ
    pub within : position < 3600
    pub bucket : at ≡ key + position * granularity
    pub time : at < 9 * 10 ^ 18
    pub above : is_above (λ p. p.at) before at ≡ true

  abbrev place_bytes : ℕ → List ℕ
  place_bytes at = big_bytes 2 ((at - key) / granularity)

  time_there : (before : Option Point) (n at : ℕ) → n < 256 ^ 2 → bucket_time granularity key before n ≡ Some at → (place_bytes at ≡ big_bytes 2 n) × IsTime before at
  time_there before n at fits e =
      let t = key + n * granularity in
      let s = some_if (ltb n 3600 && is_next_time (λ (p : Point). p.at) before t) t at e in
      let b = both_passed (ltb n 3600) (is_next_time (λ (p : Point). p.at) before t) s.0 in
      let c = next_time (λ (p : Point). p.at) before t b.1 in
      let Q : ℕ → Type 0 = λ x. (place_bytes x ≡ big_bytes 2 n) × IsTime before x in
      subst Q s.1 (ap (big_bytes 2) (place_again n), record { position = n; within = ltb-true _ _ b.0; bucket = refl; time = c.0; above = c.1 })

  time_back : (before : Option Point) (at : ℕ) → IsTime before at → (n : ℕ) × (n < 256 ^ 2) × (bucket_time granularity key before n ≡ Some at) × (place_bytes at ≡ big_bytes 2 n)
  time_back before at is =
      let n = is.position in
      let t = key + n * granularity in
      let passes : (ltb n 3600 && is_next_time (λ (p : Point). p.at) before t) ≡ true =
      both_true (lt-ltb _ _ is.within) (subst (λ (x : ℕ). is_next_time (λ (p : Point). p.at) before x ≡ true) is.bucket (is_next (λ (p : Point). p.at) before at is.time is.above)) in
      (n, omega (arith, is.within), ap (λ (b : Bool). cond b (Some t) None) passes ∙ ap (λ (x : ℕ). Some x) (sym is.bucket), ap (λ (x : ℕ). big_bytes 2 ((x - key) / granularity)) is.bucket ∙ ap (big_bytes 2) (place_again n))

  time_field : (before : Option Point) → IsField (time_after granularity key before) place_bytes (IsTime before)
  unfolding time_after
  time_field before = standing_field (bucket_time granularity key before) (number_field 2) place_bytes (IsTime before) (time_there before) (time_back before)

  abbrev IsNext : Option Point → Point → Type 0
  IsNext before p = IsTime before p.at × IsWritten p.value

  point_field : (before : Option Point) → IsField (point_after granularity key before) (point_bytes granularity key) (IsNext before)
  unfolding point_after
  point_field before = made_of (point_bytes granularity key) (IsNext before)
      (goes_then (time_field before) (λ at time. goes_then fraction_field (λ value is. goes_done (record { at = at; value = value }) (append_assoc (place_bytes at) (big_bytes 16 (cast_unsigned w128 value.num)) (big_bytes 8 value.den)) (time, is))))
      (λ p is. again_text (point_bytes granularity key p) (regrouped (place_bytes p.at) (big_bytes 16 (cast_unsigned w128 p.value.num)) (big_bytes 8 p.value.den)) (again_then _ (time_field before) p.at is.0 (again_then _ fraction_field p.value is.1 (again_done p))))
    where
      regrouped : (a b c : List ℕ) → a ++ ((b ++ c) ++ []) ≡ a ++ b ++ c
      regrouped a b c = simp (append_assoc, append-nil)

  point_of : (before : Option Point) (p : Point) → IsNext before p → IsPointOf granularity key p
  point_of before p h = record {
    placed = record { position = h.0.position; within = h.0.within; bucket = h.0.bucket };
    time = h.0.time;
    value = h.1.0;
    den = omega (arith, h.1.1);
  }

  next_of : (before : Option Point) (p : Point) → IsPointOf granularity key p → is_above (λ x. x.at) before p.at ≡ true → IsNext before p
  next_of before p h above =
      (record { position = h.placed.position; within = h.placed.within; bucket = h.placed.bucket; time = h.time; above = above }, (h.value, omega (arith, h.den)))

  chain_next : (before : Option Point) (ps : List Point) → IsChain IsNext before ps → AllByRecursion (IsPointOf granularity key) ps × RisesFrom (λ x. x.at) before ps
  chain_next before [] h = (tt, tt)
  chain_next before (p ∷ ps) h = let r = chain_next (Some p) ps h.1 in ((point_of before p h.0, r.0), (h.0.0.above, r.1))

  next_chain : (before : Option Point) (ps : List Point) → AllByRecursion (IsPointOf granularity key) ps → RisesFrom (λ x. x.at) before ps → IsChain IsNext before ps
  next_chain before [] h r = tt
  next_chain before (p ∷ ps) h r = (next_of before p h.0 r.0, next_chain (Some p) ps h.1 r.1)

-- ---- splits

module _ (granularity key : ℕ) (some : 0 < granularity) where
  abbrev HasKey : Split → Type 0
  HasKey split = IsSplit granularity split × (split.key ≡ key)

  is_split : (n : ℕ) (ps : List Point) → (1 ≤ n) × (n ≤ 3600) → (length ps ≡ n) × IsChain (IsNext granularity key some) None ps → IsSplit granularity (record { key = key; points = ps })
  is_split n ps range have =
      let c = chain_next granularity key some None ps have.1 in
      let each = All-from_recursion (IsPointOf granularity key) ps c.0 in
      record {
        filled = record {
          some = omega (arith, have.0, range.0);
          few = omega (arith, have.0, range.1);
          placed = All-weaker (IsPointOf granularity key) (IsPlaced granularity key) (λ p h. h.placed) ps each;
          rising = increases (λ p. p.at) ps c.1;
        };
        each = each;
      }

  split_again : (split : Split) → HasKey split → Again (split_at granularity key) (split_bytes granularity split) split
  unfolding split_at
  split_again split is =
      let ps = split.points in
      let own : Split = record { key = key; points = ps } in
      let same : own ≡ split = ap (λ (k : ℕ). record { key = k; points = ps }) (sym is.1) in
      let each : AllByRecursion (IsPointOf granularity key) ps = subst (λ (k : ℕ). AllByRecursion (IsPointOf granularity k) ps) is.1 (recursion_from_All (IsPointOf granularity split.key) ps is.0.each) in
      let chain = next_chain granularity key some None ps each (from_increasing (λ p. p.at) ps is.0.filled.rising) in
      let read : Again (split_at granularity key) (split_bytes granularity own) own =
      again_text (split_bytes granularity own) (ap (λ (t : List ℕ). big_bytes 2 (length ps) ++ t) (append-nil (flat_map (point_bytes granularity key) ps)))
      (again_then _ count_field (length ps) (is.0.filled.some, is.0.filled.few)
      (again_then _ (items_field (point_after granularity key) (point_bytes granularity key) (IsNext granularity key some) (point_field granularity key some) None (length ps)) ps (refl, chain) (again_done own))) in
      subst (λ (s : Split). Again (split_at granularity key) (split_bytes granularity s) s) same read

  pub split_field : IsField (split_at granularity key) (split_bytes granularity) HasKey
  unfolding split_at
  split_field = made_of (split_bytes granularity) HasKey
      (goes_then count_field (λ n range. goes_then (items_field (point_after granularity key) (point_bytes granularity key) (IsNext granularity key some) (point_field granularity key some) None n) (λ ps have.
      goes_done (record { key = key; points = ps }) (ap (λ (k : ℕ). big_bytes 2 k ++ flat_map (point_bytes granularity key) ps) have.0) (is_split n ps range have, refl))))
      split_again

-- what is read is spelled so, with the key
pub found_split : (granularity key : ℕ) → 0 < granularity → (bytes : List ℕ) (r : Result Split ReadFault) → IsBytes bytes → Answers r (whole (split_at granularity key) bytes)
    → IfOk r (λ split. split.key ≡ key) × IfOk r (λ split. IsSplit granularity split × (bytes ≡ split_bytes granularity split))
found_split granularity key some bytes (Ok split) fits given =
    let f = whole_takes (split_field granularity key some) bytes split fits given in
    (f.0.1, (f.0.0, f.1))
found_split granularity key some bytes (Err fault) fits given = (tt, tt)

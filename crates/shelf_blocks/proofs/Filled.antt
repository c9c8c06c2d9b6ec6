-- Well-formed splits have a spelling, and blocks fit a slot.
use Rattle.std.proofs.Common.{◌≡◌, ℕ, zero, suc, ◌+◌, ◌-◌, ◌*◌, ◌/◌, ◌%◌, ◌<◌, ◌≤◌, List, [], ◌∷◌, ◌++◌, length, map, get_or, slice_index_or, refl, sym, ap, ◌∙◌, arith, length-append}
use Rattle.std.specs.List.{All, flat_map}
use Rattle.std.specs.Int.{cast_unsigned, w64, w128}
use Rattle.std.proofs.Math.Nat.{mod-add-div', mul_assoc, mul-mod_left, add-mul, lt_of_mul-lt-mul_right, le_of_mul-le-mul_right, mul-le-mul_right}
use Rattle.byteorder.specs.Endian.{big_bytes}
use Rattle.byteorder.specs.Numbers.{length-bytes_high_first}
use Rattle.series_model.specs.declared.measure.Measure.{Measure}
use Rattle.series_model.specs.declared.point.Point.{Point}
use Rattle.series_model.specs.declared.point.Split.{Split}
use Rattle.series_model.specs.Stored.{split_span}
use Rattle.series_model.proofs.Rising.{Above, Rises, Rises_from_rising}
use Rattle.gno_codec.specs.Blocks.{IsFilled, IsPlaced, point_bytes, raw_bytes, split_bytes}
use Rattle.gno_codec.specs.Incoming.{measure_bytes}
use Rattle.split_update.specs.Update.{IsInStretch, IsWellFormed}

-- a multiple is its quotient's
pub whole : (g at : ℕ) → at % g ≡ 0 → at ≡ at / g * g
whole g at none = let e = mod-add-div' at g in omega (arith, e, none)

-- a key is a multiple of the granularity
pub key_whole : (g key : ℕ) → key % split_span g ≡ 0 → key % g ≡ 0
key_whole g key none =
    let e : key ≡ key / split_span g * split_span g = whole (split_span g) key none in
    ap (λ n. n % g) (e ∙ sym (mul_assoc (key / split_span g) 3600 g)) ∙ mul-mod_left (key / split_span g * 3600) g

placed : (g key : ℕ) (p : Point) → 0 < g → key % split_span g ≡ 0 → IsInStretch g key p → IsPlaced g key p
placed g key p wide none there =
    let at_is = whole g p.at there.multiple in
    let key_is = whole g key (key_whole g key none) in
    let low : key / g ≤ p.at / g = le_of_mul-le-mul_right {m = key / g} {n = p.at / g} {k = g} (let from = there.from in omega (arith, at_is, key_is, from)) wide in
    let split : p.at / g ≡ key / g + (p.at / g - key / g) = omega (arith, low) in
    let apart : p.at / g * g ≡ key / g * g + (p.at / g - key / g) * g = ap (λ n. n * g) split ∙ add-mul (key / g) (p.at / g - key / g) g in
    record {
      position = p.at / g - key / g;
      within = lt_of_mul-lt-mul_right g {m = p.at / g - key / g} {n = 3600} (let until = there.until in omega (arith, until, at_is, key_is, apart));
      bucket = omega (arith, at_is, key_is, apart);
    }

above_at : (x : ℕ) (ps : List Point) → Above x (map (λ p. p.at) ps) → (k : ℕ) (d : Point) → k < length ps → x < (get_or ps k d).at
above_at x [] above k d lt = absurd (omega (arith, lt))
above_at x (p ∷ ps) above zero d lt = above.0
above_at x (p ∷ ps) above (suc k) d lt = above_at x ps above.1 k d (omega (arith, lt))

-- multiples that rise within a stretch are as many as it has buckets, or fewer
few_upto : (g lo hi : ℕ) (ps : List Point) → 0 < g → Rises (map (λ p. p.at) ps) → All (λ p. (p.at % g ≡ 0) × ((lo * g ≤ p.at) × (p.at < hi * g))) ps → length ps ≤ hi - lo
few_upto g lo hi [] wide rises all = omega arith
few_upto g lo hi (p ∷ ps) wide rises all =
    let here = all 0 p (omega arith) in
    let at_is = whole g p.at here.0 in
    let below : p.at / g < hi = lt_of_mul-lt-mul_right g {m = p.at / g} {n = hi} (let b = here.1.1 in omega (arith, b, at_is)) in
    let from : lo ≤ p.at / g = le_of_mul-le-mul_right {m = lo} {n = p.at / g} {k = g} (let a = here.1.0 in omega (arith, a, at_is)) wide in
    let rest = few_upto g (p.at / g + 1) hi ps wide rises.1
    (λ k d lt.
    let q = get_or ps k d in
    let there = all (suc k) d (omega (arith, lt)) in
    let q_is = whole g q.at there.0 in
    let later = above_at p.at ps rises.0 k d lt in
    let more : p.at / g < q.at / g = lt_of_mul-lt-mul_right g {m = p.at / g} {n = q.at / g} (omega (arith, later, at_is, q_is)) in
    (there.0, (let up = mul-le-mul_right {m = p.at / g + 1} {n = q.at / g} g (omega (arith, more)) in omega (arith, up, q_is), there.1.1))) in
    omega (arith, rest, below, from)

-- a well-formed split has a spelling
pub filled : (g : ℕ) (split : Split) → 0 < g → IsWellFormed g split → IsFilled g split
filled g split wide is =
    let key_is = whole g split.key (key_whole g split.key is.key) in
    let long : (split.key / g + 3600) * g ≡ split.key / g * g + 3600 * g = add-mul (split.key / g) 3600 g in
    record {
      some = let s = is.some in omega (arith, s);
      few = (let f = few_upto g (split.key / g) (split.key / g + 3600) split.points wide (Rises_from_rising (map (λ p. p.at) split.points) is.rising)
          (λ k d lt. let there = is.placed k d lt in (there.multiple, (let from = there.from in omega (arith, key_is, from), let until = there.until in omega (arith, until, key_is, long)))) in omega (arith, f));
      placed = λ k d lt. placed g split.key (slice_index_or split.points k d) wide is.key (is.placed k d lt);
      rising = is.rising;
    }

-- ---- lengths

length-points : (g key : ℕ) (ps : List Point) → length (flat_map (point_bytes g key) ps) ≡ 26 * length ps
length-points g key [] = refl
length-points g key (p ∷ ps) =
    let front = big_bytes 2 ((p.at - key) / g) in
    let num = big_bytes 16 (cast_unsigned w128 p.value.num) in
    let den = big_bytes 8 p.value.den in
    let one : length (point_bytes g key p) ≡ 26 = omega (arith, length-append (front ++ num) den, length-append front num, length-bytes_high_first 2 ((p.at - key) / g), length-bytes_high_first 16 (cast_unsigned w128 p.value.num), length-bytes_high_first 8 p.value.den) in
    omega (arith, length-append (point_bytes g key p) (flat_map (point_bytes g key) ps), one, length-points g key ps)

pub length-split : (g : ℕ) (split : Split) → length (split_bytes g split) ≡ 2 + 26 * length split.points
length-split g split =
    omega (arith, length-append (big_bytes 2 (length split.points)) (flat_map (point_bytes g split.key) split.points), length-bytes_high_first 2 (length split.points), length-points g split.key split.points)

length-measures : (ms : List Measure) → length (flat_map measure_bytes ms) ≡ 16 * length ms
length-measures [] = refl
length-measures (m ∷ ms) =
    let one : length (measure_bytes m) ≡ 16 = omega (arith, length-append (big_bytes 8 m.at) (big_bytes 8 (cast_unsigned w64 m.value)), length-bytes_high_first 8 m.at, length-bytes_high_first 8 (cast_unsigned w64 m.value)) in
    omega (arith, length-append (measure_bytes m) (flat_map measure_bytes ms), one, length-measures ms)

pub length-raw : (ms : List Measure) → length (raw_bytes ms) ≡ 2 + 16 * length ms
length-raw ms = omega (arith, length-append (big_bytes 2 (length ms)) (flat_map measure_bytes ms), length-bytes_high_first 2 (length ms), length-measures ms)

-- A field that is read is the field that was written, and what was written is read again.
use Rattle.std.proofs.Common.{◌≡◌, ℕ, zero, suc, ◌+◌, ◌*◌, ◌/◌, ◌%◌, ◌^◌, ◌<◌, ◌≤◌, Bool, true, false, cond, ltb, List, [], ◌∷◌, ◌++◌, length, take, drop, Ok, Err, ℤ, refl, sym, ap, subst, ◌∙◌, arith, inl, inr, lit<, pos, negsuc}
use Rattle.std.specs.Int.{Width, w64, w128, byte_len, byte_at, bytes_high_first, cast_signed, cast_unsigned}
use Rattle.std.specs.Prelude.{FitsSigned}
use Rattle.std.proofs.lemmas.Bool.{cases_lt, ltb-false, le-ltb}
use Rattle.std.proofs.lemmas.List.{take_at, drop_at, take-append-drop, append-nil, length-append, length-take, length-take-le, get_or-drop, get_or-take, get_or_past}
use Rattle.std.proofs.lemmas.Nat.{div-mul-add, pow-add}
use Rattle.std.proofs.lemmas.Int.{of_z-to_z, to_z-of_z}
use Rattle.std.proofs.Math.Facts.{sfits_to_z}
use Rattle.std.proofs.Math.Nat.{div-div-eq-div-mul, div-one, pow-suc, pow-succ', mul-add-div_right, mul-add-mod_self_right, mul_assoc}
use Rattle.byteorder.specs.Endian.{big_from, big_number, big_bytes}
use Rattle.byteorder.specs.Numbers.{big_from-cons, big_from-lt, big_number-reads_back, length-bytes_high_first}
use Rattle.gno_codec.specs.Reading.{Unread, then_at, done, bytes_at, number_at, signed_at}
use Rattle.gno_codec.proofs.Steps.{IsBytes, Takes, IsField, read_ok, ok_is}

-- ---- bytes

IsBytes-drop : (n : ℕ) (bytes : List ℕ) → IsBytes bytes → IsBytes (drop n bytes)
IsBytes-drop n bytes h i = rw get_or-drop (h (n + i))

IsBytes-take : (n : ℕ) (bytes : List ℕ) → IsBytes bytes → IsBytes (take n bytes)
IsBytes-take n bytes h i =
    elim (cases_lt i n) [
      | inl lt ↦ rw (get_or-take n bytes i 0 lt) (h i)
      | inr le ↦ rw (get_or_past (take n bytes) i 0 (omega (arith, length-take n bytes))) (omega arith)
    ]

-- a test that found enough bytes
enough : {A : Type 0} (b : Bool) (x y : A) (at : ℕ) → cond b (Err at) (Ok x) ≡ Ok y → (b ≡ false) × (x ≡ y)
enough true x y at e = absurd cc
enough false x y at e = (refl, cc)

bytes_takes : (n : ℕ) (from : Unread) (bytes : List ℕ) (to : Unread) → IsBytes from.rest → bytes_at n from ≡ Ok (bytes, to) → Takes from bytes to × (length bytes ≡ n) × IsBytes bytes
unfolding bytes_at
bytes_takes n from bytes to fits e =
    let made : List ℕ × Unread = (take n from.rest, record { at = from.at + n; rest = drop n from.rest }) in
    let g = enough (ltb (length from.rest) n) made (bytes, to) from.at e in
    let long : n ≤ length from.rest = ltb-false _ _ g.0 in
    let whole : Takes from made.0 made.1 = record { parts = sym (take-append-drop n from.rest); rest_fits = IsBytes-drop n from.rest fits } in
    subst (λ (y : List ℕ × Unread). Takes from y.0 y.1 × (length y.0 ≡ n) × IsBytes y.0) g.1 (whole, length-take-le n from.rest long, IsBytes-take n from.rest fits)

bytes_again : (n at : ℕ) (rest bytes : List ℕ) → length bytes ≡ n → bytes_at n (record { at = at; rest = bytes ++ rest }) ≡ Ok (bytes, record { at = at + n; rest = rest })
unfolding bytes_at
bytes_again n at rest bytes len =
    let long : ltb (length (bytes ++ rest)) n ≡ false = le-ltb _ _ (omega (arith, length-append bytes rest)) in
    rw (long, take_at bytes rest n len, drop_at bytes rest n len) refl

abbrev same_bytes : List ℕ → List ℕ
same_bytes bytes = bytes

pub bytes_field : (n : ℕ) → IsField (bytes_at n) same_bytes (λ bytes. (length bytes ≡ n) × IsBytes bytes)
bytes_field n = record {
  takes = λ from x to fits e. let t = bytes_takes n from x to fits e in (t.0, (t.1, t.2));
  again = λ at rest x has. (at + n, bytes_again n at rest x has.0);
}

-- ---- numbers

byte_at-div : (n x : ℕ) → byte_at n x ≡ x / 256 ^ n % 256
byte_at-div zero x = ap (λ (y : ℕ). y % 256) (sym (div-one x))
byte_at-div (suc n) x = refl

pow_256_pos : (n : ℕ) → 0 < 256 ^ n
pow_256_pos zero = lit< tt
pow_256_pos (suc n) = omega (arith, pow-suc 256 n, pow_256_pos n)

-- bytes above the lowest n change nothing
bytes_high_first-add : (n a r : ℕ) → bytes_high_first n (a * 256 ^ n + r) ≡ bytes_high_first n r
bytes_high_first-add zero a r = refl
bytes_high_first-add (suc n) a r =
    let p = 256 ^ n in
    let moved : a * 256 ^ suc n + r ≡ (a * 256) * p + r = ap (λ (k : ℕ). a * k + r) (pow-succ' 256 n) ∙ ap (λ (k : ℕ). k + r) (sym (mul_assoc a 256 p)) in
    let top : byte_at n ((a * 256) * p + r) ≡ byte_at n r = byte_at-div n _ ∙ ap (λ (k : ℕ). k % 256) (mul-add-div_right (pow_256_pos n) (a * 256) r) ∙ mul-add-mod_self_right a 256 (r / p) ∙ sym (byte_at-div n r) in
    ap (bytes_high_first (suc n)) moved ∙ ap (λ (b : ℕ). b ∷ bytes_high_first n ((a * 256) * p + r)) top
    ∙ ap (λ (bs : List ℕ). byte_at n r ∷ bs) (bytes_high_first-add n (a * 256) r)

-- the bytes of a number, as those of its two parts
bytes_high_first-parts : (m k n : ℕ) → bytes_high_first (m + k) n ≡ bytes_high_first m (n / 256 ^ k) ++ bytes_high_first k n
bytes_high_first-parts zero k n = let same : 0 + k ≡ k = omega arith in ap (λ (x : ℕ). bytes_high_first x n) same
bytes_high_first-parts (suc m) k n =
    let count : suc m + k ≡ suc (m + k) = omega arith in
    let top : byte_at (m + k) n ≡ byte_at m (n / 256 ^ k) = byte_at-div (m + k) n ∙ ap (λ (x : ℕ). x % 256) (down m k n) ∙ sym (byte_at-div m (n / 256 ^ k)) in
    ap (λ (x : ℕ). bytes_high_first x n) count ∙ ap (λ (b : ℕ). b ∷ bytes_high_first (m + k) n) top
    ∙ ap (λ (bs : List ℕ). byte_at m (n / 256 ^ k) ∷ bs) (bytes_high_first-parts m k n)
  where
    down : (m k n : ℕ) → n / 256 ^ (m + k) ≡ n / 256 ^ k / 256 ^ m
    down m k n =
        let turned : m + k ≡ k + m = omega arith in
        ap (λ (x : ℕ). n / 256 ^ x) turned ∙ ap (λ (x : ℕ). n / x) (pow-add 256 k m) ∙ sym (div-div-eq-div-mul n (256 ^ k) (256 ^ m))

-- a number of sixteen bytes, as its two halves
pub halves : (n : ℕ) → big_bytes 8 (n / 2 ^ 64) ++ big_bytes 8 (n % 2 ^ 64) ≡ big_bytes 16 n
halves n =
    let whole : n / 2 ^ 64 * 256 ^ 8 + n % 2 ^ 64 ≡ n = omega arith in
    let low : big_bytes 8 n ≡ big_bytes 8 (n % 2 ^ 64) = ap (big_bytes 8) (sym whole) ∙ bytes_high_first-add 8 (n / 2 ^ 64) (n % 2 ^ 64) in
    ap (λ (bs : List ℕ). big_bytes 8 (n / 2 ^ 64) ++ bs) (sym low) ∙ sym (bytes_high_first-parts 8 8 n)

IsBytes-rest : (b : ℕ) (bytes : List ℕ) → IsBytes (b ∷ bytes) → IsBytes bytes
IsBytes-rest b bytes h i = h (suc i)

-- the bytes of the number that bytes make
bytes_high_first-number : (bytes : List ℕ) → IsBytes bytes → bytes_high_first (length bytes) (big_from 0 (length bytes) bytes) ≡ bytes
bytes_high_first-number [] fits = refl
bytes_high_first-number (x ∷ bytes) fits =
    let n = length bytes in
    let p = 256 ^ n in
    let low = big_from 0 n bytes in
    let rest = IsBytes-rest x bytes fits in
    let moved : big_from 0 (suc n) (x ∷ bytes) ≡ x * p + low = ap (λ (k : ℕ). x * p + k) (big_from-cons 0 n x bytes) in
    let small : x < 256 = fits 0 in
    let low_byte : x % 256 ≡ x = omega arith in
    let top : byte_at n (x * p + low) ≡ x = byte_at-div n _ ∙ ap (λ (k : ℕ). k % 256) (div-mul-add x p low (big_from-lt 0 n bytes rest)) ∙ low_byte in
    ap (bytes_high_first (suc n)) moved ∙ ap (λ (b : ℕ). b ∷ bytes_high_first n (x * p + low)) top
    ∙ ap (λ (bs : List ℕ). x ∷ bs) (bytes_high_first-add n x low ∙ bytes_high_first-number bytes rest)

-- ---- numbers of so many bytes

number_takes : (n : ℕ) (from : Unread) (x : ℕ) (to : Unread) → IsBytes from.rest → number_at n from ≡ Ok (x, to) → Takes from (big_bytes n x) to × (x < 256 ^ n)
unfolding number_at then_at done
number_takes n from x to fits e =
    let b = read_ok (bytes_at n from) (λ bytes. done (big_number n bytes)) (x, to) e in
    let t = bytes_takes n from b.0.0 b.0.1 fits b.1 in
    let made : ℕ × Unread = (big_number n b.0.0, b.0.1) in
    let back : big_bytes n (big_number n b.0.0) ≡ b.0.0 = subst (λ (k : ℕ). bytes_high_first k (big_from 0 k b.0.0) ≡ b.0.0) t.1 (bytes_high_first-number b.0.0 t.2) in
    let whole : Takes from (big_bytes n made.0) made.1 = subst (λ (xs : List ℕ). Takes from xs b.0.1) (sym back) t.0 in
    subst (λ (y : ℕ × Unread). Takes from (big_bytes n y.0) y.1 × (y.0 < 256 ^ n)) (ok_is made (x, to) b.2) (whole, big_from-lt 0 n b.0.0 t.2)

number_again : (n at : ℕ) (rest : List ℕ) (x : ℕ) → x < 256 ^ n → number_at n (record { at = at; rest = big_bytes n x ++ rest }) ≡ Ok (x, record { at = at + n; rest = rest })
unfolding number_at then_at done
number_again n at rest x lt =
    let same : big_number n (big_bytes n x) ≡ x = ap (big_from 0 n) (sym (append-nil (big_bytes n x))) ∙ big_number-reads_back n x [] lt in
    rw (bytes_again n at rest (big_bytes n x) (length-bytes_high_first n x), same) refl

pub number_field : (n : ℕ) → IsField (number_at n) (big_bytes n) (λ x. x < 256 ^ n)
number_field n = record { takes = number_takes n; again = λ at rest x lt. (at + n, number_again n at rest x lt) }

-- a width, whose numbers are as many as its bytes can spell, and its two ways of reading them
pub record IsWhole (w : Width) : Type 0 where
  pub unsigned : (z : ℤ) → FitsSigned w z → cast_unsigned w z < 256 ^ byte_len w
  pub there : (n : ℕ) → n < 256 ^ byte_len w → cast_unsigned w (cast_signed w n) ≡ n
  pub fits : (n : ℕ) → n < 256 ^ byte_len w → FitsSigned w (cast_signed w n)

cast_unsigned-lt : (z : ℤ) → FitsSigned w64 z → cast_unsigned w64 z < 256 ^ 8
cast_unsigned-lt (pos n) fits = omega (arith, fits.sfits)
cast_unsigned-lt (negsuc n) fits = omega arith

pub whole_64 : IsWhole w64
whole_64 = record { unsigned = cast_unsigned-lt; there = of_z-to_z w64; fits = λ n lt. sfits_to_z (record { fits = lt }) }

cast_unsigned-lt_128 : (z : ℤ) → FitsSigned w128 z → cast_unsigned w128 z < 256 ^ 16
cast_unsigned-lt_128 (pos n) fits = omega (arith, fits.sfits)
cast_unsigned-lt_128 (negsuc n) fits = omega arith

pub whole_128 : IsWhole w128
whole_128 = record { unsigned = cast_unsigned-lt_128; there = of_z-to_z w128; fits = λ n lt. sfits_to_z (record { fits = lt }) }

module _ (w : Width) (is : IsWhole w) where
  signed_takes : (from : Unread) (z : ℤ) (to : Unread) → IsBytes from.rest → signed_at w from ≡ Ok (z, to) → Takes from (big_bytes (byte_len w) (cast_unsigned w z)) to × FitsSigned w z
  unfolding signed_at then_at done
  signed_takes from z to fits e =
      let n = byte_len w in
      let b = read_ok (number_at n from) (λ number. done (cast_signed w number)) (z, to) e in
      let t = number_takes n from b.0.0 b.0.1 fits b.1 in
      let made : ℤ × Unread = (cast_signed w b.0.0, b.0.1) in
      let whole : Takes from (big_bytes n (cast_unsigned w made.0)) made.1 = subst (λ (k : ℕ). Takes from (big_bytes n k) b.0.1) (sym (is.there b.0.0 t.1)) t.0 in
      subst (λ (y : ℤ × Unread). Takes from (big_bytes n (cast_unsigned w y.0)) y.1 × FitsSigned w y.0) (ok_is made (z, to) b.2) (whole, is.fits b.0.0 t.1)

  signed_again : (at : ℕ) (rest : List ℕ) (z : ℤ) → FitsSigned w z → signed_at w (record { at = at; rest = big_bytes (byte_len w) (cast_unsigned w z) ++ rest }) ≡ Ok (z, record { at = at + byte_len w; rest = rest })
  unfolding signed_at then_at done
  signed_again at rest z fits =
      rw (number_again (byte_len w) at rest (cast_unsigned w z) (is.unsigned z fits), to_z-of_z w z fits) refl

  pub signed_field : IsField (signed_at w) (λ z. big_bytes (byte_len w) (cast_unsigned w z)) (FitsSigned w)
  signed_field = record { takes = signed_takes; again = λ at rest z fits. (at + byte_len w, signed_again at rest z fits) }

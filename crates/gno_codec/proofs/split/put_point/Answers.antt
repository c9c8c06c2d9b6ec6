use Rattle.std.proofs.Common.{◌≡◌, ℕ, List, ◌<◌, ◌≤◌, ◌/◌, ◌%◌, ◌^◌, ◌++◌, append_assoc, ap, subst, ◌∙◌, arith}
use Rattle.std.specs.Prelude.{ℤ, unsigned_abs}
use Rattle.std.specs.Int.{cast_unsigned, w128}
use Rattle.std.proofs.lemmas.Int.{fits_signed_from_abs, to_z-of_z}
use Rattle.byteorder.specs.Endian.{big_bytes}
use Rattle.gno_codec.specs.Blocks.{position_of, point_bytes}
use Rattle.gno_codec.proofs.Fields.{halves}
use Rattle.gno_codec.proofs.split.put_point.Goals as goal

by_halves : (front back : List ℕ) (n : ℕ) → front ++ big_bytes 8 (n / 2 ^ 64) ++ big_bytes 8 (n % 2 ^ 64) ++ back ≡ front ++ big_bytes 16 n ++ back
by_halves front back n =
    ap (λ (bs : List ℕ). bs ++ back) (append_assoc front (big_bytes 8 (n / 2 ^ 64)) (big_bytes 8 (n % 2 ^ 64)) ∙ ap (λ (bs : List ℕ). front ++ bs) (halves n))

pub returns-clause-bytes : goal.returns-clause-bytes
returns-clause-bytes c =
    let p = c.args.point.now in
    let position = c.position_of-position.ensures.value in
    let same = to_z-of_z w128 c.num.result (fits_signed_from_abs w128 c.num.result (omega (arith, c.num.ensures.range))) in
    let num = c.cast_unsigned-num.ensures ∙ ap (cast_unsigned w128) (same ∙ c.num.ensures.value) in
    let bytes : ℕ → ℕ → ℕ → ℕ → List ℕ = λ place high low den. big_bytes 2 place ++ big_bytes 8 high ++ big_bytes 8 low ++ big_bytes 8 den in
    let n = c.cast_unsigned-num.result in
    let filled : c.fill.new.bytes ≡ point_bytes c.args.granularity c.args.key p =
    c.fill.ensures ∙ ap (λ (x : ℕ). bytes x c.high_half.result c.low_half.result c.den.result) position
    ∙ ap (λ (x : ℕ). bytes (position_of c.args.granularity c.args.key p) x c.low_half.result c.den.result) c.high_half.ensures
    ∙ ap (λ (x : ℕ). bytes (position_of c.args.granularity c.args.key p) (n / 2 ^ 64) x c.den.result) c.low_half.ensures
    ∙ ap (λ (x : ℕ). bytes (position_of c.args.granularity c.args.key p) (n / 2 ^ 64) (n % 2 ^ 64) x) c.den.ensures.value
    ∙ by_halves (big_bytes 2 (position_of c.args.granularity c.args.key p)) (big_bytes 8 p.value.den) n
    ∙ ap (λ (x : ℕ). big_bytes 2 (position_of c.args.granularity c.args.key p) ++ big_bytes 16 x ++ big_bytes 8 p.value.den) num in
    c.in_ok-extend_from_slice.ensures.items ∙ ap (λ (bs : List ℕ). c.args.out.now.items ++ bs) filled

pub returns-clause-is : goal.returns-clause-is
returns-clause-is c = record {
  placed = c.requires;
  time = c.position_of-position.ensures.time;
  value = record {
    above = subst (λ (n : ℕ). 0 < n) c.den.ensures.value c.den.ensures.range;
    small = subst (λ (z : ℤ). unsigned_abs z ≤ 10 ^ 38) c.num.ensures.value c.num.ensures.range;
  };
  den = subst (λ (n : ℕ). n < 2 ^ 64) c.den.ensures.value (omega (arith, c.den.type_inv));
}

use Rattle.std.proofs.Common.{◌≡◌, ℕ, List, ◌++◌, ap, ◌∙◌, w64, arith}
use Rattle.std.proofs.lemmas.Int.{fits_signed_from_abs, to_z-of_z}
use Rattle.std.specs.Int.{cast_unsigned}
use Rattle.byteorder.specs.Endian.{big_bytes}
use Rattle.gno_codec.specs.Incoming.{measure_bytes}
use Rattle.gno_codec.proofs.incoming.put_measure.Goals as goal

pub returns-clause-bytes : goal.returns-clause-bytes
returns-clause-bytes c =
    let m = c.args.measure.now in
    let same = to_z-of_z w64 c.units.result (fits_signed_from_abs w64 c.units.result (omega (arith, c.units.ensures.range))) in
    let units = c.cast_unsigned.ensures ∙ ap (cast_unsigned w64) (same ∙ c.units.ensures.value) in
    let filled : c.fill.new.bytes ≡ measure_bytes m =
    c.fill.ensures ∙ ap (λ (n : ℕ). big_bytes 8 n ++ big_bytes 8 c.cast_unsigned.result) c.nanos.ensures.value
    ∙ ap (λ (n : ℕ). big_bytes 8 m.at ++ big_bytes 8 n) units in
    c.in_ok-extend_from_slice.ensures.items ∙ ap (λ (bs : List ℕ). c.args.out.now.items ++ bs) filled

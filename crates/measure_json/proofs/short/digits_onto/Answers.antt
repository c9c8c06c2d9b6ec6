use Rattle.std.proofs.Common.{◌≡◌, ◌+◌, ◌-◌, ◌*◌, ◌^◌, true, [], ◌∷◌, ◌++◌, take, get_or, sym, ◌∙◌, arith}
use Rattle.std.specs.Char.{is_ascii_digit}
use Rattle.gno_num.proofs.RowLemmas.{all_ascii_digits-append}
use Rattle.gno_num.proofs.ScaleLemmas.{digit_range}
use Rattle.measure_json.proofs.ShortLemmas.{take-more, ten_fits, next_fits, digit_fits, next_number, one_digit}
use Rattle.measure_json.proofs.short.digits_onto.Goals as goal

pub overflow_mul-total : goal.overflow_mul-total
overflow_mul-total c =
    let most = ten_fits c.loop-count.total c.args.most c.loop-count.count c.loop-count-test.true c.loop-count.invariant.fits in
    omega (arith, most)

pub overflow_add-total : goal.overflow_add-total
overflow_add-total c =
    let most = ten_fits c.loop-count.total c.args.most c.loop-count.count c.loop-count-test.true c.loop-count.invariant.fits in
    let digit = digit_range (get_or c.args.text.now c.loop-count.count 0) (sym c.is_ascii_digit.ensures.value ∙ c.if-is_ascii_digit.true) in
    omega (arith, most, digit, c.from.ensures)

pub loop-count-preserved : goal.loop-count-preserved
loop-count-preserved c =
    let count = c.loop-count.count in
    let byte = get_or c.args.text.now count 0 in
    let is_digit : is_ascii_digit byte ≡ true = sym c.is_ascii_digit.ensures.value ∙ c.if-is_ascii_digit.true in
    let digit = digit_range byte is_digit in
    let row : take (count + 1) c.args.text.now ≡ take count c.args.text.now ++ (byte ∷ []) = take-more c.args.text.now count c.if-count-text.true in record {
      within = omega arith;
      few = omega arith;
      number = rw row (next_number c.args.number (take count c.args.text.now) byte c.loop-count.total c.from.result c.loop-count.invariant.number c.from.ensures);
      digits = rw row (all_ascii_digits-append (take count c.args.text.now) (byte ∷ []) c.loop-count.invariant.digits (one_digit byte is_digit));
      fits = digit_fits (10 * c.loop-count.total) c.from.result (10 ^ (c.args.most - (count + 1))) (2 ^ 64) (omega (arith, digit, c.from.ensures)) (next_fits c.loop-count.total c.args.most count c.loop-count-test.true c.loop-count.invariant.fits);
    }

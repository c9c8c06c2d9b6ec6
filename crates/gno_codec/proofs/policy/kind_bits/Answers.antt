use Rattle.std.proofs.Common.{◌≡◌, ℕ, ◌*◌, ◌%◌, ◌^◌, ◌<◌, ◌≤◌, ◌∙◌, ap, get_or, arith}
use Rattle.std.proofs.Math.Pow.{pow_mono}
use Rattle.std.proofs.lemmas.List.Sums.{sum_by_more, sum_by_more_le}
use Rattle.archive_policy.specs.declared.kind.Kind.{Kind}
use Rattle.archive_policy.specs.declared.kind.Kind.TheVariants.{Mean}
use Rattle.archive_policy.specs.Kinds.{kind_index}
use Rattle.gno_codec.proofs.KindBits.{bits_fit}
use Rattle.gno_codec.proofs.policy.kind_bits.Goals as goal

shifted : (k : ℕ) → k < 16 → 1 * 2 ^ k % 65536 ≡ 2 ^ k
shifted k lt = let le : k ≤ 15 = omega (arith, lt) in let p : 2 ^ k ≤ 2 ^ 15 = pow_mono le in small (2 ^ k) p
  where
    small : (p : ℕ) → p ≤ 2 ^ 15 → 1 * p % 65536 ≡ p
    small p le = omega arith

-- the bit of the kind at a place
own_bit : (k i : ℕ) → k < 16 → k ≡ i → 1 * 2 ^ k % 65536 ≡ 2 ^ i
own_bit k i lt e = shifted k lt ∙ ap (λ (n : ℕ). 2 ^ n) e

pub overflow_add-bits : goal.overflow_add-bits
overflow_add-bits c =
    let kinds = c.args.kinds.now in
    let i = c.loop-kind.kind-index in
    let own = own_bit c.index.result (kind_index (get_or kinds i Mean)) c.index.ensures.range c.index.ensures.place in
    let most = sum_by_more_le (λ (k : Kind). 2 ^ kind_index k) kinds i Mean c.loop-kind-test.true in
    let fit = bits_fit kinds c.requires in
    let so_far = c.loop-kind.invariant in
    record { fits = omega (arith, own, most, fit, so_far) }

pub loop-kind-preserved : goal.loop-kind-preserved
loop-kind-preserved c =
    let kinds = c.args.kinds.now in
    let i = c.loop-kind.kind-index in
    let own = own_bit c.index.result (kind_index (get_or kinds i Mean)) c.index.ensures.range c.index.ensures.place in
    let more = sum_by_more (λ (k : Kind). 2 ^ kind_index k) kinds i Mean c.loop-kind-test.true in
    let so_far = c.loop-kind.invariant in
    omega (arith, own, more, so_far)

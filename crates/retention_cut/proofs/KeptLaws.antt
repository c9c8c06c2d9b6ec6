-- What the oldest point and the oldest key are.
use Rattle.std.proofs.Common.{◌≡◌, ℕ, ◌+◌, ◌-◌, ◌*◌, ◌/◌, ◌%◌, ◌<◌, ◌≤◌, min, sym, ap, ◌∙◌, arith}
use Rattle.std.proofs.Math.Nat.{mul-div_cancel, mul-mod_left, mul-sub, mul_comm}
use Rattle.archive_policy.specs.declared.definition.Definition.{Definition}
use Rattle.series_model.specs.Answer.{oldest_point_of}
use Rattle.series_model.specs.Stored.{oldest_key_of, split_span}
use Rattle.series_model.proofs.PointLaws.{floor-above, floor-le, floor-multiple}
use Rattle.retention_cut.specs.Kept.{HoldsTime, bucket_count}

-- a multiple less another one
sub-mul : (m n k : ℕ) → m * k - n * k ≡ (m - n) * k
sub-mul m n k =
    ap (λ x. x - n * k) (mul_comm m k) ∙ ap (λ x. k * m - x) (mul_comm n k) ∙ sym (mul-sub k m n) ∙ mul_comm k (m - n)

-- the oldest point as a multiple
oldest-as : (last : ℕ) (d : Definition) → oldest_point_of last d ≡ (last / d.granularity - (d.points - 1)) * d.granularity
oldest-as last d = sub-mul (last / d.granularity) (d.points - 1) d.granularity

pub oldest-multiple : (last : ℕ) (d : Definition) → oldest_point_of last d % d.granularity ≡ 0
oldest-multiple last d =
    ap (λ x. x % d.granularity) (oldest-as last d) ∙ mul-mod_left (last / d.granularity - (d.points - 1)) d.granularity

pub oldest-early : (last : ℕ) (d : Definition) → oldest_point_of last d ≤ last
oldest-early last d = omega (arith, floor-le last d.granularity)

-- how many buckets there are from a multiple on
count-from : (last g m : ℕ) → 0 < g → bucket_count g (m * g) last ≡ last / g - m + 1
count-from last g m positive =
    ap (λ x. x / g + 1) (sub-mul (last / g) m g) ∙ ap (λ x. x + 1) (mul-div_cancel (last / g - m) positive)

pub buckets-kept : (last : ℕ) (d : Definition) → 1 ≤ d.points → 0 < d.granularity → bucket_count d.granularity (oldest_point_of last d) last ≡ min d.points (bucket_count d.granularity 0 last)
buckets-kept last d some positive =
    let g = d.granularity in
    let kept : bucket_count g (oldest_point_of last d) last ≡ last / g - (last / g - (d.points - 1)) + 1 =
    ap (λ from. bucket_count g from last) (oldest-as last d) ∙ count-from last g (last / g - (d.points - 1)) positive in
    let flat : last / g * g - 0 ≡ last / g * g = omega arith in
    let all : bucket_count g 0 last ≡ last / g + 1 = ap (λ x. x / g + 1) flat ∙ ap (λ x. x + 1) (mul-div_cancel (last / g) positive) in
    kept ∙ within (last / g) d.points some ∙ ap (λ n. min d.points n) (sym all)
  where
    within : (n points : ℕ) → 1 ≤ points → n - (n - (points - 1)) + 1 ≡ min points (n + 1)
    within n points some = omega arith

pub oldest-holds : (last : ℕ) (d : Definition) → 0 < d.granularity → HoldsTime d.granularity (oldest_key_of last d) (oldest_point_of last d)
oldest-holds last d positive =
    let at = oldest_point_of last d in
    let span = split_span d.granularity in
    let wide : 0 < span = omega arith in
    record {
      multiple = floor-multiple at span;
      from = floor-le at span;
      until = floor-above at span wide;
    }

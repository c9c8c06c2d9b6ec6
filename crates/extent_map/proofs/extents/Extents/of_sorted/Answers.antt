use Rattle.std.proofs.Common.{◌≡◌, ℕ, List, take, subst, arith}
use Rattle.std.proofs.lemmas.List.{take_all}
use Rattle.extent_map.proofs.UsedLemmas.{AreUsed, claimed_more}
use Rattle.extent_map.proofs.extents.Extents.of_sorted.Goals as goal

pub loop-range-preserved : goal.loop-range-preserved
loop-range-preserved c = (
  claimed_more c.args.used.now c.loop-range.range-index _ c.in_ok-_claimed._claimed c.loop-range.extents c.claim.new.self c.requires.disjoint (omega arith) c.loop-range.invariant.0 c.in_ok-_claimed.ensures.claimed c.in_ok-_claimed.ensures.refused,
  c.in_ok-_claimed.ensures.form,
)

pub returns-clause-used : goal.returns-clause-used
returns-clause-used c =
    let used = c.args.used.now in
    let all : take c.loop-range.range-index used ≡ used = take_all c.loop-range.range-index used (omega arith) in
    (subst (λ (ys : List (ℕ × ℕ)). AreUsed ys c.loop-range.extents) all c.loop-range.invariant.0).used

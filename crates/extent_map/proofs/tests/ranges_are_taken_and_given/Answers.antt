use Rattle.std.proofs.Common.{[], ◌∷◌, inl, refl, sym, subst, arith}
use Rattle.std.specs.List.{All, Any}
use Rattle.extent_map.specs.Ranges.{LiesIn, LiesOutside}
use Rattle.extent_map.proofs.tests.ranges_are_taken_and_given.Goals as goal

pub give-requires-clause-used : goal.give-requires-clause-used
give-requires-clause-used g c p here =
    let listed : Any (LiesIn p) ((0, 512) ∷ (1024, 256) ∷ []) = (0, (0, 512), omega arith, refl, here) in
    let first = (c.take-first.ensures.used.used p).1 (inl ((c.in_ok-extents.ensures.used p).1 listed)) in
    let second = (c.take-second.ensures.used.used p).1 (inl first) in
    (omega (arith, second.0, c.reserve.ensures.end), subst (All (LiesOutside p)) (sym c.reserve.ensures.free) second.1)

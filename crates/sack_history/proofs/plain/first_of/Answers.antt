use Rattle.std.proofs.Common.{sym, arith}
use Rattle.std.proofs.lemmas.List.{length-take-le, take_all}
use Rattle.sack_history.proofs.plain.first_of.Goals as goal

pub slice_bounds-result-end : goal.slice_bounds-result-end
slice_bounds-result-end c = sym (length-take-le _ c.args.numbers.now (omega arith))

pub returns-then-numbers-le-POSTS_PER_TURN : goal.returns-then-numbers-le-POSTS_PER_TURN
returns-then-numbers-le-POSTS_PER_TURN c = sym (take_all 64 c.args.numbers.now (omega arith))

use Rattle.std.proofs.Common.{◌≡◌, ◌++◌, take, drop}
use Rattle.split_store.specs.Writing.{tried_of}
use Rattle.split_store.proofs.write.tried.Given as goal

-- those so far are all within
abbrev pub invariant-loop-i : goal.invariant-loop-i
invariant-loop-i l = tried_of l.pieces ≡ take l.i l.pieces ++ tried_of (drop l.i l.pieces)

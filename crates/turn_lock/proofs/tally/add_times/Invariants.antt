use Rattle.std.proofs.Common.{◌≡◌, ◌++◌, replicate}
use Rattle.turn_lock.specs.History.{HasJust}
use Rattle.turn_lock.specs.Knowledge.{callers}
use Rattle.turn_lock.proofs.tally.add_times.Given as goal

abbrev pub invariant-loop-added : goal.invariant-loop-added
invariant-loop-added g l =
    (l.pass ≡ record l.fn.pass { seen = l.pass.seen; own = l.fn.pass.own ++ replicate l.added l.fn.number })
    × HasJust l.pass.seen (callers l.pass)

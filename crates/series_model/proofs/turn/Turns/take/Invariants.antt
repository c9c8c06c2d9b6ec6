use Rattle.std.proofs.Common.{◌≡◌, ◌++◌, take}
use Rattle.std.specs.List.{filter}
use Rattle.series_model.specs.Accepted.{is_within, latest, window}
use Rattle.series_model.proofs.turn.Turns.take.Given as goal

-- what was accepted of the measures so far
abbrev pub invariant-loop-m : goal.invariant-loop-m
invariant-loop-m l = record {
  window : l.window ≡ window l.fn.largest l.fn.back_window (latest l.fn.self);
  added : l.self ≡ l.fn.self ++ filter (is_within l.window) (take l.m-index l.batch);
}

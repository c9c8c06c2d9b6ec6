use Rattle.std.proofs.Common.{◌≡◌, length}
use Rattle.front_api.specs.Seen.{LeadsTo}
use Rattle.front.specs.SoloView.{StandsForBooks}
use Rattle.front.proofs.Draining.{AreDrained}
use Rattle.front.proofs.solo.Solo.drain_all.Given as goal

-- the sacks before this one are drained, and nothing else has changed
abbrev pub invariant-sacks : goal.invariant-sacks
invariant-sacks g l = record {
  same : l.self ≡ record l.fn.self { sacks = l.self.sacks };
  as_many : length l.self.sacks ≡ length l.fn.self.sacks;
  drained : LeadsTo (StandsForBooks g.D.Disk) l.fn.self l.self (AreDrained l.sack l.turns);
}

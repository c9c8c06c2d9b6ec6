use Rattle.std.proofs.Common.{◌+◌, refl, ◌∙◌, arith}
use Rattle.front.specs.SoloView.{StandsForBooks}
use Rattle.front.proofs.Draining.{drained_all, drained_more, drained_none, drained_refused, sacks_alone}
use Rattle.front.proofs.solo.Solo.drain_all.Goals as goal

pub sacks-init : goal.sacks-init
sacks-init g c = record { same = refl; as_many = refl; drained = drained_none (StandsForBooks g.D.Disk) c.args.self.now }

pub drain_in-requires : goal.drain_in-requires
drain_in-requires g c = omega (arith, c.sacks-test.true, c.sack_count-sack-end.ensures, c.sacks.invariant.as_many)

pub returns-in-Err-clause-drains : goal.returns-in-Err-clause-drains
returns-in-Err-clause-drains g c =
    drained_refused (StandsForBooks g.D.Disk) c.args.self.now c.sacks.self c.drain_in.new.self c.sacks.sack c.sacks.turns c.drain_in.result c.sacks.invariant.drained c.drain_in.ensures.drains c.in-Err.fault c.in-Err.is

pub returns-in-Err-clause-same : goal.returns-in-Err-clause-same
returns-in-Err-clause-same g c = sacks_alone g.D.Disk c.args.self.now c.sacks.self c.drain_in.new.self c.sacks.invariant.same c.drain_in.ensures.same

pub returns-in-Err-clause-as_many : goal.returns-in-Err-clause-as_many
returns-in-Err-clause-as_many g c = c.drain_in.ensures.as_many ∙ c.sacks.invariant.as_many

pub sacks-preserved : goal.sacks-preserved
sacks-preserved g c = record {
  same = sacks_alone g.D.Disk c.args.self.now c.sacks.self c.drain_in.new.self c.sacks.invariant.same c.drain_in.ensures.same;
  as_many = c.drain_in.ensures.as_many ∙ c.sacks.invariant.as_many;
  drained = drained_more (StandsForBooks g.D.Disk) c.args.self.now c.sacks.self c.drain_in.new.self c.sacks.sack c.sacks.turns c.drain_in.result c.sacks.invariant.drained c.drain_in.ensures.drains
      c.in-Ok.more (c.sacks.sack + 1) c.saturating_add-turns.result c.in-Ok.is refl (omega (arith, c.saturating_add-turns.ensures));
}

pub returns-clause-drains : goal.returns-clause-drains
returns-clause-drains g c =
    drained_all g.D.Disk c.args.self.now c.sacks.self c.sacks.sack c.sacks.turns c.sacks.invariant.drained
    (omega (arith, c.sacks-test.false, c.sack_count-sack-end.ensures, c.sacks.invariant.as_many, c.sacks.auto.sack-end))

pub returns-clause-same : goal.returns-clause-same
returns-clause-same g c = c.sacks.invariant.same

pub returns-clause-as_many : goal.returns-clause-as_many
returns-clause-as_many g c = c.sacks.invariant.as_many

use Rattle.std.proofs.Common.{Err, sym, subst, ◌∙◌}
use Rattle.front_api.specs.Calls.{IsApplied}
use Rattle.front_api.specs.Front.{Controls}
use Rattle.front_api.specs.Seen.{EntersIndex, LeadsTo}
use Rattle.front_api.specs.declared.command.Command.{Command}
use Rattle.front.specs.SoloView.{StandsForBooks}
use Rattle.front.proofs.Adding.{asked_then, not_dropped}
use Rattle.front.proofs.solo.Solo.drop_metric.Goals as goal

pub returns-in-Some-clause-controls : goal.returns-in-Some-clause-controls
returns-in-Some-clause-controls g c =
    subst (λ (command : Command). LeadsTo (StandsForBooks g.D.Disk) c.args.self.now c.drop_in_sack-dropping.new.self (Controls command (Err c.in-Some.fault))) (sym c.requires)
    (not_dropped (StandsForBooks g.D.Disk) c.args.self.now c.drop_in_sack-dropping.new.self c.args.metric c.drop_in_sack-dropping.result c.in-Some.fault (sym c.dropping_refused.ensures ∙ c.in-Some.is) c.drop_in_sack-dropping.ensures.drops)

pub returns-in-None-clause-controls : goal.returns-in-None-clause-controls
returns-in-None-clause-controls g c =
    subst (λ (command : Command). LeadsTo (StandsForBooks g.D.Disk) c.args.self.now c.ask_index.new.self (Controls command c.ask_index.result)) (sym c.requires)
    (asked_then (StandsForBooks g.D.Disk) c.args.self.now c.drop_in_sack-dropping.new.self c.ask_index.new.self c.args.metric c.drop_in_sack-dropping.result c.ask_index.result (sym c.dropping_refused.ensures ∙ c.in-None.is)
    c.drop_in_sack-dropping.ensures.drops
    (subst (λ (command : Command). LeadsTo (StandsForBooks g.D.Disk) c.drop_in_sack-dropping.new.self c.ask_index.new.self (EntersIndex (IsApplied command) c.ask_index.result)) c.requires c.ask_index.ensures.controls))

use Rattle.std.proofs.Common.{Err, sym, subst}
use Rattle.front_api.specs.Front.{Controls}
use Rattle.front_api.specs.Seen.{LeadsTo}
use Rattle.front_api.specs.declared.fault.ControlFault.{ControlFault}
use Rattle.front.specs.SoloView.{StandsForBooks}
use Rattle.front.proofs.Adding.{metric_added, refused_by_memory, refused_in_index, refused_in_sack}
use Rattle.front.proofs.solo.Solo.add_metric.Goals as goal

pub returns-in-Err-clause-controls : goal.returns-in-Err-clause-controls
returns-in-Err-clause-controls g c = refused_in_index (StandsForBooks g.D.Disk) c.args.command.now c.requires.adds c.args.self.now c.begin.new.self c.in-Err.fault c.in-Err.ensures.begins

pub returns-in_default-clause-controls : goal.returns-in_default-clause-controls
returns-in_default-clause-controls g c = refused_by_memory (StandsForBooks g.D.Disk) c.args.command.now c.requires.adds c.args.self.now c.begin.new.self c.in-Ok.begun c.in-Ok.ensures.begins

pub returns-in-Ok-create_in_sack-clause-controls : goal.returns-in-Ok-create_in_sack-clause-controls
returns-in-Ok-create_in_sack-clause-controls g c =
    metric_added (StandsForBooks g.D.Disk) c.args.command.now c.requires.adds c.args.self.now c.begin.new.self c.create_in_sack.new.self c.add_document.new.self c.in-Ok.begun c.in-Ok-new_metric.metric.doc c.add_document.result
    c.in-Ok-new_metric.ensures.doc c.in-Ok.ensures.begins c.in-Ok-create_in_sack.ensures.creates c.add_document.ensures.adds

pub returns-clause-controls : goal.returns-clause-controls
returns-clause-controls g c =
    subst (λ (f : ControlFault). LeadsTo (StandsForBooks g.D.Disk) c.args.self.now c.create_in_sack.new.self (Controls c.args.command.now (Err f))) (sym c.creating_refused.ensures)
    (refused_in_sack (StandsForBooks g.D.Disk) c.args.command.now c.requires.adds c.args.self.now c.begin.new.self c.create_in_sack.new.self c.in-Ok.begun c.in-Err-create_in_sack.fault c.in-Ok.ensures.begins c.in-Err-create_in_sack.ensures.creates)

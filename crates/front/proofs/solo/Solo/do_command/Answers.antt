use Rattle.std.proofs.Common.{List, length, sym, ap, ◌∙◌}
use Rattle.sack_state.specs.SackView.{SackView}
use Rattle.front.specs.SoloView.{SoloView, StandsForBooks}
use Rattle.front.proofs.Adding.{done_by_index}
use Rattle.front.proofs.solo.Solo.do_command.Goals as goal

pub returns-in_default : goal.returns-in_default
returns-in_default g c =
    let new = c.ask_index.new.self in
    let sacks = ap (λ (v : SoloView _). v.sacks) c.ask_index.ensures.same in
    record {
      controls = done_by_index (StandsForBooks g.D.Disk) c.args.self.now new c.args.command.now c.ask_index.result c.in_default.not-AddMetric c.in_default.not-DropMetric c.ask_index.ensures.controls;
      same = c.ask_index.ensures.same ∙ ap (λ (s : List (SackView _)). record c.args.self.now { index = new.index; sacks = s }) (sym sacks);
      as_many = ap (λ (s : List (SackView _)). length s) sacks;
    }

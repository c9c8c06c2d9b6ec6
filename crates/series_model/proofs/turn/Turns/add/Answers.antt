use Rattle.std.proofs.Common.{Some, sym, ap, ◌∙◌}
use Rattle.series_model.specs.Accepted.{later, latest}
use Rattle.series_model.proofs.Latest.{latest-push}
use Rattle.series_model.proofs.turn.Turns.add.Goals as goal

pub invariant_of-self-2 : goal.invariant_of-self-2
invariant_of-self-2 c =
    let m = c.args.m in
    ap Some (c.later_of-last.ensures ∙ ap (later m.at) c.self.invariant) ∙ sym (latest-push c.self.inside.accepted.items m) ∙ ap latest (sym c.in_ok-push.ensures.items)

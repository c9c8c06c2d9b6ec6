use Rattle.std.proofs.Common.{◌-◌, ◌≤◌, ap, drop, ◌∙◌, length, arith}
use Rattle.http_conn.proofs.WindowLemmas.{skipped, length-part}
use Rattle.rest_script.proofs.window.Window.skip.Goals as goal

pub returns : goal.returns
returns c =
    let w = c.self.inside in
    let few : c.args.count ≤ w.end - w.start =
    omega (arith, length-part w.room.items w.start w.end c.self.invariant.0 (omega arith), ap length c.self.view_is) in
    skipped w.room.items w.start w.end c.args.count few ∙ ap (drop c.args.count) c.self.view_is

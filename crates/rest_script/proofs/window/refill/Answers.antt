use Rattle.std.proofs.Common.{◌-◌, ◌≤◌, ℕ, length, arith}
use Rattle.http_conn.proofs.WindowLemmas.{refilled}
use Rattle.rest_script.proofs.window.refill.Goals as goal

pub returns-clause-taken : goal.returns-clause-taken
returns-clause-taken g c =
    let room = c.pack.new.room in
    let held : ℕ = c.args.end - c.args.start in
    let inside : held ≤ length room = omega (arith, c.pack.auto.room) in
    refilled _ _ c.take.result room c.take.new.out _ _ held _ inside c.pack.ensures c.take.auto.out c.take.ensures.count c.take.ensures.bytes

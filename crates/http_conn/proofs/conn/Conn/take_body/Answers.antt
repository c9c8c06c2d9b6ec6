use Rattle.std.proofs.Common.{◌≡◌, ◌+◌, length, take, refl, ap, subst, arith, length-take}
use Rattle.http_conn.specs.Bytes.{Held, GivesOut}
use Rattle.http_conn.proofs.InputLemmas.{gives_up}
use Rattle.http_conn.proofs.conn.Conn.take_body.Goals as goal

pub returns-in-Some-clause-dropped : goal.returns-in-Some-clause-dropped
returns-in-Some-clause-dropped g c =
    let window = c.self.inside.window in
    let held = c.min-held.result in
    let reading = c.fill-reading in
    let out = reading.new.out in
    let front = take held c.bytes.result.now in
    let short = rw c.in-Some.is at reading.ensures.short in
    let bytes : length c.bytes.result.now ≡ length window = ap length c.bytes.ensures.bytes in
    let room : length out ≡ length c.deref_mut.result.now = reading.auto.out in
    let len : length front ≡ held = omega (arith, length-take held c.bytes.result.now, bytes, c.min-held.ensures, c.len.ensures.len) in
    let all : held ≡ length window = omega (arith, len, short, room, c.deref_mut.ensures.len, c.len-2.ensures, c.min-held.ensures, c.len.ensures.len) in
    let there = gives_up (record { bytes = window; given = c.self.inside.given }) (record { bytes = c.skip.new.self; given = c.self.inside.given + (held + reading.result.count) })
    (g.S.Source.left c.args.source.now) (g.S.Source.left reading.new.source) held reading.result.count front out
    reading.ensures.taken reading.ensures.room len c.skip.ensures refl all in (
      there.0,
      subst (λ (s : Held). GivesOut s (record { bytes = c.skip.new.self; given = c.self.inside.given + (held + reading.result.count) }) (g.S.Source.left c.args.source.now) (g.S.Source.left reading.new.source) there.0) c.self.view_is there.1,
    )

use Rattle.std.proofs.Common.{◌≡◌, ◌∙◌, length, ap, arith, subst, sym}
use Rattle.http_conn.specs.Bytes.{Held}
use Rattle.rest_script.proofs.LineLemmas.{NoFeed, long_of, part_of}
use Rattle.rest_script.proofs.ReaderLemmas.{no_bytes, nothing_more}
use Rattle.rest_script.proofs.line_reader.LineReader.take_more.Goals as goal
use Rattle.rest_script.proofs.line_reader.LineReader.take_more.Goals.{in-Ok-eq0, in-Ok-eq0-2, in-Ok, in-Err}

pub returns-then-held-eq-ROOM-clause-end : goal.returns-then-held-eq-ROOM-clause-end
returns-then-held-eq-ROOM-clause-end g c =
    long_of c.args.self.now.bytes (omega (arith, c.if-held-eq-ROOM.true, c.len-held.ensures.len, ap (λ (s : Held). length s.bytes) c.self.view_is)) c.requires.open

pub returns-clause-end : goal.returns-clause-end
returns-clause-end g c =
    let window = c.self.inside.window in
    let none : NoFeed window = subst (λ (s : Held). NoFeed s.bytes) (sym c.self.view_is) c.requires.open in
    let len = c.len-held.ensures.len in
    let most = c.len-held.ensures.most in
    elim c.match-take_from.branch [
      | in-Ok-eq0 w ↦
          let said = w.in-Ok-eq0.ensures in
          let same : c.take_from.new.self ≡ window = nothing_more window c.take_from.new.self said.taken.0 w.in-Ok-eq0.field-0 said.taken.1 w.in-Ok-eq0.field-0-test said.taken.3 in
          rw w.result-is (same ∙ no_bytes window (sym len ∙ w.if-held-eq0.true), said.end w.in-Ok-eq0.field-0-test)
      | in-Ok-eq0-2 w ↦
          let said = w.in-Ok-eq0.ensures in
          let same : c.take_from.new.self ≡ window = nothing_more window c.take_from.new.self said.taken.0 w.in-Ok-eq0.field-0 said.taken.1 w.in-Ok-eq0.field-0-test said.taken.3 in
          rw w.result-is (rw same (part_of window (omega (arith, len, most, c.if-held-eq-ROOM.false)) none, omega (arith, len, w.if-held-eq0.false), said.end w.in-Ok-eq0.field-0-test))
      | in-Ok w ↦ rw w.result-is tt
      | in-Err w ↦ rw w.result-is (rw w.in-Err.ensures.unchanged (part_of window (omega (arith, len, most, c.if-held-eq-ROOM.false)) none))
    ]

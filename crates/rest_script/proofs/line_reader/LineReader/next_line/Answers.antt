use Rattle.std.proofs.Common.{ℕ, List, ◌≡◌, ◌∙◌, length, ap, arith, subst}
use Rattle.http_conn.specs.Bytes.{Held}
use Rattle.rest_script.proofs.LineLemmas.{EndsAt, line_of}
use Rattle.rest_script.proofs.line_reader.LineReader.next_line.Goals as goal

pub returns-in-Some-clause-line : goal.returns-in-Some-clause-line
returns-in-Some-clause-line g c =
    let same : c.bytes-held.result.now ≡ c.pieces.self.bytes = c.bytes-held.ensures.bytes ∙ ap (λ (s : Held). s.bytes) c.self.view_is in
    let there = subst (λ (l : List ℕ). EndsAt l c.in-Some.at) same c.in-Some.ensures in
    line_of c.pieces.self.bytes c.in-Some.at
    (omega (arith, there.0, c.bytes-held.ensures.most, ap (λ (s : Held). length s.bytes) c.self.view_is)) there

use Rattle.std.proofs.Common.{◌≢◌, ◌-◌, ◌≤◌, [], length, take, All}
use Rattle.http_conn.specs.Bytes.{GivesOut}
use Rattle.rest_script.proofs.line_reader.LineReader.next_line.Given as goal

-- so much was taken, and is held, and no line ends in what was searched
abbrev pub invariant-pieces : goal.invariant-pieces
invariant-pieces g l = record {
  held : GivesOut l.fn.self l.self (g.S.Source.left l.fn.source) (g.S.Source.left l.source) [];
  fits : l.searched ≤ length l.self.bytes;
  none_yet : All (λ b. b ≢ 10) (take l.searched l.self.bytes);
  later : g.S.Source.faults l.fn.source ≤ g.S.Source.faults l.source;
}

abbrev pub decreases-pieces : goal.decreases-pieces
decreases-pieces g l = 1048577 - length l.self.bytes

use Rattle.std.proofs.Common.{◌≡◌, ◌-◌, ◌≤◌, [], length}
use Rattle.http_conn.specs.Answer.{IsOpen, IsSparing}
use Rattle.http_conn.specs.Bytes.{GivesOut}
use Rattle.http_conn.proofs.conn.Conn.next_head.Given as goal

-- so much was taken, and is held
abbrev pub invariant-pieces : goal.invariant-pieces
invariant-pieces g l = record {
  held : GivesOut l.fn.self l.self (g.S.Source.left l.fn.source) (g.S.Source.left l.source) [];
  untouched : ¬ (IsOpen l.fn.self.bytes) → (l.source ≡ l.fn.source) × (l.self ≡ l.fn.self);
  sparing : IsSparing l.fn.self.bytes l.self.bytes;
  later : g.S.Source.faults l.fn.source ≤ g.S.Source.faults l.source;
}

abbrev pub decreases-pieces : goal.decreases-pieces
decreases-pieces g l = 16384 - length l.self.bytes

use Rattle.std.proofs.Common.{◌≡◌, ◌+◌, ◌≤◌, length}
use Rattle.http_conn.proofs.FieldLemmas.{values_from}
use Rattle.http_conn.proofs.fields.count_of.Given as goal

abbrev pub invariant-loop-header : goal.invariant-loop-header
invariant-loop-header l =
    (l.count ≤ l.header-index)
    × (l.count + length (values_from l.bytes l.name l.headers l.header-index) ≡ length (values_from l.bytes l.name l.headers 0))

use Rattle.std.proofs.Common.{◌≡◌}
use Rattle.http_conn.proofs.FieldLemmas.{values_from}
use Rattle.http_conn.proofs.fields.first_value.Given as goal

abbrev pub invariant-loop-header : goal.invariant-loop-header
invariant-loop-header l = values_from l.bytes l.name l.headers l.header-index ≡ values_from l.bytes l.name l.headers 0

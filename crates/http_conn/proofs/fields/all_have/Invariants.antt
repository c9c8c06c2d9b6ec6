use Rattle.std.proofs.Common.{◌≡◌}
use Rattle.http_conn.specs.Fields.{are_all}
use Rattle.http_conn.proofs.FieldLemmas.{values_from}
use Rattle.http_conn.proofs.fields.all_have.Given as goal

abbrev pub invariant-loop-header : goal.invariant-loop-header
invariant-loop-header l =
    are_all l.value (values_from l.bytes l.name l.headers l.header-index) ≡ are_all l.value (values_from l.bytes l.name l.headers 0)

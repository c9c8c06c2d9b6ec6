use Rattle.std.proofs.Common.{◌≡◌}
use Rattle.http_conn.specs.Fields.{any_has_member}
use Rattle.http_conn.proofs.FieldLemmas.{values_from}
use Rattle.http_conn.proofs.fields.any_has.Given as goal

abbrev pub invariant-loop-header : goal.invariant-loop-header
invariant-loop-header l =
    any_has_member l.word (values_from l.bytes l.name l.headers l.header-index) ≡ any_has_member l.word (values_from l.bytes l.name l.headers 0)

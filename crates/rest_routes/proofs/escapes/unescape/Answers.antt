use Rattle.std.proofs.Common.{rules, ◌≡◌, true, is_some, sym}
use Rattle.rest_routes.specs.Escapes.{unescaped}
use Rattle.rest_routes.proofs.EscapeLemmas.{unescaped-decode}
use Rattle.rest_routes.proofs.escapes.unescape.Goals as goal

pub returns-clause-ok : goal.returns-clause-ok
returns-clause-ok c =
    let whole : is_some (unescaped c.args.parameter.now) ≡ true = search rules in
    rw (c.in_ok-text.ensures.value, c.percent_decode.ensures.bytes, c.as_bytes-bytes.ensures.value)
    (sym (unescaped-decode c.args.parameter.now whole))

use Rattle.std.proofs.Common.{rules, arith}
use Rattle.std.proofs.lemmas.List.{take_rest}
use Rattle.rest_routes.proofs.EscapeLemmas.{whole-escape, broken-high, broken-low}
use Rattle.rest_routes.proofs.escapes.after_digits.Goals.{else-is_ascii_hexdigit-via-then-is_ascii_hexdigit+else-is_ascii_hexdigit-2, else-is_ascii_hexdigit-via-else-is_ascii_hexdigit}
use Rattle.rest_routes.proofs.escapes.after_digits.Goals as goal

pub returns-then-is_ascii_hexdigit-2-clause-whole : goal.returns-then-is_ascii_hexdigit-2-clause-whole
returns-then-is_ascii_hexdigit-2-clause-whole c =
    let text = c.args.text.now in
    rw (take_rest text 2) (whole-escape text (omega arith) (search rules) (search rules))

pub returns-else-is_ascii_hexdigit-clause-whole : goal.returns-else-is_ascii_hexdigit-clause-whole
returns-else-is_ascii_hexdigit-clause-whole c =
    let text = c.args.text.now in
    elim c.else-is_ascii_hexdigit.branch [
      | else-is_ascii_hexdigit-via-then-is_ascii_hexdigit+else-is_ascii_hexdigit-2 w ↦ broken-low text (search rules)
      | else-is_ascii_hexdigit-via-else-is_ascii_hexdigit w ↦ broken-high text (search rules)
    ]

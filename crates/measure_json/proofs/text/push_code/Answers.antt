use Rattle.std.proofs.Common.{rules, arith}
use Rattle.std.proofs.lemmas.Grind.{common_steps}
use Rattle.std.specs.Char.{encode_utf8}
use Rattle.measure_json.proofs.text.push_code.Goals as goal

pub returns-then-code-lt2048 : goal.returns-then-code-lt2048
unfolding encode_utf8
returns-then-code-lt2048 c = first_of (search rules, grind (arith, common_steps))

pub returns-then-code-lt65536 : goal.returns-then-code-lt65536
unfolding encode_utf8
returns-then-code-lt65536 c = first_of (search rules, grind (arith, common_steps))

pub returns-else-code-lt65536 : goal.returns-else-code-lt65536
unfolding encode_utf8
returns-else-code-lt65536 c = first_of (search rules, grind (arith, common_steps))

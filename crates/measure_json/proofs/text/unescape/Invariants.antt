use Rattle.std.proofs.Common.{◌≡◌, ◌-◌}
use Rattle.measure_json.specs.Fault.{with_front}
use Rattle.measure_json.specs.Text.{string_within, string_at}
use Rattle.measure_json.proofs.text.unescape.Given as goal

abbrev pub invariant-loop : goal.invariant-loop
invariant-loop l = with_front l.unescaped.items (string_within (l.len - l.counter) l.rest) ≡ string_at l.text

use Rattle.std.proofs.Common.{◌≡◌, ◌++◌, take}
use Rattle.json.specs.Print.{escape}
use Rattle.control_docs.proofs.texts.push_escaped.Given as goal

abbrev pub invariant-loop-byte : goal.invariant-loop-byte
invariant-loop-byte l = l.text.items ≡ l.initial.text.items ++ escape (take l.byte-index l.name)

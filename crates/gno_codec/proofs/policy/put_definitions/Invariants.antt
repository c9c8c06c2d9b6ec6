use Rattle.std.proofs.Common.{◌≡◌, ◌++◌, take}
use Rattle.std.specs.List.{flat_map}
use Rattle.gno_codec.specs.Policy.{definition_bytes}
use Rattle.gno_codec.proofs.policy.put_definitions.Given as goal

abbrev pub invariant-loop-definition : goal.invariant-loop-definition
invariant-loop-definition l =
    l.out.items ≡ l.initial.out.items ++ flat_map definition_bytes (take l.definition-index l.definitions)

use Rattle.std.proofs.Common.{ap, ◌∙◌, rules, ℕ}
use Rattle.byteorder.specs.Endian.{big_bytes}
use Rattle.gate_log.proofs.FindLemmas.{big_back}
use Rattle.gate_log.proofs.frame.length_of.Goals as goal

pub returns-clause-back : goal.returns-clause-back
returns-clause-back c = ap (λ (n : ℕ). big_bytes 8 n) c.read_u64.ensures ∙ big_back c.args.bytes.now c.requires (λ i. let fits = c.type_inv.bytes i in search rules)

use Rattle.std.proofs.Common.{arith}
use Rattle.gno_codec.specs.IndexReading.{index_of}
use Rattle.gno_codec.proofs.IndexRecords.{index_field}
use Rattle.gno_codec.proofs.Steps.{is_found, is_read, is_none}
use Rattle.gno_codec.proofs.index.read_index.Goals as goal

pub returns-clause-found : goal.returns-clause-found
unfolding index_of
returns-clause-found c = is_found index_field c.args.bytes.now c.read_all.result (λ i. omega (arith, c.type_inv.bytes i)) c.read_all.ensures

pub returns-clause-only : goal.returns-clause-only
unfolding index_of
returns-clause-only c = is_read index_field c.args.bytes.now c.read_all.result c.read_all.ensures

pub returns-clause-bad : goal.returns-clause-bad
unfolding index_of
returns-clause-bad c = is_none index_field c.args.bytes.now c.read_all.result c.read_all.ensures

use Rattle.std.proofs.Common.{arith}
use Rattle.gno_codec.specs.IncomingReading.{incoming_of}
use Rattle.gno_codec.proofs.Records.{incoming_field}
use Rattle.gno_codec.proofs.Steps.{is_found, is_read, is_none}
use Rattle.gno_codec.proofs.incoming.read_incoming.Goals as goal

pub returns-clause-found : goal.returns-clause-found
unfolding incoming_of
returns-clause-found c = is_found incoming_field c.args.bytes.now c.read_all.result (λ i. omega (arith, c.type_inv.bytes i)) c.read_all.ensures

pub returns-clause-only : goal.returns-clause-only
unfolding incoming_of
returns-clause-only c = is_read incoming_field c.args.bytes.now c.read_all.result c.read_all.ensures

pub returns-clause-bad : goal.returns-clause-bad
unfolding incoming_of
returns-clause-bad c = is_none incoming_field c.args.bytes.now c.read_all.result c.read_all.ensures

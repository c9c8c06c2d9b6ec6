use Rattle.std.proofs.Common.{arith}
use Rattle.gno_codec.specs.BlocksReading.{raw_of}
use Rattle.gno_codec.proofs.BlockRecords.{raw_field}
use Rattle.gno_codec.proofs.Steps.{is_found_as, is_read_as, is_none_as}
use Rattle.gno_codec.proofs.raw.read_raw.Goals as goal

pub returns-clause-found : goal.returns-clause-found
unfolding raw_of
returns-clause-found c = is_found_as raw_field _ c.args.bytes.now c.read_all.result (λ i. omega (arith, c.type_inv.bytes i)) c.read_all.ensures

pub returns-clause-only : goal.returns-clause-only
unfolding raw_of
returns-clause-only c = is_read_as raw_field _ c.args.bytes.now c.read_all.result c.read_all.ensures

pub returns-clause-bad : goal.returns-clause-bad
unfolding raw_of
returns-clause-bad c = is_none_as raw_field _ c.args.bytes.now c.read_all.result c.read_all.ensures

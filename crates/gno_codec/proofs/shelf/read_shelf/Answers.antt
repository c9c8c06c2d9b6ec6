use Rattle.std.proofs.Common.{arith}
use Rattle.gno_codec.specs.ShelfReading.{shelf_of}
use Rattle.gno_codec.proofs.ShelfRecords.{shelf_field}
use Rattle.gno_codec.proofs.Steps.{is_found, is_read, is_none}
use Rattle.gno_codec.proofs.shelf.read_shelf.Goals as goal

pub returns-clause-found : goal.returns-clause-found
unfolding shelf_of
returns-clause-found c = is_found shelf_field c.args.bytes.now c.read_all.result (λ i. omega (arith, c.type_inv.bytes i)) c.read_all.ensures

pub returns-clause-only : goal.returns-clause-only
unfolding shelf_of
returns-clause-only c = is_read shelf_field c.args.bytes.now c.read_all.result c.read_all.ensures

pub returns-clause-bad : goal.returns-clause-bad
unfolding shelf_of
returns-clause-bad c = is_none shelf_field c.args.bytes.now c.read_all.result c.read_all.ensures

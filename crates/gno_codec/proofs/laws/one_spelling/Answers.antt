use Rattle.std.proofs.Common.{refl, sym}
use Rattle.gno_codec.proofs.BlockRecords.{split_field, raw_field}
use Rattle.gno_codec.proofs.IndexRecords.{index_field}
use Rattle.gno_codec.proofs.Records.{incoming_field}
use Rattle.gno_codec.proofs.ShelfRecords.{shelf_field}
use Rattle.gno_codec.proofs.Steps.{one_spelling}
use Rattle.gno_codec.proofs.laws.one_spelling.Goals as goal

pub returns-clause-incoming : goal.returns-clause-incoming
returns-clause-incoming c = one_spelling incoming_field

pub returns-clause-shelf : goal.returns-clause-shelf
returns-clause-shelf c = one_spelling shelf_field

pub returns-clause-split : goal.returns-clause-split
returns-clause-split c = λ granularity x y some p q key e. one_spelling (split_field granularity x.key some) x y (p, refl) (q, sym key) e

pub returns-clause-raw : goal.returns-clause-raw
returns-clause-raw c = one_spelling raw_field

pub returns-clause-index : goal.returns-clause-index
returns-clause-index c = one_spelling index_field

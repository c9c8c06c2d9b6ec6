use Rattle.std.proofs.Common.{◌∙◌, sym}
use Rattle.std.proofs.lemmas.Option.{none-some}
use Rattle.gno_codec.proofs.KindBits.{kind_found, kind_missing}
use Rattle.gno_codec.proofs.ShelfRecords.{kind_read, kind_refused}
use Rattle.gno_codec.proofs.shelf.read_kind.Goals as goal

pub returns-in-Some : goal.returns-in-Some
returns-in-Some c =
    kind_read c.args.reader.now c.u8.new.self c.in_ok-place.place c.in-Some.kind c.in_ok-place.ensures (kind_found c.in_ok-place.place c.in-Some.kind ((c.of_index.ensures c.in-Some.kind).0 c.in-Some.is))

pub returns-in-None : goal.returns-in-None
returns-in-None c =
    rw c.at-at.ensures (kind_refused c.args.reader.now c.u8.new.self c.in_ok-place.place c.in_ok-place.ensures
    (kind_missing c.in_ok-place.place (λ kind e. none-some kind (sym c.in-None.is ∙ (c.of_index.ensures kind).1 e))))

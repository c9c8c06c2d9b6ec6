use Rattle.std.proofs.Common.{◌≡◌, refl, sym, ap, subst, ◌∙◌, length, arith}
use Rattle.std.proofs.lemmas.Option.{same_Some}
use Rattle.gno_codec.specs.declared.item.CommitItem.{CommitItem}
use Rattle.gno_codec.specs.declared.item.ShelfItem.TheVariants as items
use Rattle.gno_codec.specs.Shelf.{IsShelf, IsWritable, shelf_bytes}
use Rattle.shelf_records.specs.Shelved.{Shelved}
use Rattle.split_store.proofs.Readied.{turn_is}
use Rattle.split_store.proofs.turn.spelled_turn.Goals as goal

pub returns : goal.returns
returns c m found =
    let p = c.args.prepared.now in
    let same : c.requires.fit.metric ≡ m = same_Some c.requires.fit.metric m (sym c.requires.fit.live ∙ found) in
    let policy = subst (λ (x : Shelved). p.job.policy ≡ x.policy) same c.requires.fit.policy in
    let count = subst (λ (x : Shelved). length c.args.made.now ≡ length x.kept) same c.requires.fit.count in
    let item = c.in_ok-item.ensures.item ∙ c.item_of.ensures in
    let room = c.in_ok-buffer.ensures.capacity in
    turn_is m p c.args.made.now c.args.book.now.taken c.args.cut (c.requires.cut m found) policy count c.written_turn_is_held.ensures
    (record { pieces = c.args.cut.pieces; buffer = c.in_ok-buffer.buffer; body = c.in_ok-item.body; item = c.in_ok-item.item; series = c.args.cut.series })
    refl refl item (omega (arith, room)) (c.in_ok-item.ensures.body ∙ ap (λ (x : CommitItem). shelf_bytes (items.Commit x)) c.item_of.ensures)
    (subst (λ (x : CommitItem). IsWritable (items.Commit x) → IsShelf (items.Commit x)) c.item_of.ensures c.in_ok-item.ensures.has)

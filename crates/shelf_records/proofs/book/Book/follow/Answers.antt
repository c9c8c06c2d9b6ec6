use Rattle.std.proofs.Common.{Result, Ok, Err, sym, subst}
use Rattle.std.specs.Result.{IfOk}
use Rattle.gno_codec.specs.declared.item.ShelfItem.{ShelfItem}
use Rattle.shelf_records.specs.Shelved.{MayFollow}
use Rattle.shelf_records.proofs.book.Book.follow.Goals as goal

ok_then : {T E : Type 0} {P Q : T → Type 0} (r : Result T E) → IfOk r P → ((x : T) → P x → Q x) → IfOk r Q
ok_then (Ok x) is then = then x is
ok_then (Err e) is then = is

pub returns-in-Drop-clause-legal : goal.returns-in-Drop-clause-legal
returns-in-Drop-clause-legal c =
    ok_then c.follow_drop.result c.follow_drop.ensures.legal (λ book legal. (subst (λ (i : ShelfItem). MayFollow c.args.self.metrics i) (sym c.in-Drop.is) legal.0, legal.1 c.args.size c.requires.blocks))

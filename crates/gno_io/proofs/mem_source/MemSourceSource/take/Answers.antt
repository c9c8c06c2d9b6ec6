use Rattle.std.proofs.Common.{sym}
use Rattle.std.proofs.lemmas.List.{take_rest, drop-drop}
use Rattle.gno_io.proofs.Consumed.{consumed}
use Rattle.gno_io.proofs.mem_source.MemSourceSource.take.Goals as goal

pub returns-clause-bytes : goal.returns-clause-bytes
returns-clause-bytes c =
    let most = rw (take_rest, c.deref-2.ensures.value) at c.min-n.ensures in
    let copied = rw (take_rest, c.deref-2.ensures.value) at c.copy_from_slice.ensures.after in
    rw (← c.self.view_is) (consumed _ _ _ _ _ most copied (sym (drop-drop c.min-n.result c.self.inside.at c.self.inside.bytes.items)))

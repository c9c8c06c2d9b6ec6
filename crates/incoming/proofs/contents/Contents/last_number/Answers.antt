use Rattle.std.proofs.Common.{◌≡◌, ◌-◌, Some, length, sym, subst, List}
use Rattle.std.specs.List.{slice_get}
use Rattle.incoming.specs.declared.mark.Mark.{Mark}
use Rattle.incoming.proofs.Marks.{last_read}
use Rattle.incoming.proofs.contents.Contents.last_number.Goals as goal

pub returns-in-Some : goal.returns-in-Some
returns-in-Some c =
    sym (last_read c.args.self.now.marks.items c.in-Some.mark.now
    (subst (λ (ms : List Mark). slice_get ms (length ms - 1) ≡ Some c.in-Some.mark.now) c.deref.ensures.value (sym c.in-Some.ensures.value)))

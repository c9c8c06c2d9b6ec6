use Rattle.std.proofs.Common.{take, drop, refl, sym}
use Rattle.std.proofs.lemmas.List.{take-append-drop}
use Rattle.gnocchi_run.specs.Ending.{WritesText}
use Rattle.gnocchi_run.proofs.ending.tell.Goals as goal

pub returns-in-Ok-clause-tells : goal.returns-in-Ok-clause-tells
returns-in-Ok-clause-tells g c = WritesText.whole refl c.in-Ok.ensures.ok

pub returns-in-Err-clause-tells : goal.returns-in-Err-clause-tells
returns-in-Err-clause-tells g c =
    let e = c.in-Err.ensures.err in
    WritesText.front (take e.0 c.args.text.now) (drop e.0 c.args.text.now) refl (sym (take-append-drop e.0 c.args.text.now)) e.2

use Rattle.std.proofs.Common.{◌≤◌, ◌^◌, unsigned_abs}
use Rattle.gno_num.proofs.PrintedLemmas.{read-units_text}
use Rattle.gno_num.proofs.text.value_text.Goals as goal

pub returns-clause-again : goal.returns-clause-again
returns-clause-again c =
    let small : unsigned_abs c.args.value ≤ 10 ^ 18 = rw c.units-units.ensures.value at c.units-units.ensures.range in
    read-units_text c.args.value small

use Rattle.std.proofs.Common.{◌≡◌, ◌<◌, true, false, length, sym, ◌∙◌, arith}
use Rattle.incoming.proofs.Places.{lower_half, upper_half}
use Rattle.incoming.proofs.lists.narrowed.Goals as goal

pub returns-then-passed-clause-between : goal.returns-then-passed-clause-between
returns-then-passed-clause-between c =
    upper_half c.args.marks.now c.args.above c.args.list.now c.args.from c.args.middle c.args.upto c.requires.parted c.requires.between (omega (arith, c.requires.inside.1, c.requires.inside.2)) (sym c.is_upto-passed.ensures ∙ c.if-passed.true)

pub returns-clause-between : goal.returns-clause-between
returns-clause-between c =
    lower_half c.args.marks.now c.args.above c.args.list.now c.args.from c.args.middle c.args.upto c.requires.parted c.requires.between (omega (arith, c.requires.inside.1, c.requires.inside.2)) (sym c.is_upto-passed.ensures ∙ c.if-passed.false)

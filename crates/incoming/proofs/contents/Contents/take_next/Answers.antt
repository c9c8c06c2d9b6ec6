use Rattle.std.proofs.Common.{refl, arith}
use Rattle.incoming.proofs.Kept.{AreOf-next, late_next}
use Rattle.incoming.proofs.contents.Contents.take_next.Goals as goal

pub returns-then-index-gt0-clause-odd : goal.returns-then-index-gt0-clause-odd
returns-then-index-gt0-clause-odd c = λ e records are. late_next c.args.self.now records c.args.number c.requires.fits (omega arith) are

pub returns-clause-taken : goal.returns-clause-taken
returns-clause-taken c = λ e records are. AreOf-next c.args.self.now _ records c.args.number c.requires.fits (omega arith) refl refl refl are

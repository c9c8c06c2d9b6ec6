use Rattle.std.proofs.Common.{◌∙◌}
use Rattle.gno_time.proofs.MomentLemmas.{stamp_read-number, stamp_read-moment, stamp_read-bad}
use Rattle.gno_time.proofs.stamp.read_stamp.Goals as goal

pub returns-clause-number : goal.returns-clause-number
returns-clause-number c =
    λ n short h. c.stamp_of.ensures ∙ stamp_read-number c.args.text.now n short h

pub returns-clause-moment : goal.returns-clause-moment
returns-clause-moment c = λ m h. c.stamp_of.ensures ∙ stamp_read-moment c.args.text.now m h

pub returns-clause-bad_time : goal.returns-clause-bad_time
returns-clause-bad_time c =
    λ no_number no_moment. c.stamp_of.ensures ∙ stamp_read-bad c.args.text.now no_number no_moment

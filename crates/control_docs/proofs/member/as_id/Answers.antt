use Rattle.std.proofs.Common.{refl}
use Rattle.uuid.specs.Text.{parsed}
use Rattle.control_docs.proofs.MemberLemmas.{no-reading}
use Rattle.control_docs.proofs.member.as_id.Goals as goal

pub returns-in-Err : goal.returns-in-Err
returns-in-Err c = rw (no-reading (parsed c.args.text.now) (λ found. c.in-Err.ensures.ok.1 found)) refl

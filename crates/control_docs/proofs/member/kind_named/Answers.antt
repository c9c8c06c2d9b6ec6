use Rattle.control_docs.proofs.MemberLemmas.{kind_found}
use Rattle.control_docs.proofs.member.kind_named.Goals as goal

pub returns : goal.returns
returns c = kind_found c.args.name.now c.of_name.result c.of_name.ensures

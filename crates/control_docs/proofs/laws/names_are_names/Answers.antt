use Rattle.control_docs.proofs.MemberLemmas.{IsName-may_be_name, may_be_name-IsName}
use Rattle.control_docs.proofs.laws.names_are_names.Goals as goal

pub returns : goal.returns
returns c text = (IsName-may_be_name text, may_be_name-IsName text)

use Rattle.control_docs.proofs.ShapeLemmas.{items_given, members_given}
use Rattle.control_docs.proofs.laws.all_that_stands_is_given.Goals as goal

pub returns : goal.returns
returns c = record { members = members_given; items = items_given }

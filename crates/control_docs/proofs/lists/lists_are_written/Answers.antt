use Rattle.control_docs.proofs.DocumentLemmas.{list_next, list_whole}
use Rattle.control_docs.proofs.lists.lists_are_written.Goals as goal

pub returns : goal.returns
returns c = record { next = list_next; whole = list_whole }

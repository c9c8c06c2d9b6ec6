use Rattle.std.proofs.Common.{ap, ◌∙◌}
use Rattle.std.specs.Option.{is_some}
use Rattle.sack_state.proofs.KnowLemmas.{some_map}
use Rattle.sack_state.proofs.books.Books.knows.Goals as goal

pub returns : goal.returns
returns g c = c.is_some.ensures ∙ ap is_some c.done_of.ensures ∙ some_map _ _

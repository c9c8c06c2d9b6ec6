use Rattle.std.proofs.Common.{ltb, sym, ap, ◌∙◌}
use Rattle.std.specs.List.{filter}
use Rattle.std.proofs.lemmas.Result.{IfOk-weaker}
use Rattle.sack_history.specs.Lives.{life_of}
use Rattle.sack_history.proofs.Walking.{pending_by}
use Rattle.sack_history.proofs.plain.pending_numbers.Goals as goal

pub returns-in_ok-posts-in-Some : goal.returns-in_ok-posts-in-Some
returns-in_ok-posts-in-Some c =
    IfOk-weaker c.numbers_above.result _ _
    (λ numbers is. is ∙ ap (filter (λ n. ltb c.in-Some.done n)) (c.deref.ensures.value ∙ c.in_ok-posts-in-Some.ensures)
    ∙ sym (pending_by (life_of c.args.metric c.args.counts.now) c.in-Some.done (sym c.in-Some.ensures)))
    c.numbers_above.ensures

use Rattle.std.proofs.Common.{ℕ, List, take, ap, ◌∙◌}
use Rattle.std.specs.List.{fold}
use Rattle.std.proofs.lemmas.List.{take_all}
use Rattle.sack_history.specs.Lives.{done_of}
use Rattle.sack_history.proofs.Walking.{turn_by}
use Rattle.sack_history.proofs.plain.turn_end.Goals as goal

pub returns : goal.returns
returns c =
    let last : List ℕ → ℕ = λ numbers. fold (λ (before n : ℕ). n) (done_of c.args.metric c.args.counts.now) numbers in
    c.loop-number.invariant
    ∙ ap last (take_all c.loop-number.number-index c.first_of-number-items.result.now c.loop-number-test.false)
    ∙ ap last (c.first_of-number-items.ensures ∙ ap (take 64) (c.deref.ensures.value ∙ c.in_ok-numbers.ensures))
    ∙ turn_by c.args.metric c.args.counts.now

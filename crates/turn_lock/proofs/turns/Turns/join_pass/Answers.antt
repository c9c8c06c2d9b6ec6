use Rattle.std.proofs.Common.{rules, ap, subst, ◌∙◌}
use Rattle.turn_lock.specs.Rules.{HasLearnt}
use Rattle.turn_lock.proofs.Steps.{joins_pass, joined_idle, idle_free}
use Rattle.turn_lock.proofs.turns.Turns.join_pass.Goals as goal

pub join_seat-requires : goal.join_seat-requires
join_seat-requires g c =
    let pass = c.pass.invariant in
    let seat = c.into_seat-seat.ensures in
    let other = seat.idle in
    (search rules, search rules, search rules, search rules, joins_pass _ _ _ _ _ pass.live other.live other.idle pass.told other.told (λ e. c.requires.other (ap (λ k. k.number) seat.known ∙ e)))

pub invariant_of-pass : goal.invariant_of-pass
invariant_of-pass g c =
    let learnt = subst (λ m. HasLearnt m c.learn.new.seat.me) c.join_seat.ensures.2 c.learn.ensures.learnt in
    joined_idle _ _ _ _ c.pass.invariant (idle_free _ c.into_seat-seat.ensures.idle) learnt

pub returns-clause-own : goal.returns-clause-own
returns-clause-own g c = (invariant_of-pass g c).own

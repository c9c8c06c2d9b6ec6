use Rattle.std.proofs.Common.{◌≡◌, inl, inr, suc, ◌+◌, refl, sym, ap, ◌∙◌, arith}
use Rattle.sack_state.specs.Committing.{ended, failed_at, more, none}
use Rattle.sack_state.proofs.TurnLemmas.{due_live, turn_lasting}
use Rattle.sack_state.proofs.books.Books.take_turns.Goals as goal

pub loop-turn-init : goal.loop-turn-init
loop-turn-init g c = (none c.args.self.now 0 c.args.held refl refl refl, c.requires, (λ lasting. lasting), refl)

pub take_turn-requires-clause-live : goal.take_turn-requires-clause-live
take_turn-requires-clause-live g c = due_live c.args.only c.loop-turn.self c.in-Some.metric (sym c.turn_due.ensures ∙ c.in-Some.is)

pub returns-in_default : goal.returns-in_default
returns-in_default g c =
    let x = c.loop-turn.invariant in
    let number = x.3 in
    let below = c.loop-turn-test.true in
    ended x.0 (omega (arith, number, below)) (inl (sym c.turn_due.ensures ∙ c.in_default.is)) x.1 x.2 refl

pub returns-in-Err : goal.returns-in-Err
returns-in-Err g c =
    let x = c.loop-turn.invariant in
    let number = x.3 in
    let below = c.loop-turn-test.true in
    failed_at c.loop-turn.self c.in-Some.metric c.in-Err.fault x.0 (omega (arith, number, below)) x.1 x.2 (sym c.turn_due.ensures ∙ c.in-Some.is) c.in-Err.ensures refl

pub loop-turn-preserved : goal.loop-turn-preserved
loop-turn-preserved g c =
    let x = c.loop-turn.invariant in
    let number = x.3 in
    let take = c.in_default-take_turn.ensures in
    let now = turn_lasting g.D.Disk c.in-Some.metric c.loop-turn.self c.take_turn.new.self take in
    let one : c.loop-turn.turns + 1 ≡ suc c.loop-turn.turns = omega arith in (
      more c.take_turn.new.self c.loop-turn.self (c.loop-turn.turns + 1) c.loop-turn.turns c.claim_past-held.result c.loop-turn.held c.in-Some.metric x.0 (sym c.turn_due.ensures ∙ c.in-Some.is) take one c.claim_past-held.ensures,
      now.0,
      (λ lasting. now.1 (x.2 lasting)),
      ap (λ n. n + 1) number,
    )

pub returns : goal.returns
returns g c =
    let x = c.loop-turn.invariant in
    let number = x.3 in
    let over = c.loop-turn-test.false in
    let within = c.loop-turn.auto._turn-end in
    ended x.0 (omega (arith, number, within)) (inr (omega (arith, number, over, within))) x.1 x.2 refl

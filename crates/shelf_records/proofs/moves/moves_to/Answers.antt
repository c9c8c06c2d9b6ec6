use Rattle.std.proofs.Common.{◌++◌, take, drop, sym, ◌∙◌, arith, rules}
use Rattle.std.proofs.lemmas.List.{length-drop}
use Rattle.shelf_records.specs.Moves.{Leads}
use Rattle.shelf_records.proofs.Merging.{get_drop, length-gone, next_step}
use Rattle.shelf_records.proofs.moves.moves_to.Goals as goal

pub overflow_add-from : goal.overflow_add-from
overflow_add-from c =
    let gone = take c.args.first c.args.keys.now ++ drop c.args.until c.args.keys.now in
    let step : Leads c.step_at-step.result (drop c.loop-from.from gone) (drop c.loop-from.upto c.args.made.now) =
    c.step_at-step.ensures (drop c.loop-from.from gone) (drop c.loop-from.upto c.args.made.now) (get_drop c.loop-from.from gone ∙ sym c.gone_at.ensures) (get_drop c.loop-from.upto c.args.made.now ∙ sym c.split_at.ensures) in
    let long = length-gone c.args.first c.args.until c.args.keys.now c.requires.0 c.requires.1 in
    let behind = length-drop c.loop-from.from gone in
    let left = length-drop c.loop-from.upto c.args.made.now in
    omega (arith, step.passed, step.reached, step.further, long, behind, left, c.loop-from.invariant.passed, c.loop-from.invariant.reached)

pub overflow_add-upto : goal.overflow_add-upto
overflow_add-upto c =
    let gone = take c.args.first c.args.keys.now ++ drop c.args.until c.args.keys.now in
    let step : Leads c.step_at-step.result (drop c.loop-from.from gone) (drop c.loop-from.upto c.args.made.now) =
    c.step_at-step.ensures (drop c.loop-from.from gone) (drop c.loop-from.upto c.args.made.now) (get_drop c.loop-from.from gone ∙ sym c.gone_at.ensures) (get_drop c.loop-from.upto c.args.made.now ∙ sym c.split_at.ensures) in
    let long = length-gone c.args.first c.args.until c.args.keys.now c.requires.0 c.requires.1 in
    let behind = length-drop c.loop-from.from gone in
    let left = length-drop c.loop-from.upto c.args.made.now in
    omega (arith, step.passed, step.reached, step.further, long, behind, left, c.loop-from.invariant.passed, c.loop-from.invariant.reached)

pub loop-from-smaller : goal.loop-from-smaller
loop-from-smaller c =
    let gone = take c.args.first c.args.keys.now ++ drop c.args.until c.args.keys.now in
    let step : Leads c.step_at-step.result (drop c.loop-from.from gone) (drop c.loop-from.upto c.args.made.now) =
    c.step_at-step.ensures (drop c.loop-from.from gone) (drop c.loop-from.upto c.args.made.now) (get_drop c.loop-from.from gone ∙ sym c.gone_at.ensures) (get_drop c.loop-from.upto c.args.made.now ∙ sym c.split_at.ensures) in
    let long = length-gone c.args.first c.args.until c.args.keys.now c.requires.0 c.requires.1 in
    let behind = length-drop c.loop-from.from gone in
    let left = length-drop c.loop-from.upto c.args.made.now in
    omega (arith, step.passed, step.reached, step.further, long, behind, left, c.loop-from.invariant.passed, c.loop-from.invariant.reached)

pub loop-from-preserved : goal.loop-from-preserved
loop-from-preserved c =
    let gone = take c.args.first c.args.keys.now ++ drop c.args.until c.args.keys.now in
    let step : Leads c.step_at-step.result (drop c.loop-from.from gone) (drop c.loop-from.upto c.args.made.now) =
    c.step_at-step.ensures (drop c.loop-from.from gone) (drop c.loop-from.upto c.args.made.now) (get_drop c.loop-from.from gone ∙ sym c.gone_at.ensures) (get_drop c.loop-from.upto c.args.made.now ∙ sym c.split_at.ensures) in
    let long = length-gone c.args.first c.args.until c.args.keys.now c.requires.0 c.requires.1 in
    let behind = length-drop c.loop-from.from gone in
    let left = length-drop c.loop-from.upto c.args.made.now in
    record {
      passed = omega (arith, step.passed, step.reached, step.further, long, behind, left, c.loop-from.invariant.passed, c.loop-from.invariant.reached);
      reached = omega (arith, step.passed, step.reached, step.further, long, behind, left, c.loop-from.invariant.passed, c.loop-from.invariant.reached);
      leads = next_step c.step_at-step.result c.loop-from.moves.items c.push.new.self.items gone c.args.made.now c.loop-from.from c.loop-from.upto step (search rules) c.loop-from.invariant.leads;
    }

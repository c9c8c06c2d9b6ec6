use Rattle.std.proofs.Common.{◌≡◌, ◌+◌, ℕ, List, length, replicate, ap, ◌∙◌, arith}
use Rattle.std.proofs.lemmas.List.{length-replicate}
use Rattle.std.specs.Prelude.{sum_by}
use Rattle.turn_lock.specs.History.{entries_in}
use Rattle.turn_lock.proofs.TotalLemmas.{sum_by-one}
use Rattle.turn_lock.proofs.tally.total_by_turns.Goals as goal

pub returns-clause-first_times : goal.returns-clause-first_times
returns-clause-first_times g c =
    let made = c.add_by_turns-pass in
    let numbers = entries_in made.result.0.seen in
    let weigh = c.close.ensures.each_once (λ _. 1) ∙ ap (λ (cs : List (ℕ × List ℕ)). sum_by (λ c. sum_by (λ _. 1) c.1) cs) made.ensures.callers in
    let ones = sum_by-one (replicate made.result.1 c.args.first) in
    let twos = sum_by-one (replicate made.result.2 c.args.second) in
    let many : length numbers ≡ made.result.1 + made.result.2 =
    omega (arith, sum_by-one numbers, weigh, ones, twos, length-replicate made.result.1 c.args.first, length-replicate made.result.2 c.args.second) in
    let why = made.ensures.first_times in
    let total = c.close.ensures.stands in
    let opening = c.close.ensures.origin in
    grind (arith, why, many, total, opening)

pub returns-clause-second_times : goal.returns-clause-second_times
returns-clause-second_times g c =
    let made = c.add_by_turns-pass in
    let numbers = entries_in made.result.0.seen in
    let weigh = c.close.ensures.each_once (λ _. 1) ∙ ap (λ (cs : List (ℕ × List ℕ)). sum_by (λ c. sum_by (λ _. 1) c.1) cs) made.ensures.callers in
    let ones = sum_by-one (replicate made.result.1 c.args.first) in
    let twos = sum_by-one (replicate made.result.2 c.args.second) in
    let many : length numbers ≡ made.result.1 + made.result.2 =
    omega (arith, sum_by-one numbers, weigh, ones, twos, length-replicate made.result.1 c.args.first, length-replicate made.result.2 c.args.second) in
    let why = made.ensures.second_times in
    let total = c.close.ensures.stands in
    let opening = c.close.ensures.origin in
    grind (arith, why, many, total, opening)

use Rattle.std.proofs.Common.{All, ℕ, ◌≤◌, subst, arith, take, length}
use Rattle.std.proofs.lemmas.List.Elements.{All-more}
use Rattle.archive_policy.specs.declared.definition.Definition.{Definition}
use Rattle.archive_policy.proofs.PlaceLemmas.{insert_put}
use Rattle.archive_policy.proofs.policy.place_of.Goals as goal

pub returns-then-granularity-nanos-clause-place : goal.returns-then-granularity-nanos-clause-place
returns-then-granularity-nanos-clause-place c =
    insert_put c.args.among.now c.loop-place.place c.args.definition.now (omega arith) c.loop-place.invariant (λ _. (c.index-among-place.result, c.index-among-place.is, omega arith))

pub loop-place-preserved : goal.loop-place-preserved
loop-place-preserved c =
    let P : Definition → Type 0 = λ x. x.granularity ≤ c.args.definition.now.granularity in
    let here : P c.index-among-place.result = omega arith in
    All-more P c.args.among.now c.loop-place.place c.index-among-place.result (omega arith) c.loop-place.invariant (subst P c.index-among-place.is here)

pub returns-clause-place : goal.returns-clause-place
returns-clause-place c =
    let all = c.args.among.now in
    let P : Definition → Type 0 = λ x. x.granularity ≤ c.args.definition.now.granularity in
    let Q : ℕ → Type 0 = λ n. All P (take n all) in
    insert_put all (length all) c.args.definition.now (omega arith) (subst Q (omega arith) c.loop-place.invariant) (λ inside. absurd (omega (arith, inside)))

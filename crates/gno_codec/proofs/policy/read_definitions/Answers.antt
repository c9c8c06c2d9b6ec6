use Rattle.std.proofs.Common.{None}
use Rattle.std.proofs.lemmas.Result.{err_from_is_err_and}
use Rattle.archive_policy.specs.declared.definition.Definition.{Definition}
use Rattle.gno_codec.specs.Reading.{items_at, last_of}
use Rattle.gno_codec.specs.PolicyReading.{definition_after}
use Rattle.gno_codec.proofs.Lists.{chain_read, increases}
use Rattle.gno_codec.proofs.Loop.{goes_on_last, ends_last, is_done}
use Rattle.gno_codec.proofs.Policies.{definition_rises}
use Rattle.gno_codec.proofs.policy.read_definitions.Goals as goal

pub returns-in_err-definition-clause-read : goal.returns-in_err-definition-clause-read
returns-in_err-definition-clause-read c =
    let p = err_from_is_err_and c.from_residual.result c.from_residual.ensures.1 in
    rw (p.1, p.2) (ends_last definition_after c.in_err-definition.field-0.0 c.as_slice.result.now c.loop.definitions.items c.args.count c.loop.counter c.loop.reader (items_at definition_after None c.args.count c.args.reader.now) c.loop-test.true c.as_slice.ensures.value c.in_err-definition.ensures c.loop.invariant)

pub loop-preserved : goal.loop-preserved
loop-preserved c =
    goes_on_last definition_after c.as_slice.result.now c.loop.definitions.items c.push.new.self.items c.args.count c.loop.counter c.loop.reader c.in_ok-definition.definition c.read_definition.new.reader (items_at definition_after None c.args.count c.args.reader.now) c.loop-test.true c.as_slice.ensures.value c.in_ok-definition.ensures c.loop.invariant c.in_ok-push.ensures.items

pub returns-clause-read : goal.returns-clause-read
returns-clause-read c =
    is_done definition_after (last_of c.loop.definitions.items) c.loop.definitions.items c.args.count c.loop.counter c.loop.reader (items_at definition_after None c.args.count c.args.reader.now) c.loop-test.false c.loop.invariant

pub returns-clause-rising : goal.returns-clause-rising
returns-clause-rising c =
    let read = is_done definition_after (last_of c.loop.definitions.items) c.loop.definitions.items c.args.count c.loop.counter c.loop.reader (items_at definition_after None c.args.count c.args.reader.now) c.loop-test.false c.loop.invariant in
    increases (λ (d : Definition). d.granularity) c.loop.definitions.items
    (chain_read definition_after _ definition_rises c.args.count None c.args.reader.now c.loop.definitions.items c.loop.reader read)

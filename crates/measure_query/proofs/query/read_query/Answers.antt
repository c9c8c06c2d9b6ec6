use Rattle.std.proofs.Common.{◌≡◌, List, map, length, drop, suc, sym, subst, ap, ◌∙◌}
use Rattle.std.proofs.lemmas.Iterator.Consumers.{YieldsList-from_first, YieldsList-so_far, YieldsList-turn, YieldsList-end}
use Rattle.std.proofs.lemmas.Result.{err_from_is_err_and}
use Rattle.form_urlencoded.specs.Form.{pair_text, raw_pairs}
use Rattle.form_urlencoded.specs.Parse.{raw_pairs_left}
use Rattle.measure_query.specs.declared.query.QueryFault.TheVariants.{BadQuery}
use Rattle.measure_query.specs.Key.{Pair, pairs_of}
use Rattle.measure_query.specs.Query.{IsAsked, IsNoQuery}
use Rattle.measure_query.proofs.QueryLemmas.{memory, never, one}
use Rattle.measure_query.proofs.SeenLemmas.{decoded_pair, so_far, pairs_at}
use Rattle.measure_query.proofs.query.read_query.Goals as goal

refused : (c : goal.After-from_residual) → c.in_err-take_encoded.field-0.0 ≡ BadQuery → IsNoQuery (pairs_of c.args.text.now)
refused c bad =
    let text = c.args.text.now in
    let items = c.loop-name.yielded in
    let all = YieldsList-from_first pair_text raw_pairs_left {s = c.into_iter-name-iterator.result} (raw_pairs text) (ap raw_pairs_left c.into_iter-name-iterator.ensures.into_iter_gives ∙ c.raw_pairs-name-items.ensures.value) in
    let front = YieldsList-so_far all items c.loop-name.name-iterator c.loop-name.yielded_by in
    let turn = YieldsList-turn all items c.loop-name.name-iterator c.loop-name.yielded_by _ c.next.new.self (c.in-Some.name, c.in-Some.value) c.in-Some.is c.next.ensures.steps in
    subst IsNoQuery (sym (pairs_at text items (c.in-Some.name, c.in-Some.value) front turn.0 turn.1))
    (c.in_err-take_encoded.ensures.bad bad (so_far items) (map decoded_pair (drop (suc (length items)) (raw_pairs text))) c.loop-name.invariant)

pub returns-in_err-take_encoded-clause-only : goal.returns-in_err-take_encoded-clause-only
returns-in_err-take_encoded-clause-only c asked is =
    let p = err_from_is_err_and c.from_residual.result c.from_residual.ensures.1 in
    rw (p.1, p.2) (memory c.in_err-take_encoded.field-0.0 (λ bad. never (pairs_of c.args.text.now) asked is (refused c bad)))

pub returns-in_err-take_encoded-clause-bad : goal.returns-in_err-take_encoded-clause-bad
returns-in_err-take_encoded-clause-bad c =
    let p = err_from_is_err_and c.from_residual.result c.from_residual.ensures.1 in
    rw (p.1, p.2) (refused c)

pub returns-clause-ok : goal.returns-clause-ok
returns-clause-ok c =
    let text = c.args.text.now in
    let items = c.loop-name.yielded in
    let all = YieldsList-from_first pair_text raw_pairs_left {s = c.into_iter-name-iterator.result} (raw_pairs text) (ap raw_pairs_left c.into_iter-name-iterator.ensures.into_iter_gives ∙ c.raw_pairs-name-items.ensures.value) in
    let end = YieldsList-end all items c.loop-name.name-iterator c.loop-name.yielded_by _ c.next.new.self c.in-None.is c.next.ensures.steps in
    subst (λ (pairs : List Pair). IsAsked pairs c.asked.result) (ap (map decoded_pair) end.0) (c.asked.ensures (so_far items) c.loop-name.invariant)

pub returns-clause-only : goal.returns-clause-only
returns-clause-only c asked is = one (pairs_of c.args.text.now) c.asked.result asked (returns-clause-ok c) is

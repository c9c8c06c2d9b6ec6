use Rattle.measure_json.proofs.ShortLemmas.{short_measure_is}
use Rattle.measure_json.proofs.short.short_measure.Goals as goal

pub returns : goal.returns
returns c =
    let time = c.in-Some.found in
    let value = c.in-Some-short_value_member.found in
    short_measure_is c.args.text.now c.in_ok-first.first.now time.1.now c.in_ok-second.second.now value.1.now c.in_ok-rest.rest.now time.0 value.0 c.in_ok-first.ensures c.in-Some.ensures c.in_ok-second.ensures c.in-Some-short_value_member.ensures c.in_ok-rest.ensures

use Rattle.measure_json.proofs.ShortLemmas.{if_some, value_member_is}
use Rattle.measure_json.proofs.short.short_value_member.Goals as goal

pub returns : goal.returns
returns c =
    if_some c.short_value.result (λ found h. value_member_is c.args.text.now c.in_ok-behind.behind.now c.in_ok-value.value.now found.0 found.1.now c.in_ok-behind.ensures c.in_ok-value.ensures h) c.short_value.ensures

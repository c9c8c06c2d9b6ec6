use Rattle.measure_json.proofs.ShortLemmas.{if_some, time_member_is}
use Rattle.measure_json.proofs.short.short_time_member.Goals as goal

pub returns : goal.returns
returns c =
    if_some c.short_time.result (λ found h. time_member_is c.args.text.now c.in_ok-behind.behind.now c.in_ok-time.time.now found.0 found.1.now c.in_ok-behind.ensures c.in_ok-time.ensures h) c.short_time.ensures

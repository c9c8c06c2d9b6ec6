use Rattle.measure_json.proofs.ShortLemmas.{if_some, time_key_is}
use Rattle.measure_json.proofs.short.behind_time_key.Goals as goal

pub returns : goal.returns
returns c =
    if_some c.behind_byte-3.result (λ rest h. time_key_is c.args.text.now c.in_ok-m.m.now c.in_ok-p.p.now c.in_ok-quote.quote.now rest.now c.in_ok-m.ensures c.in_ok-p.ensures c.in_ok-quote.ensures h) c.behind_byte-3.ensures

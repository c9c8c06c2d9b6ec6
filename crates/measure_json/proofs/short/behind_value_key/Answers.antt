use Rattle.measure_json.proofs.ShortLemmas.{if_some, value_key_is}
use Rattle.measure_json.proofs.short.behind_value_key.Goals as goal

pub returns : goal.returns
returns c =
    if_some c.behind_byte-3.result (λ rest h. value_key_is c.args.text.now c.in_ok-u.u.now c.in_ok-e.e.now c.in_ok-quote.quote.now rest.now c.in_ok-u.ensures c.in_ok-e.ensures c.in_ok-quote.ensures h) c.behind_byte-3.ensures

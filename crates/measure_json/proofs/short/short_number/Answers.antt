use Rattle.measure_json.proofs.ShortLemmas.{if_some, short_whole_small, short_number_is, short_number_small}
use Rattle.measure_json.proofs.short.short_number.Goals as goal

pub short_fraction-requires : goal.short_fraction-requires
short_fraction-requires c = short_whole_small c.args.text.now c.in_ok-whole.whole c.in_ok-whole.rest.now c.args.most c.requires c.in_ok-whole.ensures

pub returns-clause-found : goal.returns-clause-found
returns-clause-found c =
    if_some c.short_fraction.result (λ found h. short_number_is c.args.most c.args.text.now c.in_ok-whole.whole c.in_ok-whole.rest.now found.0 found.1 found.2.now c.in_ok-whole.ensures h) c.short_fraction.ensures

pub returns-clause-small : goal.returns-clause-small
returns-clause-small c =
    if_some c.short_fraction.result (λ found h. short_number_small c.args.most c.args.text.now found.0 found.1 found.2.now (short_number_is c.args.most c.args.text.now c.in_ok-whole.whole c.in_ok-whole.rest.now found.0 found.1 found.2.now c.in_ok-whole.ensures h)) c.short_fraction.ensures

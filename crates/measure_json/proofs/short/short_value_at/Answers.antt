use Rattle.std.proofs.Common.{sym, ◌∙◌}
use Rattle.measure_json.proofs.CompleteLemmas.{value_reads}
use Rattle.measure_json.proofs.ShortLemmas.{token_ends}
use Rattle.measure_json.proofs.short.short_value_at.Goals as goal

pub returns-in-Some : goal.returns-in-Some
returns-in-Some c =
    value_reads c.args.text.now c.in-Some.found.0 c.in-Some.found.1.now (token_ends c.in-Some.found.1.now (sym c.ends_token.ensures ∙ c.if-ends_token.true)) c.in-Some.ensures

use Rattle.std.proofs.Common.{◌∙◌}
use Rattle.bound_series.proofs.Places.{last_got}
use Rattle.bound_series.proofs.raw.last_member.Goals as goal

pub returns : goal.returns
returns c = c.copied.ensures ∙ c.last.ensures.value ∙ last_got c.args.series.now

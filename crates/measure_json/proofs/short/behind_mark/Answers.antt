use Rattle.measure_json.proofs.ShortLemmas.{mark_is}
use Rattle.measure_json.proofs.short.behind_mark.Goals as goal

pub returns : goal.returns
returns c =
    rw c.skip_blank.ensures (mark_is c.args.mark c.args.text.now c.in_ok-rest.rest.now c.in_ok-rest.ensures)

use Rattle.std.proofs.Common.{◌+◌, sym}
use Rattle.std.proofs.lemmas.List.{take_rest}
use Rattle.rest_replies.proofs.SpaceLemmas.{cut_at, spaceless}
use Rattle.rest_replies.proofs.script.split_word.Goals as goal

pub returns-in-Some : goal.returns-in-Some
returns-in-Some c =
    let text = c.args.text.now in
    rw (take_rest text (c.in-Some.at + 1)) (cut_at text c.in-Some.at (sym c.in-Some.ensures.space))

pub returns-in-None : goal.returns-in-None
returns-in-None c = spaceless c.args.text.now (sym c.in-None.ensures.space)

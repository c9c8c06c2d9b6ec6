use Rattle.std.proofs.Common.{◌++◌, sym, ap, ◌∙◌}
use Rattle.control_docs.proofs.PlainLemmas.{escape-marked, escape-unmarked}
use Rattle.control_docs.proofs.texts.push_byte.Goals as goal

pub returns-then-is_marked : goal.returns-then-is_marked
returns-then-is_marked c = rw (escape-marked c.args.byte (sym c.is_marked.ensures ∙ c.if-is_marked.true)) c.push_word.ensures

pub returns : goal.returns
returns c =
    c.in_ok-push.ensures.items ∙ ap (λ b. c.args.text.now.items ++ b) (sym (escape-unmarked c.args.byte c.requires (sym c.is_marked.ensures ∙ c.if-is_marked.false)))

use Rattle.std.proofs.Common.{ℕ, List, ◌++◌, ◌∙◌, ap}
use Rattle.rest_replies.specs.ReplyLine.{reply_line_text}
use Rattle.rest_script.specs.Replying.{IsReplyLine}
use Rattle.rest_script.proofs.replying.reply_in.Goals as goal

pub returns-in-Ok : goal.returns-in-Ok
returns-in-Ok c =
    let answer = c.args.answer.now in
    IsReplyLine.told (c.as_slice.ensures.value ∙ c.in-Ok.ensures.ok ∙ ap (λ (l : List ℕ). l ++ reply_line_text answer.status answer.body.items) c.requires)

pub returns-in-Err : goal.returns-in-Err
returns-in-Err c = IsReplyLine.starved c.no_memory_line.ensures

use Rattle.rest_replies.proofs.ReplyLineLemmas.{one-reply_line}
use Rattle.rest_replies.proofs.laws.one_reply_line.Goals as goal

pub returns : goal.returns
returns c = one-reply_line

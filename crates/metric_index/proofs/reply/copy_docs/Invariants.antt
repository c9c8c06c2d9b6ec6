use Rattle.std.proofs.Common.{◌≡◌, take}
use Rattle.metric_index.proofs.reply.copy_docs.Given as goal

abbrev pub invariant-loop-doc : goal.invariant-loop-doc
invariant-loop-doc l = l.copies.items ≡ take l.doc-index l.docs

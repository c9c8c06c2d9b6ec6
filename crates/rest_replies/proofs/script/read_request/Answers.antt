use Rattle.rest_replies.proofs.CutLemmas.{is_empty_text, is_some_text}
use Rattle.rest_replies.proofs.ScriptLemmas.{bad, is_request, no_method_none, uncut_none, without_target_none}
use Rattle.rest_replies.proofs.script.read_request.Goals as goal
use Rattle.rest_replies.proofs.script.read_request.Goals.{then-is_empty-via-then-is_empty, then-is_empty-via-else-is_empty+then-is_empty-2}

pub returns-in_default : goal.returns-in_default
returns-in_default c =
    bad c.args.line.now c.requires.some c.requires.no_comment c.requires.no_work (λ m t b r. uncut_none c.args.line.now m t b c.in_default.ensures r)

pub returns-then-is_empty : goal.returns-then-is_empty
returns-then-is_empty c =
    let line = c.args.line.now in
    let method = c.in-Some.method.now in
    let rest = c.in-Some.rest.now in
    let target = c.target_and_body.result.0.now in
    let body = c.target_and_body.result.1.now in
    bad line c.requires.some c.requires.no_comment c.requires.no_work (elim c.then-is_empty.branch [
      | then-is_empty-via-then-is_empty w ↦ λ m t b r. no_method_none line method rest m t b c.in-Some.ensures (is_empty_text method c.is_empty.result c.is_empty.ensures w.if-is_empty.true) r
      | then-is_empty-via-else-is_empty+then-is_empty-2 w ↦ λ m t b r. without_target_none line method rest target body m t b c.in-Some.ensures c.target_and_body.ensures (is_empty_text target w.is_empty-else-is_empty.result w.is_empty-else-is_empty.ensures w.if-is_empty-2.true) r
    ])

pub returns : goal.returns
returns c =
    is_request c.args.line.now c.in-Some.method.now c.in-Some.rest.now c.target_and_body.result.0.now c.target_and_body.result.1.now c.requires.no_comment c.in-Some.ensures c.target_and_body.ensures
    (is_some_text c.in-Some.method.now c.is_empty.result c.is_empty.ensures c.if-is_empty.false)
    (is_some_text c.target_and_body.result.0.now c.is_empty-else-is_empty.result c.is_empty-else-is_empty.ensures c.if-is_empty-2.false)

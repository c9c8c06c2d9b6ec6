use Rattle.std.proofs.Common.{ℕ, List, ◌++◌, ◌∙◌, ap}
use Rattle.rest_api.specs.Message.{IsResponse}
use Rattle.rest_replies.specs.Response.{response_text}
use Rattle.rest_api.proofs.connection.response_in.Goals as goal

pub returns-in-Ok : goal.returns-in-Ok
returns-in-Ok c =
    let answer = c.args.answer.now in
    IsResponse.told (c.as_slice.ensures.value ∙ c.in-Ok.ensures.ok
    ∙ ap (λ (l : List ℕ). l ++ response_text c.args.is_head c.args.close answer.status answer.allow.now answer.body.items) c.requires)

pub returns-in-Err : goal.returns-in-Err
returns-in-Err c = IsResponse.starved c.no_memory_response.ensures

use Rattle.rest_api.proofs.connection.refuse.Goals as goal

pub returns-in-Ok-clause-ok : goal.returns-in-Ok-clause-ok
returns-in-Ok-clause-ok g c =
    let written = c.in-Ok.ensures.ok in
    (c.of_error-answer.result, written.0, c.of_error-answer.ensures.told, written.1, written.2)

pub returns-clause-err : goal.returns-clause-err
returns-clause-err g c =
    let written = c.in-Err.ensures.err in
    (c.of_error-answer.result, written.0, written.1, c.of_error-answer.ensures.told, written.2, written.3)

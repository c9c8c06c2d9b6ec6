use Rattle.rest_script.proofs.AcceptedLines.{accepted_request}
use Rattle.rest_script.proofs.laws.accepted_lines_stand.Goals as goal

pub returns : goal.returns
returns c = λ line body metric old new posts replies.
    let request = accepted_request line posts.method posts.target body old new posts.means replies in
    let stands = c.accepted_batches_stand.ensures posts.method posts.target body posts.query metric request.0 old new posts.route request.1 request.2 in
    record { measures = stands.0; number = stands.1; read = stands.2; once = stands.3 }

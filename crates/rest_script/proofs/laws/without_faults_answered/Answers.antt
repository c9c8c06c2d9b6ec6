use Rattle.rest_script.proofs.AvailableLines.{transcript_available}
use Rattle.rest_script.proofs.laws.without_faults_answered.Goals as goal

pub returns : goal.returns
returns c =
    transcript_available c.what_failed_is_seen.ensures.drain c.seen_histories_go_on.ensures.drain c.without_faults_available.ensures.request c.requests_go_on.ensures.request
    c.lines_go_on.ensures c.what_failed_is_seen.ensures.earlier c.what_failed_is_seen.ensures.later

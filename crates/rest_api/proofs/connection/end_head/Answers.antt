use Rattle.std.proofs.Common.{◌∙◌, sym, []}
use Rattle.std.proofs.KnownBytes.{Appends-nil}
use Rattle.rest_api.specs.Session.{EndsSo}
use Rattle.rest_api.proofs.ConnectionLemmas.{ends_refused, ends_unrefused, no_write_fault_of, read_fault_of}
use Rattle.rest_api.proofs.connection.end_head.Goals as goal

pub returns-in-Ok-clause-ends : goal.returns-in-Ok-clause-ends
returns-in-Ok-clause-ends g c = λ given held left ends.
    let written = c.in-Ok.ensures.ok in
    (written.1, written.4, λ books. ends_refused given held left c.args.end c.in-Some.error written.0 written.1 books (sym c.of_head.ensures ∙ c.in-Some.is) ends written.2 written.3)

pub returns-in-Err-clause-ends : goal.returns-in-Err-clause-ends
returns-in-Err-clause-ends g c = λ given held left ends.
    let written = c.in-Err.ensures.err in
    (written.1, written.5, λ books. ends_unrefused given held left c.args.end c.in-Some.error written.0 written.1 written.2 books (sym c.of_head.ensures ∙ c.in-Some.is) ends written.3 written.4)

pub returns-in-None-clause-ends : goal.returns-in-None-clause-ends
returns-in-None-clause-ends g c = λ given held left ends.
    rw c.end_of.ensures ([], Appends-nil (g.K.Sink.taken c.args.sink.now), λ books. EndsSo.no_head c.args.end books (sym c.of_head.ensures ∙ c.in-None.is) ends)

pub returns-in-None-clause-read_cause : goal.returns-in-None-clause-read_cause
returns-in-None-clause-read_cause g c = λ e. read_fault_of c.args.end (sym c.end_of.ensures ∙ e)

pub returns-in-None-clause-write_cause : goal.returns-in-None-clause-write_cause
returns-in-None-clause-write_cause g c = λ e. absurd (no_write_fault_of c.args.end (sym c.end_of.ensures ∙ e))

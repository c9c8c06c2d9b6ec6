use Rattle.std.proofs.Common.{◌≡◌, ◌<◌, ◌^◌, length, None, subst, ◌∙◌, rules}
use Rattle.std.specs.Option.{IfSome}
use Rattle.gate_log.specs.Records.{BeginsWith, HasNoLog}
use Rattle.log_pair.specs.Choice.{IsHeaderOf}
use Rattle.log_pair.specs.Header.{log_header}
use Rattle.log_pair.proofs.Headers.{found_header, no_header, told_as}
use Rattle.log_pair.proofs.choose.header_of.Goals as goal

pub returns-in-None-clause-found : goal.returns-in-None-clause-found
returns-in-None-clause-found g c =
    told_as (g.D.Disk.told c.args.disk.now) HasNoLog (IsHeaderOf None) no_header (search rules)

pub returns-in-Some-clause-found : goal.returns-in-Some-clause-found
returns-in-Some-clause-found g c =
    let body = c.in-Some.body.items in
    let r = c.read_header.ensures in
    let same : c.as_slice.result.now ≡ body = c.as_slice.ensures.value in
    let short : length body < 2 ^ 64 = search rules in
    told_as (g.D.Disk.told c.args.disk.now) (BeginsWith body) (IsHeaderOf c.read_header.result)
    (λ bytes begins. found_header body bytes c.read_header.result short begins (subst (λ b. IfSome c.read_header.result (λ h. b ≡ log_header h.place h.epoch)) same r.found) r.fits (λ place epoch fits is. r.only place epoch fits (same ∙ is)))
    (search rules)

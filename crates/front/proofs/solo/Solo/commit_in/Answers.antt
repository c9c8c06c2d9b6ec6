use Rattle.std.proofs.Common.{◌≡◌, ◌<◌, ℕ, Err, length, sym, ap, subst, ◌∙◌, arith}
use Rattle.std.specs.declared.result.Result.{Result}
use Rattle.std.specs.Result.{IfErr}
use Rattle.std.specs.Vec.{with_item}
use Rattle.std.proofs.lemmas.List.{length-set}
use Rattle.front_api.specs.declared.bench.BenchFault.{BenchFault}
use Rattle.front_api.specs.Bench.{Commits, SaysCommit, StandsForTicket}
use Rattle.front_api.specs.FaultWords.{bench_words}
use Rattle.front_api.specs.Seen.{EntersSack, LeadsTo}
use Rattle.front.specs.declared.bench.Starved.{Starved}
use Rattle.front.specs.Inside.{solo_view}
use Rattle.front.specs.SoloView.{SoloView, StandsForBooks}
use Rattle.front.proofs.Calling.{enters, keeps_with}
use Rattle.front.proofs.Working.{commit_result, commit_risen, commit_sound, commit_ticket, says_commit}
use Rattle.front.proofs.solo.Solo.commit_in.Goals as goal
use Rattle.front.proofs.solo.Solo.commit_in.Goals.{in-Ok, in-Err}

pub invariant_of-self : goal.invariant_of-self
invariant_of-self g c =
    let i = c.self.inside in
    let many = ap (λ (x : SoloView _). length x.sacks) c.self.view_is in
    let sack : c.from.result ≡ c.args.prepared.job.ticket.sack = c.from.ensures ∙ ap (λ t. t.sack) (c.ticket-sack.ensures ∙ ap (λ j. j.ticket) c.job.ensures.value) in
    let within : c.from.result < length i.sacks.items = omega (arith, sack, c.requires, many) in
    keeps_with g.D.Disk i c.self.invariant c.from.result c.index_mut-book.result.now c.commit.new.self within c.index_mut-book.ensures.value c.commit.ensures.same.0

pub returns-clause-commits : goal.returns-clause-commits
returns-clause-commits g c =
    let i = c.self.inside in
    let k = c.from.result in
    let p = c.args.prepared in
    let n = c.ticket-sack.result.sack in
    let v = c.index_mut-book.result.now in
    let w = c.commit.new.self in
    let r = c.commit.result in
    let many = ap (λ (x : SoloView _). length x.sacks) c.self.view_is in
    let sack : k ≡ p.job.ticket.sack = c.from.ensures ∙ ap (λ t. t.sack) (c.ticket-sack.ensures ∙ ap (λ j. j.ticket) c.job.ensures.value) in
    let within : c.from.result < length i.sacks.items = omega (arith, sack, c.requires, many) in
    let told : c.match-commit.result ≡ commit_result n r = elim c.match-commit.branch [
      | in-Ok x ↦ x.result-is ∙ sym (ap (λ q. commit_result n q) x.in-Ok.is)
      | in-Err x ↦ x.result-is ∙ ap Err x.told_of_committing.ensures ∙ sym (ap (λ q. commit_result n q) x.in-Err.is)
    ] in
    let later = solo_view (record i { sacks = with_item i.sacks k w }) in
    let leads = enters g.D.Disk i c.self.invariant k v w within c.index_mut-book.ensures.value c.commit.ensures.same.0 bench_words (SaysCommit p) (commit_result n r) c.commit.ensures.same.1
    (λ h known. let after = c.commit.ensures.stands h known in
    (after.own, after.stands, λ counts earlier. says_commit n p r _ after.own c.commit.ensures.back (c.commit.ensures.sound counts h known earlier) (after.does counts earlier)))
    (λ counts h known earlier. commit_sound n r (c.commit.ensures.sound counts h known earlier)) (commit_risen g.D.Disk n r v w _ c.commit.ensures.cause) in
    subst (λ (q : Result ℕ (BenchFault Starved)). LeadsTo (StandsForBooks g.D.Disk) c.args.self.now later (Commits p q)) (sym told)
    (subst (λ (x : SoloView _). LeadsTo (StandsForBooks g.D.Disk) x later (Commits p (commit_result n r))) c.self.view_is
    (subst (λ (m : ℕ). LeadsTo (StandsForBooks g.D.Disk) (solo_view i) later (EntersSack m bench_words (SaysCommit p) (commit_result n r))) sack leads))

pub returns-clause-of_ticket : goal.returns-clause-of_ticket
returns-clause-of_ticket g c =
    let p = c.args.prepared in
    let n = c.ticket-sack.result.sack in
    let r = c.commit.result in
    let told : c.match-commit.result ≡ commit_result n r = elim c.match-commit.branch [
      | in-Ok x ↦ x.result-is ∙ sym (ap (λ q. commit_result n q) x.in-Ok.is)
      | in-Err x ↦ x.result-is ∙ ap Err x.told_of_committing.ensures ∙ sym (ap (λ q. commit_result n q) x.in-Err.is)
    ] in
    subst (λ (q : Result ℕ (BenchFault Starved)). IfErr q (StandsForTicket (λ starved. starved.ticket) p.job.ticket)) (sym told) (commit_ticket n p r c.commit.ensures.back)

pub returns-clause-as_many : goal.returns-clause-as_many
returns-clause-as_many g c = length-set c.self.inside.sacks.items c.from.result c.commit.new.self ∙ ap (λ (v : SoloView _). length v.sacks) c.self.view_is

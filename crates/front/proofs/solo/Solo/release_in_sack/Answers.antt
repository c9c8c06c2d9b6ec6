use Rattle.std.proofs.Common.{◌≡◌, ◌<◌, ℕ, Err, length, sym, ap, subst, ◌∙◌, arith}
use Rattle.std.specs.declared.result.Result.{Result}
use Rattle.std.specs.Vec.{with_item}
use Rattle.std.proofs.lemmas.List.{length-set}
use Rattle.front_api.specs.Bench.{Releases, SaysRelease}
use Rattle.front_api.specs.FaultWords.{free_words}
use Rattle.front_api.specs.Seen.{EntersSack, LeadsTo}
use Rattle.front_api.specs.declared.bench.FreeFault.{FreeFault}
use Rattle.front.specs.Inside.{solo_view}
use Rattle.front.specs.SoloView.{SoloView, StandsForBooks}
use Rattle.front.proofs.Calling.{enters, keeps_with}
use Rattle.front.proofs.Releasing.{free_result, free_risen, free_sound, says_release}
use Rattle.front.proofs.solo.Solo.release_in_sack.Goals as goal
use Rattle.front.proofs.solo.Solo.release_in_sack.Goals.{in-Ok, in-Err}

pub invariant_of-self : goal.invariant_of-self
invariant_of-self g c =
    let i = c.self.inside in
    let many = ap (λ (x : SoloView _). length x.sacks) c.self.view_is in
    let within : c.from.result < length i.sacks.items = omega (arith, c.from.ensures, c.requires, many) in
    keeps_with g.D.Disk i c.self.invariant c.from.result c.index_mut-book.result.now c.release.new.self within c.index_mut-book.ensures.value c.release.ensures.same.0

pub returns-clause-releases : goal.returns-clause-releases
returns-clause-releases g c =
    let i = c.self.inside in
    let k = c.from.result in
    let v = c.index_mut-book.result.now in
    let w = c.release.new.self in
    let r = c.release.result in
    let ticket = c.args.ticket in
    let many = ap (λ (x : SoloView _). length x.sacks) c.self.view_is in
    let within : c.from.result < length i.sacks.items = omega (arith, c.from.ensures, c.requires, many) in
    let told : c.match-release.result ≡ free_result r = elim c.match-release.branch [
      | in-Ok x ↦ x.result-is ∙ sym (ap free_result x.in-Ok.is)
      | in-Err x ↦ x.result-is ∙ ap Err x.told_of_releasing.ensures ∙ sym (ap free_result x.in-Err.is)
    ] in
    let later = solo_view (record i { sacks = with_item i.sacks k w }) in
    let leads = enters g.D.Disk i c.self.invariant k v w within c.index_mut-book.ensures.value c.release.ensures.same.0 free_words (SaysRelease ticket) (free_result r) c.release.ensures.same.1
    (λ h stands. let after = c.release.ensures.stands h stands in (after.own, after.stands, λ counts earlier. says_release ticket r _ after.own (after.does counts earlier)))
    (λ counts h stands earlier. free_sound (free_result r)) (free_risen (free_result r)) in
    let sack : k ≡ ticket.sack = c.from.ensures in
    subst (λ (q : Result (Unit {0}) FreeFault). LeadsTo (StandsForBooks g.D.Disk) c.args.self.now later (Releases ticket q)) (sym told)
    (subst (λ (x : SoloView _). LeadsTo (StandsForBooks g.D.Disk) x later (Releases ticket (free_result r))) c.self.view_is
    (subst (λ (n : ℕ). LeadsTo (StandsForBooks g.D.Disk) (solo_view i) later (EntersSack n free_words (SaysRelease ticket) (free_result r))) sack leads))

pub returns-clause-as_many : goal.returns-clause-as_many
returns-clause-as_many g c = length-set c.self.inside.sacks.items c.from.result c.release.new.self ∙ ap (λ (v : SoloView _). length v.sacks) c.self.view_is

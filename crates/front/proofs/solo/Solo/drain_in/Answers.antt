use Rattle.std.proofs.Common.{◌≡◌, ◌<◌, ℕ, Err, length, sym, ap, subst, ◌∙◌, arith}
use Rattle.std.specs.declared.result.Result.{Result}
use Rattle.std.specs.Result.{IfErr}
use Rattle.std.specs.Vec.{with_item}
use Rattle.std.proofs.lemmas.List.{length-set}
use Rattle.sack_history.specs.Calls.{IsDraining}
use Rattle.sack_history.specs.declared.fault.SackFault.{SackFault}
use Rattle.front_api.specs.FaultWords.{IsKnown, sack_words}
use Rattle.front_api.specs.Seen.{EntersSack, LeadsTo}
use Rattle.front.specs.Inside.{solo_view}
use Rattle.front.specs.SoloView.{SoloView, StandsForBooks}
use Rattle.front.proofs.Calling.{enters_told, keeps_with}
use Rattle.front.proofs.Told.{told_known, told_result}
use Rattle.front.proofs.solo.Solo.drain_in.Goals as goal
use Rattle.front.proofs.solo.Solo.drain_in.Goals.{in-Ok, in-Err}

pub invariant_of-self : goal.invariant_of-self
invariant_of-self g c =
    let i = c.self.inside in
    let many = ap (λ (x : SoloView _). length x.sacks) c.self.view_is in
    let within : c.from.result < length i.sacks.items = omega (arith, c.from.ensures, c.requires, many) in
    keeps_with g.D.Disk i c.self.invariant c.from.result c.index_mut-book.result.now c.drain.new.self within c.index_mut-book.ensures.value c.drain.ensures.same.0

pub returns-clause-drains : goal.returns-clause-drains
returns-clause-drains g c =
    let i = c.self.inside in
    let k = c.from.result in
    let n = c.args.sack in
    let v = c.index_mut-book.result.now in
    let w = c.drain.new.self in
    let r = c.drain.result in
    let many = ap (λ (x : SoloView _). length x.sacks) c.self.view_is in
    let within : c.from.result < length i.sacks.items = omega (arith, c.from.ensures, c.requires, many) in
    let told : c.match-drain.result ≡ told_result n r = elim c.match-drain.branch [
      | in-Ok x ↦ x.result-is ∙ sym (ap (λ q. told_result n q) x.in-Ok.is)
      | in-Err x ↦ x.result-is ∙ ap Err x.told_of_sack.ensures ∙ sym (ap (λ q. told_result n q) x.in-Err.is)
    ] in
    let later = solo_view (record i { sacks = with_item i.sacks k w }) in
    let leads = enters_told g.D.Disk i c.self.invariant k v w within c.index_mut-book.ensures.value c.drain.ensures.same.0 IsDraining n r (Unit {0}) c.drain.ensures.same.1
    (λ h known. let after = c.drain.ensures.stands h known in (after.own, after.stands, after.does))
    c.drain.ensures.sound c.drain.ensures.cause in
    let sack : k ≡ n = c.from.ensures in
    subst (λ (q : Result ℕ SackFault). LeadsTo (StandsForBooks g.D.Disk) c.args.self.now later (EntersSack n sack_words IsDraining q)) (sym told)
    (subst (λ (x : SoloView _). LeadsTo (StandsForBooks g.D.Disk) x later (EntersSack n sack_words IsDraining (told_result n r))) c.self.view_is
    (subst (λ (m : ℕ). LeadsTo (StandsForBooks g.D.Disk) (solo_view i) later (EntersSack m sack_words IsDraining (told_result n r))) sack leads))

pub returns-clause-known : goal.returns-clause-known
returns-clause-known g c =
    let n = c.args.sack in
    let r = c.drain.result in
    let told : c.match-drain.result ≡ told_result n r = elim c.match-drain.branch [
      | in-Ok x ↦ x.result-is ∙ sym (ap (λ q. told_result n q) x.in-Ok.is)
      | in-Err x ↦ x.result-is ∙ ap Err x.told_of_sack.ensures ∙ sym (ap (λ q. told_result n q) x.in-Err.is)
    ] in
    subst (λ (q : Result ℕ SackFault). IfErr q IsKnown) (sym told) (told_known n r c.drain.ensures.known)

pub returns-clause-as_many : goal.returns-clause-as_many
returns-clause-as_many g c = length-set c.self.inside.sacks.items c.from.result c.drain.new.self ∙ ap (λ (v : SoloView _). length v.sacks) c.self.view_is

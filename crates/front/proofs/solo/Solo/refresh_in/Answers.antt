use Rattle.std.proofs.Common.{◌≡◌, ℕ, length, sym, ap, subst, ◌∙◌, Err}
use Rattle.std.specs.Vec.{with_item}
use Rattle.std.proofs.lemmas.List.{length-set}
use Rattle.std.specs.declared.result.Result.{Result}
use Rattle.sack_history.specs.Calls.{IsRefreshing}
use Rattle.sack_history.specs.declared.fault.SackFault.{SackFault}
use Rattle.front_api.specs.Front.{Refreshes}
use Rattle.front_api.specs.Seen.{LeadsTo}
use Rattle.front.specs.Inside.{solo_view}
use Rattle.front.specs.SoloView.{SoloView, StandsForBooks}
use Rattle.front.proofs.Calling.{enters_told_of, keeps_with}
use Rattle.front.proofs.Told.{is_within, told_result}
use Rattle.front.proofs.solo.Solo.refresh_in.Goals as goal
use Rattle.front.proofs.solo.Solo.refresh_in.Goals.{in-Ok, in-Err}

pub invariant_of-self : goal.invariant_of-self
invariant_of-self g c =
    let i = c.self.inside in
    let k = c.from.result in
    let within = is_within i.sacks.items k c.sack_of-sack.result i.made.sacks c.args.metric c.from.ensures c.sack_of-sack.ensures c.self.invariant.some c.self.invariant.as_many in
    keeps_with g.D.Disk i c.self.invariant k c.index_mut-book.result.now c.refresh.new.self within c.index_mut-book.ensures.value c.refresh.ensures.same.0

pub returns-clause-refreshes : goal.returns-clause-refreshes
returns-clause-refreshes g c =
    let i = c.self.inside in
    let k = c.from.result in
    let n = c.sack_of-sack.result in
    let v = c.index_mut-book.result.now in
    let w = c.refresh.new.self in
    let r = c.refresh.result in
    let within = is_within i.sacks.items k n i.made.sacks c.args.metric c.from.ensures c.sack_of-sack.ensures c.self.invariant.some c.self.invariant.as_many in
    let told : c.match-refresh.result ≡ told_result n r = elim c.match-refresh.branch [
      | in-Ok x ↦ x.result-is ∙ sym (ap (λ q. told_result n q) x.in-Ok.is)
      | in-Err x ↦ x.result-is ∙ ap Err x.told_of_sack.ensures ∙ sym (ap (λ q. told_result n q) x.in-Err.is)
    ] in
    let later = solo_view (record i { sacks = with_item i.sacks k w }) in
    let leads = enters_told_of g.D.Disk i c.self.invariant k v w within c.index_mut-book.ensures.value c.refresh.ensures.same.0 (IsRefreshing c.args.metric) n r (Unit {0}) c.refresh.ensures.same.1
    (λ h known. let after = c.refresh.ensures.stands h known in (after.own, after.stands, after.does))
    c.refresh.ensures.sound c.refresh.ensures.cause c.args.metric (c.from.ensures ∙ c.sack_of-sack.ensures) in
    subst (λ (q : Result ℕ SackFault). LeadsTo (StandsForBooks g.D.Disk) c.args.self.now later (Refreshes c.args.metric q)) (sym told)
    (subst (λ (x : SoloView _). LeadsTo (StandsForBooks g.D.Disk) x later (Refreshes c.args.metric (told_result n r))) c.self.view_is leads)

pub returns-clause-as_many : goal.returns-clause-as_many
returns-clause-as_many g c = length-set c.self.inside.sacks.items c.from.result c.refresh.new.self ∙ ap (λ v. length v.sacks) c.self.view_is

use Rattle.std.proofs.Common.{◌≡◌, true, ℕ, length, sym, ap, subst, ◌∙◌, Err}
use Rattle.std.specs.Vec.{with_item}
use Rattle.std.proofs.lemmas.List.{length-set}
use Rattle.std.specs.declared.result.Result.{Result}
use Rattle.sack_history.specs.Calls.{IsPosting}
use Rattle.sack_history.specs.declared.fault.SackFault.{SackFault}
use Rattle.front_api.specs.Front.{Posts}
use Rattle.front_api.specs.Seen.{LeadsTo}
use Rattle.sack_state.specs.SackView.{Of}
use Rattle.front.specs.Inside.{solo_view}
use Rattle.front.specs.SoloView.{SoloView, StandsForBooks}
use Rattle.front.proofs.Calling.{enters_told_of, keeps_with}
use Rattle.front.proofs.Told.{is_within, told_result}
use Rattle.front.proofs.solo.Solo.post_to.Goals as goal
use Rattle.front.proofs.solo.Solo.post_to.Goals.{in-Ok, in-Err}

pub invariant_of-self : goal.invariant_of-self
invariant_of-self g c =
    let i = c.self.inside in
    let k = c.from.result in
    let within = is_within i.sacks.items k c.sack_of-sack.result i.made.sacks c.args.metric c.from.ensures c.sack_of-sack.ensures c.self.invariant.some c.self.invariant.as_many in
    keeps_with g.D.Disk i c.self.invariant k c.index_mut-book.result.now c.post.new.self within c.index_mut-book.ensures.value c.post.ensures.same.0

pub returns-clause-posts : goal.returns-clause-posts
returns-clause-posts g c =
    let i = c.self.inside in
    let k = c.from.result in
    let n = c.sack_of-sack.result in
    let v = c.index_mut-book.result.now in
    let w = c.post.new.self in
    let r = c.post.result in
    let within = is_within i.sacks.items k n i.made.sacks c.args.metric c.from.ensures c.sack_of-sack.ensures c.self.invariant.some c.self.invariant.as_many in
    let told : c.match-post.result ≡ told_result n r = elim c.match-post.branch [
      | in-Ok x ↦ x.result-is ∙ sym (ap (λ q. told_result n q) x.in-Ok.is)
      | in-Err x ↦ x.result-is ∙ ap Err x.told_of_sack.ensures ∙ sym (ap (λ q. told_result n q) x.in-Err.is)
    ] in
    let later = solo_view (record i { sacks = with_item i.sacks k w }) in
    let leads = enters_told_of g.D.Disk i c.self.invariant k v w within c.index_mut-book.ensures.value c.post.ensures.same.0 (IsPosting c.args.metric c.args.batch.now) n r (Of v (λ s. s.broken ≡ true)) c.post.ensures.same.1
    (λ h known. let after = c.post.ensures.stands h known in (after.own, after.stands, after.does))
    c.post.ensures.sound c.post.ensures.cause c.args.metric (c.from.ensures ∙ c.sack_of-sack.ensures) in
    subst (λ (q : Result ℕ SackFault). LeadsTo (StandsForBooks g.D.Disk) c.args.self.now later (Posts c.args.metric c.args.batch.now q)) (sym told)
    (subst (λ (x : SoloView _). LeadsTo (StandsForBooks g.D.Disk) x later (Posts c.args.metric c.args.batch.now (told_result n r))) c.self.view_is leads)

pub returns-clause-as_many : goal.returns-clause-as_many
returns-clause-as_many g c = length-set c.self.inside.sacks.items c.from.result c.post.new.self ∙ ap (λ v. length v.sacks) c.self.view_is

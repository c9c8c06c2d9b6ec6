use Rattle.std.proofs.Common.{◌≡◌, ◌<◌, ◌+◌, ◌++◌, ℕ, Ok, Err, length, sym, ap, subst, ◌∙◌, arith}
use Rattle.std.specs.declared.result.Result.{Result}
use Rattle.std.specs.Result.{IfErr, IfOk}
use Rattle.std.specs.Vec.{with_item}
use Rattle.std.proofs.lemmas.List.{length-set}
use Rattle.bound_series.specs.Jobs.{JobView}
use Rattle.sack_history.specs.Calls.{IsClaiming}
use Rattle.sack_history.specs.Entries.{all_counted}
use Rattle.sack_history.specs.declared.fault.SackFault.{SackFault}
use Rattle.sack_state.specs.SackCalls.{HasTicketOf}
use Rattle.front_api.specs.declared.bench.Claimed.{Claimed}
use Rattle.front_api.specs.Bench.{ClaimsWork, IsOfSack, SaysClaim}
use Rattle.front_api.specs.FaultWords.{IsKnown, sack_words}
use Rattle.front_api.specs.Seen.{EntersSack, LeadsTo}
use Rattle.front.specs.Inside.{solo_view}
use Rattle.front.specs.SoloView.{SoloView, StandsForBooks}
use Rattle.front.specs.Working.{as_it_is}
use Rattle.front.proofs.Calling.{enters, keeps_with}
use Rattle.front.proofs.Told.{place_at, sack_there}
use Rattle.front.proofs.Working.{claim_known, claim_of_sack, claim_result, claim_risen, claim_sound, says_claim}
use Rattle.front.proofs.solo.Solo.claim_in.Goals as goal
use Rattle.front.proofs.solo.Solo.claim_in.Goals.{in-Ok, in-Err}

pub invariant_of-self : goal.invariant_of-self
invariant_of-self g c =
    let i = c.self.inside in
    let many = ap (λ (x : SoloView _). length x.sacks) c.self.view_is in
    let within : c.from.result < length i.sacks.items = omega (arith, c.from.ensures, c.requires, many) in
    keeps_with g.D.Disk i c.self.invariant c.from.result c.index_mut-book.result.now c.claim.new.self within c.index_mut-book.ensures.value c.claim.ensures.same.0

pub returns-clause-claims : goal.returns-clause-claims
returns-clause-claims g c =
    let i = c.self.inside in
    let k = c.from.result in
    let n = c.args.sack in
    let v = c.index_mut-book.result.now in
    let w = c.claim.new.self in
    let r = c.claim.result in
    let many = ap (λ (x : SoloView _). length x.sacks) c.self.view_is in
    let within : c.from.result < length i.sacks.items = omega (arith, c.from.ensures, c.requires, many) in
    let told : c.match-claim.result ≡ claim_result n r = elim c.match-claim.branch [
      | in-Ok x ↦ x.result-is ∙ ap Ok x.claimed_by.ensures ∙ sym (ap (λ q. claim_result n q) x.in-Ok.is)
      | in-Err x ↦ x.result-is ∙ ap Err x.told_of_sack.ensures ∙ sym (ap (λ q. claim_result n q) x.in-Err.is)
    ] in
    let here : v.place.sack ≡ k = ap (λ p. p.sack) (place_at i.made.sacks 0 k i.sacks.items v c.self.invariant.in_place (sack_there i.sacks.items k v within c.index_mut-book.ensures.value)) ∙ (let e : 0 + k ≡ k = omega arith in e) in
    let later = solo_view (record i { sacks = with_item i.sacks k w }) in
    let leads = enters g.D.Disk i c.self.invariant k v w within c.index_mut-book.ensures.value c.claim.ensures.same.0 sack_words (SaysClaim as_it_is k) (claim_result n r) c.claim.ensures.same.1
    (λ h known. let after = c.claim.ensures.stands h known in
    (after.own, after.stands, λ counts earlier. says_claim n k r _ after.own (c.claim.ensures.sound counts h known earlier) (subst (λ (m : ℕ). IsClaiming m r (all_counted counts ++ h) after.own) here (after.does counts earlier))))
    (λ counts h known earlier. claim_sound n r (c.claim.ensures.sound counts h known earlier)) (claim_risen g.D.Disk n r v w _ c.claim.ensures.cause) in
    let sack : k ≡ n = c.from.ensures in
    subst (λ (q : Result (Claimed JobView) SackFault). LeadsTo (StandsForBooks g.D.Disk) c.args.self.now later (ClaimsWork as_it_is n q)) (sym told)
    (subst (λ (x : SoloView _). LeadsTo (StandsForBooks g.D.Disk) x later (ClaimsWork as_it_is n (claim_result n r))) c.self.view_is
    (subst (λ (m : ℕ). LeadsTo (StandsForBooks g.D.Disk) (solo_view i) later (EntersSack m sack_words (SaysClaim as_it_is m) (claim_result n r))) sack leads))

pub returns-clause-known : goal.returns-clause-known
returns-clause-known g c =
    let n = c.args.sack in
    let r = c.claim.result in
    let told : c.match-claim.result ≡ claim_result n r = elim c.match-claim.branch [
      | in-Ok x ↦ x.result-is ∙ ap Ok x.claimed_by.ensures ∙ sym (ap (λ q. claim_result n q) x.in-Ok.is)
      | in-Err x ↦ x.result-is ∙ ap Err x.told_of_sack.ensures ∙ sym (ap (λ q. claim_result n q) x.in-Err.is)
    ] in
    subst (λ (q : Result (Claimed JobView) SackFault). IfErr q IsKnown) (sym told) (claim_known n r c.claim.ensures.known)

pub returns-clause-of_sack : goal.returns-clause-of_sack
returns-clause-of_sack g c =
    let i = c.self.inside in
    let k = c.from.result in
    let n = c.args.sack in
    let v = c.index_mut-book.result.now in
    let r = c.claim.result in
    let many = ap (λ (x : SoloView _). length x.sacks) c.self.view_is in
    let within : c.from.result < length i.sacks.items = omega (arith, c.from.ensures, c.requires, many) in
    let told : c.match-claim.result ≡ claim_result n r = elim c.match-claim.branch [
      | in-Ok x ↦ x.result-is ∙ ap Ok x.claimed_by.ensures ∙ sym (ap (λ q. claim_result n q) x.in-Ok.is)
      | in-Err x ↦ x.result-is ∙ ap Err x.told_of_sack.ensures ∙ sym (ap (λ q. claim_result n q) x.in-Err.is)
    ] in
    let here : v.place.sack ≡ k = ap (λ p. p.sack) (place_at i.made.sacks 0 k i.sacks.items v c.self.invariant.in_place (sack_there i.sacks.items k v within c.index_mut-book.ensures.value)) ∙ (let e : 0 + k ≡ k = omega arith in e) in
    let sack : k ≡ n = c.from.ensures in
    subst (λ (q : Result (Claimed JobView) SackFault). IfOk q (IsOfSack as_it_is n)) (sym told)
    (claim_of_sack n n r (subst (λ (m : ℕ). IfOk r (HasTicketOf m)) (here ∙ sack) c.claim.ensures.of_place))

pub returns-clause-as_many : goal.returns-clause-as_many
returns-clause-as_many g c = length-set c.self.inside.sacks.items c.from.result c.claim.new.self ∙ ap (λ (v : SoloView _). length v.sacks) c.self.view_is

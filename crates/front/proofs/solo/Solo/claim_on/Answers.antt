use Rattle.std.proofs.Common.{◌≡◌, ◌<◌, ℕ, Some, length, subst, sym, ap, ◌∙◌, arith}
use Rattle.std.specs.List.{slice_get, slice_set}
use Rattle.front_api.specs.Bench.{Duty}
use Rattle.front.specs.SoloView.{SoloView, StandsForBooks}
use Rattle.front.proofs.Working.{set_elsewhere, set_there}
use Rattle.front.proofs.solo.Solo.claim_on.Goals as goal

pub returns-clause-claims : goal.returns-clause-claims
returns-clause-claims g c old known =
    let new = c.claim_in-given.ensures.claims old known in
    let inner = subst (λ (v : SoloView _). StandsForBooks g.D.Disk v new.0) (sym c.self.view_is) new.1 in
    (new.0, record { index = inner.index; sacks = inner.sacks }, new.2)

pub returns-clause-notes : goal.returns-clause-notes
returns-clause-notes g c =
    let i = c.self.inside in
    let k = c.from.result in
    let claims = i.last_claims.items in
    let noted = c.last_claim_of.result in
    let many : length i.sacks.items ≡ length c.args.self.now.sacks = ap (λ (v : SoloView _). length v.sacks) c.self.view_is ∙ c.claim_in-given.ensures.as_many in
    let within : k < length claims = omega (arith, c.from.ensures, c.requires, many, c.self.invariant.as_many, c.self.invariant.claims) in
    let same : (let d : Duty = record { refusals = i.refusals; last_claims = claims } in d) ≡ c.args.self.now.duty =
    ap (λ (v : SoloView _). v.duty) c.self.view_is ∙ ap (λ (v : SoloView _). v.duty) c.claim_in-given.ensures.same in
    record {
      here = subst (λ (n : ℕ). slice_get (slice_set claims k noted) n ≡ Some noted) c.from.ensures (set_there claims k noted within) ∙ ap Some c.last_claim_of.ensures;
      elsewhere = λ other not. set_elsewhere claims k other noted (λ same_place. not (same_place ∙ c.from.ensures)) ∙ ap (λ (d : Duty). slice_get d.last_claims other) same;
      refusals = ap (λ (d : Duty). d.refusals) same;
    }

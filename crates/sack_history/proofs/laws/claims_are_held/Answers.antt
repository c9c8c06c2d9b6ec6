use Rattle.std.proofs.Common.{◌≡◌, ◌≢◌, ℕ, cond, eqb, true, List, Option, Some, None, refl, ap, ◌∙◌}
use Rattle.std.proofs.lemmas.Bool.{and_from, eq-eqb, ne_eqb}
use Rattle.series_model.specs.declared.measure.Measure.{Measure}
use Rattle.series_model.specs.declared.metric.MetricId.{MetricId}
use Rattle.series_model.specs.declared.ticket.Ticket.{Ticket}
use Rattle.sack_history.specs.declared.entry.Counted.{Counted}
use Rattle.sack_history.specs.declared.entry.Counted.TheVariants as counted
use Rattle.sack_history.specs.declared.entry.Entry.TheVariants as entries
use Rattle.sack_history.specs.declared.holding.HeldClaim.{HeldClaim}
use Rattle.sack_history.specs.Holding.{held_after, held_claim, held_through, same_ticket}
use Rattle.sack_history.specs.Lives.{subject_of}
use Rattle.sack_history.proofs.Held.{held-more, holds_well}
use Rattle.sack_history.proofs.Living.{same_id}
use Rattle.sack_history.proofs.laws.claims_are_held.Goals as goal

posts : (o : Option HeldClaim) (number : ℕ) (m : MetricId) (measures : List Measure) → held_after o (entries.Counted (counted.Post number m measures)) ≡ o
posts None number m measures = refl
posts (Some claim) number m measures = refl

own_ticket : (t : Ticket) → same_ticket t t ≡ true
own_ticket t = and_from (eqb t.sack t.sack) (eqb t.number t.number) (eq-eqb t.sack t.sack refl) (eq-eqb t.number t.number refl)

-- what counts of another metric
other_through : (claim : HeldClaim) (c : Counted) → subject_of c ≢ claim.metric → held_through claim c ≡ Some claim
other_through claim (counted.Create m policy) other = refl
other_through claim (counted.Post n m measures) other = refl
other_through claim (counted.Done m upto) other = ap (λ b. cond b None (Some claim)) (ne_eqb m.0 claim.metric.0 (λ is. other (same_id m claim.metric is)))
other_through claim (counted.Drop m) other = ap (λ b. cond b None (Some claim)) (ne_eqb m.0 claim.metric.0 (λ is. other (same_id m claim.metric is)))

always : (o : Option HeldClaim) (t : Ticket) (m : MetricId) (upto : ℕ) → held_after o (entries.Claim t m upto) ≡ Some (record { ticket = t; metric = m; upto = upto })
always None t m upto = refl
always (Some claim) t m upto = refl

never : (o : Option HeldClaim) (tried : Option Counted) (before after : ℕ) → held_after o (entries.Fault tried before after) ≡ None
never None tried before after = refl
never (Some claim) tried before after = refl

looks : (o : Option HeldClaim) (m : Option MetricId) → held_after o (entries.Look m) ≡ o
looks None m = refl
looks (Some claim) m = refl

pub returns : goal.returns
returns c = record {
  claimed = λ h t m upto. held-more h (entries.Claim t m upto) ∙ always (held_claim h) t m upto;
  released = λ h claim held. held-more h (entries.Release claim.ticket) ∙ ap (λ o. held_after o (entries.Release claim.ticket)) held ∙ ap (λ b. cond b None (Some claim)) (own_ticket claim.ticket);
  processed = λ h claim upto held. held-more h (entries.Counted (counted.Done claim.metric upto)) ∙ ap (λ o. held_after o (entries.Counted (counted.Done claim.metric upto))) held ∙ ap (λ b. cond b None (Some claim)) (eq-eqb claim.metric.0 claim.metric.0 refl);
  dropped = λ h claim held. held-more h (entries.Counted (counted.Drop claim.metric)) ∙ ap (λ o. held_after o (entries.Counted (counted.Drop claim.metric))) held ∙ ap (λ b. cond b None (Some claim)) (eq-eqb claim.metric.0 claim.metric.0 refl);
  failed = λ h tried before after. held-more h (entries.Fault tried before after) ∙ never (held_claim h) tried before after;
  looked = λ h m. held-more h (entries.Look m) ∙ looks (held_claim h) m;
  others = λ h claim e held other. held-more h (entries.Counted e) ∙ ap (λ o. held_after o (entries.Counted e)) held ∙ other_through claim e other;
  posted = λ h number m measures. held-more h (entries.Counted (counted.Post number m measures)) ∙ posts (held_claim h) number m measures;
  broken = λ sack h legal is. (holds_well sack h legal).broken is;
}

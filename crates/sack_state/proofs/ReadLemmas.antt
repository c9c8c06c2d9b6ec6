-- What a sack tells of its history.
use Rattle.std.proofs.Common.{◌≡◌, ℕ, Bool, List, ◌++◌, length, map, Option, Some, None, refl, ap, subst, ◌∙◌}
use Rattle.std.specs.Option.{MatchOption, option_map}
use Rattle.std.proofs.lemmas.List.{length-map}
use Rattle.gno_disk.specs.declared.disk.Disk.{Ghosts}
use Rattle.series_model.specs.declared.metric.MetricId.{MetricId}
use Rattle.series_model.specs.declared.ticket.Ticket.{Ticket}
use Rattle.shelf_records.specs.Shelved.{Shelved}
use Rattle.sack_history.specs.declared.entry.Counted.{Counted}
use Rattle.sack_history.specs.declared.entry.Entry.{Entry}
use Rattle.sack_history.specs.declared.holding.HeldClaim.{HeldClaim}
use Rattle.sack_history.specs.Entries.{all_counted, kept}
use Rattle.sack_history.specs.Holding.{holder_of, is_broken}
use Rattle.sack_history.specs.Lives.{live_ids, pending_posts}
use Rattle.sack_state.specs.SackView.{IsEarlier, IsScratch, Of, SackState, SackView, Stands, StandsFor, mark_by, marks_waiting}
use Rattle.sack_state.proofs.KnowLemmas.{ids_known}

module _ {D : Type 0} (g : Ghosts D) (v : SackView D) (earlier : List Counted) (h : List Entry) (stands : StandsFor g h v) (legal : IsEarlier g v.place v.opening earlier) where
  record IsAt : Type 0 where
    state : SackState D
    is : v.state ≡ Some state
    scratch : IsScratch g v state (all_counted earlier ++ h)

  at : IsAt
  at = by v.state refl stands
    where
      by : (o : Option (SackState D)) → v.state ≡ o → MatchOption o ⊥ (Stands g h v) → IsAt
      by None is there = absurd there
      by (Some s) is there = record { state = s; is = is; scratch = there.behind earlier legal }

  at_state : (P : SackState D → Type 0) → Of v P → P at.state
  at_state P there = subst (λ (o : Option (SackState D)). MatchOption o ⊥ P) at.is there

  pub holder_at : (held : Option Ticket) → held ≡ option_map (λ (claim : HeldClaim). claim.ticket) v.held → held ≡ holder_of (all_counted earlier ++ h)
  holder_at held is = is ∙ ap (option_map (λ (claim : HeldClaim). claim.ticket)) at.scratch.held

  pub broken_at : (broken : Bool) → Of v (λ s. broken ≡ s.broken) → broken ≡ is_broken (all_counted earlier ++ h)
  broken_at broken is = at_state (λ s. broken ≡ s.broken) is ∙ at.scratch.broken

  pub ids_at : (ids : List MetricId) → Of v (λ s. ids ≡ map (λ (m : Shelved). m.id) s.books.shelf.metrics) → ids ≡ live_ids (kept (all_counted earlier ++ h))
  ids_at ids is = at_state (λ s. ids ≡ map (λ (m : Shelved). m.id) s.books.shelf.metrics) is ∙ ids_known at.state.books (kept (all_counted earlier ++ h)) at.scratch.remembers

  pub pending_at : (pending : ℕ) → Of v (λ s. pending ≡ length (marks_waiting s.books)) → pending ≡ length (pending_posts (kept (all_counted earlier ++ h)))
  pending_at pending is =
      at_state (λ s. pending ≡ length (marks_waiting s.books)) is ∙ ap length at.scratch.remembers.waiting ∙ length-map (pending_posts (kept (all_counted earlier ++ h))) mark_by

-- A call of a sack that leaves its disks and its books as they are.
use Rattle.std.proofs.Common.{◌≡◌, inl, inr, ℕ, ◌+◌, Bool, false, List, [], ◌∷◌, ◌++◌, Option, Some, None, refl, sym, ap, subst, ◌∙◌, append_assoc}
use Rattle.std.specs.Option.{MatchOption, option_map}
use Rattle.std.proofs.lemmas.Bool.{cases_Bool}
use Rattle.std.proofs.lemmas.Option.{none-some}
use Rattle.gno_disk.specs.declared.disk.Disk.{Ghosts}
use Rattle.log_pair.specs.declared.place.Place.{Place}
use Rattle.sack_history.specs.declared.entry.Counted.{Counted}
use Rattle.sack_history.specs.declared.entry.Entry.{Entry}
use Rattle.sack_history.specs.declared.holding.HeldClaim.{HeldClaim}
use Rattle.sack_history.specs.Entries.{all_counted, found_from, kept, what_counts}
use Rattle.sack_history.specs.Holding.{broken_after, held_after, is_broken, last_ticket, open_tried, ticket_after, tried_after}
use Rattle.sack_history.specs.Legal.{MayComeNext}
use Rattle.sack_history.specs.Scratch.{durable}
use Rattle.sack_history.proofs.Following.{FollowOn-more}
use Rattle.sack_history.proofs.Held.{held-more, ticket-more}
use Rattle.sack_history.proofs.Keeping.{broken-more, kept-noted, tried-more, whole_tried}
use Rattle.sack_state.specs.declared.disks.Opening.{Opening}
use Rattle.sack_state.specs.declared.holding.Keeping.{Keeping}
use Rattle.sack_state.specs.Disks.{Leaves, sack_faults}
use Rattle.sack_state.specs.Holding.{state_of}
use Rattle.sack_state.specs.SackHolding.{AreOfHistory, HoldsSack}
use Rattle.sack_state.specs.SackView.{AreReal, AtAnyMoment, HasDurable, HasNoEarlier, IsScratch, Remembers, SackState, SackView, Stands, StandsAfter, StandsFor, all_along, capped, once_mounted}
use Rattle.sack_state.proofs.CallLemmas.{view_of}
use Rattle.sack_state.proofs.MomentLemmas.{still_moments, still_sack}
use Rattle.sack_state.proofs.RealLemmas.{AreReal-append}

-- what an entry must be that leaves all but the claim
pub record IsCalm (e : Entry) : Type 1 where
  pub noted : found_from e false ≡ false
  pub none : what_counts false e ≡ []
  pub broken : (b : Bool) → broken_after b e ≡ b
  pub ticket : (t : ℕ) → ticket_after t e ≡ t
  pub tried : (o : Option Counted) → tried_after o e ≡ o
  pub real : (N : Type 0) (n : ℕ) → AreReal N n (e ∷ []) n

module _ {D : Type 0} (g : Ghosts D) (only_now : (disk : D) (image : List ℕ) → g.left_since disk (g.moment disk) image → g.may_leave disk image)
    (place : Place) (opening : Opening D) (keeping : Option (Keeping D)) (claim left : Option HeldClaim) (tickets n k : ℕ) (e : Entry) (calm : IsCalm e) (held : left ≡ held_after claim e) (count : k ≡ capped (n + 1)) where
  abbrev before : SackView D
  before = view_of keeping place opening claim tickets n

  abbrev after : SackView D
  after = view_of keeping place opening left tickets k

  module _ (s : SackState D) (history : List Entry) (scratch : IsScratch g before s history) where
    same_kept : kept (history ++ e ∷ []) ≡ kept history
    same_kept = kept-noted history e calm.noted calm.none

    still_of : (a b z c d : List ℕ) → AreOfHistory place history a b z c d → AreOfHistory place (history ++ e ∷ []) a b z c d
    still_of a b z c d (inl there) = inl (subst (λ l. HoldsSack place (durable l) a b z c d) (sym same_kept) there)
    still_of a b z c d (inr there) = inr (there.0, tried-more history e ∙ calm.tried (open_tried history) ∙ there.1, subst (λ l. HoldsSack place (durable (l ++ there.0 ∷ [])) a b z c d) (sym same_kept) there.2)

    rest_scratch : MayComeNext place.sack history e → IsScratch g after s (history ++ e ∷ [])
    rest_scratch may = record {
      legal = FollowOn-more (MayComeNext place.sack) history e scratch.legal may;
      broken = scratch.broken ∙ sym (broken-more history e ∙ calm.broken (is_broken history));
      held = held ∙ ap (λ o. held_after o e) scratch.held ∙ sym (held-more history e);
      tickets = scratch.tickets ∙ sym (ticket-more history e ∙ calm.ticket (last_ticket history));
      remembers = subst (λ c. Remembers s.books (durable c)) (sym same_kept) scratch.remembers;
      has = λ whole. subst (λ c. HasDurable g s.books (durable c)) (sym same_kept) (scratch.has whole);
      tell = scratch.tell;
      images = λ a b z c d left_a left_b left_z left_c left_d. still_of a b z c d (scratch.images a b z c d left_a left_b left_z left_c left_d);
    }

    -- where nothing was tried, a stop leaves what counts
    counted_now : s.broken ≡ false → Leaves g s.disks (HoldsSack place (durable (kept history)))
    counted_now whole a b z c d left_a left_b left_z left_c left_d = by (scratch.images a b z c d left_a left_b left_z left_c left_d)
      where
        by : AreOfHistory place history a b z c d → HoldsSack place (durable (kept history)) a b z c d
        by (inl there) = there
        by (inr there) = absurd (none-some there.0 (sym (whole_tried history (sym scratch.broken ∙ whole)) ∙ there.1))

    rest_moments : AtAnyMoment g s s (HoldsSack place (durable (kept history)))
    rest_moments = elim (cases_Bool s.broken) [
      | inl broken ↦ once_mounted broken (inl (still_sack g only_now s.disks))
      | inr whole ↦ all_along whole (still_moments g only_now s.disks (HoldsSack place (durable (kept history))) (counted_now whole))
    ]

  -- the sack stands for the list with this entry
  pub rest_after : (Call : List Entry → List Entry → Type 0) (h : List Entry) → StandsFor g h (view_of keeping place opening claim tickets n)
      → ((history : List Entry) (s : SackState D) → IsScratch g (view_of keeping place opening claim tickets n) s history → MayComeNext place.sack history e × Call history (e ∷ []))
      → StandsAfter g h (λ (counts : List Counted). None) (view_of keeping place opening claim tickets n) (view_of keeping place opening left tickets k) Call
  rest_after Call h stands does = by keeping refl stands
    where
      by : (o : Option (Keeping D)) → keeping ≡ o → MatchOption (option_map state_of o) ⊥ (Stands g h (view_of keeping place opening claim tickets n))
          → StandsAfter g h (λ (counts : List Counted). None) (view_of keeping place opening claim tickets n) (view_of keeping place opening left tickets k) Call
      by None is there = absurd there
      by (Some was) is there =
          let s = state_of was in
          record {
            own = e ∷ [];
            stands = subst (λ (o : Option (Keeping D)). MatchOption (option_map state_of o) ⊥ (Stands g (h ++ e ∷ []) after)) (sym is) (record {
              behind = λ earlier legal.
                  let scratch = there.behind earlier legal in
                  subst (IsScratch g after s) (append_assoc (all_counted earlier) h (e ∷ [])) (rest_scratch s (all_counted earlier ++ h) scratch (does (all_counted earlier ++ h) s scratch).0);
              real = AreReal-append (HasNoEarlier g place opening) (sack_faults g opening.disks) h (e ∷ []) (sack_faults g s.disks) (sack_faults g s.disks) there.real (calm.real (HasNoEarlier g place opening) (sack_faults g s.disks));
            });
            counted = count;
            does = λ earlier legal. (does (all_counted earlier ++ h) s (there.behind earlier legal)).1;
            mid = h;
            mid_is = inl refl;
            moments = λ earlier legal.
                subst (λ (o : Option (Keeping D)). MatchOption (option_map state_of o) ⊥ (λ x. MatchOption (option_map state_of o) ⊥ (λ y. AtAnyMoment g x y (HoldsSack place (durable (kept (all_counted earlier ++ h))))))) (sym is)
                (rest_moments s (all_counted earlier ++ h) (there.behind earlier legal));
          }

-- What one entry leaves of a sack whose books weren't broken.
use Rattle.std.proofs.Common.{◌≡◌, inl, inr, ℕ, ◌-◌, ◌^◌, ◌≤◌, Bool, true, false, cond, ◌||◌, List, [], ◌∷◌, ◌++◌, Option, Some, None, refl, sym, ap, subst, ◌∙◌}
use Rattle.std.specs.Option.{IfSome, is_some}
use Rattle.std.proofs.lemmas.Bool.{false≢true}
use Rattle.gno_num.specs.Faults.{Rose}
use Rattle.gno_num.specs.declared.faults.DiskFault.{DiskFault as Fault}
use Rattle.gno_disk.specs.Phases.{AreLater, AreUnwritten, EachMoment}
use Rattle.gno_disk.specs.declared.disk.Disk.{Ghosts}
use Rattle.gno_disk.proofs.PhaseLemmas.{AtMoment-unwritten}
use Rattle.gate_log.specs.LogView.{IsFault}
use Rattle.log_pair.specs.declared.place.Place.{Place}
use Rattle.sack_history.specs.declared.entry.Counted.{Counted}
use Rattle.sack_history.specs.declared.entry.Entry.{Entry}
use Rattle.sack_history.specs.declared.entry.Entry.TheVariants as entries
use Rattle.sack_history.specs.declared.holding.HeldClaim.{HeldClaim}
use Rattle.sack_history.specs.Entries.{kept}
use Rattle.sack_history.specs.Failing.{HasRisen}
use Rattle.sack_history.specs.Holding.{broken_after, held_after, held_claim, is_broken, last_ticket, ticket_after}
use Rattle.sack_history.specs.Legal.{IsLegal, IsLegalCount, MayComeNext, MayCount, MayHaveTried}
use Rattle.sack_history.specs.Scratch.{durable}
use Rattle.sack_history.proofs.Following.{FollowOn-more}
use Rattle.sack_history.proofs.Held.{held-more, ticket-more}
use Rattle.sack_history.proofs.Keeping.{broken-more, kept-noted, kept_legal, tried-more, whole_tried}
use Rattle.sack_state.specs.declared.books.Books.{Books}
use Rattle.sack_state.specs.Books.{AreLasting, AreOfPlace, AreWhole, disks_of}
use Rattle.sack_state.specs.Disks.{CameWithin, Leaves, OfFive, sack_faults, sack_phases}
use Rattle.sack_state.specs.Holding.{are_broken}
use Rattle.sack_state.specs.SackHolding.{AreOfHistory, AreOldOrWritten, HoldsSack}
use Rattle.sack_state.specs.SackView.{AreReal, HasDurable, IsScratch, Remembers, SackView}
use Rattle.sack_state.proofs.DoneLemmas.{settled, state_with}
use Rattle.sack_state.proofs.DiskLemmas.{capped_least, no_less, tell_later}
use Rattle.sack_state.proofs.MomentLemmas.{five_entry}
use Rattle.sack_state.proofs.MountLemmas.{books_leave}
use Rattle.sack_state.proofs.RealLemmas.{has_risen, real_of}

-- ---- the claim

-- The claim that is left, by the one that was held as the books were taken: a broken sack holds none.
pub left_after : (anew broken done : Bool) (claim left : Option HeldClaim) (e : Entry) → held_after None e ≡ None → left ≡ cond (anew || broken) None (cond done (held_after claim e) claim)
    → (held : Option HeldClaim) → held ≡ cond anew None claim → left ≡ cond broken None (cond done (held_after held e) held)
left_after true true done claim left e none is held same = is
left_after true false true claim left e none is held same = is ∙ sym (ap (λ o. held_after o e) same ∙ none)
left_after true false false claim left e none is held same = is ∙ sym same
left_after false true done claim left e none is held same = is
left_after false false true claim left e none is held same = is ∙ ap (λ o. held_after o e) (sym same)
left_after false false false claim left e none is held same = is ∙ sym same

-- ---- faults

-- a fault whose counts are those of the books before and after is real
pub fault_risen : {D : Type 0} (g : Ghosts D) (old new : Books D) (f : Fault) → IsFault (sack_faults g (disks_of old)) (sack_faults g (disks_of new)) f → HasRisen f
fault_risen g old new f is = has_risen f
    (subst (λ k. Rose k f.after) (sym is.before_is) (subst (λ k. Rose (sack_faults g (disks_of old)) k) (sym is.after_is) is.rose))
    (subst (λ k. k ≤ 2 ^ 64 - 1) (sym is.before_is) (capped_least _)) (subst (λ k. k ≤ 2 ^ 64 - 1) (sym is.after_is) (capped_least _))

pub fault_real : {D : Type 0} (g : Ghosts D) (old new : Books D) (f : Fault) → IsFault (sack_faults g (disks_of old)) (sack_faults g (disks_of new)) f → (tried : Option Counted) (N : Type 0)
    → AreReal N (sack_faults g (disks_of old)) (entries.Fault tried f.before f.after ∷ []) (sack_faults g (disks_of new))
fault_real g old new f is tried N = (
  real_of N tried f (fault_risen g old new f is),
  subst (λ k. sack_faults g (disks_of old) ≤ k) (sym is.before_is) (no_less _),
  subst (λ k. k ≤ sack_faults g (disks_of new)) (sym is.after_is) (no_less _),
)

module _ {D : Type 0} (g : Ghosts D) (tells : (n : ℕ) (old new : D) → g.came n old new → is_some (g.told new) ≡ is_some (g.told old)) (place : Place) (old new : Books D) (v w : SackView D) (v_place : v.place ≡ place) (w_place : w.place ≡ place)
    (history : List Entry) (scratch : IsScratch g v (record { disks = disks_of old; books = old; broken = false }) history) (i s z : ℕ) (came : CameWithin g i s z (disks_of old) (disks_of new)) where
  abbrev counts : List Counted
  counts = kept history

  pub legal : IsLegal place.sack history
  legal = subst (λ (p : Place). IsLegal p.sack history) v_place scratch.legal

  pub legal_count : IsLegalCount (kept history)
  legal_count = kept_legal place.sack history legal

  pub has : HasDurable g old (durable (kept history))
  has = scratch.has refl

  pub unbroken : is_broken history ≡ false
  unbroken = sym scratch.broken

  -- ---- what the sack is then

  -- its books aren't broken
  pub left_whole : (e : Entry) → MayComeNext place.sack history e → broken_after false e ≡ false → w.held ≡ held_after (held_claim history) e → w.tickets ≡ ticket_after (last_ticket history) e
      → HasDurable g new (durable (kept (history ++ e ∷ []))) → AreWhole new → AreLasting g new → AreOfPlace place new → IsScratch g w (state_with new) (history ++ e ∷ [])
  left_whole e may calm held tickets has_new whole lasting of_place = settled g w new (history ++ e ∷ [])
      (subst (λ (p : Place). IsLegal p.sack (history ++ e ∷ [])) (sym w_place) (FollowOn-more (MayComeNext place.sack) history e legal may))
      (broken-more history e ∙ ap (λ b. broken_after b e) unbroken ∙ calm)
      (held ∙ sym (held-more history e)) (tickets ∙ sym (ticket-more history e)) has_new whole lasting
      (subst (λ (p : Place). AreOfPlace p new) (sym w_place) of_place) (tell_later g tells i s z (disks_of old) (disks_of new) came scratch.tell)

  may_have : (tried : Option Counted) → IfSome tried (MayCount counts) → IfSome tried (MayHaveTried history)
  may_have None may = may
  may_have (Some c) may = record { only = whole_tried history unbroken; counts = may }

  held_none : (o : Option HeldClaim) (tried : Option Counted) (before after : ℕ) → held_after o (entries.Fault tried before after) ≡ None
  held_none None tried before after = refl
  held_none (Some claim) tried before after = refl

  left_over : (tried : Option Counted) (before after : ℕ) (a b x c d : List ℕ) → AreOldOrWritten place counts tried a b x c d → AreOfHistory place (history ++ entries.Fault tried before after ∷ []) a b x c d
  left_over None before after a b x c d there = inl (subst (λ l. HoldsSack place (durable l) a b x c d) (sym (kept-noted history (entries.Fault None before after) refl refl)) there)
  left_over (Some more) before after a b x c d (inl there) = inl (subst (λ l. HoldsSack place (durable l) a b x c d) (sym (kept-noted history (entries.Fault (Some more) before after) refl refl)) there)
  left_over (Some more) before after a b x c d (inr there) = inr (
    more,
    tried-more history (entries.Fault (Some more) before after),
    subst (λ l. HoldsSack place (durable (l ++ more ∷ [])) a b x c d) (sym (kept-noted history (entries.Fault (Some more) before after) refl refl)) there,
  )

  -- its books have broken
  pub left_broken : (tried : Option Counted) (before after : ℕ) → IfSome tried (MayCount (kept history)) → are_broken new ≡ true → w.held ≡ None → w.tickets ≡ last_ticket history → Remembers new (durable (kept history))
      → Leaves g (disks_of new) (AreOldOrWritten place (kept history) tried) → IsScratch g w (state_with new) (history ++ entries.Fault tried before after ∷ [])
  left_broken tried before after may broken held tickets remembers leaves =
      let e = entries.Fault tried before after in
      record {
        legal = subst (λ (p : Place). IsLegal p.sack (history ++ e ∷ [])) (sym w_place) (FollowOn-more (MayComeNext place.sack) history e legal (may_have tried may));
        broken = broken ∙ sym (broken-more history e);
        held = held ∙ sym (held-more history e ∙ held_none (held_claim history) tried before after);
        tickets = tickets ∙ sym (ticket-more history e);
        remembers = subst (λ c. Remembers new (durable c)) (sym (kept-noted history e refl refl)) remembers;
        has = λ whole. absurd (false≢true (sym whole ∙ broken));
        tell = tell_later g tells i s z (disks_of old) (disks_of new) came scratch.tell;
        images = λ a b x c d left_a left_b left_x left_c left_d.
            subst (λ (p : Place). AreOfHistory p (history ++ e ∷ []) a b x c d) (sym w_place) (left_over tried before after a b x c d (leaves a b x c d left_a left_b left_x left_c left_d));
      }

  -- ---- a call that writes nothing

  module _ (whole : AreWhole old) (lasting : AreLasting g old) (of_place : AreOfPlace place old) where
    as_before : (written : Option Counted) (a b x c d : List ℕ) → HoldsSack place (durable counts) a b x c d → AreOldOrWritten place counts written a b x c d
    as_before None a b x c d there = there
    as_before (Some more) a b x c d there = inl there

    pub unwritten_moments : AreUnwritten g (sack_phases (disks_of old) (disks_of new)) → AreLater g (sack_phases (disks_of old) (disks_of new)) → (written : Option Counted)
        → EachMoment g (sack_phases (disks_of old) (disks_of new)) (OfFive (AreOldOrWritten place (kept history) written))
    unwritten_moments unwritten later written = record {
      later = later;
      each = λ images at. five_entry g (disks_of old) (disks_of new) (AreOldOrWritten place counts written)
          (λ a b x c d left_a left_b left_x left_c left_d. as_before written a b x c d (books_leave g place old (durable counts) of_place lasting has a b x c d left_a left_b left_x left_c left_d)) images
          (AtMoment-unwritten g (sack_phases (disks_of old) (disks_of new)) images unwritten at);
    }

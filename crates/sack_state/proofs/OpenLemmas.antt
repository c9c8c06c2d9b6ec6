-- A sack as it was opened.
use Rattle.std.proofs.Common.{◌≡◌, ℕ, ◌≤◌, true, false, List, [], ◌∷◌, ◌++◌, map, None, refl, sym, ap, subst, ◌∙◌}
use Rattle.std.specs.List.{fold}
use Rattle.std.specs.Option.{is_some}
use Rattle.std.proofs.lemmas.List.{append-nil}
use Rattle.std.proofs.lemmas.Bool.{false≢true}
use Rattle.gno_disk.specs.declared.disk.Disk.{Ghosts}
use Rattle.sack_history.specs.declared.entry.Counted.{Counted}
use Rattle.sack_history.specs.declared.entry.Entry.TheVariants as entries
use Rattle.sack_history.specs.Entries.{all_counted}
use Rattle.sack_history.specs.Holding.{broken_after, held_after, ticket_after}
use Rattle.sack_history.specs.Legal.{IsLegalCount}
use Rattle.sack_history.specs.Scratch.{durable}
use Rattle.sack_history.proofs.Acting.{counts_next}
use Rattle.sack_history.proofs.Keeping.{kept-all_counted}
use Rattle.sack_state.specs.declared.books.Books.{Books}
use Rattle.sack_state.specs.Books.{AreLasting, AreMadeFrom, AreMountedFrom, AreOfPlace, AreWhole, disks_of}
use Rattle.sack_state.specs.Disks.{TellAll}
use Rattle.sack_state.specs.SackView.{HasDurable, IsEarlier, IsScratch, SackView, Stands, as_found, as_made}
use Rattle.sack_state.proofs.DiskLemmas.{faults_later, tell_later}
use Rattle.sack_state.proofs.DoneLemmas.{settled, state_with}

-- entries that count break nothing, and claim nothing
calm : (counts : List Counted) → fold broken_after false (map entries.Counted counts) ≡ false
calm [] = refl
calm (c ∷ counts) = calm counts

unclaimed : (counts : List Counted) → fold held_after None (map entries.Counted counts) ≡ None
unclaimed [] = refl
unclaimed (c ∷ counts) = unclaimed counts

no_tickets : (counts : List Counted) → fold ticket_after 0 (map entries.Counted counts) ≡ 0
no_tickets [] = refl
no_tickets (c ∷ counts) = no_tickets counts

module _ {D : Type 0} (g : Ghosts D) (tells : (n : ℕ) (old new : D) → g.came n old new → is_some (g.told new) ≡ is_some (g.told old)) (came_later : (n : ℕ) (old new : D) → g.came n old new → g.faults old ≤ g.faults new)
    (v : SackView D) (free : v.held ≡ None) (no_ticket : v.tickets ≡ 0) (b : Books D) where
  -- where the books have the durable state of what counted before
  at_rest : (earlier : List Counted) → IsLegalCount earlier → HasDurable g b (durable earlier) → AreWhole b → AreLasting g b → AreOfPlace v.place b → TellAll g (disks_of b) → IsScratch g v (state_with b) (all_counted earlier)
  at_rest earlier legal has whole lasting of_place tell = settled g v b (all_counted earlier) (counts_next v.place.sack [] earlier refl legal) (calm earlier) (free ∙ sym (unclaimed earlier)) (no_ticket ∙ sym (no_tickets earlier))
      (subst (λ c. HasDurable g b (durable c)) (sym (kept-all_counted [] earlier)) has) whole lasting of_place tell

  behind_all : (earlier : List Counted) → IsScratch g v (state_with b) (all_counted earlier) → IsScratch g v (state_with b) (all_counted earlier ++ [])
  behind_all earlier there = subst (IsScratch g v (state_with b)) (sym (append-nil (all_counted earlier))) there

  pub found_stands : AreMountedFrom g v.place v.opening.disks b → v.opening.is_new ≡ false → Stands g [] v (state_with b)
  found_stands from old = record { behind = behind; real = faults_later g came_later 2 2 1 v.opening.disks (disks_of b) from.came }
    where
      behind : (earlier : List Counted) → IsEarlier g v.place v.opening earlier → IsScratch g v (state_with b) (all_counted earlier ++ [])
      behind earlier (as_made is legal none) = absurd (false≢true (sym old ∙ is))
      behind earlier (as_found is legal told) = behind_all earlier (at_rest earlier legal (from.exact (durable earlier) told) from.whole from.lasting from.of_place (tell_later g tells 2 2 1 v.opening.disks (disks_of b) from.came (record {
        incoming_a = ap is_some told.incoming_a;
        incoming_b = ap is_some told.incoming_b;
        blocks = ap is_some told.blocks;
        shelf_a = ap is_some told.shelf_a;
        shelf_b = ap is_some told.shelf_b;
      })))

  pub made_stands : AreMadeFrom g v.place v.opening.disks b → v.opening.is_new ≡ true → TellAll g v.opening.disks → Stands g [] v (state_with b)
  made_stands from is_new tell = record { behind = behind; real = faults_later g came_later 9 9 1 v.opening.disks (disks_of b) from.came }
    where
      behind : (earlier : List Counted) → IsEarlier g v.place v.opening earlier → IsScratch g v (state_with b) (all_counted earlier ++ [])
      behind earlier (as_made is legal none) = behind_all earlier
          (at_rest earlier legal (subst (HasDurable g b) (sym none) (from.has tell)) from.whole from.lasting from.of_place (tell_later g tells 9 9 1 v.opening.disks (disks_of b) from.came tell))
      behind earlier (as_found is legal told) = absurd (false≢true (sym is ∙ is_new))

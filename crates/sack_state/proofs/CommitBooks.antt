-- A commit on the books of a sack.
use Rattle.std.proofs.Common.{◌≡◌, ℕ, Bool, true, false, eqb, ◌&&◌, Option, Some, Result, Ok, Err, refl, sym, ap, ◌∙◌}
use Rattle.std.proofs.lemmas.Bool.{and_parts, eqb-true}
use Rattle.gno_disk.specs.declared.disk.Disk.{Ghosts}
use Rattle.series_model.specs.declared.ticket.Ticket.{Ticket}
use Rattle.bound_series.specs.Jobs.{IsPrepared, PreparedView}
use Rattle.shelf_records.specs.Shelved.{Shelved, metric_of}
use Rattle.sack_history.specs.declared.fault.CommitFault.{CommitFault}
use Rattle.sack_history.specs.declared.fault.CommitFault.TheVariants as commit_fault
use Rattle.sack_history.specs.declared.fault.SackFault.{SackFault}
use Rattle.sack_history.specs.declared.holding.HeldClaim.{HeldClaim}
use Rattle.sack_state.specs.declared.books.Books.{Books}
use Rattle.sack_state.specs.Books.{AreLasting, AreWhole}
use Rattle.sack_state.specs.Claiming.{AreOnlyRead}
use Rattle.sack_state.specs.Committing.{CommitsFrom, HoldsTicket, IsReadied, IsWork, ReadsWork, commit_fault_of, differs, not_read, other, same, undone, unwritten}
use Rattle.sack_state.specs.SackCalls.{is_holder}

same_tickets : (t u : Ticket) → eqb t.sack u.sack && eqb t.number u.number ≡ true → u ≡ t
same_tickets t u is =
    let parts = and_parts (eqb t.sack u.sack) (eqb t.number u.number) is in
    ap (λ (n : ℕ). let x : Ticket = record { sack = n; number = u.number } in x) (sym (eqb-true t.sack u.sack parts.0))
    ∙ ap (λ (n : ℕ). let x : Ticket = record { sack = t.sack; number = n } in x) (sym (eqb-true t.number u.number parts.1))

pub holds_ticket : (held : Option HeldClaim) (p : PreparedView) (claim : HeldClaim) → held ≡ Some claim → is_holder p.job.ticket held ≡ true → HoldsTicket held p claim
holds_ticket held p claim is holder = record {
  held_is = is;
  ticket_is = same_tickets p.job.ticket claim.ticket (ap (is_holder p.job.ticket) (sym is) ∙ holder);
}

module _ {D : Type 0} (g : Ghosts D) (held : Option HeldClaim) (p : PreparedView) (claim : HeldClaim) (holds : HoldsTicket held p claim) (old new : Books D) where
  pub commit_differs : ReadsWork g claim p.job old new (Ok false) → CommitsFrom g held p old new (Err (commit_fault.Differs p))
  commit_differs (same m found metric policy upto work only whole lasting is) = absurd cc
  commit_differs (other none only whole lasting is) = differs claim holds only whole lasting none refl
  commit_differs (not_read e only fails is) = absurd cc

  pub commit_unread : (e : SackFault) (f : CommitFault) → f ≡ commit_fault_of p e → ReadsWork g claim p.job old new (Err e) → CommitsFrom g held p old new (Err f)
  commit_unread e f answer (same m found metric policy upto work only whole lasting is) = absurd cc
  commit_unread e f answer (other none only whole lasting is) = absurd cc
  commit_unread e f answer (not_read fault only fails is) = undone claim fault holds (unwritten fault only fails refl) (ap (λ x. Err x) answer ∙ ap (λ (r : Result Bool SackFault). elim r [ Ok b ↦ Err f | Err x ↦ Err (commit_fault_of p x) ]) is)

  -- the work was read
  pub record IsWorkRead : Type 0 where
    pub ready : (prepared : IsPrepared p) → IsReadied g (IsWork g old claim) p old new
    pub only : AreOnlyRead g old new
    pub whole : AreWhole new
    pub lasting : AreLasting g old → AreLasting g new
    pub m : Shelved
    pub found : metric_of p.job.metric new.shelf.metrics ≡ Some m
    pub policy : p.job.policy ≡ m.policy

  pub work_read : ReadsWork g claim p.job old new (Ok true) → IsWorkRead
  work_read (same m found metric policy upto work only whole lasting is) = record {
    ready = λ prepared. record { job = work; prepared = prepared; read = only; lasting = lasting };
    only = only;
    whole = whole;
    lasting = lasting;
    m = m;
    found = ap (λ k. metric_of k new.shelf.metrics) metric ∙ ap (metric_of claim.metric) only.shelf.metrics ∙ found;
    policy = policy;
  }
  work_read (other none only whole lasting is) = absurd cc
  work_read (not_read e only fails is) = absurd cc

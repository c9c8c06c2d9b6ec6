-- Releasing a claim.
use Rattle.std.proofs.Common.{◌≡◌, ℕ, ◌+◌, Bool, true, false, cond, eqb, List, Option, Some, None, Ok, Err, refl, sym, ap, ◌∙◌}
use Rattle.std.specs.Option.{option_map}
use Rattle.std.proofs.lemmas.Bool.{and_from, and_parts, eq-eqb, eqb-true, false≢true}
use Rattle.std.proofs.lemmas.Option.{none-some, same_Some}
use Rattle.gno_disk.specs.declared.disk.Disk.{Ghosts}
use Rattle.log_pair.specs.declared.place.Place.{Place}
use Rattle.series_model.specs.declared.ticket.Ticket.{Ticket}
use Rattle.sack_history.specs.declared.entry.Counted.{Counted}
use Rattle.sack_history.specs.declared.entry.Entry.{Entry}
use Rattle.sack_history.specs.declared.entry.Entry.TheVariants as entries
use Rattle.sack_history.specs.declared.fault.ReleaseFault.TheVariants as release_fault
use Rattle.sack_history.specs.declared.holding.HeldClaim.{HeldClaim}
use Rattle.sack_history.specs.Calls.{IsReleasing}
use Rattle.sack_history.specs.Holding.{held_after, held_claim, holder_of, is_broken}
use Rattle.sack_history.proofs.Held.{holds_well}
use Rattle.sack_state.specs.declared.disks.Opening.{Opening}
use Rattle.sack_state.specs.declared.holding.Keeping.{Keeping}
use Rattle.sack_state.specs.SackCalls.{is_holder}
use Rattle.sack_state.specs.SackView.{StandsAfter, StandsFor, capped}
use Rattle.sack_state.proofs.CallLemmas.{view_of}
use Rattle.sack_state.proofs.DiskLemmas.{no_less}
use Rattle.sack_state.proofs.RestLemmas.{IsCalm, rest_after}

-- ---- tickets

ticket_is : (t u : Ticket) → t.sack ≡ u.sack → t.number ≡ u.number → t ≡ u
ticket_is t u sack number = ap (λ (i : ℕ). let x : Ticket = record { sack = i; number = t.number } in x) sack ∙ ap (λ (i : ℕ). let x : Ticket = record { sack = u.sack; number = i } in x) number

-- a claim is held under this ticket exactly where its holder is this one
holder_is : (o : Option HeldClaim) (t : Ticket) → is_holder t o ≡ true → option_map (λ (claim : HeldClaim). claim.ticket) o ≡ Some t
holder_is None t is = absurd (false≢true is)
holder_is (Some claim) t is =
    let both = and_parts (eqb t.sack claim.ticket.sack) (eqb t.number claim.ticket.number) is in
    ap (λ x. Some x) (sym (ticket_is t claim.ticket (eqb-true t.sack claim.ticket.sack both.0) (eqb-true t.number claim.ticket.number both.1)))

no_holder : (o : Option HeldClaim) (t : Ticket) → is_holder t o ≡ false → option_map (λ (claim : HeldClaim). claim.ticket) o ≡ Some t → ⊥
no_holder None t is holder = none-some t holder
no_holder (Some claim) t is holder =
    let same = same_Some claim.ticket t holder in
    false≢true (sym is ∙ and_from (eqb t.sack claim.ticket.sack) (eqb t.number claim.ticket.number)
    (eq-eqb t.sack claim.ticket.sack (ap (λ (x : Ticket). x.sack) (sym same))) (eq-eqb t.number claim.ticket.number (ap (λ (x : Ticket). x.number) (sym same))))

-- it is free then
freed : (o : Option HeldClaim) (t : Ticket) → is_holder t o ≡ true → None ≡ held_after o (entries.Release t)
freed None t is = refl
freed (Some claim) t is = sym (ap (λ b. cond b None (Some claim)) is)

kept_claim : (o : Option HeldClaim) → o ≡ held_after o (entries.Look None)
kept_claim None = refl
kept_claim (Some claim) = refl

broken_none : (b : Bool) (o : Option HeldClaim) (t : Ticket) → (b ≡ true → o ≡ None) → option_map (λ (claim : HeldClaim). claim.ticket) o ≡ Some t → b ≡ false
broken_none false o t none holder = refl
broken_none true o t none holder = absurd (none-some t (sym (ap (option_map (λ (claim : HeldClaim). claim.ticket)) (none refl)) ∙ holder))

-- ---- the call

release_calm : (t : Ticket) → IsCalm (entries.Release t)
release_calm t = record { noted = refl; none = refl; broken = λ b. refl; ticket = λ n. refl; tried = λ o. refl; real = λ N n. no_less n }

look_calm : IsCalm (entries.Look None)
look_calm = record { noted = refl; none = refl; broken = λ b. refl; ticket = λ n. refl; tried = λ o. refl; real = λ N n. no_less n }

module _ {D : Type 0} (g : Ghosts D) (only_now : (disk : D) (image : List ℕ) → g.left_since disk (g.moment disk) image → g.may_leave disk image)
    (place : Place) (opening : Opening D) (keeping : Option (Keeping D)) (claim : Option HeldClaim) (tickets n k : ℕ) (count : k ≡ capped (n + 1)) (t : Ticket) where
  pub released : (done : Unit {0}) → is_holder t claim ≡ true → (h : List Entry) → StandsFor g h (view_of keeping place opening claim tickets n)
      → StandsAfter g h (λ (counts : List Counted). None) (view_of keeping place opening claim tickets n) (view_of keeping place opening None tickets k) (IsReleasing t (Ok done))
  released done is h stands = rest_after g only_now place opening keeping claim None tickets n k (entries.Release t) (release_calm t) (freed claim t is) count (IsReleasing t (Ok done)) h stands
      (λ history s scratch.
      let holder : holder_of history ≡ Some t = ap (option_map (λ (c : HeldClaim). c.ticket)) (sym scratch.held) ∙ holder_is claim t is in
      (record { whole = broken_none (is_broken history) (held_claim history) t (holds_well place.sack history scratch.legal).broken holder; holder = holder }, (holder, refl)))

  pub unreleased : is_holder t claim ≡ false → (h : List Entry) → StandsFor g h (view_of keeping place opening claim tickets n)
      → StandsAfter g h (λ (counts : List Counted). None) (view_of keeping place opening claim tickets n) (view_of keeping place opening claim tickets k)
      (IsReleasing t (Err (release_fault.NotHolder t (option_map (λ (c : HeldClaim). c.ticket) claim))))
  unreleased is h stands = rest_after g only_now place opening keeping claim claim tickets n k (entries.Look None) look_calm (kept_claim claim) count
      (IsReleasing t (Err (release_fault.NotHolder t (option_map (λ (c : HeldClaim). c.ticket) claim)))) h stands
      (λ history s scratch.
      let same : option_map (λ (c : HeldClaim). c.ticket) claim ≡ holder_of history = ap (option_map (λ (c : HeldClaim). c.ticket)) scratch.held in
      (tt, (refl, same, (λ holder. no_holder claim t is (same ∙ holder)), refl)))

-- Tickets are numbered on.
use Rattle.std.proofs.Common.{◌≡◌, ℕ, zero, suc, ◌+◌, List, [], ◌∷◌, ◌++◌, length, Some, refl, sym, ap, subst, ◌∙◌, append-nil, arith}
use Rattle.std.specs.List.{slice_get}
use Rattle.std.proofs.lemmas.Grind.{flat_map-append}
use Rattle.std.proofs.lemmas.List.{length-append}
use Rattle.std.proofs.lemmas.Option.{none-some, same_Some}
use Rattle.series_model.specs.declared.ticket.Ticket.{Ticket}
use Rattle.sack_history.specs.declared.entry.Entry.{Entry}
use Rattle.sack_history.specs.declared.entry.Entry.TheVariants as entries
use Rattle.sack_history.specs.Holding.{all_tickets, last_ticket, ticket_by}
use Rattle.sack_history.specs.Legal.{IsLegal, MayComeNext}
use Rattle.sack_history.proofs.Following.{induction}
use Rattle.sack_history.proofs.Held.{ticket-more}

module _ (sack : ℕ) where
  -- the tickets of a sack are numbered on behind a number
  abbrev TicketsBehind : ℕ → List Ticket → Type 0
  TicketsBehind n [] = Unit {0}
  TicketsBehind n (t ∷ tickets) = (t ≡ record { sack = sack; number = n + 1 }) × TicketsBehind (n + 1) tickets

  push : (n : ℕ) (tickets : List Ticket) (t : Ticket) → TicketsBehind n tickets → t ≡ record { sack = sack; number = n + length tickets + 1 } → TicketsBehind n (tickets ++ t ∷ [])
  push n [] t h is = (is ∙ ap (λ k. let x : Ticket = record { sack = sack; number = k + 1 } in x) (add_nothing n), tt)
    where
      add_nothing : (n : ℕ) → n + 0 ≡ n
      add_nothing n = omega arith
  push n (x ∷ tickets) t h is = (h.0, push (n + 1) tickets t h.1 (is ∙ ap (λ k. let y : Ticket = record { sack = sack; number = k + 1 } in y) (moved n (length tickets))))
    where
      moved : (n k : ℕ) → n + suc k ≡ n + 1 + k
      moved n k = omega arith

  ticket_at : (n : ℕ) (tickets : List Ticket) → TicketsBehind n tickets → (k : ℕ) (t : Ticket) → slice_get tickets k ≡ Some t → t ≡ record { sack = sack; number = n + k + 1 }
  ticket_at n [] h k t there = absurd (none-some t there)
  ticket_at n (x ∷ tickets) h zero t there = sym (same_Some x t there) ∙ h.0 ∙ ap (λ k. let y : Ticket = record { sack = sack; number = k + 1 } in y) (nothing n)
    where
      nothing : (n : ℕ) → n ≡ n + 0
      nothing n = omega arith
  ticket_at n (x ∷ tickets) h (suc k) t there = ticket_at (n + 1) tickets h.1 k t there ∙ ap (λ j. let y : Ticket = record { sack = sack; number = j + 1 } in y) (moved n k)
    where
      moved : (n k : ℕ) → n + 1 + k ≡ n + suc k
      moved n k = omega arith

  record AreNumbered (h : List Entry) : Type 0 where
    number : last_ticket h ≡ length (all_tickets h)
    tickets : TicketsBehind 0 (all_tickets h)

  tickets-more : (h : List Entry) (e : Entry) → all_tickets (h ++ e ∷ []) ≡ all_tickets h ++ ticket_by e
  tickets-more h e = flat_map-append ticket_by h (e ∷ []) ∙ ap (λ l. all_tickets h ++ l) (append-nil (ticket_by e))

  no_claim : (h : List Entry) (e : Entry) → ticket_by e ≡ [] → last_ticket (h ++ e ∷ []) ≡ last_ticket h → AreNumbered h → AreNumbered (h ++ e ∷ [])
  no_claim h e none last w =
      let same : all_tickets (h ++ e ∷ []) ≡ all_tickets h = tickets-more h e ∙ ap (λ l. all_tickets h ++ l) none ∙ append-nil (all_tickets h) in
      record { number = last ∙ w.number ∙ ap length (sym same); tickets = subst (TicketsBehind 0) (sym same) w.tickets }

  next : (h : List Entry) (e : Entry) → IsLegal sack h → AreNumbered h → MayComeNext sack h e → AreNumbered (h ++ e ∷ [])
  next h (entries.Counted c) legal w may = no_claim h (entries.Counted c) refl (ticket-more h (entries.Counted c)) w
  next h (entries.Release t) legal w may = no_claim h (entries.Release t) refl (ticket-more h (entries.Release t)) w
  next h (entries.Look m) legal w may = no_claim h (entries.Look m) refl (ticket-more h (entries.Look m)) w
  next h (entries.Fault tried b a) legal w may = no_claim h (entries.Fault tried b a) refl (ticket-more h (entries.Fault tried b a)) w
  next h (entries.Reopened f) legal w may = no_claim h (entries.Reopened f) refl (ticket-more h (entries.Reopened f)) w
  next h (entries.Claim t m u) legal w may =
      let e = entries.Claim t m u in
      let more : all_tickets (h ++ e ∷ []) ≡ all_tickets h ++ t ∷ [] = tickets-more h e in
      let number : t.number ≡ last_ticket h + 1 = ap (λ (x : Ticket). x.number) may.ticket_is in
      record {
        number = ticket-more h e ∙ number ∙ omega (arith, w.number, length-append (all_tickets h) (t ∷ [])) ∙ ap length (sym more);
        tickets = subst (TicketsBehind 0) (sym more) (push 0 (all_tickets h) t w.tickets (may.ticket_is ∙ ap (λ k. let x : Ticket = record { sack = sack; number = k } in x) (by (last_ticket h) (length (all_tickets h)) w.number)));
      }
    where
      by : (a b : ℕ) → a ≡ b → a + 1 ≡ 0 + b + 1
      by a b is = omega (arith, is)

  pub tickets_numbered : (h : List Entry) (k : ℕ) (t : Ticket) → IsLegal sack h → slice_get (all_tickets h) k ≡ Some t → t ≡ record { sack = sack; number = k + 1 }
  tickets_numbered h k t legal there =
      ticket_at 0 (all_tickets h) (induction (MayComeNext sack) AreNumbered (record { number = refl; tickets = tt }) next h legal).tickets k t there
      ∙ ap (λ j. let x : Ticket = record { sack = sack; number = j + 1 } in x) (nothing k)
    where
      nothing : (k : ℕ) → 0 + k ≡ k
      nothing k = omega arith

  pub ticket_count : (h : List Entry) → IsLegal sack h → last_ticket h ≡ length (all_tickets h)
  ticket_count h legal = (induction (MayComeNext sack) AreNumbered (record { number = refl; tickets = tt }) next h legal).number

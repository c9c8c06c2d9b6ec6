-- Claims, faults and reopenings in a history.
use Rattle.std.specs.Prelude.{ℕ, ◌==◌, ◌&&◌, Bool, true, false, if◌then◌else◌, List, [], ◌∷◌, Option, Some, None, option_map}
use Rattle.std.specs.List.{flat_map, fold}
use Rattle.series_model.specs.declared.ticket.Ticket.{Ticket}
use Rattle.sack_history.specs.declared.entry.Counted.{Counted}
use Rattle.sack_history.specs.declared.entry.Counted.TheVariants as counted
use Rattle.sack_history.specs.declared.entry.Entry.{Entry}
use Rattle.sack_history.specs.declared.entry.Entry.TheVariants as entries
use Rattle.sack_history.specs.declared.holding.HeldClaim.{HeldClaim}

-- ---- faults

-- whether a book is broken after an entry: a fault breaks it, and a reopening mends it
abbrev pub broken_after : Bool → Entry → Bool
broken_after broken (entries.Fault tried before after) = true
broken_after broken (entries.Reopened kept) = false
broken_after broken entry = broken

-- whether a book is broken: there is a fault behind which it wasn't opened again
abbrev pub is_broken : List Entry → Bool
is_broken history = fold broken_after false history

-- what was tried, if anything, or what was tried before that
abbrev pub tried_last : Option Counted → Option Counted → Option Counted
tried_last before None = before
tried_last before (Some c) = Some c

-- what the open faults have tried, after an entry
abbrev pub tried_after : Option Counted → Entry → Option Counted
tried_after open_now (entries.Fault tried before after) = tried_last open_now tried
tried_after open_now (entries.Reopened kept) = None
tried_after open_now entry = open_now

-- what was tried, if anything, since the book was last opened: a reopening will tell whether it is there
abbrev pub open_tried : List Entry → Option Counted
open_tried history = fold tried_after None history

-- ---- claims

-- whether two tickets are one
abbrev pub same_ticket : Ticket → Ticket → Bool
same_ticket t u = (t.sack == u.sack) && (t.number == u.number)

-- a claim after what counts: a `Done` or a `Drop` of its metric ends it
abbrev pub held_through : HeldClaim → Counted → Option HeldClaim
held_through claim (counted.Done metric upto) = if metric.0 == claim.metric.0 then None else Some claim
held_through claim (counted.Drop metric) = if metric.0 == claim.metric.0 then None else Some claim
held_through claim c = Some claim

-- the claim that is held after an entry
abbrev pub held_after : Option HeldClaim → Entry → Option HeldClaim
held_after held (entries.Claim ticket metric upto) = Some (record { ticket = ticket; metric = metric; upto = upto })
held_after held (entries.Fault tried before after) = None
held_after (Some claim) (entries.Release ticket) = if same_ticket ticket claim.ticket then None else Some claim
held_after (Some claim) (entries.Counted c) = held_through claim c
held_after held entry = held

-- The claim that is held: the last one, unless it was released behind that, its metric was processed or
-- dropped, or the book broke.
abbrev pub held_claim : List Entry → Option HeldClaim
held_claim history = fold held_after None history

-- the ticket of the claim that is held
abbrev pub holder_of : List Entry → Option Ticket
holder_of history = option_map (λ claim. claim.ticket) (held_claim history)

-- the ticket that an entry gives, if it is a claim
abbrev pub ticket_by : Entry → List Ticket
ticket_by (entries.Claim ticket metric upto) = ticket ∷ []
ticket_by entry = []

-- the tickets of all claims, in order
abbrev pub all_tickets : List Entry → List Ticket
all_tickets history = flat_map ticket_by history

-- the number of the last ticket after an entry
abbrev pub ticket_after : ℕ → Entry → ℕ
ticket_after last (entries.Claim ticket metric upto) = ticket.number
ticket_after last entry = last

-- the number of the last claim's ticket, 0 where there is none
abbrev pub last_ticket : List Entry → ℕ
last_ticket history = fold ticket_after 0 history

-- What contracts see of a sack, and the history that it stands for.
use Rattle.std.specs.Prelude.{◌≡◌, ◌⊎◌, ℕ, ◌+◌, ◌-◌, ◌<◌, ◌≤◌, ◌^◌, min, nat_lt, Bool, true, false, List, [], ◌∷◌, ◌++◌, length, map, MatchOption, Option, None, Some}
use Rattle.std.specs.List.{filter}
use Rattle.gno_disk.specs.declared.disk.Disk.{Ghosts}
use Rattle.gno_disk.specs.Phases.{EachMoment, MountsOrStill}
use Rattle.log_pair.specs.declared.place.Place.{Place}
use Rattle.series_model.specs.declared.metric.MetricId.{MetricId}
use Rattle.incoming.specs.declared.mark.Mark.{Mark}
use Rattle.incoming.specs.Posts.{Post, marks_of}
use Rattle.split_update.specs.Live.{Live}
use Rattle.shelf_records.specs.Shelved.{Shelved, metric_of}
use Rattle.split_store.specs.ShelfView.{Keeps}
use Rattle.sack_history.specs.declared.entry.Counted.{Counted}
use Rattle.sack_history.specs.declared.entry.Entry.{Entry}
use Rattle.sack_history.specs.declared.entry.Entry.TheVariants as entries
use Rattle.sack_history.specs.declared.holding.HeldClaim.{HeldClaim}
use Rattle.sack_history.specs.Entries.{all_counted, kept}
use Rattle.sack_history.specs.Holding.{held_claim, is_broken, last_ticket}
use Rattle.sack_history.specs.Legal.{IsLegal, IsLegalCount}
use Rattle.sack_history.specs.Lives.{Posted}
use Rattle.sack_history.specs.Scratch.{Durable, durable}
use Rattle.sack_state.specs.declared.books.Books.{Books}
use Rattle.sack_state.specs.declared.disks.Opening.{Opening}
use Rattle.sack_state.specs.declared.disks.SackDisks.{SackDisks}
use Rattle.sack_state.specs.Disks.{AreTold, Leaves, OfFive, TellAll, sack_faults, sack_phases}
use Rattle.sack_state.specs.SackHolding.{AreOfHistory, AreOldOrWritten, HoldsSack, waiting_among}

-- its disks, its two books (as they broke, where it is broken), and whether it is broken
pub record SackState (D : Type 0) : Type 0 where
  pub disks : SackDisks D
  pub books : Books D
  pub broken : Bool

-- its state, which there is in every sack; whose sack it is, how it was opened, the claim that is held, the number of
-- the last ticket, and how many entries its calls have added
pub record SackView (D : Type 0) : Type 0 where
  pub state : Option (SackState D)
  pub place : Place
  pub opening : Opening D
  pub held : Option HeldClaim
  pub tickets : ℕ
  pub entries : ℕ

-- a fact of its state
abbrev pub Of : {D : Type 0} → SackView D → (SackState D → Type 0) → Type 0
Of v P = MatchOption v.state ⊥ P

-- a fact of its states before a call and after it
abbrev pub OfBoth : {D : Type 0} → SackView D → SackView D → (SackState D → SackState D → Type 0) → Type 0
OfBoth old new P = Of old (λ s. Of new (λ t. P s t))

-- ---- the books

-- a metric and its done number
pub record Standing : Type 0 where
  pub id : MetricId
  pub done : ℕ

-- those of a live metric, and of one as the shelf's records have it
abbrev pub standing_of : Live → Standing
standing_of l = record { id = l.id; done = l.done }

abbrev pub standing_by : Shelved → Standing
standing_by m = record { id = m.id; done = m.done }

-- whether a post with this number waits, where its metric is this one, if it is live
abbrev pub is_above_done : Option Shelved → ℕ → Bool
is_above_done None number = false
is_above_done (Some m) number = nat_lt m.done number

-- the numbers and the metrics of the posts that wait, in order, by what the books know
abbrev pub marks_waiting : {D : Type 0} → Books D → List Mark
marks_waiting b = filter (λ mark. is_above_done (metric_of mark.metric b.shelf.metrics) mark.number) b.incoming.marks

-- those of a post of the history
abbrev pub mark_by : Posted → Mark
mark_by post = record { number = post.number; metric = post.metric }

-- The books know the next number, the live metrics, their done numbers, and which posts wait.
pub record Remembers {D : Type 0} (b : Books D) (d : Durable) : Type 0 where
  pub next : b.incoming.next ≡ d.next
  pub standings : map standing_by b.shelf.metrics ≡ map standing_of d.metrics
  pub waiting : marks_waiting b ≡ map mark_by d.pending

-- They have the durable state: the posts are told, and of them those wait that are pending; the shelf keeps the live
-- metrics.
pub record HasDurable {D : Type 0} (g : Ghosts D) (b : Books D) (d : Durable) : Type 0 where
  pub posts : List Post
  pub told : b.incoming.posts ≡ Some posts
  pub marks : b.incoming.marks ≡ marks_of posts
  pub next : b.incoming.next ≡ d.next
  pub keeps : Keeps g b.shelf d.metrics
  pub pending : d.pending ≡ waiting_among d.metrics posts

-- ---- the history

-- What may have counted before a sack was opened: any legal list whose durable state is that of no list, where it was
-- made then; else any legal list whose durable state its disks held, as they read when they were handed in.
pub data IsEarlier {D : Type 0} (g : Ghosts D) (place : Place) (opening : Opening D) (earlier : List Counted) : Type 0 where
  as_made : opening.is_new ≡ true → IsLegalCount earlier → durable earlier ≡ durable [] → IsEarlier g place opening earlier
  as_found : opening.is_new ≡ false → IsLegalCount earlier → AreTold g opening.disks (HoldsSack place (durable earlier)) → IsEarlier g place opening earlier

-- nothing may have
abbrev pub HasNoEarlier : {D : Type 0} → Ghosts D → Place → Opening D → Type 0
HasNoEarlier g place opening = (earlier : List Counted) → IsEarlier g place opening earlier → ⊥

-- A fault of a history is real: a disk failed, so that the count of faults rose, or stands at its last value; or it is
-- one of damage, on disks that held no state as the sack was opened.
abbrev pub IsRealFault : Type 0 → Option Counted → ℕ → ℕ → Type 0
IsRealFault None_held tried before after =
    (before < after) ⊎ ((before ≡ 2 ^ 64 - 1) × (after ≡ 2 ^ 64 - 1)) ⊎ ((before ≡ after) × (tried ≡ None) × None_held)

-- Each fault is real; the counts of faults rise from one to the next, and are between these two.
abbrev pub AreReal : Type 0 → ℕ → List Entry → ℕ → Type 0
AreReal None_held low [] now = low ≤ now
AreReal None_held low (entries.Fault tried before after ∷ h) now =
    IsRealFault None_held tried before after × (low ≤ before) × AreReal None_held after h now
AreReal None_held low (entries.Counted c ∷ h) now = AreReal None_held low h now
AreReal None_held low (entries.Claim ticket metric upto ∷ h) now = AreReal None_held low h now
AreReal None_held low (entries.Release ticket ∷ h) now = AreReal None_held low h now
AreReal None_held low (entries.Look metric ∷ h) now = AreReal None_held low h now
AreReal None_held low (entries.Reopened found ∷ h) now = AreReal None_held low h now

-- The sack is as this whole history says, whose first part counted before its opening: the history is legal; the sack
-- is broken, its claim is held and its last ticket was given as the history has it; its books know the metrics and the
-- next number, and have the durable state unless it is broken; and each choice of images of its disks holds what
-- counts of the history, or that with what was tried since the sack was last opened.
pub record IsScratch {D : Type 0} (g : Ghosts D) (v : SackView D) (s : SackState D) (history : List Entry) : Type 0 where
  pub legal : IsLegal v.place.sack history
  pub broken : s.broken ≡ is_broken history
  pub held : v.held ≡ held_claim history
  pub tickets : v.tickets ≡ last_ticket history
  pub remembers : Remembers s.books (durable (kept history))
  pub has : s.broken ≡ false → HasDurable g s.books (durable (kept history))
  pub tell : TellAll g s.disks
  pub images : Leaves g s.disks (AreOfHistory v.place history)

-- The sack stands for a list of entries that were added since its opening: behind whatever may have counted before, it
-- is as the whole history says; and the faults of the list are real.
pub record Stands {D : Type 0} (g : Ghosts D) (h : List Entry) (v : SackView D) (s : SackState D) : Type 0 where
  pub behind : (earlier : List Counted) → IsEarlier g v.place v.opening earlier → IsScratch g v s (all_counted earlier ++ h)
  pub real : AreReal (HasNoEarlier g v.place v.opening) (sack_faults g v.opening.disks) h (sack_faults g s.disks)

abbrev pub StandsFor : {D : Type 0} → Ghosts D → List Entry → SackView D → Type 0
StandsFor g h v = Of v (Stands g h v)

-- a count that ends at the last value of its type
abbrev pub capped : ℕ → ℕ
capped n = min n (2 ^ 64 - 1)

-- What a stop leaves at any moment of a call has P; where the sack was broken, from the end of its mounting on.
pub data AtAnyMoment {D : Type 0} (g : Ghosts D) (old new : SackState D) (P : List ℕ → List ℕ → List ℕ → List ℕ → List ℕ → Type 0) : Type 0 where
  all_along : old.broken ≡ false → EachMoment g (sack_phases old.disks new.disks) (OfFive P) → AtAnyMoment g old new P
  once_mounted : old.broken ≡ true → MountsOrStill g (sack_phases old.disks new.disks) (OfFive P) → AtAnyMoment g old new P

-- After a call with these own entries the sack stands for the list with them, and it has counted them. A broken sack
-- was mounted first, unless that failed; from then on (`mid` is the list until then), a stop at any moment leaves what
-- counted, or that with what the call writes.
pub record StandsAfter {D : Type 0} (g : Ghosts D) (h : List Entry) (written : List Counted → Option Counted) (old new : SackView D) (Call : List Entry → List Entry → Type 0) : Type 0 where
  pub own : List Entry
  pub stands : StandsFor g (h ++ own) new
  pub counted : new.entries ≡ capped (old.entries + length own)
  pub does : (earlier : List Counted) → IsEarlier g old.place old.opening earlier → Call (all_counted earlier ++ h) own
  pub mid : List Entry
  pub mid_is : (mid ≡ h) ⊎ ((found : Bool) × (mid ≡ h ++ entries.Reopened found ∷ []))
  pub moments : (earlier : List Counted) → IsEarlier g old.place old.opening earlier
      → OfBoth old new (λ s t. AtAnyMoment g s t
      (AreOldOrWritten old.place (kept (all_counted earlier ++ mid)) (written (kept (all_counted earlier ++ mid)))))

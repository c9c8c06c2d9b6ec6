-- Which entries may follow which.
use Rattle.std.specs.Prelude.{◌≡◌, ℕ, ◌+◌, ◌≤◌, Bool, true, false, List, [], ◌∷◌, ◌++◌, map, length, Some, None, IsSome, IsTrue, IfSome}
use Rattle.std.specs.List.{Contains}
use Rattle.archive_policy.specs.Policies.{ArchivePolicy, IsArchivePolicy}
use Rattle.series_model.specs.declared.measure.Measure.{Measure}
use Rattle.series_model.specs.declared.metric.MetricId.{MetricId}
use Rattle.series_model.specs.declared.ticket.Ticket.{Ticket}
use Rattle.sack_history.specs.declared.entry.Counted.{Counted}
use Rattle.sack_history.specs.declared.entry.Counted.TheVariants as counted
use Rattle.sack_history.specs.declared.entry.Entry.{Entry}
use Rattle.sack_history.specs.declared.entry.Entry.TheVariants as entries
use Rattle.sack_history.specs.Entries.{kept}
use Rattle.sack_history.specs.Holding.{held_claim, holder_of, is_broken, last_ticket, open_tried}
use Rattle.sack_history.specs.Lives.{is_live, life_of, next_post}
use Rattle.sack_history.specs.Turns.{longest_waiting, turn_end, turn_posts}

-- ---- what counts

-- a metric is created: it isn't live
pub record MayCreate (counts : List Counted) (metric : MetricId) (policy : ArchivePolicy) : Type 0 where
  pub absent : life_of metric counts ≡ None
  pub policy_is : IsArchivePolicy policy

-- a batch is posted: its number is the next one, and the metric is live
pub record MayPost (counts : List Counted) (number : ℕ) (metric : MetricId) (measures : List Measure) : Type 0 where
  pub number_is : number ≡ next_post counts
  pub live : IsTrue (is_live metric counts)
  pub few : length measures ≤ 50000

-- posts are done: the metric is live, and the last of them is one of the first 64 that wait
pub record MayProcess (counts : List Counted) (metric : MetricId) (upto : ℕ) : Type 0 where
  pub live : IsTrue (is_live metric counts)
  pub among : Contains (map (λ p. p.number) (turn_posts metric counts)) upto

-- what may come to count behind what counts already
abbrev pub MayCount : List Counted → Counted → Type 0
MayCount counts (counted.Create metric policy) = MayCreate counts metric policy
MayCount counts (counted.Post number metric measures) = MayPost counts number metric measures
MayCount counts (counted.Done metric upto) = MayProcess counts metric upto
MayCount counts (counted.Drop metric) = IsTrue (is_live metric counts)

-- ---- entries

-- what counts comes: the book isn't broken
pub record MayChange (before : List Entry) (c : Counted) : Type 0 where
  pub whole : is_broken before ≡ false
  pub counts : MayCount (kept before) c

-- A claim is taken: the book isn't broken, and none is held. It is on the metric whose post has waited
-- longest, and on all posts of its next turn. Its ticket has the next number.
pub record MayClaim (sack : ℕ) (before : List Entry) (ticket : Ticket) (metric : MetricId) (upto : ℕ) : Type 0 where
  pub whole : is_broken before ≡ false
  pub free : held_claim before ≡ None
  pub first : longest_waiting (kept before) ≡ Some metric
  pub upto_is : upto ≡ turn_end metric (kept before)
  pub ticket_is : ticket ≡ record { sack = sack; number = last_ticket before + 1 }

-- a claim is released: it is held
pub record MayRelease (before : List Entry) (ticket : Ticket) : Type 0 where
  pub whole : is_broken before ≡ false
  pub holder : holder_of before ≡ Some ticket

-- what a fault tried: it is the only such thing since the book was last opened, and might have followed
pub record MayHaveTried (before : List Entry) (c : Counted) : Type 0 where
  pub only : open_tried before ≡ None
  pub counts : MayCount (kept before) c

-- a book is opened again: it is broken. It can be found to have only what was tried.
pub record MayReopen (before : List Entry) (found : Bool) : Type 0 where
  pub broken : is_broken before ≡ true
  pub tried : found ≡ true → IsSome (open_tried before)

-- which entry may follow these, on the sack of this number
abbrev pub MayComeNext : ℕ → List Entry → Entry → Type 0
MayComeNext sack before (entries.Counted c) = MayChange before c
MayComeNext sack before (entries.Claim ticket metric upto) = MayClaim sack before ticket metric upto
MayComeNext sack before (entries.Release ticket) = MayRelease before ticket
MayComeNext sack before (entries.Look metric) = Unit {0}
MayComeNext sack before (entries.Fault tried faults now) = IfSome tried (MayHaveTried before)
MayComeNext sack before (entries.Reopened found) = MayReopen before found

-- ---- one after another

-- each of these may follow `before` and those between
abbrev pub FollowOn : {X : Type 0} → (List X → X → Type 0) → List X → List X → Type 0
FollowOn May before [] = Unit {0}
FollowOn May before (x ∷ rest) = May before x × FollowOn May (before ++ x ∷ []) rest

-- what counts of a history: each may come to count behind those before it
abbrev pub IsLegalCount : List Counted → Type 0
IsLegalCount counts = FollowOn MayCount [] counts

-- a history of the sack of this number: each entry may follow those before it
abbrev pub IsLegal : ℕ → List Entry → Type 0
IsLegal sack history = FollowOn (MayComeNext sack) [] history

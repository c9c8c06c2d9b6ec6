-- What the five disks of a sack hold.
use Rattle.std.specs.Prelude.{◌≡◌, ◌⊎◌, ℕ, ◌+◌, nat_lt, Bool, false, List, [], ◌∷◌, ◌++◌, length, map, Option, None, Some}
use Rattle.std.specs.List.{filter}
use Rattle.gno_num.specs.declared.faults.Damaged.{Damaged as Damage}
use Rattle.log_pair.specs.declared.place.Place.{Place}
use Rattle.incoming.specs.Damage.{IsDamagedIncoming}
use Rattle.incoming.specs.Posts.{HoldsIncoming, Post}
use Rattle.split_update.specs.Live.{Live}
use Rattle.split_store.specs.Damage.{IsDamagedShelf}
use Rattle.split_store.specs.Shelf.{HoldsShelf}
use Rattle.sack_history.specs.declared.entry.Counted.{Counted}
use Rattle.sack_history.specs.declared.entry.Entry.{Entry}
use Rattle.sack_history.specs.Entries.{kept}
use Rattle.sack_history.specs.Holding.{open_tried}
use Rattle.sack_history.specs.Lives.{Posted}
use Rattle.sack_history.specs.Scratch.{Durable, durable, live_of}

-- a post of the incoming log, as the history of the sack has it
abbrev pub posted_of : Post → Posted
posted_of post = record { number = post.number; metric = post.metric; measures = post.measures }

-- whether a post of a metric waits, where the metric is this one, if it is live
abbrev pub waits_for : ℕ → Option Live → Bool
waits_for number None = false
waits_for number (Some l) = nat_lt l.done number

-- whether a post waits to be processed: its metric is live, and its number is above the done number
abbrev pub waits_among : List Live → Posted → Bool
waits_among metrics post = waits_for post.number (live_of post.metric metrics)

-- the posts that wait, in order
abbrev pub waiting_among : List Live → List Post → List Posted
waiting_among metrics posts = filter (waits_among metrics) (map posted_of posts)

-- Five disks hold the durable state of a sack: two of them the posts, three of them the live metrics. The posts of the
-- log that don't wait any more are no part of the state.
pub record HoldsSack (place : Place) (d : Durable) (a b z c e : List ℕ) : Type 0 where
  pub posts : List Post
  pub incoming : HoldsIncoming place posts d.next a b
  pub shelf : HoldsShelf place d.metrics c e z
  pub pending : d.pending ≡ waiting_among d.metrics posts

-- they hold none
abbrev pub HoldsNoSack : Place → List ℕ → List ℕ → List ℕ → List ℕ → List ℕ → Type 0
HoldsNoSack place a b z c e = (d : Durable) → HoldsSack place d a b z c e → ⊥

-- They hold what counts of a history, or that with what was tried since the sack was last opened.
abbrev pub AreOfHistory : Place → List Entry → List ℕ → List ℕ → List ℕ → List ℕ → List ℕ → Type 0
AreOfHistory place history a b z c e =
    HoldsSack place (durable (kept history)) a b z c e
    ⊎ ((tried : Counted) × (open_tried history ≡ Some tried) × HoldsSack place (durable (kept history ++ tried ∷ [])) a b z c e)

-- they hold what counted as writing began, or that with what is written, if anything
abbrev pub AreOldOrWritten : Place → List Counted → Option Counted → List ℕ → List ℕ → List ℕ → List ℕ → List ℕ → Type 0
AreOldOrWritten place counts None a b z c e = HoldsSack place (durable counts) a b z c e
AreOldOrWritten place counts (Some more) a b z c e =
    HoldsSack place (durable counts) a b z c e ⊎ HoldsSack place (durable (counts ++ more ∷ [])) a b z c e

-- Why five disks hold no sack of this place, and where: the first two have no incoming log, or the three others no
-- shelf. The disks are numbered 0 to 4: the incoming ones, those of the shelf's log, the blocks.
pub data IsDamagedSack (place : Place) (a b z c e : List ℕ) (d : Damage) : Type 0 where
  incoming : IsDamagedIncoming place a b d → IsDamagedSack place a b z c e d
  shelf : (on : Damage) → IsDamagedShelf place (length z) c e on → d.disk ≡ on.disk + 2 → d.at ≡ on.at → IsDamagedSack place a b z c e d

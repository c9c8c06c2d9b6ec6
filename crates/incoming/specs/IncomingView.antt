-- What contracts see of an incoming log.
use Rattle.std.specs.Prelude.{◌≡◌, ◌⊎◌, ℕ, ◌+◌, ◌≤◌, Bool, List, [], ◌∷◌, ◌++◌, Option, Some, None, IfSome, ⊤}
use Rattle.gno_num.specs.declared.faults.DiskFault.{DiskFault as Fault}
use Rattle.gno_num.specs.declared.faults.Spent.{Spent as SpentCounter}
use Rattle.gno_disk.specs.declared.disk.Disk.{Ghosts}
use Rattle.gno_disk.specs.Phases.{Phase, phase}
use Rattle.log_pair.specs.declared.place.Place.{Place}
use Rattle.incoming.specs.declared.mark.Mark.{Mark}
use Rattle.incoming.specs.declared.fault.PostFault.{PostFault}
use Rattle.incoming.specs.declared.fault.PostFault.TheVariants.{Spent, Memory, DiskFault}
use Rattle.incoming.specs.Posts.{HoldsIncoming, Post}

-- its disks in the order in which they were handed in, whose log it is and of which epoch, whether a call
-- has failed, the number and the metric of each post, the next number, and the posts where both disks tell
-- their bytes
pub record IncomingView (D : Type 0) : Type 0 where
  pub first : D
  pub second : D
  pub place : Place
  pub epoch : ℕ
  pub broken : Bool
  pub marks : List Mark
  pub next : ℕ
  pub posts : Option (List Post)

-- a call on an incoming log
abbrev pub incoming_phases : {D : Type 0} → IncomingView D → IncomingView D → List (Phase D)
incoming_phases old new = phase old.first new.first ∷ phase old.second new.second ∷ []

-- the images hold the posts, where they are told
abbrev pub AreOfIncoming : {D : Type 0} → IncomingView D → List ℕ → List ℕ → Type 0
AreOfIncoming v a b = IfSome v.posts (λ posts. HoldsIncoming v.place posts v.next a b)

-- the images hold the posts as they were, or with this one at their end
abbrev pub AreOldOrPosted : {D : Type 0} → IncomingView D → Post → List ℕ → List ℕ → Type 0
AreOldOrPosted v post a b =
    IfSome v.posts (λ posts. HoldsIncoming v.place posts v.next a b ⊎ HoldsIncoming v.place (posts ++ post ∷ []) (v.next + 1) a b)

-- each choice of images that a stop now may leave holds the posts
abbrev pub IsLastingIncoming : {D : Type 0} → Ghosts D → IncomingView D → Type 0
IsLastingIncoming g v = (a b : List ℕ) → g.may_leave v.first a → g.may_leave v.second b → AreOfIncoming v a b

-- where the posts are told, this one has come to their end; whether they are told stays
abbrev pub AddsPost : Option (List Post) → Option (List Post) → Post → Type 0
AddsPost None None post = ⊤
AddsPost None (Some new) post = ⊥
AddsPost (Some old) None post = ⊥
AddsPost (Some old) (Some new) post = new ≡ old ++ post ∷ []

-- a fact of each kind of fault of a post
abbrev pub MatchPostFault : PostFault → (SpentCounter → Type 0) → Type 0 → (Fault → Type 0) → Type 0
MatchPostFault (Spent s) P Q R = P s
MatchPostFault Memory P Q R = Q
MatchPostFault (DiskFault f) P Q R = R f

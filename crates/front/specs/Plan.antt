-- The disks of a store, in the order of the plan.
use Rattle.std.specs.Prelude.{◌≡◌, ℕ, ◌+◌, ◌*◌, List, [], ◌∷◌}
use Rattle.std.specs.List.{flat_map}
use Rattle.log_pair.specs.declared.place.Place.{Place}
use Rattle.sack_state.specs.declared.disks.SackDisks.{SackDisks}

-- the two disks of the index, and the five of each sack
pub record StoreDisks (D : Type 0) : Type 0 where
  pub index_a : D
  pub index_b : D
  pub sacks : List (SackDisks D)

-- the disks of a sack in their order
abbrev pub five : {D : Type 0} → SackDisks D → List D
five d = d.incoming_a ∷ d.incoming_b ∷ d.shelf_a ∷ d.shelf_b ∷ d.blocks ∷ []

-- the plan: the index first, and then sack by sack
abbrev pub in_plan : {D : Type 0} → StoreDisks D → List D
in_plan d = d.index_a ∷ d.index_b ∷ flat_map five d.sacks

-- how many disks a store of so many sacks has
abbrev pub disk_count : ℕ → ℕ
disk_count sacks = 2 + 5 * sacks

-- the place of a sack, the sacks being counted from 0
abbrev pub sack_place : ℕ → ℕ → Place
sack_place sacks sack = record { role = 2; sack = sack; sacks = sacks }

-- a fact of the disks of a store as they were and as they are, each in the order of the plan
pub record OnPlan {D : Type 0} (P : StoreDisks D → StoreDisks D → Type 0) (olds news : List D) : Type 0 where
  pub old : StoreDisks D
  pub new : StoreDisks D
  pub old_is : olds ≡ in_plan old
  pub new_is : news ≡ in_plan new
  pub holds : P old new

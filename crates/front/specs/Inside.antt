-- How a front of one thread keeps what contracts see of it.
use Rattle.std.specs.Prelude.{◌≡◌, ◌≤◌, ℕ, ◌+◌, List, [], ◌∷◌, length, vec_len, vec_capacity, ⊤}
use Rattle.sack_state.specs.SackView.{SackView}
use Rattle.front.specs.declared.solo.Solo.TheInside.{Inside}
use Rattle.front.specs.Plan.{disk_count, sack_place}
use Rattle.front.specs.SoloView.{SoloView}

-- what contracts see
abbrev pub solo_view : {D : Type 0} → Inside D → SoloView D
solo_view s = record {
  index = s.index;
  opened = s.opened.value;
  sacks = s.sacks.items;
  made = s.made;
  duty = record { refusals = s.refusals; last_claims = s.last_claims.items };
}

-- each sack is that of its place, the first having this number of so many
abbrev pub AreInPlace : {D : Type 0} → ℕ → ℕ → List (SackView D) → Type 0
AreInPlace total sack [] = ⊤
AreInPlace total sack (v ∷ sacks) = (v.place ≡ sack_place total sack) × AreInPlace total (sack + 1) sacks

-- There are as many sacks as it was made with, each in its place, and room for all disks in the vector that they came in.
pub record KeepsSolo {D : Type 0} (s : Inside D) : Type 0 where
  pub some : 1 ≤ s.made.sacks
  pub few : s.made.sacks ≤ 64
  pub as_many : length s.sacks.items ≡ s.made.sacks
  pub in_place : AreInPlace s.made.sacks 0 s.sacks.items
  pub claims : length s.last_claims.items ≡ s.made.sacks
  pub emptied : vec_len s.emptied ≡ 0
  pub room : disk_count s.made.sacks ≤ vec_capacity s.emptied

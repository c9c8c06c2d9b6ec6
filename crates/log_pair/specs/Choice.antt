-- Headers that were found on two disks.
use Rattle.std.specs.Prelude.{◌≡◌, ℕ, nat_lt, Bool, true, false, List, Option, Some, None, IfSome}
use Rattle.log_pair.specs.declared.header.Header.{Header}
use Rattle.log_pair.specs.declared.place.Place.{Place}
use Rattle.log_pair.specs.Header.{HasHeader}

-- a fact of the bytes of two disks, where both tell them
abbrev pub TwoTold : Option (List ℕ) → Option (List ℕ) → (List ℕ → List ℕ → Type 0) → Type 0
TwoTold first second P = IfSome first (λ a. IfSome second (λ b. P a b))

-- the header that the bytes begin with, where they begin with one
pub record IsHeaderOf (found : Option Header) (bytes : List ℕ) : Type 0 where
  pub is : IfSome found (λ h. HasHeader h.place h.epoch bytes)
  pub only : (place : Place) (epoch : ℕ) → HasHeader place epoch bytes → found ≡ Some (record { place = place; epoch = epoch })

-- of two headers the second one counts: there is no first one, or it has the greater epoch
abbrev pub comes_second : Option Header → Option Header → Bool
comes_second None None = false
comes_second None (Some second) = true
comes_second (Some first) None = false
comes_second (Some first) (Some second) = nat_lt first.epoch second.epoch

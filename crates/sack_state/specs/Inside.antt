-- How a sack keeps what contracts see of it.
use Rattle.std.specs.Prelude.{◌<◌, ◌^◌, IfSome, IsSome, option_map}
use Rattle.sack_state.specs.declared.sack.Sack.TheInside.{Inside}
use Rattle.sack_state.specs.Holding.{IsOfPlace, state_of}
use Rattle.sack_state.specs.SackView.{SackView}

-- what contracts see
abbrev pub sack_view : {D : Type 0} → Inside D → SackView D
sack_view i = record {
  state = option_map state_of i.keeping;
  place = i.place;
  opening = i.opened.value;
  held = i.claim;
  tickets = i.tickets;
  entries = i.entries;
}

-- the disks are there, the books are of the sack's place, and there is a number for the next ticket, or it is the first
-- that no ticket can have
pub record KeepsSack {D : Type 0} (i : Inside D) : Type 0 where
  pub some : IsSome i.keeping
  pub of_place : IfSome i.keeping (IsOfPlace i.place)
  pub few : i.tickets < 2 ^ 63

-- How the index keeps what contracts see of it.
use Rattle.std.specs.Prelude.{IfSome, IsSome}
use Rattle.metric_index.specs.declared.index.Index.TheInside.{Inside}
use Rattle.metric_index.specs.Holding.{IsOfSacks, disks_in, is_told_in, maps_known}
use Rattle.metric_index.specs.IndexView.{IndexView}

-- what contracts see
abbrev pub index_view : {D : Type 0} → Inside D → IndexView D
index_view i = record { disks = disks_in i.held; sacks = i.sacks; maps = maps_known i.held; is_told = is_told_in i.held; entries = i.entries }

-- the disks are there, and a book is of a store of so many sacks
pub record KeepsIndex {D : Type 0} (i : Inside D) : Type 0 where
  pub some : IsSome i.held
  pub of_sacks : IfSome i.held (IsOfSacks i.sacks)

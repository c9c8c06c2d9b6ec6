-- What holds of the fields of a disk in memory.
use Rattle.std.specs.Prelude.{◌≡◌, ◌≤◌, ◌^◌, length}
use Rattle.gno_disk.specs.Images.{fresh, after_all}
use Rattle.gno_disk.specs.Inside.{first_of, steps_of, state_of}
use Rattle.gno_disk.specs.declared.content.Content.TheInside.{Inside}

-- the account of the time since the last sync is that of the calls made
pub record IsKept (c : Inside) : Type 0 where
  pub tracked : after_all (fresh (first_of c.first c.bytes.items)) (steps_of c.calls.items) ≡ state_of c.bytes.items c.since
  pub least : c.since.least ≤ length c.bytes.items
  pub greatest : length c.bytes.items ≤ c.since.greatest
  pub limit : c.since.greatest ≤ 2 ^ 60

-- How a disk in memory keeps what contracts see of it.
use Rattle.std.specs.Prelude.{ℕ, List, map, Option, Some, None, Vec}
use Rattle.std.specs.declared.alloc.Global.{Global}
use Rattle.gno_disk.specs.Memory.{Step, has_read, wrote, cut_to, synced}
use Rattle.gno_disk.specs.Images.{Range, State}
use Rattle.gno_disk.specs.declared.call.Call.{Call}
use Rattle.gno_disk.specs.declared.call.Call.TheVariants.{Read, Write, Cut, Sync}
use Rattle.gno_disk.specs.declared.since.Span.{Span}
use Rattle.gno_disk.specs.declared.since.Since.{Since}

-- the call that is remembered
abbrev pub step_of : Call → Step
step_of (Read failed) = has_read failed
step_of (Write at bytes failed) = wrote at bytes.items failed
step_of (Cut to failed) = cut_to to failed
step_of (Sync failed) = synced failed

-- the calls that are remembered
abbrev pub steps_of : List Call → List Step
steps_of calls = map step_of calls

-- What the disk held at first. No copy is kept as long as it still holds that.
abbrev pub first_of : Option (Vec ℕ Global) → List ℕ → List ℕ
first_of None bytes = bytes
first_of (Some kept) bytes = kept.items

-- the range of a write
abbrev pub range_of : Span → Range
range_of span = record { at = span.at; len = span.len }

-- the state that these bytes and this account of the time since the last sync stand for
abbrev pub state_of : List ℕ → Since → State
state_of bytes since = record {
  bytes = bytes;
  least = since.least;
  greatest = since.greatest;
  ranges = map range_of since.ranges.items;
}

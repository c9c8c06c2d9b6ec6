-- The statuses of what a run comes to.
use Rattle.std.specs.Prelude.{◌≡◌, ◌≢◌, ◌⊎◌, ℕ, List, ◌++◌, Option}
use Rattle.std.specs.Io.KnownBytes.{Appends}
use Rattle.command_line.specs.declared.status.Status.{Status}
use Rattle.command_line.specs.declared.status.Status.TheVariants.{Done, Input, Read, Write, Disk, Damaged, Memory, Exists, TooMuch}
use Rattle.front.specs.declared.fault.StoreFault.{StoreFault}
use Rattle.front.specs.declared.fault.StoreFault.TheVariants as store_fault
use Rattle.rest_api.specs.declared.conn_end.ConnEnd.{ConnEnd}
use Rattle.rest_api.specs.declared.conn_end.ConnEnd.TheVariants as connections
use Rattle.rest_script.specs.declared.script_end.ScriptEnd.{ScriptEnd}
use Rattle.rest_script.specs.declared.script_end.ScriptEnd.TheVariants as scripts

-- the status of a script that ended so
abbrev pub status_of_script : ScriptEnd → Status
status_of_script scripts.Ended = Done
status_of_script scripts.TooLong = Input
status_of_script scripts.Cut = Input
status_of_script scripts.TooMuch = TooMuch
status_of_script scripts.ReadFault = Read
status_of_script scripts.WriteFault = Write
status_of_script scripts.Memory = Memory

-- of a connection that ended so
abbrev pub status_of_connection : ConnEnd → Status
status_of_connection connections.Ended = Done
status_of_connection connections.Closed = Done
status_of_connection connections.Refused = Input
status_of_connection connections.Cut = Input
status_of_connection connections.TooMuch = TooMuch
status_of_connection connections.ReadFault = Read
status_of_connection connections.WriteFault = Write
status_of_connection connections.Memory = Memory

-- of a store that wasn't made or found
abbrev pub status_of_store : StoreFault → Status
status_of_store store_fault.Exists = Exists
status_of_store (store_fault.DiskFault f) = Disk
status_of_store (store_fault.Damaged d) = Damaged d.disk d.at
status_of_store store_fault.Memory = Memory

-- A text was written, or, where the sink failed, the first bytes of it.
pub data WritesText (text : List ℕ) (before after : Option (List ℕ)) (status : Status) : Type 0 where
  whole : status ≡ Done → Appends before after text → WritesText text before after status
  front : (first more : List ℕ) → status ≡ Write → text ≡ first ++ more → Appends before after first → WritesText text before after status

-- The status tells no fault: neither of the source, of the sink or of a disk, nor damage, nor that there was a store.
pub record IsUnfaulted (status : Status) : Type 0 where
  pub read : status ≢ Read
  pub write : status ≢ Write
  pub disk : status ≢ Disk
  pub damage : (disk at : ℕ) → status ≢ Damaged disk at
  pub exists : status ≢ Exists

-- it is this one, or there was no memory
abbrev pub IsOrStarved : Status → Status → Type 0
IsOrStarved status wanted = (status ≡ wanted) ⊎ (status ≡ Memory)

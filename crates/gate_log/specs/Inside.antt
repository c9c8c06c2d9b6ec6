-- How a log keeps what contracts see of it.
use Rattle.std.specs.Prelude.{◌≡◌, ◌+◌, ◌*◌, ◌<◌, ◌≤◌, ◌^◌, false, length, IfSome, vec_len, vec_capacity, option_map}
use Rattle.gno_disk.specs.declared.disk.Disk.{Ghosts}
use Rattle.gate_log.specs.LogView.{LogView}
use Rattle.gate_log.specs.Steps.{IsSynced}
use Rattle.gate_log.specs.Places.{bodies_at, Spans, AreWritten, IsClosed}
use Rattle.gate_log.specs.declared.log.Log.TheInside.{Inside}

-- what contracts see, over a disk that tells these bytes
abbrev pub view_of : {D : Type 0} → Ghosts D → Inside D → LogView D
view_of g l = record {
  disk = l.disk;
  count = length l.places.items;
  records = option_map (bodies_at l.places.items) (g.told l.disk);
  broken = l.broken;
  spare = l.spare;
  anew_records = l.anew_records;
  anew_bytes = l.anew_bytes;
}

-- The records lie where their places say. Unless the log is broken, a closed gate stands behind
-- them, and all is synced. What is spared has its memory.
pub record IsLog {D : Type 0} (g : Ghosts D) (l : Inside D) : Type 0 where
  pub places : Spans l.places.items 0 l.end
  pub written : IfSome (g.told l.disk) (AreWritten l.places.items l.end)
  pub limit : l.end < 2 ^ 60
  pub room : l.broken ≡ false → l.end < g.size l.disk
  pub closed : l.broken ≡ false → IfSome (g.told l.disk) (IsClosed l.end)
  pub durable : l.broken ≡ false → IsSynced (g.told l.disk) (g.may_leave l.disk)
  pub body_room : 0 < l.spare → l.spare + 9 ≤ vec_capacity l.frame
  pub place_room : 0 < l.spare → vec_len l.places < vec_capacity l.places
  pub anew_room : 0 < l.anew_records → l.anew_records * 9 + l.anew_bytes ≤ vec_capacity l.frame
  pub anew_places : 0 < l.anew_records → l.anew_records ≤ vec_capacity l.places

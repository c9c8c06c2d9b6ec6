use Rattle.std.proofs.Common.{◌≡◌, ◌≤◌, ◌+◌, ◌*◌, ◌++◌, reverse, vec_len, vec_capacity}
use Rattle.front.specs.SoloView.{disks_of_sacks}
use Rattle.front.proofs.back.put_sacks.Given as goal

-- the disks that are back, and those that are to come, are all of them
abbrev pub invariant-sacks : goal.invariant-sacks
invariant-sacks g l = record {
  all : l.disks.items ++ reverse (disks_of_sacks l.sacks.items) ≡ l.initial.disks.items ++ reverse (disks_of_sacks l.initial.sacks.items);
  many : vec_len l.disks + 5 * vec_len l.sacks ≡ vec_len l.initial.disks + 5 * vec_len l.initial.sacks;
  wide : vec_capacity l.initial.disks ≤ vec_capacity l.disks;
}

abbrev pub decreases-sacks : goal.decreases-sacks
decreases-sacks g l = vec_len l.sacks

-- Calls that only read a disk.
use Rattle.std.proofs.Common.{◌≡◌, ◌∙◌, ◌+◌, ℕ, List, refl, inl, inr, arith}
use Rattle.gno_disk.specs.Disk.{Elapses, NoMore, TimeGoesOn}
use Rattle.gno_disk.specs.declared.disk.Disk.{Ghosts}
use Rattle.block_slots.specs.Reads.{IsReadOnly}

module _ {D : Type 0} (g : Ghosts D) where
  pub read_none : (came_none : (disk : D) → g.came 0 disk disk) (only_now : (disk : D) (image : List ℕ) → g.left_since disk (g.moment disk) image → g.may_leave disk image) (disk : D) → IsReadOnly g disk disk
  read_none came_none only_now disk = record {
    told = refl;
    size = refl;
    unwritten = record { within = only_now disk; no_more = λ image left. left };
    came = came_none disk;
  }

  pub read_call : (only_now : (disk : D) (image : List ℕ) → g.left_since disk (g.moment disk) image → g.may_leave disk image) (old new : D) → g.told new ≡ g.told old → g.size new ≡ g.size old
      → NoMore (g.may_leave old) (g.may_leave new) → Elapses (g.moment old) (g.moment new) (g.left_since old) (g.left_since new) (g.may_leave new) → g.came 0 old new → IsReadOnly g old new
  read_call only_now old new told size no_more time came = record {
    told = told;
    size = size;
    unwritten = record {
      within = λ image left. elim (time.nothing_else (g.moment old) image (omega arith) left) [ inl past ↦ only_now old image past | inr now ↦ no_more image now ];
      no_more = no_more;
    };
    came = came;
  }

  pub read_then : (came_then : (m n : ℕ) (old mid new : D) → g.came m old mid → g.came n mid new → g.came (m + n) old new)
      (goes_on : (n : ℕ) (old new : D) → g.came n old new → TimeGoesOn (g.moment old) (g.moment new) (g.left_since old) (g.left_since new))
      (old mid new : D) → IsReadOnly g old mid → IsReadOnly g mid new → IsReadOnly g old new
  read_then came_then goes_on old mid new first second =
      let earlier = goes_on 0 old mid first.came in
      let later = goes_on 0 mid new second.came in
      record {
        told = second.told ∙ first.told;
        size = second.size ∙ first.size;
        unwritten = record {
          within = λ image left. elim (later.splits (g.moment old) image earlier.later left) [ inl past ↦ first.unwritten.within image past | inr since ↦ first.unwritten.no_more image (second.unwritten.within image since) ];
          no_more = λ image left. first.unwritten.no_more image (second.unwritten.no_more image left);
        };
        came = came_then 0 0 old mid new first.came second.came;
      }

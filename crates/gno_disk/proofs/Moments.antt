-- How the time of a disk goes on, and how calls follow one another.
use Rattle.std.specs.Prelude.{ℕ, List, Option, Some, None, IfSome, ◌≤◌}
use Rattle.std.proofs.Common.{inl, inr, ⊎_elim, arith}
use Rattle.gno_disk.specs.Disk.{Elapses}
use Rattle.gno_disk.specs.Moments.{LeavesOnly, GoesOn}
use Rattle.gno_disk.specs.declared.disk.Disk.{Ghosts}

module _ {D : Type 0} (g : Ghosts D) where
  -- before the first call
  pub LeavesOnly-start : (old : D) (P : List ℕ → Type 0) → ((image : List ℕ) → g.left_since old (g.moment old) image → P image) → LeavesOnly g old old P
  LeavesOnly-start old P here = record { later = omega arith; each = here; before = λ t image le left. inl left }

  -- one call of the disk more, whose images have P
  pub LeavesOnly-call : (old mid new : D) (P may_leave : List ℕ → Type 0) → LeavesOnly g old mid P → Elapses (g.moment mid) (g.moment new) (g.left_since mid) (g.left_since new) may_leave
      → ((image : List ℕ) → may_leave image → P image) → LeavesOnly g old new P
  LeavesOnly-call old mid new P may_leave so_far time here = record {
    later = omega (arith, so_far.later, time.later);
    each = λ image left. ⊎_elim (so_far.each image) (here image) (time.nothing_else (g.moment old) image so_far.later left);
    before = λ t image le left. ⊎_elim (so_far.before t image le) (λ now. inr (here image now)) (time.nothing_else t image (omega (arith, le, so_far.later)) left);
  }

  -- two such runs, one after the other
  pub LeavesOnly-then : (old mid new : D) (P : List ℕ → Type 0) → LeavesOnly g old mid P → LeavesOnly g mid new P → LeavesOnly g old new P
  LeavesOnly-then old mid new P first second = record {
    later = omega (arith, first.later, second.later);
    each = λ image left. ⊎_elim (first.each image) (λ has. has) (second.before (g.moment old) image first.later left);
    before = λ t image le left. ⊎_elim (first.before t image le) (λ has. inr has) (second.before t image (omega (arith, le, first.later)) left);
  }

  -- what has P has Q
  pub LeavesOnly-weaker : (old new : D) (P Q : List ℕ → Type 0) → ((image : List ℕ) → P image → Q image) → LeavesOnly g old new P → LeavesOnly g old new Q
  LeavesOnly-weaker old new P Q weaker leaves = record {
    later = leaves.later;
    each = λ image left. weaker image (leaves.each image left);
    before = λ t image le left. ⊎_elim (λ earlier. inl earlier) (λ has. inr (weaker image has)) (leaves.before t image le left);
  }

  -- what each image since a moment has, where time went on
  pub LeavesOnly-since : (old new : D) (P : List ℕ → Type 0) → GoesOn g old new → ((image : List ℕ) → g.left_since new (g.moment old) image → P image) → LeavesOnly g old new P
  LeavesOnly-since old new P on has = record {
    later = on.later;
    each = has;
    before = λ t image le left. ⊎_elim (λ past. inl past) (λ now. inr (has image now)) (on.splits t image le left);
  }

  -- time goes on over two runs, one after the other
  pub GoesOn-then : (old mid new : D) → GoesOn g old mid → GoesOn g mid new → GoesOn g old new
  GoesOn-then old mid new first second = record {
    later = omega (arith, first.later, second.later);
    splits = λ t image le left. ⊎_elim
        (λ past. ⊎_elim (λ earlier. inl earlier) (λ now. inr (second.keeps (g.moment old) image first.later now)) (first.splits t image le past))
        (λ now. inr (second.more (g.moment old) image first.later now))
        (second.splits t image (omega (arith, le, first.later)) left);
    keeps = λ t image le left. second.keeps t image (omega (arith, le, first.later)) (first.keeps t image le left);
    more = λ t image le left. ⊎_elim
        (λ past. second.keeps t image (omega (arith, le, first.later)) (first.more t image le past))
        (λ now. second.more t image (omega (arith, le, first.later)) now)
        (second.splits (g.moment old) image first.later left);
  }

  -- what a stop may leave now has what a run left
  pub leaves_now : (old new : D) (P : List ℕ → Type 0) → ((disk : D) (since : ℕ) (image : List ℕ) → since ≤ g.moment disk → g.may_leave disk image → g.left_since disk since image)
      → LeavesOnly g old new P → (image : List ℕ) → g.may_leave new image → P image
  leaves_now old new P counts_now leaves image left = leaves.each image (counts_now new (g.moment old) image leaves.later left)

  -- and so do the bytes as they read
  pub leaves_reads : (old new : D) (P : List ℕ → Type 0) → ((disk : D) (since : ℕ) (image : List ℕ) → since ≤ g.moment disk → g.may_leave disk image → g.left_since disk since image)
      → LeavesOnly g old new P → IfSome (g.told new) (g.may_leave new) → IfSome (g.told new) P
  leaves_reads old new P counts_now leaves reads = reads_have (g.told new) (g.may_leave new) P (leaves_now old new P counts_now leaves) reads
    where
      reads_have : (told : Option (List ℕ)) (images P : List ℕ → Type 0) → ((image : List ℕ) → images image → P image) → IfSome told images → IfSome told P
      reads_have None images P has reads = reads
      reads_have (Some bytes) images P has reads = has bytes reads

use Rattle.std.proofs.Common.{inl, ◌+◌, List, length, refl, subst, arith}
use Rattle.gno_disk.specs.Moments.{LeavesOnly}
use Rattle.block_slots.specs.declared.slots.Piece.{Piece}
use Rattle.block_slots.specs.Slots.{IsSpared, places_of}
use Rattle.split_store.specs.Writing.{tried_of}
use Rattle.split_store.proofs.Logged.{untouched_left, untouched_moments}
use Rattle.split_store.proofs.write.write_turn.Goals as goal

pub returns-in_err-write_blocks-clause-came : goal.returns-in_err-write_blocks-clause-came
returns-in_err-write_blocks-clause-came g c = (
  g.met.D.Disk.came_more 0 4 _ _ (omega arith) (g.met.D.Disk.came_none c.args.pair.now.first),
  g.met.D.Disk.came_more 0 4 _ _ (omega arith) (g.met.D.Disk.came_none c.args.pair.now.second),
  subst (λ (ps : List Piece). g.D.Disk.came (length ps + 1) c.args.blocks.now c.write_blocks.new.disk) c.deref.ensures.value c.write_blocks.ensures.came,
)

pub returns-in_err-write_blocks-clause-moments : goal.returns-in_err-write_blocks-clause-moments
returns-in_err-write_blocks-clause-moments g c =
    let body = c.args.turn.now.body.items in
    let lasting = c.is_broken-broken.ensures.durable c.requires.whole in
    record {
      blocks = subst (λ (ps : List Piece). LeavesOnly g.D.Disk c.args.blocks.now c.write_blocks.new.disk (IsSpared g.D.Disk (places_of (tried_of ps)) c.args.blocks.now)) c.deref.ensures.value c.write_blocks.ensures.any_moment;
      log = inl refl;
      moments = untouched_moments g.D.Disk g.met.D.Disk.only_now c.args.pair.now body lasting;
      left = untouched_left g.D.Disk g.met.D.Disk.only_now c.args.pair.now body lasting;
    }

use Rattle.std.proofs.Common.{rules, ◌≡◌, ◌≤◌, ◌+◌, ◌∷◌, [], drop, length, max, IfSome, refl, sym, ap, subst, ◌∙◌, arith}
use Rattle.std.proofs.lemmas.List.{drop_all}
use Rattle.gno_num.specs.Faults.{Rose}
use Rattle.gno_disk.proofs.Moments.{LeavesOnly-start, LeavesOnly-then, LeavesOnly-weaker, leaves_now}
use Rattle.shelf_records.specs.Shelved.{slot}
use Rattle.block_slots.specs.Slots.{FillsSlot, FollowOn, IsSpared, places_of, size_with}
use Rattle.block_slots.proofs.Spared.{place_in, pieces_from, rose_since, spared_itself, spared_then, stand_more, told_all, told_none, told_spares_none, told_spares_one, told_spares_then}
use Rattle.block_slots.proofs.slots.write_pieces.Goals as goal

pub loop-i-init : goal.loop-i-init
loop-i-init g c = record {
  room = c.requires.room;
  placed = c.requires.placed;
  size = refl;
  stand = told_none (g.D.Disk.told c.args.disk.now);
  spared = told_spares_none (places_of c.args.pieces.now) (g.D.Disk.told c.args.disk.now);
  leaves = LeavesOnly-start g.D.Disk c.args.disk.now (IsSpared g.D.Disk (places_of c.args.pieces.now) c.args.disk.now)
      (λ image left. spared_itself g.D.Disk (places_of c.args.pieces.now) c.args.disk.now image (g.met.D.Disk.only_now c.args.disk.now image left));
  came = g.met.D.Disk.came_none c.args.disk.now;
}

pub write_piece-requires-clause-room : goal.write_piece-requires-clause-room
write_piece-requires-clause-room g c = c.loop-i.invariant.room

pub write_piece-requires-clause-placed : goal.write_piece-requires-clause-placed
write_piece-requires-clause-placed g c =
    let ps = c.args.pieces.now in
    let p = c.index-pieces-i.result in
    (subst (FollowOn (g.D.Disk.size c.loop-i.disk)) (pieces_from ps c.loop-i.i p c.loop-i-test.true c.index-pieces-i.is) c.loop-i.invariant.placed).0

pub returns-in_err-write_piece-clause-spared : goal.returns-in_err-write_piece-clause-spared
returns-in_err-write_piece-clause-spared g c =
    let ps = c.args.pieces.now in
    let p = c.index-pieces-i.result in
    told_spares_then (places_of ps) _ _ _ c.loop-i.invariant.spared (told_spares_one (places_of ps) p.at _ _ (place_in ps c.loop-i.i p c.loop-i-test.true c.index-pieces-i.is) c.write_piece.ensures.spared)

pub returns-in_err-write_piece-clause-any_moment : goal.returns-in_err-write_piece-clause-any_moment
returns-in_err-write_piece-clause-any_moment g c =
    let ps = c.args.pieces.now in
    let p = c.index-pieces-i.result in
    let old = c.args.disk.now in
    let mid = c.loop-i.disk in
    let P = IsSpared g.D.Disk (places_of ps) old in
    LeavesOnly-then g.D.Disk old mid c.write_piece.new.disk P c.loop-i.invariant.leaves
    (LeavesOnly-weaker g.D.Disk mid c.write_piece.new.disk (IsSpared g.D.Disk (p.at ∷ []) mid) P
    (λ image now. spared_then g.D.Disk (places_of ps) p.at old mid image (place_in ps c.loop-i.i p c.loop-i-test.true c.index-pieces-i.is) (λ b left. leaves_now g.D.Disk old mid P g.met.D.Disk.counts_now c.loop-i.invariant.leaves b left) now)
    c.write_piece.ensures.any_moment)

pub returns-in_err-write_piece-clause-cause : goal.returns-in_err-write_piece-clause-cause
returns-in_err-write_piece-clause-cause g c =
    let rose : Rose (g.D.Disk.faults c.loop-i.disk) (g.D.Disk.faults c.write_piece.new.disk) = search rules in
    rose_since c.from_residual.result _ _ _ (g.met.D.Disk.came_later c.loop-i.i c.args.disk.now c.loop-i.disk c.loop-i.invariant.came) rose

pub returns-in_err-write_piece-clause-came : goal.returns-in_err-write_piece-clause-came
returns-in_err-write_piece-clause-came g c =
    g.met.D.Disk.came_more (c.loop-i.i + 1) (length c.args.pieces.now) _ _ (let lt = c.loop-i-test.true in omega (arith, lt)) (g.met.D.Disk.came_then c.loop-i.i 1 _ _ _ c.loop-i.invariant.came c.write_piece.ensures.came)

pub loop-i-preserved : goal.loop-i-preserved
loop-i-preserved g c =
    let ps = c.args.pieces.now in
    let p = c.index-pieces-i.result in
    let old = c.args.disk.now in
    let mid = c.loop-i.disk in
    let new = c.write_piece.new.disk in
    let inv = c.loop-i.invariant in
    let P = IsSpared g.D.Disk (places_of ps) old in
    let from = pieces_from ps c.loop-i.i p c.loop-i-test.true c.index-pieces-i.is in
    let one = place_in ps c.loop-i.i p c.loop-i-test.true c.index-pieces-i.is in
    let grown : g.D.Disk.size new ≡ max (g.D.Disk.size mid) (p.at + slot) = search rules in
    let stands : IfSome (g.D.Disk.told new) (λ b. FillsSlot b p) = search rules in
    record {
      room = c.write_piece.ensures.room;
      placed = subst (λ n. FollowOn n (drop (c.loop-i.i + 1) ps)) (sym grown) (subst (FollowOn (g.D.Disk.size mid)) from inv.placed).1;
      size = ap (λ n. size_with n (drop (c.loop-i.i + 1) ps)) grown ∙ sym (ap (size_with (g.D.Disk.size mid)) from) ∙ inv.size;
      stand = stand_more ps c.loop-i.i p (g.D.Disk.told mid) (g.D.Disk.told new) c.loop-i-test.true c.index-pieces-i.is c.requires.apart c.write_piece.ensures.spared inv.stand stands;
      spared = told_spares_then (places_of ps) _ _ _ inv.spared (told_spares_one (places_of ps) p.at _ _ one c.write_piece.ensures.spared);
      leaves = LeavesOnly-then g.D.Disk old mid new P inv.leaves
          (LeavesOnly-weaker g.D.Disk mid new (IsSpared g.D.Disk (p.at ∷ []) mid) P
          (λ image now. spared_then g.D.Disk (places_of ps) p.at old mid image one (λ b left. leaves_now g.D.Disk old mid P g.met.D.Disk.counts_now inv.leaves b left) now)
          c.write_piece.ensures.any_moment);
      came = g.met.D.Disk.came_then c.loop-i.i 1 _ _ _ inv.came c.write_piece.ensures.came;
    }

pub returns-clause-stand : goal.returns-clause-stand
returns-clause-stand g c =
    told_all (g.D.Disk.told c.loop-i.disk) c.loop-i.i c.args.pieces.now (let e : length c.args.pieces.now ≤ c.loop-i.i = omega arith in e) c.loop-i.invariant.stand

pub returns-clause-size : goal.returns-clause-size
returns-clause-size g c =
    sym (ap (size_with (g.D.Disk.size c.loop-i.disk)) (drop_all c.loop-i.i c.args.pieces.now (omega arith))) ∙ c.loop-i.invariant.size

pub returns-clause-spared : goal.returns-clause-spared
returns-clause-spared g c = c.loop-i.invariant.spared

pub returns-clause-any_moment : goal.returns-clause-any_moment
returns-clause-any_moment g c = c.loop-i.invariant.leaves

pub returns-clause-came : goal.returns-clause-came
returns-clause-came g c = g.met.D.Disk.came_more c.loop-i.i (length c.args.pieces.now) _ _ (omega arith) c.loop-i.invariant.came

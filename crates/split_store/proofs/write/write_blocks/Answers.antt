use Rattle.std.proofs.Common.{◌≡◌, ◌+◌, ◌≤◌, ◌^◌, List, length, take, sym, ap, subst, ◌∙◌, arith}
use Rattle.std.specs.Option.{IfSome}
use Rattle.std.specs.List.{All}
use Rattle.std.proofs.lemmas.List.{length-take-le}
use Rattle.std.proofs.lemmas.List.Elements.{All-weaker}
use Rattle.gno_disk.specs.Moments.{LeavesOnly}
use Rattle.gno_disk.proofs.Moments.{LeavesOnly-call, leaves_now}
use Rattle.shelf_records.specs.Shelved.{slot}
use Rattle.shelf_records.specs.Slots.{IsWithin}
use Rattle.block_slots.specs.declared.slots.Piece.{Piece}
use Rattle.block_slots.specs.Slots.{FillsSlot, IsSpared, places_of, size_with}
use Rattle.split_store.specs.Writing.{tried_of}
use Rattle.split_store.proofs.Placed.{all_tried, size_holds}
use Rattle.split_store.proofs.write.write_blocks.Goals as goal

pub returns-in_err-sync-clause-any_moment : goal.returns-in_err-sync-clause-any_moment
returns-in_err-sync-clause-any_moment g c =
    let tried = tried_of c.args.pieces.now in
    let leaves = subst (λ (ps : List Piece). LeavesOnly g.D.Disk c.args.disk.now c.write_pieces.new.disk (IsSpared g.D.Disk (places_of ps) c.args.disk.now)) c.tried-count.ensures.tried c.write_pieces.ensures.any_moment in
    LeavesOnly-call g.D.Disk _ _ _ (IsSpared g.D.Disk (places_of tried) c.args.disk.now) _ leaves c.sync.ensures.time
    (λ image left. leaves_now g.D.Disk _ _ _ g.met.D.Disk.counts_now leaves image (c.sync.ensures.crash image left))

pub returns-in_err-sync-clause-came : goal.returns-in_err-sync-clause-came
returns-in_err-sync-clause-came g c =
    let n = length (take c.tried-count.result c.args.pieces.now) in
    let le = length-take-le c.tried-count.result c.args.pieces.now c.tried-count.ensures.within in
    g.met.D.Disk.came_more (n + 1) (length c.args.pieces.now + 1) _ _ (let within = c.tried-count.ensures.within in omega (arith, le, within))
    (g.met.D.Disk.came_then n 1 _ _ _ c.write_pieces.ensures.came c.sync.ensures.came)

pub returns-clause-came : goal.returns-clause-came
returns-clause-came g c =
    let n = length (take c.tried-count.result c.args.pieces.now) in
    let le = length-take-le c.tried-count.result c.args.pieces.now c.tried-count.ensures.within in
    g.met.D.Disk.came_more (n + 1) (length c.args.pieces.now + 1) _ _ (let within = c.tried-count.ensures.within in omega (arith, le, within))
    (g.met.D.Disk.came_then n 1 _ _ _ c.write_pieces.ensures.came c.sync.ensures.came)

pub returns-clause-size : goal.returns-clause-size
returns-clause-size g c =
    let size = g.D.Disk.size c.args.disk.now in
    let was : g.D.Disk.size c.write_pieces.new.disk ≡ size_with size (tried_of c.args.pieces.now) = c.in_ok-write_pieces.ensures.size ∙ ap (size_with size) c.tried-count.ensures.tried in
    let now : g.D.Disk.size c.sync.new.self ≡ size_with size (tried_of c.args.pieces.now) = c.in_ok-sync.ensures.size ∙ was in
    let limit : size_with size (tried_of c.args.pieces.now) ≤ 2 ^ 60 = subst (λ n. n ≤ 2 ^ 60) (c.len-size.ensures.value ∙ now) c.len-size.ensures.limit in
    let within = All-weaker (λ (p : Piece). p.at + slot ≤ size_with size (tried_of c.args.pieces.now)) (λ p. IsWithin p.at) (λ p le. omega (arith, le, limit)) (tried_of c.args.pieces.now) (size_holds size (tried_of c.args.pieces.now)) in
    now ∙ ap (size_with size) (all_tried c.args.pieces.now within).0

pub returns-clause-within : goal.returns-clause-within
returns-clause-within g c =
    let size = g.D.Disk.size c.args.disk.now in
    let was : g.D.Disk.size c.write_pieces.new.disk ≡ size_with size (tried_of c.args.pieces.now) = c.in_ok-write_pieces.ensures.size ∙ ap (size_with size) c.tried-count.ensures.tried in
    let now : g.D.Disk.size c.sync.new.self ≡ size_with size (tried_of c.args.pieces.now) = c.in_ok-sync.ensures.size ∙ was in
    let limit : size_with size (tried_of c.args.pieces.now) ≤ 2 ^ 60 = subst (λ n. n ≤ 2 ^ 60) (c.len-size.ensures.value ∙ now) c.len-size.ensures.limit in
    let within = All-weaker (λ (p : Piece). p.at + slot ≤ size_with size (tried_of c.args.pieces.now)) (λ p. IsWithin p.at) (λ p le. omega (arith, le, limit)) (tried_of c.args.pieces.now) (size_holds size (tried_of c.args.pieces.now)) in
    ((all_tried c.args.pieces.now within).1, subst (λ n. n ≤ 2 ^ 60) (sym now) limit)

pub returns-clause-stand : goal.returns-clause-stand
returns-clause-stand g c =
    let size = g.D.Disk.size c.args.disk.now in
    let was : g.D.Disk.size c.write_pieces.new.disk ≡ size_with size (tried_of c.args.pieces.now) = c.in_ok-write_pieces.ensures.size ∙ ap (size_with size) c.tried-count.ensures.tried in
    let now : g.D.Disk.size c.sync.new.self ≡ size_with size (tried_of c.args.pieces.now) = c.in_ok-sync.ensures.size ∙ was in
    let limit : size_with size (tried_of c.args.pieces.now) ≤ 2 ^ 60 = subst (λ n. n ≤ 2 ^ 60) (c.len-size.ensures.value ∙ now) c.len-size.ensures.limit in
    let within = All-weaker (λ (p : Piece). p.at + slot ≤ size_with size (tried_of c.args.pieces.now)) (λ p. IsWithin p.at) (λ p le. omega (arith, le, limit)) (tried_of c.args.pieces.now) (size_holds size (tried_of c.args.pieces.now)) in
    subst (λ told. IfSome told (λ bytes. All (FillsSlot bytes) c.args.pieces.now)) (sym c.in_ok-sync.ensures.told)
    (subst (λ (ps : List Piece). IfSome (g.D.Disk.told c.write_pieces.new.disk) (λ bytes. All (FillsSlot bytes) ps)) (c.tried-count.ensures.tried ∙ (all_tried c.args.pieces.now within).0) c.in_ok-write_pieces.ensures.stand)

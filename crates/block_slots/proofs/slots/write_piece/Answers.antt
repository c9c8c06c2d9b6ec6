use Rattle.std.proofs.Common.{◌≡◌, ◌∷◌, [], ℕ, List, length, ap, subst, ◌∙◌}
use Rattle.std.specs.Result.{OnOk}
use Rattle.gno_disk.specs.Disk.{Overwrites, Told, Torn}
use Rattle.gno_disk.proofs.Moments.{LeavesOnly-call, LeavesOnly-start}
use Rattle.shelf_records.specs.Shelved.{slot}
use Rattle.block_slots.specs.Slots.{IsSpared, padded}
use Rattle.block_slots.proofs.Spared.{length-padded, spared_itself, torn_spares, written_spares, written_stands}
use Rattle.block_slots.proofs.slots.write_piece.Goals as goal

pub returns-clause-stands : goal.returns-clause-stands
returns-clause-stands g c =
    let p = c.args.piece.now in
    let is : c.deref-2.result.now ≡ padded p.bytes.items = c.deref-2.ensures.value ∙ c.fill.ensures.items ∙ ap padded c.deref.ensures.value in
    let told = g.D.Disk.told in
    written_stands c.write_at.result p.at (g.D.Disk.size c.args.disk.now) (padded p.bytes.items) (told c.args.disk.now) (told c.write_at.new.self)
    (length-padded p.bytes.items c.requires.fits) c.requires.placed (g.met.D.Disk.whole c.args.disk.now) (subst (λ (b : List ℕ). OnOk c.write_at.result (Told (Overwrites p.at b) (told c.args.disk.now) (told c.write_at.new.self))) is c.write_at.ensures.written)

pub returns-clause-spared : goal.returns-clause-spared
returns-clause-spared g c =
    let p = c.args.piece.now in
    let is : c.deref-2.result.now ≡ padded p.bytes.items = c.deref-2.ensures.value ∙ c.fill.ensures.items ∙ ap padded c.deref.ensures.value in
    let full : length c.deref-2.result.now ≡ slot = ap length is ∙ length-padded p.bytes.items c.requires.fits in
    written_spares c.write_at.result p.at (g.D.Disk.size c.args.disk.now) c.deref-2.result.now (g.D.Disk.told c.args.disk.now) (g.D.Disk.told c.write_at.new.self)
    full c.requires.placed (g.met.D.Disk.whole c.args.disk.now) c.write_at.ensures.written c.write_at.ensures.torn

pub returns-clause-any_moment : goal.returns-clause-any_moment
returns-clause-any_moment g c =
    let p = c.args.piece.now in
    let old = c.args.disk.now in
    let is : c.deref-2.result.now ≡ padded p.bytes.items = c.deref-2.ensures.value ∙ c.fill.ensures.items ∙ ap padded c.deref.ensures.value in
    let full : length c.deref-2.result.now ≡ slot = ap length is ∙ length-padded p.bytes.items c.requires.fits in
    LeavesOnly-call g.D.Disk old old c.write_at.new.self (IsSpared g.D.Disk (p.at ∷ []) old) (g.D.Disk.may_leave c.write_at.new.self)
    (LeavesOnly-start g.D.Disk old (IsSpared g.D.Disk (p.at ∷ []) old) (λ image left. spared_itself g.D.Disk (p.at ∷ []) old image (g.met.D.Disk.only_now old image left)))
    c.write_at.ensures.time
    (λ image left.
    let back = c.write_at.ensures.crash image left in
    record { before = back.0; left = back.1; spares = torn_spares p.at back.0 image (subst (λ (n : ℕ). Torn p.at n back.0 image) full back.2) })

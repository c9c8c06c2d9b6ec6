use Rattle.std.proofs.Common.{subst, refl, ◌<◌, ◌≡◌, ◌+◌, ◌≤◌, ◌∷◌, [], ◌++◌, length, ap, ◌∙◌, rules, arith}
use Rattle.byteorder.specs.Endian.{big_bytes}
use Rattle.gno_disk.specs.Disk.{Overwrites, Told}
use Rattle.gno_disk.specs.Moments.{LeavesOnly}
use Rattle.gno_disk.proofs.Moments.{LeavesOnly-start, LeavesOnly-weaker}
use Rattle.gate_log.specs.LogView.{LogView, IsOldOrAdded}
use Rattle.gate_log.specs.Steps.{KeepsBefore, IsSynced, PartOf}
use Rattle.gno_disk.proofs.Moments.{leaves_now}
use Rattle.gate_log.proofs.LogLemmas.{log_part, log_part_stands, log_stands_still, log_durable, old_or_added, told_durable, kept_written, kept_records, next_written, next_closed, next_places, next_records}
use Rattle.gate_log.proofs.log.Log.append.Goals as goal

pub invariant_of-self-then-is_err : goal.invariant_of-self-then-is_err
invariant_of-self-then-is_err g c =
    let l = c.self.inside in
    let told : Told (KeepsBefore l.end) (g.D.Disk.told l.disk) (g.D.Disk.told c.write_record.new.disk) = search rules in
    record {
      places = rw c.reserve.ensures.items c.self.invariant.places;
      written = rw c.reserve.ensures.items (kept_written l.places.items l.end c.self.invariant.places _ _ told c.self.invariant.written);
      limit = c.self.invariant.limit;
      room = search rules;
      closed = search rules;
      durable = search rules;
      body_room = search rules;
      place_room = search rules;
      anew_room = search rules;
      anew_places = search rules;
    }

pub returns-then-is_err-clause-kept : goal.returns-then-is_err-clause-kept
returns-then-is_err-clause-kept g c =
    let l = c.self.inside in
    let told : Told (KeepsBefore l.end) (g.D.Disk.told l.disk) (g.D.Disk.told c.write_record.new.disk) = search rules in
    (rw c.reserve.ensures.items (kept_records l.places.items l.end c.self.invariant.places _ _ told ∙ ap (λ (v : LogView _). v.records) c.self.view_is), search rules)

pub invariant_of-self-2 : goal.invariant_of-self-2
invariant_of-self-2 g c =
    let l = c.self.inside in
    let told : Told (Overwrites l.end (1 ∷ c.deref.result.now)) (g.D.Disk.told l.disk) (g.D.Disk.told c.write_record.new.disk) = search rules in
    let framed : c.deref.result.now ≡ big_bytes 8 (length c.args.body.now) ++ c.args.body.now ++ 0 ∷ [] = c.deref.ensures.value ∙ c.in_ok-fill_frame.ensures.bytes in
    let inside = c.self.invariant.room (ap (λ (v : LogView _). v.broken) c.self.view_is ∙ c.requires) in
    let items_are = c.add_place-self-inside.ensures.place ∙ ap (λ ps. ps ++ (record { at = l.end + 9; len = length c.args.body.now }) ∷ []) c.reserve.ensures.items in
    let synced : IsSynced (g.D.Disk.told c.write_record.new.disk) (g.D.Disk.may_leave c.write_record.new.disk) = search rules in
    let reaches : l.end + 1 + length c.deref.result.now ≤ g.D.Disk.size c.write_record.new.disk = search rules in
    record {
      places = next_places l.places.items l.end c.self.invariant.places _ c.args.body.now _ inside framed _ _ items_are c.add_place-self-inside.ensures.end;
      written = next_written l.places.items l.end c.self.invariant.places _ c.args.body.now _ inside framed _ _ items_are c.add_place-self-inside.ensures.end _ _ (g.met.D.Disk.whole l.disk) c.self.invariant.written told;
      limit = c.add_place-self-inside.ensures.limit;
      room = λ _. omega (arith, reaches, c.in_ok-fill_frame.ensures.len, ap length c.deref.ensures.value, c.add_place-self-inside.ensures.end);
      closed = λ _. next_closed l.places.items l.end c.self.invariant.places _ c.args.body.now _ inside framed _ _ items_are c.add_place-self-inside.ensures.end _ _ (g.met.D.Disk.whole l.disk) c.self.invariant.written told;
      durable = λ _. synced;
      body_room = search rules;
      place_room = search rules;
      anew_room = search rules;
      anew_places = search rules;
    }

pub returns-clause-added : goal.returns-clause-added
returns-clause-added g c =
    let l = c.self.inside in
    let told : Told (Overwrites l.end (1 ∷ c.deref.result.now)) (g.D.Disk.told l.disk) (g.D.Disk.told c.write_record.new.disk) = search rules in
    let framed : c.deref.result.now ≡ big_bytes 8 (length c.args.body.now) ++ c.args.body.now ++ 0 ∷ [] = c.deref.ensures.value ∙ c.in_ok-fill_frame.ensures.bytes in
    let inside = c.self.invariant.room (ap (λ (v : LogView _). v.broken) c.self.view_is ∙ c.requires) in
    let items_are = c.add_place-self-inside.ensures.place ∙ ap (λ ps. ps ++ (record { at = l.end + 9; len = length c.args.body.now }) ∷ []) c.reserve.ensures.items in
    next_records l.places.items l.end c.self.invariant.places _ c.args.body.now _ inside framed _ _ items_are c.add_place-self-inside.ensures.end _ _ _ (ap (λ (v : LogView _). v.records) c.self.view_is) (g.met.D.Disk.whole l.disk) c.self.invariant.written told

pub returns-then-is_err-clause-any_moment : goal.returns-then-is_err-clause-any_moment
returns-then-is_err-clause-any_moment g c =
    let l = c.self.inside in
    let framed : c.deref.result.now ≡ big_bytes 8 (length c.args.body.now) ++ c.args.body.now ++ 0 ∷ [] = c.deref.ensures.value ∙ c.in_ok-fill_frame.ensures.bytes in
    subst (λ (d : _). LeavesOnly g.D.Disk d c.write_record.new.disk (IsOldOrAdded c.args.self.now.records c.args.body.now)) (ap (λ (v : LogView _). v.disk) c.self.view_is)
    (LeavesOnly-weaker g.D.Disk l.disk c.write_record.new.disk _ (IsOldOrAdded c.args.self.now.records c.args.body.now)
    (log_part g.D.Disk l c.args.self.now c.self.view_is c.self.invariant (g.met.D.Disk.whole l.disk) c.requires c.args.body.now c.deref.result.now framed) c.write_record.ensures.any_moment)

pub returns-clause-any_moment : goal.returns-clause-any_moment
returns-clause-any_moment g c =
    let l = c.self.inside in
    let framed : c.deref.result.now ≡ big_bytes 8 (length c.args.body.now) ++ c.args.body.now ++ 0 ∷ [] = c.deref.ensures.value ∙ c.in_ok-fill_frame.ensures.bytes in
    subst (λ (d : _). LeavesOnly g.D.Disk d c.write_record.new.disk (IsOldOrAdded c.args.self.now.records c.args.body.now)) (ap (λ (v : LogView _). v.disk) c.self.view_is)
    (LeavesOnly-weaker g.D.Disk l.disk c.write_record.new.disk _ (IsOldOrAdded c.args.self.now.records c.args.body.now)
    (log_part g.D.Disk l c.args.self.now c.self.view_is c.self.invariant (g.met.D.Disk.whole l.disk) c.requires c.args.body.now c.deref.result.now framed) c.write_record.ensures.any_moment)

pub returns-in_err-fill_frame-clause-any_moment : goal.returns-in_err-fill_frame-clause-any_moment
returns-in_err-fill_frame-clause-any_moment g c =
    let l = c.self.inside in
    subst (λ (d : _). LeavesOnly g.D.Disk d l.disk (IsOldOrAdded c.args.self.now.records c.args.body.now)) (ap (λ (v : LogView _). v.disk) c.self.view_is)
    (LeavesOnly-start g.D.Disk l.disk (IsOldOrAdded c.args.self.now.records c.args.body.now)
    (λ image left. old_or_added _ c.args.body.now image (log_durable g.D.Disk l c.args.self.now c.self.view_is c.self.invariant (g.met.D.Disk.whole l.disk) c.requires image (g.met.D.Disk.only_now l.disk image left))))

pub returns-in_err-reserve-clause-any_moment : goal.returns-in_err-reserve-clause-any_moment
returns-in_err-reserve-clause-any_moment g c =
    let l = c.self.inside in
    subst (λ (d : _). LeavesOnly g.D.Disk d l.disk (IsOldOrAdded c.args.self.now.records c.args.body.now)) (ap (λ (v : LogView _). v.disk) c.self.view_is)
    (LeavesOnly-start g.D.Disk l.disk (IsOldOrAdded c.args.self.now.records c.args.body.now)
    (λ image left. old_or_added _ c.args.body.now image (log_durable g.D.Disk l c.args.self.now c.self.view_is c.self.invariant (g.met.D.Disk.whole l.disk) c.requires image (g.met.D.Disk.only_now l.disk image left))))

pub returns-clause-durable : goal.returns-clause-durable
returns-clause-durable g c =
    let l = c.self.inside in
    let told : Told (Overwrites l.end (1 ∷ c.deref.result.now)) (g.D.Disk.told l.disk) (g.D.Disk.told c.write_record.new.disk) = search rules in
    let framed : c.deref.result.now ≡ big_bytes 8 (length c.args.body.now) ++ c.args.body.now ++ 0 ∷ [] = c.deref.ensures.value ∙ c.in_ok-fill_frame.ensures.bytes in
    let inside = c.self.invariant.room (ap (λ (v : LogView _). v.broken) c.self.view_is ∙ c.requires) in
    let items_are = c.add_place-self-inside.ensures.place ∙ ap (λ ps. ps ++ (record { at = l.end + 9; len = length c.args.body.now }) ∷ []) c.reserve.ensures.items in
    let end_is = c.add_place-self-inside.ensures.end in
    let synced : IsSynced (g.D.Disk.told c.write_record.new.disk) (g.D.Disk.may_leave c.write_record.new.disk) = search rules in
    let reaches : l.end + 1 + length c.deref.result.now ≤ g.D.Disk.size c.write_record.new.disk = search rules in
    let room : c.add_place-self-inside.result < g.D.Disk.size c.write_record.new.disk = omega (arith, reaches, c.in_ok-fill_frame.ensures.len, ap length c.deref.ensures.value, end_is) in
    told_durable _ _ _ (next_places l.places.items l.end c.self.invariant.places _ c.args.body.now _ inside framed _ _ items_are end_is) room (g.D.Disk.told c.write_record.new.disk) _ _ refl (g.met.D.Disk.whole c.write_record.new.disk)
    (next_written l.places.items l.end c.self.invariant.places _ c.args.body.now _ inside framed _ _ items_are end_is _ _ (g.met.D.Disk.whole l.disk) c.self.invariant.written told)
    (next_closed l.places.items l.end c.self.invariant.places _ c.args.body.now _ inside framed _ _ items_are end_is _ _ (g.met.D.Disk.whole l.disk) c.self.invariant.written told) synced

pub returns-then-is_err-clause-left : goal.returns-then-is_err-clause-left
returns-then-is_err-clause-left g c =
    leaves_now g.D.Disk c.args.self.now.disk c.write_record.new.disk (IsOldOrAdded c.args.self.now.records c.args.body.now) g.met.D.Disk.counts_now (returns-then-is_err-clause-any_moment g c)

pub returns-then-is_err-clause-stands : goal.returns-then-is_err-clause-stands
returns-then-is_err-clause-stands g c =
    let l = c.self.inside in
    let framed : c.deref.result.now ≡ big_bytes 8 (length c.args.body.now) ++ c.args.body.now ++ 0 ∷ [] = c.deref.ensures.value ∙ c.in_ok-fill_frame.ensures.bytes in
    let part : Told (PartOf l.end c.deref.result.now) (g.D.Disk.told l.disk) (g.D.Disk.told c.write_record.new.disk) = search rules in
    log_part_stands g.D.Disk l c.args.self.now c.self.view_is c.self.invariant (g.met.D.Disk.whole l.disk) c.requires c.args.body.now c.deref.result.now framed (g.D.Disk.told c.write_record.new.disk) part

pub returns-clause-left : goal.returns-clause-left
returns-clause-left g c =
    leaves_now g.D.Disk c.args.self.now.disk c.write_record.new.disk (IsOldOrAdded c.args.self.now.records c.args.body.now) g.met.D.Disk.counts_now (returns-clause-any_moment g c)

pub returns-clause-stands : goal.returns-clause-stands
returns-clause-stands g c =
    let l = c.self.inside in
    let framed : c.deref.result.now ≡ big_bytes 8 (length c.args.body.now) ++ c.args.body.now ++ 0 ∷ [] = c.deref.ensures.value ∙ c.in_ok-fill_frame.ensures.bytes in
    let part : Told (PartOf l.end c.deref.result.now) (g.D.Disk.told l.disk) (g.D.Disk.told c.write_record.new.disk) = search rules in
    log_part_stands g.D.Disk l c.args.self.now c.self.view_is c.self.invariant (g.met.D.Disk.whole l.disk) c.requires c.args.body.now c.deref.result.now framed (g.D.Disk.told c.write_record.new.disk) part

pub returns-in_err-fill_frame-clause-left : goal.returns-in_err-fill_frame-clause-left
returns-in_err-fill_frame-clause-left g c =
    leaves_now g.D.Disk c.args.self.now.disk c.self.inside.disk (IsOldOrAdded c.args.self.now.records c.args.body.now) g.met.D.Disk.counts_now (returns-in_err-fill_frame-clause-any_moment g c)

pub returns-in_err-fill_frame-clause-stands : goal.returns-in_err-fill_frame-clause-stands
returns-in_err-fill_frame-clause-stands g c =
    let l = c.self.inside in
    log_stands_still g.D.Disk l c.args.self.now c.self.view_is c.self.invariant (g.met.D.Disk.whole l.disk) c.requires c.args.body.now

pub returns-in_err-reserve-clause-left : goal.returns-in_err-reserve-clause-left
returns-in_err-reserve-clause-left g c =
    leaves_now g.D.Disk c.args.self.now.disk c.self.inside.disk (IsOldOrAdded c.args.self.now.records c.args.body.now) g.met.D.Disk.counts_now (returns-in_err-reserve-clause-any_moment g c)

pub returns-in_err-reserve-clause-stands : goal.returns-in_err-reserve-clause-stands
returns-in_err-reserve-clause-stands g c =
    let l = c.self.inside in
    log_stands_still g.D.Disk l c.args.self.now c.self.view_is c.self.invariant (g.met.D.Disk.whole l.disk) c.requires c.args.body.now

pub returns-in_err-fill_frame-clause-came : goal.returns-in_err-fill_frame-clause-came
returns-in_err-fill_frame-clause-came g c =
    subst (λ (d : _). g.D.Disk.came 4 d c.self.inside.disk) (ap (λ (v : LogView _). v.disk) c.self.view_is)
    (let le : 0 ≤ 4 = omega arith in g.met.D.Disk.came_more 0 4 _ _ le (g.met.D.Disk.came_none c.self.inside.disk))

pub returns-in_err-reserve-clause-came : goal.returns-in_err-reserve-clause-came
returns-in_err-reserve-clause-came g c =
    subst (λ (d : _). g.D.Disk.came 4 d c.self.inside.disk) (ap (λ (v : LogView _). v.disk) c.self.view_is)
    (let le : 0 ≤ 4 = omega arith in g.met.D.Disk.came_more 0 4 _ _ le (g.met.D.Disk.came_none c.self.inside.disk))

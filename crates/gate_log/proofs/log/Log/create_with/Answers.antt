use Rattle.std.proofs.Common.{◌≡◌, ◌+◌, ◌≤◌, ◌<◌, ◌^◌, ◌∷◌, [], ◌++◌, ℕ, List, length, length-append, ap, ◌∙◌, refl, rules, arith}
use Rattle.gno_disk.specs.Disk.{Told}
use Rattle.gate_log.specs.Records.{log_bytes, bodies_of}
use Rattle.gate_log.specs.Steps.{StandsFirst, IsSynced, OldOrNoneOr, IsRemade}
use Rattle.gate_log.proofs.Moments.{remade_weaker, remade_or_still_weaker}
use Rattle.gate_log.proofs.LogLemmas.{told_durable}
use Rattle.gate_log.proofs.MadeLemmas.{bodies_of-long, places_of-long, made_holds, made_places, made_written, made_closed, made_records}
use Rattle.gate_log.proofs.log.Log.create_with.Goals as goal

pub add_places-end-requires-clause-limit : goal.add_places-end-requires-clause-limit
add_places-end-requires-clause-limit g c =
    let records = c.args.first.now ∷ bodies_of c.args.rest.now in
    let limit : 1 + length c.deref.result.now ≤ 2 ^ 60 = search rules in
    let told : Told (λ _ new. StandsFirst c.deref.result.now new) (g.D.Disk.told c.args.disk) (g.D.Disk.told c.start.new.disk) = search rules in
    let filled : 1 ∷ c.fill_frames.new.frame.items ≡ log_bytes (c.args.first.now ∷ bodies_of c.args.rest.now) ++ 0 ∷ [] = search rules in
    let framed = ap (λ (l : List ℕ). 1 ∷ l) c.deref.ensures.value ∙ filled in
    omega (arith, limit, ap length framed, length-append (log_bytes records) (0 ∷ []))

pub invariant_of-result : goal.invariant_of-result
invariant_of-result g c =
    let records = c.args.first.now ∷ bodies_of c.args.rest.now in
    let told : Told (λ _ new. StandsFirst c.deref.result.now new) (g.D.Disk.told c.args.disk) (g.D.Disk.told c.start.new.disk) = search rules in
    let filled : 1 ∷ c.fill_frames.new.frame.items ≡ log_bytes (c.args.first.now ∷ bodies_of c.args.rest.now) ++ 0 ∷ [] = search rules in
    let framed = ap (λ (l : List ℕ). 1 ∷ l) c.deref.ensures.value ∙ filled in
    let reaches : 1 + length c.deref.result.now ≤ g.D.Disk.size c.start.new.disk = search rules in
    let synced : IsSynced (g.D.Disk.told c.start.new.disk) (g.D.Disk.may_leave c.start.new.disk) = search rules in
    let end_is = c.add_places-end.ensures.end in
    let places_are = c.add_places-end.ensures.places in
    let limit : 1 + length c.deref.result.now ≤ 2 ^ 60 = search rules in
    let room : c.add_places-end.result < g.D.Disk.size c.start.new.disk = omega (arith, reaches, end_is, ap length framed, length-append (log_bytes records) (0 ∷ [])) in
    record {
      places = made_places records c.deref.result.now framed _ _ places_are end_is;
      written = made_written records c.deref.result.now framed _ _ places_are end_is _ _ told;
      limit = omega (arith, limit, end_is, ap length framed, length-append (log_bytes records) (0 ∷ []));
      room = λ _. room;
      closed = λ _. made_closed records c.deref.result.now framed _ _ places_are end_is _ _ told;
      durable = λ _. synced;
      body_room = search rules;
      place_room = search rules;
      anew_room = search rules;
      anew_places = search rules;
    }

pub returns-clause-any_moment : goal.returns-clause-any_moment
returns-clause-any_moment g c =
    let records = c.args.first.now ∷ bodies_of c.args.rest.now in
    let told : Told (λ _ new. StandsFirst c.deref.result.now new) (g.D.Disk.told c.args.disk) (g.D.Disk.told c.start.new.disk) = search rules in
    let filled : 1 ∷ c.fill_frames.new.frame.items ≡ log_bytes (c.args.first.now ∷ bodies_of c.args.rest.now) ++ 0 ∷ [] = search rules in
    let framed = ap (λ (l : List ℕ). 1 ∷ l) c.deref.ensures.value ∙ filled in
    let remade : IsRemade g.D.Disk (OldOrNoneOr c.deref.result.now) c.args.disk c.start.new.disk = search rules in
    remade_weaker g.D.Disk g.met.D.Disk.only_now _ _ _ _ (made_holds records c.deref.result.now framed) remade

pub returns-then-is_err-3-clause-any_moment_err : goal.returns-then-is_err-3-clause-any_moment_err
returns-then-is_err-3-clause-any_moment_err g c =
    let records = c.args.first.now ∷ bodies_of c.args.rest.now in
    let filled : 1 ∷ c.fill_frames.new.frame.items ≡ log_bytes (c.args.first.now ∷ bodies_of c.args.rest.now) ++ 0 ∷ [] = search rules in
    let framed = ap (λ (l : List ℕ). 1 ∷ l) c.deref.ensures.value ∙ filled in
    remade_or_still_weaker g.D.Disk g.met.D.Disk.only_now _ _ _ _ (made_holds records c.deref.result.now framed) c.start.ensures.any_moment

pub returns-clause-records : goal.returns-clause-records
returns-clause-records g c =
    let records = c.args.first.now ∷ bodies_of c.args.rest.now in
    let told : Told (λ _ new. StandsFirst c.deref.result.now new) (g.D.Disk.told c.args.disk) (g.D.Disk.told c.start.new.disk) = search rules in
    let filled : 1 ∷ c.fill_frames.new.frame.items ≡ log_bytes (c.args.first.now ∷ bodies_of c.args.rest.now) ++ 0 ∷ [] = search rules in
    let framed = ap (λ (l : List ℕ). 1 ∷ l) c.deref.ensures.value ∙ filled in
    made_records records c.deref.result.now framed _ _ c.add_places-end.ensures.places c.add_places-end.ensures.end _ _ told

pub returns-clause-durable : goal.returns-clause-durable
returns-clause-durable g c =
    let records = c.args.first.now ∷ bodies_of c.args.rest.now in
    let told : Told (λ _ new. StandsFirst c.deref.result.now new) (g.D.Disk.told c.args.disk) (g.D.Disk.told c.start.new.disk) = search rules in
    let filled : 1 ∷ c.fill_frames.new.frame.items ≡ log_bytes (c.args.first.now ∷ bodies_of c.args.rest.now) ++ 0 ∷ [] = search rules in
    let framed = ap (λ (l : List ℕ). 1 ∷ l) c.deref.ensures.value ∙ filled in
    let reaches : 1 + length c.deref.result.now ≤ g.D.Disk.size c.start.new.disk = search rules in
    let synced : IsSynced (g.D.Disk.told c.start.new.disk) (g.D.Disk.may_leave c.start.new.disk) = search rules in
    let end_is = c.add_places-end.ensures.end in
    let places_are = c.add_places-end.ensures.places in
    let limit : 1 + length c.deref.result.now ≤ 2 ^ 60 = search rules in
    let room : c.add_places-end.result < g.D.Disk.size c.start.new.disk = omega (arith, reaches, end_is, ap length framed, length-append (log_bytes records) (0 ∷ [])) in
    told_durable _ _ _ (made_places records c.deref.result.now framed _ _ places_are end_is) room (g.D.Disk.told c.start.new.disk) _ _ refl (g.met.D.Disk.whole c.start.new.disk)
    (made_written records c.deref.result.now framed _ _ places_are end_is _ _ told) (made_closed records c.deref.result.now framed _ _ places_are end_is _ _ told) synced

pub returns-then-is_err-clause-came_err : goal.returns-then-is_err-clause-came_err
returns-then-is_err-clause-came_err g c =
    let le : 0 ≤ 9 = omega arith in g.met.D.Disk.came_more 0 9 _ _ le (g.met.D.Disk.came_none c.args.disk)

pub returns-clause-counted : goal.returns-clause-counted
returns-clause-counted g c =
    let records = c.args.first.now ∷ bodies_of c.args.rest.now in
    let long : length c.add_places-end.new.places.items ≡ length c.args.rest.now + 1 = omega (arith, ap length c.add_places-end.ensures.places, places_of-long 0 records, bodies_of-long c.args.rest.now) in
    (long, refl)

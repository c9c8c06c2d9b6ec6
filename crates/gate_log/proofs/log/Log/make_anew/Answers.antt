use Rattle.std.proofs.Common.{◌≡◌, ◌+◌, ◌≤◌, ◌<◌, ◌^◌, ◌∷◌, [], ◌++◌, ℕ, List, length, length-append, ap, subst, ◌∙◌, refl, true, false, rules, arith}
use Rattle.gno_disk.specs.Disk.{Told}
use Rattle.gate_log.specs.LogView.{LogView, IsOldOrMade}
use Rattle.gate_log.specs.Records.{log_bytes, bodies_of}
use Rattle.gate_log.specs.Steps.{StandsFirst, IsSynced, OldOrNoneOr, IsRemade, IsRemadeOrStill}
use Rattle.gate_log.proofs.Moments.{remade_weaker, remade_or_still_weaker}
use Rattle.gate_log.proofs.LogLemmas.{told_durable}
use Rattle.gate_log.proofs.MadeLemmas.{bodies_of-long, places_of-long, made_holds, made_places, made_written, made_closed, made_records, too_little, within_room}
use Rattle.gate_log.proofs.log.Log.make_anew.Goals as goal

pub add_places-self-inside-requires-clause-limit : goal.add_places-self-inside-requires-clause-limit
add_places-self-inside-requires-clause-limit g c =
    let records = c.args.first.now ∷ bodies_of c.args.rest.now in
    let filled : 1 ∷ c.fill_frames.new.frame.items ≡ log_bytes (c.args.first.now ∷ bodies_of c.args.rest.now) ++ 0 ∷ [] = search rules in
    let framed = ap (λ (l : List ℕ). 1 ∷ l) c.deref.ensures.value ∙ filled in
    let limit : 1 + length c.deref.result.now ≤ 2 ^ 60 = search rules in
    omega (arith, limit, ap length framed, length-append (log_bytes records) (0 ∷ []))

pub invariant_of-self-2 : goal.invariant_of-self-2
invariant_of-self-2 g c =
    let records = c.args.first.now ∷ bodies_of c.args.rest.now in
    let told : Told (λ _ new. StandsFirst c.deref.result.now new) (g.D.Disk.told c.self.inside.disk) (g.D.Disk.told c.start.new.disk) = search rules in
    let filled : 1 ∷ c.fill_frames.new.frame.items ≡ log_bytes (c.args.first.now ∷ bodies_of c.args.rest.now) ++ 0 ∷ [] = search rules in
    let framed = ap (λ (l : List ℕ). 1 ∷ l) c.deref.ensures.value ∙ filled in
    let reaches : 1 + length c.deref.result.now ≤ g.D.Disk.size c.start.new.disk = search rules in
    let limit : 1 + length c.deref.result.now ≤ 2 ^ 60 = search rules in
    let synced : IsSynced (g.D.Disk.told c.start.new.disk) (g.D.Disk.may_leave c.start.new.disk) = search rules in
    let end_is = c.add_places-self-inside.ensures.end in
    let places_are = c.add_places-self-inside.ensures.places in
    let room : c.add_places-self-inside.result < g.D.Disk.size c.start.new.disk = omega (arith, reaches, end_is, ap length framed, length-append (log_bytes records) (0 ∷ [])) in
    record {
      places = made_places records c.deref.result.now framed _ _ places_are end_is;
      written = made_written records c.deref.result.now framed _ _ places_are end_is _ _ told;
      limit = omega (arith, limit, end_is, ap length framed, length-append (log_bytes records) (0 ∷ []));
      room = λ _. room;
      closed = λ _. made_closed records c.deref.result.now framed _ _ places_are end_is _ _ told;
      durable = λ _. synced;
      body_room = search rules;
      place_room = search rules;
      anew_room = search rules;
      anew_places = search rules;
    }

pub returns-clause-any_moment : goal.returns-clause-any_moment
returns-clause-any_moment g c =
    let records = c.args.first.now ∷ bodies_of c.args.rest.now in
    let filled : 1 ∷ c.fill_frames.new.frame.items ≡ log_bytes (c.args.first.now ∷ bodies_of c.args.rest.now) ++ 0 ∷ [] = search rules in
    let framed = ap (λ (l : List ℕ). 1 ∷ l) c.deref.ensures.value ∙ filled in
    subst (λ (d : _). IsRemadeOrStill g.D.Disk (IsOldOrMade records) d c.start.new.disk) (ap (λ (v : LogView _). v.disk) c.self.view_is)
    (remade_or_still_weaker g.D.Disk g.met.D.Disk.only_now _ _ _ _ (made_holds records c.deref.result.now framed) c.start.ensures.any_moment)

pub returns-then-is_err-clause-any_moment : goal.returns-then-is_err-clause-any_moment
returns-then-is_err-clause-any_moment g c =
    let records = c.args.first.now ∷ bodies_of c.args.rest.now in
    let filled : 1 ∷ c.fill_frames.new.frame.items ≡ log_bytes (c.args.first.now ∷ bodies_of c.args.rest.now) ++ 0 ∷ [] = search rules in
    let framed = ap (λ (l : List ℕ). 1 ∷ l) c.deref.ensures.value ∙ filled in
    subst (λ (d : _). IsRemadeOrStill g.D.Disk (IsOldOrMade records) d c.start.new.disk) (ap (λ (v : LogView _). v.disk) c.self.view_is)
    (remade_or_still_weaker g.D.Disk g.met.D.Disk.only_now _ _ _ _ (made_holds records c.deref.result.now framed) c.start.ensures.any_moment)

pub returns-clause-remade : goal.returns-clause-remade
returns-clause-remade g c =
    let records = c.args.first.now ∷ bodies_of c.args.rest.now in
    let filled : 1 ∷ c.fill_frames.new.frame.items ≡ log_bytes (c.args.first.now ∷ bodies_of c.args.rest.now) ++ 0 ∷ [] = search rules in
    let framed = ap (λ (l : List ℕ). 1 ∷ l) c.deref.ensures.value ∙ filled in
    let remade : IsRemade g.D.Disk (OldOrNoneOr c.deref.result.now) c.self.inside.disk c.start.new.disk = search rules in
    subst (λ (d : _). IsRemade g.D.Disk (IsOldOrMade records) d c.start.new.disk) (ap (λ (v : LogView _). v.disk) c.self.view_is)
    (remade_weaker g.D.Disk g.met.D.Disk.only_now _ _ _ _ (made_holds records c.deref.result.now framed) remade)

pub returns-clause-records : goal.returns-clause-records
returns-clause-records g c =
    let records = c.args.first.now ∷ bodies_of c.args.rest.now in
    let told : Told (λ _ new. StandsFirst c.deref.result.now new) (g.D.Disk.told c.self.inside.disk) (g.D.Disk.told c.start.new.disk) = search rules in
    let filled : 1 ∷ c.fill_frames.new.frame.items ≡ log_bytes (c.args.first.now ∷ bodies_of c.args.rest.now) ++ 0 ∷ [] = search rules in
    let framed = ap (λ (l : List ℕ). 1 ∷ l) c.deref.ensures.value ∙ filled in
    made_records records c.deref.result.now framed _ _ c.add_places-self-inside.ensures.places c.add_places-self-inside.ensures.end _ _ told

pub returns-clause-durable : goal.returns-clause-durable
returns-clause-durable g c =
    let records = c.args.first.now ∷ bodies_of c.args.rest.now in
    let told : Told (λ _ new. StandsFirst c.deref.result.now new) (g.D.Disk.told c.self.inside.disk) (g.D.Disk.told c.start.new.disk) = search rules in
    let filled : 1 ∷ c.fill_frames.new.frame.items ≡ log_bytes (c.args.first.now ∷ bodies_of c.args.rest.now) ++ 0 ∷ [] = search rules in
    let framed = ap (λ (l : List ℕ). 1 ∷ l) c.deref.ensures.value ∙ filled in
    let reaches : 1 + length c.deref.result.now ≤ g.D.Disk.size c.start.new.disk = search rules in
    let limit : 1 + length c.deref.result.now ≤ 2 ^ 60 = search rules in
    let synced : IsSynced (g.D.Disk.told c.start.new.disk) (g.D.Disk.may_leave c.start.new.disk) = search rules in
    let end_is = c.add_places-self-inside.ensures.end in
    let places_are = c.add_places-self-inside.ensures.places in
    let room : c.add_places-self-inside.result < g.D.Disk.size c.start.new.disk = omega (arith, reaches, end_is, ap length framed, length-append (log_bytes records) (0 ∷ [])) in
    told_durable _ _ _ (made_places records c.deref.result.now framed _ _ places_are end_is) room (g.D.Disk.told c.start.new.disk) _ _ refl (g.met.D.Disk.whole c.start.new.disk)
    (made_written records c.deref.result.now framed _ _ places_are end_is _ _ told) (made_closed records c.deref.result.now framed _ _ places_are end_is _ _ told) synced

pub returns-clause-counted : goal.returns-clause-counted
returns-clause-counted g c =
    let records = c.args.first.now ∷ bodies_of c.args.rest.now in
    let long : length c.add_places-self-inside.new.places.items ≡ length c.args.rest.now + 1 = omega (arith, ap length c.add_places-self-inside.ensures.places, places_of-long 0 records, bodies_of-long c.args.rest.now) in
    (long, refl)

pub returns-in_err-fill_frames-clause-came : goal.returns-in_err-fill_frames-clause-came
returns-in_err-fill_frames-clause-came g c =
    subst (λ (d : _). g.D.Disk.came 9 d c.self.inside.disk) (ap (λ (v : LogView _). v.disk) c.self.view_is)
    (let le : 0 ≤ 9 = omega arith in g.met.D.Disk.came_more 0 9 _ _ le (g.met.D.Disk.came_none c.self.inside.disk))

pub returns-in_err-make_room-clause-came : goal.returns-in_err-make_room-clause-came
returns-in_err-make_room-clause-came g c =
    subst (λ (d : _). g.D.Disk.came 9 d c.self.inside.disk) (ap (λ (v : LogView _). v.disk) c.self.view_is)
    (let le : 0 ≤ 9 = omega arith in g.met.D.Disk.came_more 0 9 _ _ le (g.met.D.Disk.came_none c.self.inside.disk))

pub returns-in_err-fill_frames-clause-reserved : goal.returns-in_err-fill_frames-clause-reserved
returns-in_err-fill_frames-clause-reserved g c = λ memory.
    too_little c.args.first.now c.args.rest.now c.args.self.now.anew_records c.args.self.now.anew_bytes (λ few short.
    let l = c.self.inside in
    let records = ap (λ (v : LogView _). v.anew_records) c.self.view_is in
    let bytes = ap (λ (v : LogView _). v.anew_bytes) c.self.view_is in
    let some : 0 < l.anew_records = omega (arith, few, records) in
    let room = c.self.invariant.anew_room some in
    let fits = within_room c.args.first.now c.args.rest.now c.args.self.now.anew_records c.args.self.now.anew_bytes few short in
    let no : false ≡ true = c.in_err-fill_frames.ensures.room (omega (arith, fits, room, records, bytes)) in
    cc)

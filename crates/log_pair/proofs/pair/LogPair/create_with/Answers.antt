use Rattle.std.proofs.Common.{◌≡◌, ◌≤◌, false, [], ◌∷◌, ◌&&◌, List, ℕ, inl, sym, ap, subst, ◌∙◌, rules, arith}
use Rattle.std.specs.Option.{IfSome, is_some}
use Rattle.gno_disk.specs.Disk.{Told}
use Rattle.gno_disk.specs.Phases.{EachMoment, phase}
use Rattle.gno_disk.proofs.Moments.{LeavesOnly-start}
use Rattle.gate_log.specs.LogView.{IsLasting, IsOldOrMade}
use Rattle.gate_log.specs.Records.{HasNoLog, bodies_of}
use Rattle.gate_log.specs.Steps.{IsReady, IsRemadeOrStill, IsSynced, OldOrNone}
use Rattle.log_pair.specs.Header.{log_header}
use Rattle.log_pair.specs.Inside.{behind_header}
use Rattle.log_pair.specs.Pair.{HoldsPair}
use Rattle.log_pair.specs.PairView.{AreNoneOrMade, OfTwo}
use Rattle.log_pair.proofs.Images.{behind_told, header_first, image_held, images_of, older_image, older_synced}
use Rattle.log_pair.proofs.Making.{NoneOr, made_step, making_moments, none_step, ready_older, remade_or_still_leaves}
use Rattle.log_pair.proofs.pair.LogPair.create_with.Goals as goal

pub returns-then-is_err-clause-any_moment_err : goal.returns-then-is_err-clause-any_moment_err
returns-then-is_err-clause-any_moment_err g c some_a some_b none_a none_b =
    let a = c.args.a in
    let b = c.args.b in
    let place = c.args.place in
    let records = bodies_of c.args.records.now in
    let same : c.into_disk.result ≡ a = c.into_disk.ensures.disk ∙ c.reserve_all.ensures.disk ∙ c.unmounted-log.ensures.disk in
    subst (λ d. EachMoment g.D.Disk (phase b b ∷ phase a d ∷ []) (OfTwo (AreNoneOrMade place records))) (sym same)
    (making_moments g.D.Disk g.met.D.Disk.counts_now place records a a b b c.header_bytes-header.ensures.fits none_a
    (LeavesOnly-start g.D.Disk b HasNoLog (λ image left. none_b image (g.met.D.Disk.only_now b image left)))
    (LeavesOnly-start g.D.Disk a (NoneOr g.D.Disk (log_header place 1 ∷ records)) (λ image left. inl (none_a image (g.met.D.Disk.only_now a image left)))))

pub returns-then-is_err-clause-came_err : goal.returns-then-is_err-clause-came_err
returns-then-is_err-clause-came_err g c =
    let same : c.into_disk.result ≡ c.args.a = c.into_disk.ensures.disk ∙ c.reserve_all.ensures.disk ∙ c.unmounted-log.ensures.disk in
    (subst (g.D.Disk.came 9 c.args.a) (sym same) (let le : 0 ≤ 9 = omega arith in g.met.D.Disk.came_more 0 9 _ _ le (g.met.D.Disk.came_none c.args.a)), let le : 0 ≤ 5 = omega arith in g.met.D.Disk.came_more 0 5 _ _ le (g.met.D.Disk.came_none c.args.b))

pub returns-then-is_err-2-clause-any_moment_err : goal.returns-then-is_err-2-clause-any_moment_err
returns-then-is_err-2-clause-any_moment_err g c some_a some_b none_a none_b =
    let a = c.args.a in
    let b = c.args.b in
    let place = c.args.place in
    let records = bodies_of c.args.records.now in
    let same : c.into_disk-disk.result ≡ a = c.into_disk-disk.ensures.disk ∙ c.reserve_all.ensures.disk ∙ c.unmounted-log.ensures.disk in
    subst (λ d. EachMoment g.D.Disk (phase b c.make_ready.new.disk ∷ phase a d ∷ []) (OfTwo (AreNoneOrMade place records))) (sym same)
    (making_moments g.D.Disk g.met.D.Disk.counts_now place records a a b c.make_ready.new.disk c.header_bytes-header.ensures.fits none_a
    (remade_or_still_leaves g.D.Disk b c.make_ready.new.disk OldOrNone HasNoLog some_b (g.met.D.Disk.reads b) none_b (none_step g.D.Disk) (λ image none. none) c.make_ready.ensures.any_moment)
    (LeavesOnly-start g.D.Disk a (NoneOr g.D.Disk (log_header place 1 ∷ records)) (λ image left. inl (none_a image (g.met.D.Disk.only_now a image left)))))

pub returns-then-is_err-2-clause-came_err : goal.returns-then-is_err-2-clause-came_err
returns-then-is_err-2-clause-came_err g c =
    let same : c.into_disk-disk.result ≡ c.args.a = c.into_disk-disk.ensures.disk ∙ c.reserve_all.ensures.disk ∙ c.unmounted-log.ensures.disk in
    (subst (g.D.Disk.came 9 c.args.a) (sym same) (let le : 0 ≤ 9 = omega arith in g.met.D.Disk.came_more 0 9 _ _ le (g.met.D.Disk.came_none c.args.a)), c.make_ready.ensures.came)

pub returns-then-is_err-3-clause-any_moment_err : goal.returns-then-is_err-3-clause-any_moment_err
returns-then-is_err-3-clause-any_moment_err g c some_a some_b none_a none_b =
    let a = c.args.a in
    let b = c.args.b in
    let place = c.args.place in
    let records = bodies_of c.args.records.now in
    let made = c.make_anew.new.self.disk in
    let was : c.reserve_all.new.log.disk ≡ a = c.reserve_all.ensures.disk ∙ c.unmounted-log.ensures.disk in
    let R : List ℕ → _ → Type 0 = λ first old. IsRemadeOrStill g.D.Disk (IsOldOrMade (first ∷ records)) old made in
    let steps : R (log_header place 1) a =
    subst (R (log_header place 1)) was (subst (λ first. R first c.reserve_all.new.log.disk) c.header_bytes-header.ensures.bytes c.make_anew.ensures.any_moment) in
    subst (λ d. EachMoment g.D.Disk (phase b c.make_ready.new.disk ∷ phase a d ∷ []) (OfTwo (AreNoneOrMade place records))) (sym c.into_disk-disk-then-is_err-3.ensures.disk)
    (making_moments g.D.Disk g.met.D.Disk.counts_now place records a made b c.make_ready.new.disk c.header_bytes-header.ensures.fits none_a
    (remade_or_still_leaves g.D.Disk b c.make_ready.new.disk OldOrNone HasNoLog some_b (g.met.D.Disk.reads b) none_b (none_step g.D.Disk) (λ image none. none) c.make_ready.ensures.any_moment)
    (remade_or_still_leaves g.D.Disk a made (IsOldOrMade (log_header place 1 ∷ records)) (NoneOr g.D.Disk (log_header place 1 ∷ records)) some_a (g.met.D.Disk.reads a) none_a (made_step g.D.Disk (log_header place 1 ∷ records)) (λ image none. inl none) steps))

pub invariant_of-result : goal.invariant_of-result
invariant_of-result g c =
    let log = c.make_anew.new.self in
    let b = c.make_ready.new.disk in
    let some : 1 ≤ log.count = search rules in
    let ready : Told (λ _ new. IsReady new) (g.D.Disk.told c.args.b) (g.D.Disk.told b) = search rules in
    let synced : IsSynced (g.D.Disk.told b) (g.D.Disk.may_leave b) = search rules in
    let are : IfSome log.records (λ rs. rs ≡ c.header_bytes-header.result ∷ bodies_of c.args.records.now) = search rules in
    record {
      fits = c.header_bytes-header.ensures.fits;
      in_range = record { first = omega arith; last = omega arith };
      some = some;
      header = header_first c.args.place 1 log.records c.header_bytes-header.result (bodies_of c.args.records.now) c.header_bytes-header.ensures.bytes are;
      older = older_synced (g.D.Disk.told b) (g.D.Disk.may_leave b) false 1 (ready_older false 1 (g.D.Disk.told c.args.b) (g.D.Disk.told b) ready) synced;
    }

pub returns-clause-told : goal.returns-clause-told
returns-clause-told g c =
    let log = c.make_anew.new.self in
    let b = c.make_ready.new.disk in
    let told = g.D.Disk.told in
    let was : c.reserve_all.new.log.disk ≡ c.args.a = c.reserve_all.ensures.disk ∙ c.unmounted-log.ensures.disk in
    behind_told (told b) log.records
    ∙ ap (λ t. t && is_some (told b)) (c.make_anew.ensures.records_told ∙ c.make_anew.ensures.told ∙ ap (λ d. is_some (told d)) was)
    ∙ ap (λ t. is_some (told c.args.a) && t) (g.met.D.Disk.came_tells 5 c.args.b b c.make_ready.ensures.came)

pub returns-clause-durable : goal.returns-clause-durable
returns-clause-durable g c =
    let log = c.make_anew.new.self in
    let b = c.make_ready.new.disk in
    let place = c.args.place in
    let told = g.D.Disk.told b in
    let i = invariant_of-result g c in
    let lasting : IsLasting g.D.Disk log = search rules in
    images_of g.D.Disk false log.disk b (λ x y. IfSome (behind_header told log.records) (λ rs. HoldsPair place 1 rs x y))
    (λ x y left left_too. image_held place 1 false i.fits i.in_range told log.records x y i.header (lasting x left) (older_image told (g.D.Disk.may_leave b) false 1 y i.older left_too))

pub returns-clause-any_moment : goal.returns-clause-any_moment
returns-clause-any_moment g c some_a some_b none_a none_b =
    let a = c.args.a in
    let b = c.args.b in
    let place = c.args.place in
    let records = bodies_of c.args.records.now in
    let made = c.make_anew.new.self.disk in
    let was : c.reserve_all.new.log.disk ≡ a = c.reserve_all.ensures.disk ∙ c.unmounted-log.ensures.disk in
    let R : List ℕ → _ → Type 0 = λ first old. IsRemadeOrStill g.D.Disk (IsOldOrMade (first ∷ records)) old made in
    let steps : R (log_header place 1) a =
    subst (R (log_header place 1)) was (subst (λ first. R first c.reserve_all.new.log.disk) c.header_bytes-header.ensures.bytes c.make_anew.ensures.any_moment) in
    making_moments g.D.Disk g.met.D.Disk.counts_now place records a made b c.make_ready.new.disk c.header_bytes-header.ensures.fits none_a
    (remade_or_still_leaves g.D.Disk b c.make_ready.new.disk OldOrNone HasNoLog some_b (g.met.D.Disk.reads b) none_b (none_step g.D.Disk) (λ image none. none) c.make_ready.ensures.any_moment)
    (remade_or_still_leaves g.D.Disk a made (IsOldOrMade (log_header place 1 ∷ records)) (NoneOr g.D.Disk (log_header place 1 ∷ records)) some_a (g.met.D.Disk.reads a) none_a (made_step g.D.Disk (log_header place 1 ∷ records)) (λ image none. inl none) steps)

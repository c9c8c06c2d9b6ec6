use Rattle.std.proofs.Common.{◌≡◌, ℕ, List, length, Some, ap, sym, subst, ◌∙◌, arith}
use Rattle.std.specs.Option.{IfSome, is_some}
use Rattle.gno_disk.specs.Disk.{Only}
use Rattle.gno_disk.specs.Phases.{IsUnwritten, phase}
use Rattle.log_pair.specs.declared.place.Place.{Place}
use Rattle.log_pair.specs.Choice.{TwoTold}
use Rattle.log_pair.specs.Pair.{Counts, HoldsNoPair, HoldsPair, IsDamagedPair}
use Rattle.log_pair.specs.PairView.{AreOfPair}
use Rattle.pair_reading.proofs.ReadLemmas.{lasting_read, unwritten_then}
use Rattle.split_store.specs.Damage.IsDamagedShelf.{pair}
use Rattle.split_store.specs.Loading.{AreRecordsOf}
use Rattle.split_store.specs.Shelf.{HasShelfLog, shelf_place}
use Rattle.split_store.proofs.Held.{lasting_held, records_told}
use Rattle.split_store.proofs.Mounted.{cause_of, damage_here, has_log, long_by, metrics_by, never_of, odd_held_never, sync_unwritten, stand_by, three_damaged, three_of_two, two_and}
use Rattle.split_store.proofs.shelf.Shelf.mount.Goals as goal

pub returns-in-Err-clause-came_err : goal.returns-in-Err-clause-came_err
returns-in-Err-clause-came_err g c =
    (g.met.D.Disk.came_more 0 2 _ _ (omega arith) (g.met.D.Disk.came_none c.args.a), g.met.D.Disk.came_more 0 2 _ _ (omega arith) (g.met.D.Disk.came_none c.args.b), c.sync.ensures.came)

pub returns-in-Err-mount-clause-cause : goal.returns-in-Err-mount-clause-cause
returns-in-Err-mount-clause-cause g c =
    let told = g.D.Disk.told in
    let e = c.in-Err-mount in
    let place = c.args.place in
    cause_of e.fault c.counted-fault.result _ _ _ _ _ _ _ c.all_faults-before.ensures c.all_faults.ensures
    (λ f is. record { rose = let r = is.rose.rose in omega (arith, r, g.met.D.Disk.came_later 1 _ _ c.sync.ensures.came) })
    (λ d is. three_of_two (told c.args.a) (told c.args.b) (told c.args.blocks) _ _ (λ x y z ta tb tz damaged. pair damaged) (subst (λ q. TwoTold (told c.args.a) (told c.args.b) (λ x y. IsDamagedPair q x y d)) c.place_of.ensures is))
    e.ensures.cause c.counted-fault.ensures

pub returns-in-Err-mount-clause-never_held : goal.returns-in-Err-mount-clause-never_held
returns-in-Err-mount-clause-never_held g c =
    let told = g.D.Disk.told in
    let e = c.in-Err-mount in
    never_of e.fault c.counted-fault.result _ _ _ _
    (λ d none. three_of_two (told c.args.a) (told c.args.b) (told c.args.blocks) _ _ (λ x y z ta tb tz no epoch items log. no epoch _ log.held) (subst (λ q. TwoTold (told c.args.a) (told c.args.b) (HoldsNoPair q)) c.place_of.ensures none))
    e.ensures.never_held c.counted-fault.ensures

pub returns-in-Ok-load-clause-came : goal.returns-in-Ok-load-clause-came
returns-in-Ok-load-clause-came g c =
    let p = c.in-Ok-mount in
    let r = c.load.ensures.reads in
    (g.met.D.Disk.came_then 2 0 _ _ _ p.ensures.came.0 r.came_first, g.met.D.Disk.came_then 2 0 _ _ _ p.ensures.came.1 r.came_second, c.sync.ensures.came)

pub returns-in-Err-load-clause-came_err : goal.returns-in-Err-load-clause-came_err
returns-in-Err-load-clause-came_err g c =
    let p = c.in-Ok-mount in
    let r = c.load.ensures.reads in
    let same = c.into_disks-a.ensures.disks in (
      subst (g.D.Disk.came 2 c.args.a) (sym same.0) (g.met.D.Disk.came_then 2 0 _ _ _ p.ensures.came.0 r.came_first),
      subst (g.D.Disk.came 2 c.args.b) (sym same.1) (g.met.D.Disk.came_then 2 0 _ _ _ p.ensures.came.1 r.came_second),
      c.sync.ensures.came,
    )

pub returns-in-Err-load-clause-told_err : goal.returns-in-Err-load-clause-told_err
returns-in-Err-load-clause-told_err g c =
    let p = c.in-Ok-mount in
    let r = c.load.ensures.reads in
    let told = g.D.Disk.told in
    let same = c.into_disks-a.ensures.disks in (
      ap (λ d. is_some (told d)) same.0 ∙ ap is_some r.told_first ∙ g.met.D.Disk.came_tells 2 _ _ p.ensures.came.0,
      ap (λ d. is_some (told d)) same.1 ∙ ap is_some r.told_second ∙ g.met.D.Disk.came_tells 2 _ _ p.ensures.came.1,
      c.sync.ensures.told,
    )

pub returns-in-Ok-load-clause-keeps : goal.returns-in-Ok-load-clause-keeps
returns-in-Ok-load-clause-keeps g c =
    let p = c.in-Ok-mount in
    let told = g.D.Disk.told in
    let r = c.load.ensures.reads in
    let synced = c.sync.new.self in
    three_of_two (told c.args.a) (told c.args.b) (told c.args.blocks) _ _
    (λ x y z ea eb ez exact lives h. record {
      bytes = z;
      first = ap is_some r.told_first ∙ g.met.D.Disk.came_tells 2 _ _ p.ensures.came.0 ∙ ap is_some ea;
      second = ap is_some r.told_second ∙ g.met.D.Disk.came_tells 2 _ _ p.ensures.came.1 ∙ ap is_some eb;
      told = c.sync.ensures.told ∙ ez;
      held = stand_by c.len.result c.in-Ok-load.book.metrics c.args.place p.pair.records p.pair.epoch lives x y z c.in-Ok-load.ensures.are exact h;
    })
    (subst (λ q. TwoTold (told c.args.a) (told c.args.b) (λ x y. (epoch : ℕ) (rs : List (List ℕ)) → HoldsPair q epoch rs x y → (p.pair.epoch ≡ epoch) × (p.pair.records ≡ Some rs))) c.place_of.ensures p.ensures.exact)

pub returns-in-Ok-load-clause-durable : goal.returns-in-Ok-load-clause-durable
returns-in-Ok-load-clause-durable g c lives a b z keeps left left_too left_last =
    let p = c.in-Ok-mount in
    let new = c.load.new.pair in
    let r = c.load.ensures.reads in
    let synced = c.sync.new.self in
    let told = g.D.Disk.told in
    let metrics = c.in-Ok-load.book.metrics in
    lasting_held g.D.Disk g.met.D.Disk.whole new synced metrics (ap (λ (q : Place). q.role) (r.place ∙ p.ensures.place ∙ c.place_of.ensures))
    (records_told (told new.first) (told new.second) (told c.args.a) (told c.args.b) new.records (ap is_some r.records ∙ p.ensures.told)
    (ap is_some r.told_first ∙ g.met.D.Disk.came_tells 2 _ _ p.ensures.came.0) (ap is_some r.told_second ∙ g.met.D.Disk.came_tells 2 _ _ p.ensures.came.1) keeps.first keeps.second)
    (subst (λ n. IfSome new.records (AreRecordsOf n metrics)) c.len.ensures.value (subst (λ o. IfSome o (AreRecordsOf c.len.result metrics)) (sym r.records) c.in-Ok-load.ensures.are))
    (subst (λ o. IfSome o (λ bytes. Only bytes (g.D.Disk.may_leave synced))) (sym c.sync.ensures.told) c.in-Ok.ensures.durable)
    (lasting_read g.D.Disk p.pair new r p.ensures.durable) lives keeps.bytes a b z keeps.told keeps.held left left_too left_last

pub returns-in-Ok-load-clause-unwritten : goal.returns-in-Ok-load-clause-unwritten
returns-in-Ok-load-clause-unwritten g c =
    let p = c.in-Ok-mount in
    let new = c.load.new.pair in
    let r = c.load.ensures.reads in
    let goes_on = g.met.D.Disk.came_goes_on in
    let sync : IsUnwritten g.D.Disk (phase c.args.blocks c.sync.new.self) = sync_unwritten g.D.Disk g.met.D.Disk.only_now c.args.blocks c.sync.new.self c.sync.ensures.time c.sync.ensures.crash in
    let first : IsUnwritten g.D.Disk (phase c.args.a new.first) = unwritten_then g.D.Disk c.args.a p.pair.first new.first (goes_on 2 _ _ p.ensures.came.0).later (goes_on 0 _ _ r.came_first) p.ensures.unwritten.0 r.unwritten.0 in
    let second : IsUnwritten g.D.Disk (phase c.args.b new.second) = unwritten_then g.D.Disk c.args.b p.pair.second new.second (goes_on 2 _ _ p.ensures.came.1).later (goes_on 0 _ _ r.came_second) p.ensures.unwritten.1.0 r.unwritten.1.0 in
    (sync, (first, (second, tt)))

pub returns-in-Err-load-clause-cause : goal.returns-in-Err-load-clause-cause
returns-in-Err-load-clause-cause g c =
    let p = c.in-Ok-mount in
    let told = g.D.Disk.told in
    let same = c.into_disks-a.ensures.disks in
    let place = c.args.place in
    let later = g.met.D.Disk.came_later in
    cause_of c.in-Err-load.fault c.counted-fault-in-Err-load.result _ _ _ _ _ _ _ c.all_faults-before.ensures c.all_faults-in-Err-load.ensures
    (λ f is. record {
      rose =
          let r = is.0.rose.rose in
          omega (arith, r, later 1 _ _ c.sync.ensures.came, later 2 _ _ p.ensures.came.0, later 2 _ _ p.ensures.came.1, ap g.D.Disk.faults same.0, ap g.D.Disk.faults same.1);
    })
    (λ d odd. three_damaged (told c.args.a) (told c.args.b) (told c.args.blocks) p.pair.records (λ x y. Counts p.pair.on_second (shelf_place place) p.pair.epoch x y × AreOfPair p.pair x y) _ _ p.ensures.told
    (λ rs x y z is ez held o. damage_here p.pair rs c.len.result place x y z d (p.ensures.place ∙ c.place_of.ensures) is (long_by g.D.Disk g.met.D.Disk.whole c.sync.new.self z c.len.result (c.sync.ensures.told ∙ ez) c.len.ensures.value) held.0 held.1 o)
    (two_and (told c.args.a) (told c.args.b) _ _ (subst (λ q. TwoTold (told c.args.a) (told c.args.b) (Counts p.pair.on_second q p.pair.epoch)) c.place_of.ensures p.ensures.counts) p.ensures.held) odd)
    c.in-Err-load.ensures.cause c.counted-fault-in-Err-load.ensures

pub returns-in-Err-load-clause-never_held : goal.returns-in-Err-load-clause-never_held
returns-in-Err-load-clause-never_held g c =
    let p = c.in-Ok-mount in
    let told = g.D.Disk.told in
    let place = c.args.place in
    never_of c.in-Err-load.fault c.counted-fault-in-Err-load.result _ _ _ _
    (λ d odd. three_damaged (told c.args.a) (told c.args.b) (told c.args.blocks) p.pair.records _ _ _ p.ensures.told
    (λ rs x y z is ez exact o. odd_held_never p.pair rs c.len.result place p.pair.epoch x y z d (long_by g.D.Disk g.met.D.Disk.whole c.sync.new.self z c.len.result (c.sync.ensures.told ∙ ez) c.len.ensures.value)
    (λ e ss held. let both = exact e ss held in (both.0, sym is ∙ both.1)) o)
    (subst (λ q. TwoTold (told c.args.a) (told c.args.b) (λ x y. (epoch : ℕ) (rs : List (List ℕ)) → HoldsPair q epoch rs x y → (p.pair.epoch ≡ epoch) × (p.pair.records ≡ Some rs))) c.place_of.ensures p.ensures.exact) odd)
    c.in-Err-load.ensures.cause c.counted-fault-in-Err-load.ensures

pub returns-in-Ok-load-clause-log : goal.returns-in-Ok-load-clause-log
returns-in-Ok-load-clause-log g c =
    let p = c.in-Ok-mount in
    let r = c.load.ensures.reads in
    let told = g.D.Disk.told in
    let metrics = c.in-Ok-load.book.metrics in
    three_damaged (told c.args.a) (told c.args.b) (told c.args.blocks) p.pair.records (λ x y. AreOfPair p.pair x y) (AreRecordsOf c.len.result metrics) _ p.ensures.told
    (λ rs x y z is ez held are. subst (λ n. HasShelfLog c.args.place (length z) n metrics x y) (sym r.epoch)
    (has_log p.pair rs c.len.result metrics c.args.place x y z (p.ensures.place ∙ c.place_of.ensures) is (long_by g.D.Disk g.met.D.Disk.whole c.sync.new.self z c.len.result (c.sync.ensures.told ∙ ez) c.len.ensures.value) held are))
    p.ensures.held c.in-Ok-load.ensures.are

pub returns-in-Ok-load-clause-exact : goal.returns-in-Ok-load-clause-exact
returns-in-Ok-load-clause-exact g c =
    let p = c.in-Ok-mount in
    let r = c.load.ensures.reads in
    let told = g.D.Disk.told in
    three_of_two (told c.args.a) (told c.args.b) (told c.args.blocks) _ _
    (λ x y z ea eb ez exact epoch items log. let both = metrics_by c.len.result c.in-Ok-load.book.metrics c.args.place p.pair.records p.pair.epoch epoch (length z) items x y c.in-Ok-load.ensures.are exact log in (r.epoch ∙ both.0, both.1))
    (subst (λ q. TwoTold (told c.args.a) (told c.args.b) (λ x y. (epoch : ℕ) (rs : List (List ℕ)) → HoldsPair q epoch rs x y → (p.pair.epoch ≡ epoch) × (p.pair.records ≡ Some rs))) c.place_of.ensures p.ensures.exact)

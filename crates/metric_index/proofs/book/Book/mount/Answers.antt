use Rattle.std.proofs.Common.{◌≡◌, ◌≤◌, [], ◌∷◌, ℕ, List, Some, ap, sym, subst, ◌∙◌, arith}
use Rattle.std.specs.Bool.{⊤}
use Rattle.std.specs.Option.{is_some}
use Rattle.gno_disk.specs.Phases.{AreUnwritten, phase}
use Rattle.gate_log.specs.LogView.{MatchMountFault}
use Rattle.gate_log.specs.declared.fault.MountFault.TheVariants.{DiskFault, Damaged, Memory}
use Rattle.log_pair.specs.Choice.{TwoTold}
use Rattle.log_pair.specs.Pair.{Counts, HoldsNoPair, HoldsPair, IsDamagedPair}
use Rattle.log_pair.specs.PairView.{both_faults}
use Rattle.metric_index.specs.Catalog.{maps_in}
use Rattle.metric_index.proofs.Mounted.{damage_told, fault_to, mount_cause, mount_never, mounted_exact, mounted_lasting, mounted_unwritten, never_told, pair_damage, pair_never}
use Rattle.metric_index.proofs.book.Book.mount.Goals as goal

pub returns-in-Err-clause-cause : goal.returns-in-Err-clause-cause
returns-in-Err-clause-cause g c =
    let A = g.D.Disk.told c.args.a in
    let B = g.D.Disk.told c.args.b in
    fault_to c.in-Err.fault _ _ _ _ (λ f was. was)
    (λ d was. pair_damage c.args.sacks d A B (subst (λ q. TwoTold A B (λ x y. IsDamagedPair q x y d)) c.place_of.ensures was))
    c.in-Err.ensures.cause

pub returns-in-Err-clause-never_held : goal.returns-in-Err-clause-never_held
returns-in-Err-clause-never_held g c =
    let A = g.D.Disk.told c.args.a in
    let B = g.D.Disk.told c.args.b in
    fault_to c.in-Err.fault (λ _. ⊤) (λ _. ⊤) _ _ (λ f u. u)
    (λ d none. pair_never c.args.sacks A B (subst (λ q. TwoTold A B (HoldsNoPair q)) c.place_of.ensures none))
    c.in-Err.ensures.never_held

pub returns-in-Ok-load-clause-exact : goal.returns-in-Ok-load-clause-exact
returns-in-Ok-load-clause-exact g c =
    let p = c.in-Ok in
    let A = g.D.Disk.told c.args.a in
    let B = g.D.Disk.told c.args.b in
    mounted_exact g.D.Disk p.pair c.load.new.pair c.load.ensures.reads (maps_in c.in-Ok-load.catalog) c.args.sacks (p.ensures.place ∙ c.place_of.ensures) A B p.ensures.told c.in-Ok-load.ensures.are
    (subst (λ q. TwoTold A B (λ x y. (epoch : ℕ) (rs : List (List ℕ)) → HoldsPair q epoch rs x y → (p.pair.epoch ≡ epoch) × (p.pair.records ≡ Some rs))) c.place_of.ensures p.ensures.exact)

pub returns-in-Ok-load-clause-durable : goal.returns-in-Ok-load-clause-durable
returns-in-Ok-load-clause-durable g c =
    let p = c.in-Ok in
    mounted_lasting g.D.Disk p.pair c.load.new.pair c.load.ensures.reads (maps_in c.in-Ok-load.catalog) c.args.sacks (p.ensures.place ∙ c.place_of.ensures) c.in-Ok-load.ensures.are p.ensures.durable

pub returns-in-Ok-load-clause-unwritten : goal.returns-in-Ok-load-clause-unwritten
returns-in-Ok-load-clause-unwritten g c =
    let p = c.in-Ok in
    mounted_unwritten g.D.Disk p.pair c.load.new.pair c.load.ensures.reads g.met.D.Disk.came_goes_on c.args.a c.args.b p.ensures.came.0 p.ensures.came.1 p.ensures.unwritten

pub returns-in-Ok-load-clause-came : goal.returns-in-Ok-load-clause-came
returns-in-Ok-load-clause-came g c =
    let p = c.in-Ok in
    let r = c.load.ensures.reads in
    (g.met.D.Disk.came_then 2 0 _ _ _ p.ensures.came.0 r.came_first, g.met.D.Disk.came_then 2 0 _ _ _ p.ensures.came.1 r.came_second)

pub returns-in-Err-load-clause-unwritten_err : goal.returns-in-Err-load-clause-unwritten_err
returns-in-Err-load-clause-unwritten_err g c =
    let p = c.in-Ok in
    let same = c.into_disks-a.ensures.disks in
    let new = c.load.new.pair in
    subst (λ x. AreUnwritten g.D.Disk (phase c.args.a x ∷ phase c.args.b c.into_disks-a.result.1 ∷ [])) (sym same.0)
    (subst (λ y. AreUnwritten g.D.Disk (phase c.args.a new.first ∷ phase c.args.b y ∷ [])) (sym same.1)
    (mounted_unwritten g.D.Disk p.pair new c.load.ensures.reads g.met.D.Disk.came_goes_on c.args.a c.args.b p.ensures.came.0 p.ensures.came.1 p.ensures.unwritten))

pub returns-in-Err-load-clause-came_err : goal.returns-in-Err-load-clause-came_err
returns-in-Err-load-clause-came_err g c =
    let p = c.in-Ok in
    let r = c.load.ensures.reads in
    let same = c.into_disks-a.ensures.disks in (
      subst (g.D.Disk.came 2 c.args.a) (sym same.0) (g.met.D.Disk.came_then 2 0 _ _ _ p.ensures.came.0 r.came_first),
      subst (g.D.Disk.came 2 c.args.b) (sym same.1) (g.met.D.Disk.came_then 2 0 _ _ _ p.ensures.came.1 r.came_second),
    )

pub returns-in-Err-load-clause-told_err : goal.returns-in-Err-load-clause-told_err
returns-in-Err-load-clause-told_err g c =
    let p = c.in-Ok in
    let r = c.load.ensures.reads in
    let told = g.D.Disk.told in
    let same = c.into_disks-a.ensures.disks in (
      ap (λ d. is_some (told d)) same.0 ∙ ap is_some r.told_first ∙ g.met.D.Disk.came_tells 2 _ _ p.ensures.came.0,
      ap (λ d. is_some (told d)) same.1 ∙ ap is_some r.told_second ∙ g.met.D.Disk.came_tells 2 _ _ p.ensures.came.1,
    )

pub returns-in-Err-load-clause-cause : goal.returns-in-Err-load-clause-cause
returns-in-Err-load-clause-cause g c =
    let p = c.in-Ok in
    let pair = p.pair in
    let new = c.load.new.pair in
    let A = g.D.Disk.told c.args.a in
    let B = g.D.Disk.told c.args.b in
    let sacks = c.args.sacks in
    let same = c.into_disks-a.ensures.disks in
    let e = c.in-Err-load.fault in
    let r = c.since.result in
    let is = subst (λ n. MatchMountFault e (λ f. r ≡ DiskFault (record { before = n; after = f.after })) (λ d. r ≡ Damaged d) (r ≡ Memory)) c.both_faults-before.ensures c.since.ensures in
    let le : both_faults g.D.Disk c.args.a c.args.b ≤ both_faults g.D.Disk pair.first pair.second = omega (arith, g.met.D.Disk.came_later 2 _ _ p.ensures.came.0, g.met.D.Disk.came_later 2 _ _ p.ensures.came.1) in
    let last : both_faults g.D.Disk new.first new.second ≡ both_faults g.D.Disk c.into_disks-a.result.0 c.into_disks-a.result.1 =
    ap (λ x. both_faults g.D.Disk x new.second) (sym same.0) ∙ ap (λ y. both_faults g.D.Disk c.into_disks-a.result.0 y) (sym same.1) in
    mount_cause e r (both_faults g.D.Disk c.args.a c.args.b) (both_faults g.D.Disk pair.first pair.second) (both_faults g.D.Disk new.first new.second) (both_faults g.D.Disk c.into_disks-a.result.0 c.into_disks-a.result.1) _ _ le last
    (λ d odd. damage_told pair sacks (p.ensures.place ∙ c.place_of.ensures) d pair.records A B p.ensures.told
    (subst (λ q. TwoTold A B (Counts pair.on_second q pair.epoch)) c.place_of.ensures p.ensures.counts) p.ensures.held odd)
    c.in-Err-load.ensures.cause is

pub returns-in-Err-load-clause-never_held : goal.returns-in-Err-load-clause-never_held
returns-in-Err-load-clause-never_held g c =
    let p = c.in-Ok in
    let pair = p.pair in
    let A = g.D.Disk.told c.args.a in
    let B = g.D.Disk.told c.args.b in
    mount_never c.in-Err-load.fault c.since.result c.both_faults-before.result _ _ _
    (λ d odd. never_told pair c.args.sacks (p.ensures.place ∙ c.place_of.ensures) d pair.records A B p.ensures.told
    (subst (λ q. TwoTold A B (λ x y. (epoch : ℕ) (rs : List (List ℕ)) → HoldsPair q epoch rs x y → (pair.epoch ≡ epoch) × (pair.records ≡ Some rs))) c.place_of.ensures p.ensures.exact) odd)
    c.in-Err-load.ensures.cause c.since.ensures

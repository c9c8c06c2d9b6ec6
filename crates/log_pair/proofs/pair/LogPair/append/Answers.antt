use Rattle.std.proofs.Common.{◌≤◌, [], ◌∷◌, List, ℕ, sym, subst, arith}
use Rattle.gno_disk.specs.Phases.{EachMoment, phase}
use Rattle.gno_disk.proofs.PhaseLemmas.{EachMoment-exit}
use Rattle.std.specs.Option.{IfSome}
use Rattle.std.specs.Result.{OnOk}
use Rattle.gate_log.specs.LogView.{Adds, IsLasting, IsOldOrAdded}
use Rattle.log_pair.specs.Inside.{behind_header, pair_view}
use Rattle.log_pair.specs.Pair.{HoldsPair, one_of, other_of}
use Rattle.log_pair.specs.PairView.{PairView, AreOldOrAdded, OfTwo}
use Rattle.log_pair.proofs.Images.{OnOk-both, came_both, header_added, image_added, image_held, images_of, moments_both, older_image}
use Rattle.log_pair.proofs.pair.LogPair.append.Goals.{in-Ok, in-Err-Memory, in-Err-DiskFault}
use Rattle.log_pair.proofs.pair.LogPair.append.Goals as goal

pub returns-clause-came : goal.returns-clause-came
returns-clause-came g c =
    let p = c.self.inside in
    let le : 0 ≤ 4 = omega arith in
    subst (λ (v : PairView _). g.D.Disk.came 4 v.first (one_of p.on_second c.append.new.self.disk p.other) × g.D.Disk.came 4 v.second (other_of p.on_second c.append.new.self.disk p.other)) c.self.view_is
    (came_both g.D.Disk 4 p.on_second p.log.disk c.append.new.self.disk p.other c.append.ensures.came (g.met.D.Disk.came_more 0 4 _ _ le (g.met.D.Disk.came_none p.other)))

pub returns-clause-any_moment : goal.returns-clause-any_moment
returns-clause-any_moment g c =
    let p = c.self.inside in
    let i = c.self.invariant in
    let body = c.args.body.now in
    let told = g.D.Disk.told p.other in
    let new = c.append.new.self.disk in
    let now = g.D.Disk.moment p.log.disk in
    let le : now ≤ now = omega arith in
    subst (λ (v : PairView _). EachMoment g.D.Disk (phase v.first (one_of p.on_second new p.other) ∷ phase v.second (other_of p.on_second new p.other) ∷ []) (OfTwo (AreOldOrAdded v body))) c.self.view_is
    (moments_both g.D.Disk g.met.D.Disk.counts_now g.met.D.Disk.only_now p.on_second p.log.disk new p.other (IsOldOrAdded p.log.records body) (AreOldOrAdded (pair_view g.D.Disk p) body) c.append.ensures.any_moment
    (λ x left. c.append.ensures.any_moment.each x ((g.met.D.Disk.came_goes_on 4 _ _ c.append.ensures.came).keeps now x le (g.met.D.Disk.counts_now p.log.disk now x le left)))
    (λ x y held left. image_added p.place p.epoch p.on_second i.fits i.in_range told p.log.records body x y i.header held (older_image told (g.D.Disk.may_leave p.other) p.on_second p.epoch y i.older left)))

pub returns-clause-left : goal.returns-clause-left
returns-clause-left g c =
    let p = c.self.inside in
    let new = c.append.new.self.disk in
    EachMoment-exit g.D.Disk g.met.D.Disk.counts_now g.met.D.Disk.only_now (phase c.args.self.now.first (one_of p.on_second new p.other)) (phase c.args.self.now.second (other_of p.on_second new p.other) ∷ []) (OfTwo (AreOldOrAdded c.args.self.now c.args.body.now)) (returns-clause-any_moment g c)

pub returns-clause-durable : goal.returns-clause-durable
returns-clause-durable g c =
    let p = c.self.inside in
    let i = c.self.invariant in
    let told = g.D.Disk.told p.other in
    let log = c.append.new.self in
    let P : List ℕ → List ℕ → Type 0 = λ a b. IfSome (behind_header told log.records) (λ rs. HoldsPair p.place p.epoch rs a b) in
    let has : OnOk c.append.result ((a b : List ℕ) → g.D.Disk.may_leave (one_of p.on_second log.disk p.other) a → g.D.Disk.may_leave (other_of p.on_second log.disk p.other) b → P a b) =
    OnOk-both c.append.result (IsLasting g.D.Disk log) (Adds p.log.records log.records c.args.body.now) _
    (λ lasting adds. images_of g.D.Disk p.on_second log.disk p.other P (λ x y left left_too. image_held p.place p.epoch p.on_second i.fits i.in_range told log.records x y (header_added p.place p.epoch p.log.records log.records c.args.body.now adds i.header) (lasting x left) (older_image told (g.D.Disk.may_leave p.other) p.on_second p.epoch y i.older left_too)))
    c.append.ensures.durable c.append.ensures.added in
    let Q : Type 0 = (a b : List ℕ) → g.D.Disk.may_leave (one_of p.on_second log.disk p.other) a → g.D.Disk.may_leave (other_of p.on_second log.disk p.other) b → P a b in
    elim c.match-append.branch [
      | in-Ok w ↦ subst (λ r. OnOk r Q) (sym w.result-is) (subst (λ r. OnOk r Q) w.in-Ok.is has)
      | in-Err-Memory w ↦ subst (λ r. OnOk r Q) (sym w.result-is) tt
      | in-Err-DiskFault w ↦ subst (λ r. OnOk r Q) (sym w.result-is) tt
    ]

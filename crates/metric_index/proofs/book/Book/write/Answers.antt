use Rattle.std.proofs.Common.{◌≤◌, [], ◌∷◌, ap, sym, subst, ◌∙◌, arith}
use Rattle.std.specs.Option.{IfSome}
use Rattle.gno_disk.specs.Phases.{EachMoment, phase}
use Rattle.gno_disk.proofs.PhaseLemmas.{EachMoment-exit}
use Rattle.gate_log.specs.LogView.{Adds}
use Rattle.log_pair.specs.declared.place.Place.{Place}
use Rattle.log_pair.specs.PairView.{AreOldOrAdded, OfTwo, PairView}
use Rattle.front_api.specs.Maps.{Maps}
use Rattle.metric_index.specs.BookView.{AreOldOrNext, BookView}
use Rattle.metric_index.specs.Catalog.{maps_in}
use Rattle.metric_index.specs.IndexLog.{IsIndexLog, index_place}
use Rattle.metric_index.specs.Items.{May, after_one, counted_of}
use Rattle.metric_index.proofs.Mounted.{held_told}
use Rattle.metric_index.proofs.WriteMoments.{are_added, next_moments, still_next}
use Rattle.metric_index.proofs.book.Book.write.Goals as goal

pub returns-in_default-clause-came : goal.returns-in_default-clause-came
returns-in_default-clause-came g c =
    let le : 0 ≤ 4 = omega arith in
    let i = c.self.inside in
    let same = c.prepare.ensures.pair in (
      subst (λ (q : PairView _). g.D.Disk.came 4 c.args.self.now.first q.first) (sym same)
          (subst (λ (v : BookView _). g.D.Disk.came 4 v.first i.pair.first) c.self.view_is (g.met.D.Disk.came_more 0 4 _ _ le (g.met.D.Disk.came_none i.pair.first))),
      subst (λ (q : PairView _). g.D.Disk.came 4 c.args.self.now.second q.second) (sym same)
          (subst (λ (v : BookView _). g.D.Disk.came 4 v.second i.pair.second) c.self.view_is (g.met.D.Disk.came_more 0 4 _ _ le (g.met.D.Disk.came_none i.pair.second))),
    )

pub returns-in_default-clause-any_moment : goal.returns-in_default-clause-any_moment
returns-in_default-clause-any_moment g c =
    let i = c.self.inside in
    let whole = ap (λ (v : BookView _). v.broken) c.self.view_is ∙ c.requires.whole in
    subst (λ (q : PairView _). EachMoment g.D.Disk (phase c.args.self.now.first q.first ∷ phase c.args.self.now.second q.second ∷ []) (OfTwo (AreOldOrNext c.args.self.now c.args.item))) (sym c.prepare.ensures.pair)
    (subst (λ (v : BookView _). EachMoment g.D.Disk (phase v.first i.pair.first ∷ phase v.second i.pair.second ∷ []) (OfTwo (AreOldOrNext v c.args.item))) c.self.view_is
    (still_next g.D.Disk i.pair (maps_in i.catalog) c.args.item c.self.invariant.place c.self.invariant.are g.met.D.Disk.only_now (c.is_broken-broken.ensures.durable whole)))

pub returns-in_default-clause-left : goal.returns-in_default-clause-left
returns-in_default-clause-left g c =
    let v = c.args.self.now in
    let q = c.prepare.new.pair in
    EachMoment-exit g.D.Disk g.met.D.Disk.counts_now g.met.D.Disk.only_now (phase v.first q.first) (phase v.second q.second ∷ []) (OfTwo (AreOldOrNext v c.args.item))
    (returns-in_default-clause-any_moment g c)

pub returns-in-Err-clause-any_moment : goal.returns-in-Err-clause-any_moment
returns-in-Err-clause-any_moment g c =
    let i = c.self.inside in
    let new = c.append.new.self in
    let body = c.as_slice.result.now in
    let may = subst (λ (v : BookView _). May v.maps (counted_of c.args.item)) (sym c.self.view_is) c.requires.may in
    let moments = subst (λ (q : PairView _). EachMoment g.D.Disk (phase q.first new.first ∷ phase q.second new.second ∷ []) (OfTwo (AreOldOrAdded q body))) c.prepare.ensures.pair c.append.ensures.any_moment in
    subst (λ (v : BookView _). EachMoment g.D.Disk (phase v.first new.first ∷ phase v.second new.second ∷ []) (OfTwo (AreOldOrNext v c.args.item))) c.self.view_is
    (next_moments g.D.Disk i.pair (maps_in i.catalog) c.args.item c.self.invariant.place c.self.invariant.are new.first new.second body (c.as_slice.ensures.value ∙ c.in-Ok.ensures.bytes) (c.in-Ok.ensures.fits c.requires.usable) may moments)

pub returns-in-Err-clause-left : goal.returns-in-Err-clause-left
returns-in-Err-clause-left g c =
    let v = c.args.self.now in
    let q = c.append.new.self in
    EachMoment-exit g.D.Disk g.met.D.Disk.counts_now g.met.D.Disk.only_now (phase v.first q.first) (phase v.second q.second ∷ []) (OfTwo (AreOldOrNext v c.args.item))
    (returns-in-Err-clause-any_moment g c)

pub returns-clause-any_moment : goal.returns-clause-any_moment
returns-clause-any_moment g c =
    let i = c.self.inside in
    let new = c.append.new.self in
    let body = c.as_slice.result.now in
    let may = subst (λ (v : BookView _). May v.maps (counted_of c.args.item)) (sym c.self.view_is) c.requires.may in
    let moments = subst (λ (q : PairView _). EachMoment g.D.Disk (phase q.first new.first ∷ phase q.second new.second ∷ []) (OfTwo (AreOldOrAdded q body))) c.prepare.ensures.pair c.append.ensures.any_moment in
    subst (λ (v : BookView _). EachMoment g.D.Disk (phase v.first new.first ∷ phase v.second new.second ∷ []) (OfTwo (AreOldOrNext v c.args.item))) c.self.view_is
    (next_moments g.D.Disk i.pair (maps_in i.catalog) c.args.item c.self.invariant.place c.self.invariant.are new.first new.second body (c.as_slice.ensures.value ∙ c.in-Ok.ensures.bytes) (c.in-Ok.ensures.fits c.requires.usable) may moments)

pub returns-clause-left : goal.returns-clause-left
returns-clause-left g c =
    let v = c.args.self.now in
    let q = c.append.new.self in
    EachMoment-exit g.D.Disk g.met.D.Disk.counts_now g.met.D.Disk.only_now (phase v.first q.first) (phase v.second q.second ∷ []) (OfTwo (AreOldOrNext v c.args.item))
    (returns-clause-any_moment g c)

pub invariant_of-self-2 : goal.invariant_of-self-2
invariant_of-self-2 g c =
    let i = c.self.inside in
    let inv = c.self.invariant in
    let new = c.append.new.self in
    let body = c.as_slice.result.now in
    let m = maps_in i.catalog in
    let may = subst (λ (v : BookView _). May v.maps (counted_of c.args.item)) (sym c.self.view_is) c.requires.may in
    let added = subst (λ (q : PairView _). Adds q.records new.records body) c.prepare.ensures.pair c.in-Ok-append.ensures.added in
    let place = c.append.ensures.same.0 ∙ ap (λ (q : PairView _). q.place) c.prepare.ensures.pair in
    let after = c.take.ensures.maps ∙ ap (λ (n : Maps). after_one n (counted_of c.args.item)) c.prepare.ensures.maps in
    record {
      kept = c.take.ensures.kept;
      are = subst (λ (n : Maps). IfSome new.records (λ rs. IsIndexLog rs n)) (sym after)
          (are_added i.pair.records new.records m c.args.item body (c.as_slice.ensures.value ∙ c.in-Ok.ensures.bytes) (c.in-Ok.ensures.fits c.requires.usable) may added inv.are);
      place = place ∙ inv.place ∙ ap index_place (ap (λ (p : Place). p.sacks) (sym place));
    }

pub returns-clause-durable : goal.returns-clause-durable
returns-clause-durable g c a b left left_too told =
    let inv = invariant_of-self-2 g c in
    let new = c.append.new.self in
    held_told new.records new.place new.place.sacks new.epoch (maps_in c.take.new.self) a b inv.place inv.are (c.in-Ok-append.ensures.durable a b left left_too) told

use Rattle.std.proofs.Common.{◌≡◌, ◌+◌, ◌<◌, ◌≤◌, max, false, [], ◌∷◌, ◌++◌, ℕ, List, length, refl, ap, sym, subst, ◌∙◌, arith, length-append}
use Rattle.std.specs.Option.{IfSome, option_map}
use Rattle.gno_disk.specs.Phases.{EachMoment, phase}
use Rattle.gno_disk.proofs.PhaseLemmas.{EachMoment-exit}
use Rattle.gate_log.specs.LogView.{Adds}
use Rattle.gno_codec.specs.Incoming.{post_bytes}
use Rattle.log_pair.specs.declared.place.Place.{Place}
use Rattle.log_pair.specs.PairView.{AreOldOrAdded, OfTwo, PairView}
use Rattle.incoming.specs.declared.mark.Mark.{Mark}
use Rattle.incoming.specs.IncomingView.{AddsPost, AreOldOrPosted, IncomingView}
use Rattle.incoming.specs.Inside.{posts_in}
use Rattle.incoming.specs.Posts.{Post, last_number}
use Rattle.incoming.proofs.Held.{adds_post}
use Rattle.incoming.proofs.Kept.{AreOf-added}
use Rattle.incoming.proofs.PostMoments.{or_false, post_moments, still_posted}
use Rattle.incoming.proofs.Views.{lasting_held}
use Rattle.incoming.proofs.incoming.Incoming.post.Goals as goal

pub returns-then-number-ge-SPENT-clause-came : goal.returns-then-number-ge-SPENT-clause-came
returns-then-number-ge-SPENT-clause-came g c =
    let le : 0 ≤ 4 = omega arith in
    (g.met.D.Disk.came_more 0 4 _ _ le (g.met.D.Disk.came_none _), g.met.D.Disk.came_more 0 4 _ _ le (g.met.D.Disk.came_none _))

pub returns-then-number-ge-SPENT-clause-any_moment : goal.returns-then-number-ge-SPENT-clause-any_moment
returns-then-number-ge-SPENT-clause-any_moment g c =
    let i = c.self.inside in
    let whole = (or_false i.pair.broken i.damaged (ap (λ (v : IncomingView _). v.broken) c.self.view_is ∙ c.requires)).0 in
    let post : Post = record { number = i.contents.next; metric = c.args.metric; measures = c.args.batch.now } in
    subst (λ (v : IncomingView _). EachMoment g.D.Disk (phase v.first v.first ∷ phase v.second v.second ∷ []) (OfTwo (AreOldOrPosted v (record { number = v.next; metric = c.args.metric; measures = c.args.batch.now })))) c.self.view_is
    (still_posted g.D.Disk i.pair i.contents post c.self.invariant.role c.self.invariant.are g.met.D.Disk.only_now (c.is_broken-broken.ensures.durable whole))

pub returns-then-number-ge-SPENT-clause-left : goal.returns-then-number-ge-SPENT-clause-left
returns-then-number-ge-SPENT-clause-left g c =
    let v = c.args.self.now in
    EachMoment-exit g.D.Disk g.met.D.Disk.counts_now g.met.D.Disk.only_now (phase v.first v.first) (phase v.second v.second ∷ []) (OfTwo (AreOldOrPosted v (record { number = v.next; metric = c.args.metric; measures = c.args.batch.now })))
    (returns-then-number-ge-SPENT-clause-any_moment g c)

pub returns-in_default-clause-came : goal.returns-in_default-clause-came
returns-in_default-clause-came g c =
    let le : 0 ≤ 4 = omega arith in
    let i = c.self.inside in
    let same = c.prepare.ensures.pair in (
      subst (λ (q : PairView _). g.D.Disk.came 4 c.args.self.now.first q.first) (sym same)
          (subst (λ (v : IncomingView _). g.D.Disk.came 4 v.first i.pair.first) c.self.view_is (g.met.D.Disk.came_more 0 4 _ _ le (g.met.D.Disk.came_none i.pair.first))),
      subst (λ (q : PairView _). g.D.Disk.came 4 c.args.self.now.second q.second) (sym same)
          (subst (λ (v : IncomingView _). g.D.Disk.came 4 v.second i.pair.second) c.self.view_is (g.met.D.Disk.came_more 0 4 _ _ le (g.met.D.Disk.came_none i.pair.second))),
    )

pub returns-in_default-clause-any_moment : goal.returns-in_default-clause-any_moment
returns-in_default-clause-any_moment g c =
    let i = c.self.inside in
    let whole = (or_false i.pair.broken i.damaged (ap (λ (v : IncomingView _). v.broken) c.self.view_is ∙ c.requires)).0 in
    let post : Post = record { number = i.contents.next; metric = c.args.metric; measures = c.args.batch.now } in
    subst (λ (q : PairView _). EachMoment g.D.Disk (phase c.args.self.now.first q.first ∷ phase c.args.self.now.second q.second ∷ []) (OfTwo (AreOldOrPosted c.args.self.now (record { number = c.args.self.now.next; metric = c.args.metric; measures = c.args.batch.now })))) (sym c.prepare.ensures.pair)
    (subst (λ (v : IncomingView _). EachMoment g.D.Disk (phase v.first i.pair.first ∷ phase v.second i.pair.second ∷ []) (OfTwo (AreOldOrPosted v (record { number = v.next; metric = c.args.metric; measures = c.args.batch.now })))) c.self.view_is
    (still_posted g.D.Disk i.pair i.contents post c.self.invariant.role c.self.invariant.are g.met.D.Disk.only_now (c.is_broken-broken.ensures.durable whole)))

pub returns-in_default-clause-left : goal.returns-in_default-clause-left
returns-in_default-clause-left g c =
    let v = c.args.self.now in
    let q = c.prepare.new.pair in
    EachMoment-exit g.D.Disk g.met.D.Disk.counts_now g.met.D.Disk.only_now (phase v.first q.first) (phase v.second q.second ∷ []) (OfTwo (AreOldOrPosted v (record { number = v.next; metric = c.args.metric; measures = c.args.batch.now })))
    (returns-in_default-clause-any_moment g c)

pub returns-in-Err-clause-any_moment : goal.returns-in-Err-clause-any_moment
returns-in-Err-clause-any_moment g c =
    let i = c.self.inside in
    let new = c.append.new.self in
    let body = c.as_slice.result.now in
    let post : Post = record { number = i.contents.next; metric = c.args.metric; measures = c.args.batch.now } in
    let moments = subst (λ (q : PairView _). EachMoment g.D.Disk (phase q.first new.first ∷ phase q.second new.second ∷ []) (OfTwo (AreOldOrAdded q body))) c.prepare.ensures.pair c.append.ensures.any_moment in
    subst (λ (v : IncomingView _). EachMoment g.D.Disk (phase v.first new.first ∷ phase v.second new.second ∷ []) (OfTwo (AreOldOrPosted v (record { number = v.next; metric = c.args.metric; measures = c.args.batch.now })))) c.self.view_is
    (post_moments g.D.Disk i.pair i.contents post c.self.invariant.role c.self.invariant.are new.first new.second body (c.as_slice.ensures.value ∙ c.in-Ok.ensures.bytes) c.in-Ok.ensures.fits refl moments)

pub returns-in-Err-clause-left : goal.returns-in-Err-clause-left
returns-in-Err-clause-left g c =
    let v = c.args.self.now in
    let q = c.append.new.self in
    EachMoment-exit g.D.Disk g.met.D.Disk.counts_now g.met.D.Disk.only_now (phase v.first q.first) (phase v.second q.second ∷ []) (OfTwo (AreOldOrPosted v (record { number = v.next; metric = c.args.metric; measures = c.args.batch.now })))
    (returns-in-Err-clause-any_moment g c)

pub returns-clause-any_moment : goal.returns-clause-any_moment
returns-clause-any_moment g c =
    let i = c.self.inside in
    let new = c.append.new.self in
    let body = c.as_slice.result.now in
    let post : Post = record { number = i.contents.next; metric = c.args.metric; measures = c.args.batch.now } in
    let moments = subst (λ (q : PairView _). EachMoment g.D.Disk (phase q.first new.first ∷ phase q.second new.second ∷ []) (OfTwo (AreOldOrAdded q body))) c.prepare.ensures.pair c.append.ensures.any_moment in
    subst (λ (v : IncomingView _). EachMoment g.D.Disk (phase v.first new.first ∷ phase v.second new.second ∷ []) (OfTwo (AreOldOrPosted v (record { number = v.next; metric = c.args.metric; measures = c.args.batch.now })))) c.self.view_is
    (post_moments g.D.Disk i.pair i.contents post c.self.invariant.role c.self.invariant.are new.first new.second body (c.as_slice.ensures.value ∙ c.in-Ok.ensures.bytes) c.in-Ok.ensures.fits refl moments)

pub returns-clause-left : goal.returns-clause-left
returns-clause-left g c =
    let v = c.args.self.now in
    let q = c.append.new.self in
    EachMoment-exit g.D.Disk g.met.D.Disk.counts_now g.met.D.Disk.only_now (phase v.first q.first) (phase v.second q.second ∷ []) (OfTwo (AreOldOrPosted v (record { number = v.next; metric = c.args.metric; measures = c.args.batch.now })))
    (returns-clause-any_moment g c)

pub returns-clause-posted : goal.returns-clause-posted
returns-clause-posted g c =
    let i = c.self.inside in
    let new = c.append.new.self in
    let body = c.as_slice.result.now in
    let post : Post = record { number = i.contents.next; metric = c.args.metric; measures = c.args.batch.now } in
    let added = subst (λ (q : PairView _). Adds q.records new.records body) c.prepare.ensures.pair c.in-Ok-append.ensures.added in
    subst (λ (v : IncomingView _). AddsPost v.posts (option_map posts_in new.records) (record { number = v.next; metric = c.args.metric; measures = c.args.batch.now })) c.self.view_is
    (adds_post i.contents i.pair.records new.records post body c.self.invariant.are (c.as_slice.ensures.value ∙ c.in-Ok.ensures.bytes) c.in-Ok.ensures.fits c.self.invariant.kept.below added)

pub invariant_of-self-2 : goal.invariant_of-self-2
invariant_of-self-2 g c =
    let i = c.self.inside in
    let inv = c.self.invariant in
    let new = c.append.new.self in
    let body = c.as_slice.result.now in
    let mark : Mark = record { number = i.contents.next; metric = c.args.metric } in
    let added = subst (λ (q : PairView _). Adds q.records new.records body) c.prepare.ensures.pair c.in-Ok-append.ensures.added in
    let marks = c.push.ensures.marks ∙ ap (λ (ms : List Mark). ms ++ mark ∷ []) c.prepare.ensures.marks in
    let first = c.push.ensures.numbers.0 ∙ c.prepare.ensures.numbers.0 in
    let next = c.push.ensures.numbers.1 ∙ ap (λ (n : ℕ). max n (i.contents.next + 1)) c.prepare.ensures.numbers.1 in
    record {
      kept = c.push.ensures.kept;
      counted = omega (arith, c.in-Ok-append.ensures.counted.0, ap (λ (q : PairView _). q.count) c.prepare.ensures.pair, inv.counted, first, ap length marks, length-append i.contents.marks.items (mark ∷ []));
      are = AreOf-added i.contents c.push.new.self i.pair.records new.records mark c.args.batch.now body c.in-Ok.ensures.fits (c.as_slice.ensures.value ∙ c.in-Ok.ensures.bytes) inv.kept.below marks first next added inv.are;
      role = ap (λ (p : Place). p.role) (c.append.ensures.same.0 ∙ ap (λ (q : PairView _). q.place) c.prepare.ensures.pair) ∙ inv.role;
    }

pub returns-clause-durable : goal.returns-clause-durable
returns-clause-durable g c =
    let i = c.self.inside in
    let inv = c.self.invariant in
    let new = c.append.new.self in
    let body = c.as_slice.result.now in
    let mark : Mark = record { number = i.contents.next; metric = c.args.metric } in
    let added = subst (λ (q : PairView _). Adds q.records new.records body) c.prepare.ensures.pair c.in-Ok-append.ensures.added in
    let marks = c.push.ensures.marks ∙ ap (λ (ms : List Mark). ms ++ mark ∷ []) c.prepare.ensures.marks in
    let first = c.push.ensures.numbers.0 ∙ c.prepare.ensures.numbers.0 in
    let next = c.push.ensures.numbers.1 ∙ ap (λ (n : ℕ). max n (i.contents.next + 1)) c.prepare.ensures.numbers.1 in
    lasting_held new c.push.new.self (ap (λ (p : Place). p.role) (c.append.ensures.same.0 ∙ ap (λ (q : PairView _). q.place) c.prepare.ensures.pair) ∙ inv.role)
    (AreOf-added i.contents c.push.new.self i.pair.records new.records mark c.args.batch.now body c.in-Ok.ensures.fits (c.as_slice.ensures.value ∙ c.in-Ok.ensures.bytes) inv.kept.below marks first next added inv.are)
    g.D.Disk c.in-Ok-append.ensures.durable

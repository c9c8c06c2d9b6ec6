use Rattle.std.proofs.Common.{◌≡◌, false, map, take, ap, sym, subst, ◌∙◌}
use Rattle.std.specs.Option.{IfSome}
use Rattle.std.specs.Result.{IfOk}
use Rattle.log_pair.specs.declared.place.Place.{Place}
use Rattle.incoming.specs.Contents.{AreOf}
use Rattle.incoming.specs.IncomingView.{IncomingView}
use Rattle.incoming.specs.Posts.{posts_above}
use Rattle.incoming.specs.Reading.{answer_of}
use Rattle.incoming.proofs.PostMoments.{or_false}
use Rattle.incoming.proofs.ReadLemmas.{lasting_read}
use Rattle.incoming.proofs.Results.{ok_then}
use Rattle.incoming.proofs.Views.{batches_told, lasting_held}
use Rattle.incoming.proofs.incoming.Incoming.batches.Goals as goal

pub returns-clause-batches : goal.returns-clause-batches
returns-clause-batches g c =
    let i = c.self.inside in
    subst (λ (v : IncomingView _). IfOk c.read_above-found.result (λ found. IfSome v.posts (λ posts. found.items ≡ map answer_of (take c.args.most (posts_above c.args.metric c.args.above posts))))) c.self.view_is
    (ok_then c.read_above-found.result _ _
    (λ found told. batches_told i.contents i.pair.records c.args.metric c.args.above c.args.most found.items c.self.invariant.are told) c.read_above-found.ensures.found)

pub returns-clause-left : goal.returns-clause-left
returns-clause-left g c =
    let i = c.self.inside in
    let new = c.read_above-found.new.pair in
    let read = c.read_above-found.ensures.reads in
    let whole = (or_false i.pair.broken i.damaged (ap (λ (v : IncomingView _). v.broken) c.self.view_is ∙ c.requires)).0 in
    lasting_held new i.contents (ap (λ (p : Place). p.role) read.place ∙ c.self.invariant.role) (subst (λ o. IfSome o (AreOf i.contents)) (sym read.records) c.self.invariant.are) g.D.Disk
    (lasting_read g.D.Disk i.pair new read (c.is_broken-broken.ensures.durable whole))

use Rattle.std.proofs.Common.{[], ◌∷◌, ◌++◌, sym, ap, subst, refl, ◌∙◌}
use Rattle.gno_codec.specs.Index.{index_bytes}
use Rattle.front_api.specs.Maps.{Maps}
use Rattle.metric_index.specs.Catalog.{maps_in}
use Rattle.metric_index.specs.IndexDamage.{refused}
use Rattle.metric_index.specs.IndexLog.{IsIndexLog}
use Rattle.metric_index.specs.Items.{after_one, counted_of}
use Rattle.metric_index.proofs.Logs.{log_item}
use Rattle.metric_index.proofs.catalog.Catalog.take_item.Goals as goal

pub returns-then-not-may-clause-odd : goal.returns-then-not-may-clause-odd
returns-then-not-may-clause-odd c e records log =
    refused (maps_in c.args.self.now) c.args.item log c.requires.fits refl (λ may. let t = c.may.ensures.1 may in let f = c.if-not-may.true in cc)

pub returns-clause-taken : goal.returns-clause-taken
returns-clause-taken c e records log =
    let m = maps_in c.args.self.now in
    let item = c.args.item in
    let then = c.take.ensures.maps ∙ ap (λ (n : Maps). after_one n (counted_of item)) c.in_ok-reserve.ensures.same in
    subst (IsIndexLog (records ++ index_bytes item ∷ [])) (sym then) (log_item records m item log c.requires.fits (c.may.ensures.0 c.if-not-may.false))

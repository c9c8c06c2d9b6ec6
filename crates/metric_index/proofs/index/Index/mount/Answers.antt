use Rattle.std.proofs.Common.{◌≡◌, cond, Some, None, ap, ◌∙◌}
use Rattle.front_api.specs.Maps.{Maps}
use Rattle.metric_index.specs.IndexLog.{HoldsIndex}
use Rattle.metric_index.proofs.Mounted.{two_told}
use Rattle.metric_index.proofs.index.Index.mount.Goals as goal

pub returns-in-Ok-clause-exact : goal.returns-in-Ok-clause-exact
returns-in-Ok-clause-exact g c =
    let book = c.in-Ok.book in
    let e = c.in-Ok.ensures in
    two_told (g.D.Disk.told c.args.a) (g.D.Disk.told c.args.b) (λ x y. (m : Maps) → HoldsIndex c.args.sacks m x y → book.maps ≡ m) _ _
    (λ x y first second p q m holds. ap (λ b. cond b None (Some book.maps)) e.place.1 ∙ ap (λ (n : Maps). Some n) (p m holds)) e.exact e.exact

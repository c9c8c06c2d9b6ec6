use Rattle.std.proofs.Common.{List, ℕ, Option, sym, subst}
use Rattle.std.specs.Option.{IfSome}
use Rattle.log_pair.specs.Inside.{behind_header}
use Rattle.log_pair.specs.Pair.{HoldsPair, one_of, other_of}
use Rattle.log_pair.proofs.Images.{image_held, images_of, older_image}
use Rattle.log_pair.proofs.pair.LogPair.read.Goals as goal

pub returns-clause-left : goal.returns-clause-left
returns-clause-left g c =
    let p = c.self.inside in
    let i = c.self.invariant in
    let told = g.D.Disk.told p.other in
    let disk = c.read.new.self.disk in
    subst (λ (records : Option (List (List ℕ))). (a b : List ℕ) → g.D.Disk.may_leave (one_of p.on_second disk p.other) a → g.D.Disk.may_leave (other_of p.on_second disk p.other) b → IfSome (behind_header told records) (λ rs. HoldsPair p.place p.epoch rs a b)) (sym c.read.ensures.records)
    (images_of g.D.Disk p.on_second disk p.other (λ a b. IfSome (behind_header told p.log.records) (λ rs. HoldsPair p.place p.epoch rs a b))
    (λ x y left left_too. image_held p.place p.epoch p.on_second i.fits i.in_range told p.log.records x y i.header (c.read.ensures.left x left) (older_image told (g.D.Disk.may_leave p.other) p.on_second p.epoch y i.older left_too)))

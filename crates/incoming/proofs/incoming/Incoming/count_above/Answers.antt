use Rattle.std.proofs.Common.{◌≡◌, length, ap, ◌∙◌, arith}
use Rattle.incoming.specs.Posts.{numbers_above}
use Rattle.incoming.proofs.Places.{count_is}
use Rattle.incoming.proofs.incoming.Incoming.count_above.Goals as goal

pub returns : goal.returns
returns g c =
    omega (
      arith,
      ap length c.places_above.ensures,
      count_is c.args.metric c.args.above c.self.inside.contents.marks.items,
      ap (λ v. length (numbers_above c.args.metric c.args.above v.marks)) c.self.view_is,
    )

use Rattle.std.proofs.Common.{◌≡◌, ap, ◌∙◌}
use Rattle.log_pair.specs.declared.place.Place.{Place}
use Rattle.incoming.proofs.Held.{no_posts}
use Rattle.incoming.proofs.Views.{lasting_held, none_are}
use Rattle.incoming.proofs.incoming.Incoming.create.Goals as goal

pub returns-clause-posts : goal.returns-clause-posts
returns-clause-posts g c = no_posts c.in_ok-pair.pair.records c.in_ok-pair.ensures.records

pub returns-clause-durable : goal.returns-clause-durable
returns-clause-durable g c =
    let pair = c.in_ok-pair.pair in
    lasting_held pair c.empty.result (ap (λ (p : Place). p.role) (c.in_ok-pair.ensures.made.0 ∙ c.place_of.ensures))
    (none_are c.empty.result pair.records c.empty.ensures.are c.in_ok-pair.ensures.records) g.D.Disk c.in_ok-pair.ensures.durable

use Rattle.std.proofs.Common.{◌<◌, sym, subst}
use Rattle.incoming.proofs.Taken.{found_post, other_post, small_disk}
use Rattle.incoming.proofs.reading.read_batch.Goals as goal

pub returns-in-Some-clause-found : goal.returns-in-Some-clause-found
returns-in-Some-clause-found g c =
    found_post c.args.pair.now.records c.args.index c.in_ok-item.item c.args.mark c.in-Some.batch c.in-Some.ensures.found c.in_ok-item.ensures.stands

pub returns-in-None-clause-cause : goal.returns-in-None-clause-cause
returns-in-None-clause-cause g c = (
  c.in_ok-item.ensures.whole,
  subst (λ n. n < 2) (sym c.place_of.ensures.disk) (small_disk c.read_item.new.pair.on_second),
  other_post c.args.pair.now.records c.args.index c.in_ok-item.item c.args.mark c.in-None.ensures.none c.in_ok-item.ensures.stands,
)

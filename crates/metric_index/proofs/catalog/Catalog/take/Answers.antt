use Rattle.std.proofs.Common.{sym, subst}
use Rattle.metric_index.specs.Catalog.{AreKept, maps_in}
use Rattle.metric_index.proofs.KeptLemmas.{kept_item}
use Rattle.metric_index.proofs.catalog.Catalog.take.Goals as goal

pub returns-clause-kept : goal.returns-clause-kept
returns-clause-kept c =
    subst AreKept (sym c.change.ensures) (kept_item (maps_in c.args.self.now) c.args.item c.requires.kept c.requires.may c.requires.fits)

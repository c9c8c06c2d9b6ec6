use Rattle.std.proofs.Common.{take}
use Rattle.std.proofs.lemmas.Option.{IfSome_then}
use Rattle.metric_index.specs.Catalog.{maps_in}
use Rattle.metric_index.proofs.LoadLemmas.{load_odd, load_taken}
use Rattle.metric_index.proofs.load.load_one.Goals as goal

pub returns-in-Ok-true-clause-are : goal.returns-in-Ok-true-clause-are
returns-in-Ok-true-clause-are g c =
    load_taken c.args.pair.now.records c.args.index c.in_ok-item.item (maps_in c.args.catalog.now) (maps_in c.take_in.new.self) c.in_ok-item.ensures.stands c.requires.are
    (c.in-Ok-true.ensures.taken c.in-Ok-true.field-0-test)

pub returns-in-Ok-false-clause-cause : goal.returns-in-Ok-false-clause-cause
returns-in-Ok-false-clause-cause g c =
    let read = c.read_item.ensures.reads in
    load_odd c.args.pair.now c.read_item.new.pair c.args.index c.in_ok-item.item c.place_of.result read.records read.place read.epoch read.on_second c.in_ok-item.ensures.stands
    (IfSome_then c.args.pair.now.records c.requires.are (λ rs are body read_as. c.in-Ok-false.ensures.odd c.in-Ok-false.field-0-test (take c.args.index rs) body read_as are))
    c.place_of.ensures.disk c.place_of.ensures.at

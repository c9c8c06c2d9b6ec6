use Rattle.std.proofs.Common.{List, sym, subst}
use Rattle.shelf_records.specs.Shelved.{metric_of}
use Rattle.shelf_blocks.specs.declared.turn.Made.{Made}
use Rattle.split_store.specs.Loading.{IsSound}
use Rattle.split_store.specs.Turn.{AreTaken, FitsTurn, IsTurnOf}
use Rattle.split_store.proofs.Cuts.{all_fit}
use Rattle.split_store.proofs.Readied.{the_one}
use Rattle.split_store.proofs.Sound.{found_has}
use Rattle.split_store.proofs.turn.turn_in.Goals as goal

pub prepare_turn-requires-clause-fit : goal.prepare_turn-requires-clause-fit
prepare_turn-requires-clause-fit g c =
    let metrics = c.args.book.now.metrics in
    let p = c.args.prepared.now in
    let one = the_one (metric_of p.job.metric metrics) c.requires.live in
    let made = c.in-Ok.ensures.made one.0 one.1 in
    subst (FitsTurn metrics p) (sym c.deref.ensures.value) (record {
      metric = one.0;
      live = one.1;
      policy = c.requires.policy one.0 one.1;
      sound = found_has IsSound metrics p.job.metric one.0 c.requires.sound one.1;
      count = made.count;
      fit = all_fit (g.D.Disk.told c.args.blocks.now) one.0 p c.in-Ok.made.items made.are;
    })

pub returns-in-Ok-prepare_turn-clause-ready : goal.returns-in-Ok-prepare_turn-clause-ready
returns-in-Ok-prepare_turn-clause-ready g c =
    let metrics = c.args.book.now.metrics in
    let p = c.args.prepared.now in
    let one = the_one (metric_of p.job.metric metrics) c.requires.live in
    let made = c.in-Ok.ensures.made one.0 one.1 in
    record {
      metric = one.0;
      live = one.1;
      policy = c.requires.policy one.0 one.1;
      made = c.in-Ok.made.items;
      are = made.are;
      slots = subst (λ (ms : List Made). AreTaken p ms c.prepare_turn.new.book.taken) c.deref.ensures.value c.in-Ok-prepare_turn.ensures.slots;
      turn_is = subst (λ (ms : List Made). IsTurnOf one.0 p ms c.prepare_turn.new.book.taken c.in-Ok-prepare_turn.turn) c.deref.ensures.value (c.in-Ok-prepare_turn.ensures.turn one.0 one.1);
    }

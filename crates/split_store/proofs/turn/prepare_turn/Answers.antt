use Rattle.std.proofs.Common.{List, ℕ, sym, ap, subst, ◌∙◌}
use Rattle.shelf_records.specs.Shelved.{metric_of}
use Rattle.split_store.specs.Turn.{IsTurnOf}
use Rattle.split_store.proofs.turn.prepare_turn.Goals as goal

pub returns-in-Ok-clause-turn : goal.returns-in-Ok-clause-turn
returns-in-Ok-clause-turn g c m found =
    subst (λ (taken : List ℕ). IsTurnOf m c.args.prepared.now c.args.made.now taken c.in-Ok.turn) (sym c.in-Ok.ensures.book.1) (c.in-Ok.ensures.turn m (ap (metric_of c.args.prepared.now.job.metric) c.take_for.ensures.metrics ∙ found))

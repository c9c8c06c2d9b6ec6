use Rattle.std.proofs.Common.{◌+◌, [], ◌∷◌, Some, sym, subst}
use Rattle.std.specs.Option.{IfSome}
use Rattle.front_api.specs.declared.command.Command.{Command}
use Rattle.front_api.specs.declared.history.IndexCounted.TheVariants as counted
use Rattle.metric_index.specs.BookCalls.{entry_by}
use Rattle.metric_index.specs.IndexCalls.{BeginsBy, IsBegunBy}
use Rattle.metric_index.specs.IndexView.{StandsAfter}
use Rattle.metric_index.proofs.index.Index.begin_metric.Goals as goal

pub returns-clause-whole : goal.returns-clause-whole
returns-clause-whole g c =
    let r = c.begin_of.result in
    subst (λ (command : Command). IfSome c.args.self.now.maps (λ m. BeginsBy command m (entry_by (Some (counted.Draw (m.counter + 1))) r ∷ []) r)) (sym c.in-AddMetric.is) c.begin_of.ensures.whole

pub returns-clause-stands : goal.returns-clause-stands
returns-clause-stands g c first h stands =
    subst (λ (command : Command). StandsAfter g.D.Disk first h (λ m. Some (counted.Draw (m.counter + 1))) c.args.self.now c.begin_of.new.self (λ own. IsBegunBy command first h own c.begin_of.result)) (sym c.in-AddMetric.is) (c.begin_of.ensures.stands first h stands)

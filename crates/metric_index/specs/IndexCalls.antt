-- What a call that begins a metric adds to the index's history.
use Rattle.std.specs.Prelude.{List, Result}
use Rattle.archive_policy.specs.Policies.{ArchivePolicy}
use Rattle.series_model.specs.declared.metric.MetricId.{MetricId}
use Rattle.front_api.specs.Calls.{BeginsOn, IsBegun}
use Rattle.front_api.specs.declared.command.Command.{Command}
use Rattle.front_api.specs.declared.command.Command.TheVariants.{AddMetric}
use Rattle.front_api.specs.declared.fault.ControlFault.{ControlFault}
use Rattle.front_api.specs.declared.history.IndexEntry.{IndexEntry}
use Rattle.front_api.specs.Maps.{Maps}

-- the command adds a metric
abbrev pub IsAddMetric : Command → Type 0
IsAddMetric (AddMetric policy name unit resource) = Unit {0}
IsAddMetric _ = ⊥

-- a metric was begun by the words of this command
abbrev pub IsBegunBy : Command → Maps → List IndexEntry → List IndexEntry → Result (MetricId × ArchivePolicy) ControlFault → Type 0
IsBegunBy (AddMetric policy name unit resource) first h own result = IsBegun policy name resource first h own result
IsBegunBy _ first h own result = ⊥

-- a new metric of the words of this command, on these maps
abbrev pub BeginsBy : Command → Maps → List IndexEntry → Result (MetricId × ArchivePolicy) ControlFault → Type 0
BeginsBy (AddMetric policy name unit resource) m own result = BeginsOn policy name resource m own result
BeginsBy _ m own result = ⊥

use Rattle.std.proofs.Common.{rules}
use Rattle.sack_state.proofs.ReadLemmas.{ids_at}
use Rattle.sack_state.proofs.sack.Sack.metrics.Goals as goal

pub returns-in-Some-Mounted-clause-value : goal.returns-in-Some-Mounted-clause-value
returns-in-Some-Mounted-clause-value g c = search rules

pub returns-in-Some-Apart-clause-value : goal.returns-in-Some-Apart-clause-value
returns-in-Some-Apart-clause-value g c = search rules

pub returns-in-Some-Mounted-clause-by_history : goal.returns-in-Some-Mounted-clause-by_history
returns-in-Some-Mounted-clause-by_history g c earlier h stands legal =
    ids_at g.D.Disk c.args.self.now earlier h stands legal c.metrics.result.now (returns-in-Some-Mounted-clause-value g c)

pub returns-in-Some-Apart-clause-by_history : goal.returns-in-Some-Apart-clause-by_history
returns-in-Some-Apart-clause-by_history g c earlier h stands legal =
    ids_at g.D.Disk c.args.self.now earlier h stands legal c.as_slice.result.now (returns-in-Some-Apart-clause-value g c)

use Rattle.std.proofs.Common.{rules}
use Rattle.sack_state.proofs.ReadLemmas.{pending_at}
use Rattle.sack_state.proofs.sack.Sack.pending.Goals as goal

pub returns-in-Some-Mounted-clause-value : goal.returns-in-Some-Mounted-clause-value
returns-in-Some-Mounted-clause-value g c = search rules

pub returns-in-Some-Apart-clause-value : goal.returns-in-Some-Apart-clause-value
returns-in-Some-Apart-clause-value g c = search rules

pub returns-in-Some-Mounted-clause-by_history : goal.returns-in-Some-Mounted-clause-by_history
returns-in-Some-Mounted-clause-by_history g c earlier h stands legal =
    pending_at g.D.Disk c.args.self.now earlier h stands legal c.pending.result (returns-in-Some-Mounted-clause-value g c)

pub returns-in-Some-Apart-clause-by_history : goal.returns-in-Some-Apart-clause-by_history
returns-in-Some-Apart-clause-by_history g c earlier h stands legal =
    pending_at g.D.Disk c.args.self.now earlier h stands legal c.in-Some-Apart.remains.pending (returns-in-Some-Apart-clause-value g c)

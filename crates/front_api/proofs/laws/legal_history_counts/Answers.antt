use Rattle.front_api.proofs.HistoryLemmas.{kept_counts, maps_kept}
use Rattle.front_api.proofs.laws.legal_history_counts.Goals as goal

pub returns-clause-counts : goal.returns-clause-counts
returns-clause-counts c = kept_counts

pub returns-clause-maps : goal.returns-clause-maps
returns-clause-maps c = maps_kept

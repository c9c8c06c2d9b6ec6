use Rattle.std.proofs.Common.{◌≤◌}
use Rattle.gno_num.specs.Floor.{floor_of}
use Rattle.split_update.proofs.Runs.{Each-all}
use Rattle.split_update.proofs.Updating.{after_anew}
use Rattle.split_update.proofs.laws.turn_cuts_all_anew.Goals as goal

pub returns : goal.returns
returns c granularity oldest from points old positive are new =
    after_anew granularity oldest from points old positive are (λ at is. Each-all (λ t. floor_of at granularity ≤ t) points (new.late at is))

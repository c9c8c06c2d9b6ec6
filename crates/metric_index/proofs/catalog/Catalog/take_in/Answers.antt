use Rattle.std.proofs.Common.{ℕ, true, false, List, [], ◌∷◌, ◌++◌}
use Rattle.metric_index.specs.Catalog.{maps_in}
use Rattle.metric_index.specs.IndexDamage.{IsOddIndex}
use Rattle.metric_index.specs.IndexLog.{IsIndexLog}
use Rattle.metric_index.proofs.LoadLemmas.{read_as}
use Rattle.metric_index.proofs.catalog.Catalog.take_in.Goals as goal

pub returns-in-Some-clause-taken : goal.returns-in-Some-clause-taken
returns-in-Some-clause-taken c =
    read_as c.take_item.result true c.args.item c.in-Some.item (λ (records : List (List ℕ)). IsIndexLog records (maps_in c.args.self.now)) (λ (records : List (List ℕ)) (body : List ℕ). IsIndexLog (records ++ body ∷ []) (maps_in c.take_item.new.self)) c.in-Some.is c.take_item.ensures.taken

pub returns-in-Some-clause-odd : goal.returns-in-Some-clause-odd
returns-in-Some-clause-odd c =
    read_as c.take_item.result false c.args.item c.in-Some.item (λ (records : List (List ℕ)). IsIndexLog records (maps_in c.args.self.now)) IsOddIndex c.in-Some.is c.take_item.ensures.odd

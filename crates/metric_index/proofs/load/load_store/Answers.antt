use Rattle.std.proofs.Common.{ℕ, List, take}
use Rattle.metric_index.proofs.LoadLemmas.{first_odd, for_all, load_odd}
use Rattle.metric_index.specs.IndexDamage.{IsOddIndex}
use Rattle.metric_index.specs.Reading.{IsReadAs}
use Rattle.metric_index.proofs.load.load_store.Goals as goal

pub returns-clause-cause : goal.returns-clause-cause
returns-clause-cause g c =
    let read = c.read_item.ensures.reads in
    let item = c.in_ok-item.item in
    load_odd c.args.pair.now c.read_item.new.pair 0 item c.place_of.result read.records read.place read.epoch read.on_second c.in_ok-item.ensures.stands
    (for_all c.args.pair.now.records (λ rs. (body : List ℕ) → IsReadAs item body → IsOddIndex (take 0 rs) body) (λ rs. first_odd item c.in-None.ensures.none))
    c.place_of.ensures.disk c.place_of.ensures.at

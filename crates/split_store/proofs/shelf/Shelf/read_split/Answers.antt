use Rattle.std.proofs.Common.{◌≡◌, ◌||◌, false, refl, sym, ap, subst, ◌∙◌}
use Rattle.std.specs.Option.{IsSome}
use Rattle.std.proofs.lemmas.Bool.{or_parts}
use Rattle.std.proofs.lemmas.Option.{same_Some}
use Rattle.shelf_blocks.specs.Blocks.{HoldsMetrics}
use Rattle.shelf_records.specs.Shelved.{metric_of}
use Rattle.split_store.specs.Damage.{HasOddSplit}
use Rattle.split_store.specs.Inside.{shelf_view}
use Rattle.split_store.specs.ShelfView.{IsCause, IsOnlySeen, Keeps, ShelfView}
use Rattle.split_store.proofs.Seen.{read_cause, read_lasting, split_found, split_never}
use Rattle.split_store.proofs.shelf.Shelf.read_split.Goals as goal

pub returns-in-Ok-clause-split : goal.returns-in-Ok-clause-split
returns-in-Ok-clause-split g c lives keeps =
    let i = c.self.inside in
    let own : Keeps g.D.Disk (shelf_view i) lives = subst (λ (v : ShelfView _). Keeps g.D.Disk v lives) (sym c.self.view_is) keeps in
    split_found (g.D.Disk.told i.blocks) own.bytes i.book.metrics lives c.args.metric c.args.definition c.args.kind c.args.key c.in-Ok.split own.told
    (subst (λ (v : ShelfView _). IsSome (metric_of c.args.metric v.metrics)) (sym c.self.view_is) c.requires.live) own.held c.in-Ok.ensures.placed c.in-Ok.ensures.split

pub returns-in-Ok-clause-left : goal.returns-in-Ok-clause-left
returns-in-Ok-clause-left g c =
    let i = c.self.inside in
    let inv = c.self.invariant in
    let unbroken : (i.pair.broken || i.damaged) ≡ false = subst (λ (v : ShelfView _). v.broken ≡ false) (sym c.self.view_is) c.requires.whole in
    read_lasting g.D.Disk g.met.D.Disk.whole i c.split_in.new.blocks i.damaged inv c.in-Ok.ensures.reads (inv.whole unbroken) (c.faults_of-before.ensures.lasting (or_parts i.pair.broken i.damaged unbroken).0)

pub returns-in-Err-clause-left : goal.returns-in-Err-clause-left
returns-in-Err-clause-left g c =
    let i = c.self.inside in
    let inv = c.self.invariant in
    let unbroken : (i.pair.broken || i.damaged) ≡ false = subst (λ (v : ShelfView _). v.broken ≡ false) (sym c.self.view_is) c.requires.whole in
    read_lasting g.D.Disk g.met.D.Disk.whole i c.split_in.new.blocks c.breaks-self-inside.result inv c.in-Err.ensures.reads (inv.whole unbroken) (c.faults_of-before.ensures.lasting (or_parts i.pair.broken i.damaged unbroken).0)

pub returns-in-Err-clause-cause : goal.returns-in-Err-clause-cause
returns-in-Err-clause-cause g c =
    let i = c.self.inside in
    let inv = c.self.invariant in
    let unbroken : (i.pair.broken || i.damaged) ≡ false = subst (λ (v : ShelfView _). v.broken ≡ false) (sym c.self.view_is) c.requires.whole in
    let new = record i { blocks = c.split_in.new.blocks; damaged = c.breaks-self-inside.result } in
    let seen : IsOnlySeen g.D.Disk (shelf_view i) (shelf_view new) = record { place = refl; epoch = refl; metrics = refl; first = refl; second = refl; blocks = c.in-Err.ensures.reads } in
    subst (λ (v : ShelfView _). IsCause g.D.Disk (HasOddSplit v.metrics c.args.metric c.args.definition c.args.kind c.args.key) v (shelf_view new) c.fault_of.result) c.self.view_is
    (read_cause g.D.Disk (HasOddSplit i.book.metrics c.args.metric c.args.definition c.args.kind c.args.key) (shelf_view i) (shelf_view new) c.in-Err.fault c.fault_of.result c.faults_of-before.result c.faults_of.result c.breaks-self-inside.result seen
    c.faults_of-before.ensures.count c.faults_of.ensures.count (ap (λ t. t || c.breaks-self-inside.result) (or_parts i.pair.broken i.damaged unbroken).0) c.breaks-self-inside.ensures c.fault_of.ensures c.in-Err.ensures.cause
    (λ lives z at keeps told odd. split_never z i.book.metrics lives c.args.metric c.args.definition c.args.kind c.args.key at (subst (λ b. HoldsMetrics b i.book.metrics lives) (same_Some keeps.bytes z (sym keeps.told ∙ told)) keeps.held) c.in-Err.ensures.placed odd))

use Rattle.std.proofs.Common.{◌≡◌, ◌||◌, ◌+◌, List, true, false, length, map, refl, sym, ap, subst, ◌∙◌, arith}
use Rattle.std.specs.List.{All, AllPairs}
use Rattle.std.specs.Option.{IfSome, IsSome, is_some}
use Rattle.std.proofs.lemmas.Bool.{or_parts}
use Rattle.std.proofs.lemmas.List.{length-map}
use Rattle.std.proofs.lemmas.List.Elements.{All-map}
use Rattle.std.proofs.lemmas.Option.{same_Some}
use Rattle.gno_disk.specs.Phases.{EachMoment}
use Rattle.series_model.proofs.Rising.{Rises_from_rising}
use Rattle.split_update.specs.Live.{Live}
use Rattle.gate_log.specs.declared.fault.MountFault.TheVariants.{DiskFault as MountDisk}
use Rattle.gno_codec.specs.declared.item.CommitItem.{CommitItem}
use Rattle.gno_codec.specs.declared.item.ShelfItem.TheVariants as items
use Rattle.gno_codec.specs.Shelf.{ComesBefore}
use Rattle.sack_history.specs.Scratch.{commit_live}
use Rattle.log_pair.specs.PairView.{AreOldOrAdded, OfTwo, PairView, pair_phases}
use Rattle.shelf_records.specs.Book.{new_blocks, places_of as block_places}
use Rattle.shelf_records.specs.Shelved.{AreBlocks, Shelved, after_record}
use Rattle.shelf_records.specs.Slots.{IsWithin}
use Rattle.block_slots.specs.declared.slots.Piece.{Piece}
use Rattle.block_slots.specs.Slots.{FillsSlot, FollowOn, size_with}
use Rattle.shelf_blocks.specs.Blocks.{HoldsMetrics}
use Rattle.split_store.specs.Damage.{HasOddSplits}
use Rattle.split_store.specs.Inside.{shelf_view}
use Rattle.split_store.specs.Loading.{AreRecordsOf, IsSound}
use Rattle.split_store.specs.ShelfView.{IsCause, IsOldOrChanged, IsOnlySeen, Keeps, LeavesOldOrChanged, ShelfView}
use Rattle.split_store.specs.Turn.{AreSlotsOf, WritesBlocks}
use Rattle.split_store.specs.Turn.WritesBlocks.{some}
use Rattle.split_store.specs.Writing.{AreWritten, tried_of}
use Rattle.split_store.proofs.Adding.{added_are, added_told}
use Rattle.split_store.proofs.Committed.{blocks_behind, commit_left, commit_moments, follows, log_of, may, new_at, or_true, still_held, then_held}
use Rattle.split_store.proofs.Held.{lasting_held}
use Rattle.split_store.proofs.Placed.{size_grows}
use Rattle.split_store.proofs.Readied.{the_one}
use Rattle.split_store.proofs.Seen.{match_seen, read_cause, read_lasting, reserved_seen, seen_left, seen_moments, splits_never, turned_seen}
use Rattle.split_store.proofs.Sound.{number_of, sound_after}
use Rattle.split_store.proofs.shelf.Shelf.commit.Goals as goal

pub returns-in-Err-clause-came : goal.returns-in-Err-clause-came
returns-in-Err-clause-came g c =
    let i = c.self.inside in
    let inv = c.self.invariant in
    let unbroken : (i.pair.broken || i.damaged) ≡ false = subst (λ (v : ShelfView _). v.broken ≡ false) (sym c.self.view_is) c.requires.whole in
    let w = inv.whole unbroken in
    let lasting = c.faults_of-before.ensures.lasting (or_parts i.pair.broken i.damaged unbroken).0 in
    let p = c.args.prepared.now in
    let ready_pair = c.turn_in.new.pair in
    let same : ready_pair ≡ record i.pair { spare = ready_pair.spare } = c.turn_in.ensures.pair in
    let b1 = c.turn_in.new.blocks in
    let reads = c.turn_in.ensures.reads in
    let change : List Live → List Live = commit_live p.job.metric p in (
      subst (λ (v : ShelfView _). g.D.Disk.came 4 v.first ready_pair.first) c.self.view_is (subst (λ (x : PairView _). g.D.Disk.came 4 i.pair.first x.first) (sym same) (g.met.D.Disk.came_more 0 4 _ _ (omega arith) (g.met.D.Disk.came_none i.pair.first))),
      subst (λ (v : ShelfView _). g.D.Disk.came 4 v.second ready_pair.second) c.self.view_is (subst (λ (x : PairView _). g.D.Disk.came 4 i.pair.second x.second) (sym same) (g.met.D.Disk.came_more 0 4 _ _ (omega arith) (g.met.D.Disk.came_none i.pair.second))),
    )

pub returns-in-Err-clause-any_moment : goal.returns-in-Err-clause-any_moment
returns-in-Err-clause-any_moment g c =
    let i = c.self.inside in
    let inv = c.self.invariant in
    let unbroken : (i.pair.broken || i.damaged) ≡ false = subst (λ (v : ShelfView _). v.broken ≡ false) (sym c.self.view_is) c.requires.whole in
    let w = inv.whole unbroken in
    let lasting = c.faults_of-before.ensures.lasting (or_parts i.pair.broken i.damaged unbroken).0 in
    let p = c.args.prepared.now in
    let ready_pair = c.turn_in.new.pair in
    let same : ready_pair ≡ record i.pair { spare = ready_pair.spare } = c.turn_in.ensures.pair in
    let b1 = c.turn_in.new.blocks in
    let reads = c.turn_in.ensures.reads in
    let change : List Live → List Live = commit_live p.job.metric p in
    let new = record i { pair = ready_pair; blocks = b1; book = c.turn_in.new.book; damaged = c.breaks-self-inside.result } in
    let seen = turned_seen g.D.Disk i ready_pair c.turn_in.new.book b1 new.damaged ready_pair.spare same c.turn_in.ensures.metrics reads in
    let still = reserved_seen g.D.Disk g.met.D.Disk.only_now g.met.D.Disk.came_none i i.pair i.book i.pair.spare refl refl in
    let old = read_lasting g.D.Disk g.met.D.Disk.whole i i.blocks i.damaged inv still.blocks w lasting in
    subst (λ (v : ShelfView _). IsOldOrChanged g.D.Disk change v (shelf_view new)) c.self.view_is
    (seen_moments g.D.Disk g.met.D.Disk.only_now change (shelf_view i) (shelf_view new) seen (g.met.D.Disk.came_goes_on 0 i.blocks b1 reads.came).later old)

pub returns-in-Err-clause-left : goal.returns-in-Err-clause-left
returns-in-Err-clause-left g c =
    let i = c.self.inside in
    let inv = c.self.invariant in
    let unbroken : (i.pair.broken || i.damaged) ≡ false = subst (λ (v : ShelfView _). v.broken ≡ false) (sym c.self.view_is) c.requires.whole in
    let w = inv.whole unbroken in
    let lasting = c.faults_of-before.ensures.lasting (or_parts i.pair.broken i.damaged unbroken).0 in
    let p = c.args.prepared.now in
    let ready_pair = c.turn_in.new.pair in
    let same : ready_pair ≡ record i.pair { spare = ready_pair.spare } = c.turn_in.ensures.pair in
    let b1 = c.turn_in.new.blocks in
    let reads = c.turn_in.ensures.reads in
    let change : List Live → List Live = commit_live p.job.metric p in
    let new = record i { pair = ready_pair; blocks = b1; book = c.turn_in.new.book; damaged = c.breaks-self-inside.result } in
    let seen = turned_seen g.D.Disk i ready_pair c.turn_in.new.book b1 new.damaged ready_pair.spare same c.turn_in.ensures.metrics reads in
    let still = reserved_seen g.D.Disk g.met.D.Disk.only_now g.met.D.Disk.came_none i i.pair i.book i.pair.spare refl refl in
    let old = read_lasting g.D.Disk g.met.D.Disk.whole i i.blocks i.damaged inv still.blocks w lasting in
    subst (λ (v : ShelfView _). LeavesOldOrChanged g.D.Disk change v (shelf_view new)) c.self.view_is (seen_left g.D.Disk change (shelf_view i) (shelf_view new) seen old)

pub returns-in-Err-clause-cause : goal.returns-in-Err-clause-cause
returns-in-Err-clause-cause g c =
    let i = c.self.inside in
    let inv = c.self.invariant in
    let unbroken : (i.pair.broken || i.damaged) ≡ false = subst (λ (v : ShelfView _). v.broken ≡ false) (sym c.self.view_is) c.requires.whole in
    let w = inv.whole unbroken in
    let lasting = c.faults_of-before.ensures.lasting (or_parts i.pair.broken i.damaged unbroken).0 in
    let p = c.args.prepared.now in
    let ready_pair = c.turn_in.new.pair in
    let same : ready_pair ≡ record i.pair { spare = ready_pair.spare } = c.turn_in.ensures.pair in
    let b1 = c.turn_in.new.blocks in
    let reads = c.turn_in.ensures.reads in
    let change : List Live → List Live = commit_live p.job.metric p in
    let new = record i { pair = ready_pair; blocks = b1; book = c.turn_in.new.book; damaged = c.breaks-self-inside.result } in
    let seen = turned_seen g.D.Disk i ready_pair c.turn_in.new.book b1 new.damaged ready_pair.spare same c.turn_in.ensures.metrics reads in
    let still = reserved_seen g.D.Disk g.met.D.Disk.only_now g.met.D.Disk.came_none i i.pair i.book i.pair.spare refl refl in
    let old = read_lasting g.D.Disk g.met.D.Disk.whole i i.blocks i.damaged inv still.blocks w lasting in
    subst (λ (v : ShelfView _). IsCause g.D.Disk (HasOddSplits v.metrics p.job.metric) v (shelf_view new) c.fault_of.result) c.self.view_is
    (read_cause g.D.Disk (HasOddSplits i.book.metrics p.job.metric) (shelf_view i) (shelf_view new) c.in-Err.fault c.fault_of.result c.faults_of-before.result c.faults_of-after.result c.breaks-self-inside.result seen
    c.faults_of-before.ensures.count c.faults_of-after.ensures.count (ap (λ (x : PairView _). x.broken || c.breaks-self-inside.result) same ∙ ap (λ t. t || c.breaks-self-inside.result) (or_parts i.pair.broken i.damaged unbroken).0)
    c.breaks-self-inside.ensures c.fault_of.ensures c.in-Err.ensures.cause
    (λ lives z at keeps told odd. splits_never z i.book.metrics lives p.job.metric at (subst (λ b. HoldsMetrics b i.book.metrics lives) (same_Some keeps.bytes z (sym keeps.told ∙ told)) keeps.held) odd))

pub returns-in-Err-clause-seen : goal.returns-in-Err-clause-seen
returns-in-Err-clause-seen g c =
    let i = c.self.inside in
    let inv = c.self.invariant in
    let unbroken : (i.pair.broken || i.damaged) ≡ false = subst (λ (v : ShelfView _). v.broken ≡ false) (sym c.self.view_is) c.requires.whole in
    let w = inv.whole unbroken in
    let lasting = c.faults_of-before.ensures.lasting (or_parts i.pair.broken i.damaged unbroken).0 in
    let p = c.args.prepared.now in
    let ready_pair = c.turn_in.new.pair in
    let same : ready_pair ≡ record i.pair { spare = ready_pair.spare } = c.turn_in.ensures.pair in
    let b1 = c.turn_in.new.blocks in
    let reads = c.turn_in.ensures.reads in
    let change : List Live → List Live = commit_live p.job.metric p in
    let new = record i { pair = ready_pair; blocks = b1; book = c.turn_in.new.book; damaged = c.breaks-self-inside.result } in
    let seen = turned_seen g.D.Disk i ready_pair c.turn_in.new.book b1 new.damaged ready_pair.spare same c.turn_in.ensures.metrics reads in
    let still = reserved_seen g.D.Disk g.met.D.Disk.only_now g.met.D.Disk.came_none i i.pair i.book i.pair.spare refl refl in
    let old = read_lasting g.D.Disk g.met.D.Disk.whole i i.blocks i.damaged inv still.blocks w lasting in
    match_seen c.fault_of.result (IsOnlySeen g.D.Disk c.args.self.now (shelf_view new)) (subst (λ (v : ShelfView _). IsOnlySeen g.D.Disk v (shelf_view new)) c.self.view_is seen)

pub write_turn-requires-clause-placed : goal.write_turn-requires-clause-placed
write_turn-requires-clause-placed g c =
    let i = c.self.inside in
    let inv = c.self.invariant in
    let unbroken : (i.pair.broken || i.damaged) ≡ false = subst (λ (v : ShelfView _). v.broken ≡ false) (sym c.self.view_is) c.requires.whole in
    let w = inv.whole unbroken in
    let lasting = c.faults_of-before.ensures.lasting (or_parts i.pair.broken i.damaged unbroken).0 in
    let p = c.args.prepared.now in
    let ready_pair = c.turn_in.new.pair in
    let same : ready_pair ≡ record i.pair { spare = ready_pair.spare } = c.turn_in.ensures.pair in
    let b1 = c.turn_in.new.blocks in
    let reads = c.turn_in.ensures.reads in
    let change : List Live → List Live = commit_live p.job.metric p in
    let metrics = i.book.metrics in
    let size = g.D.Disk.size i.blocks in
    let turn = c.in-Ok.turn in
    let taken = c.turn_in.new.book.taken in
    let ready = c.in-Ok.ensures.ready in
    let first = c.in-Ok.ensures.first in
    let rises = Rises_from_rising (map number_of metrics) c.metrics-ids.ensures.rising in
    subst (λ n. FollowOn n (tried_of turn.pieces.items)) (sym reads.size) (may g.D.Disk i size metrics w.blocks rises p taken turn ready first).placed

pub write_turn-requires-clause-apart : goal.write_turn-requires-clause-apart
write_turn-requires-clause-apart g c =
    let i = c.self.inside in
    let inv = c.self.invariant in
    let unbroken : (i.pair.broken || i.damaged) ≡ false = subst (λ (v : ShelfView _). v.broken ≡ false) (sym c.self.view_is) c.requires.whole in
    let w = inv.whole unbroken in
    let lasting = c.faults_of-before.ensures.lasting (or_parts i.pair.broken i.damaged unbroken).0 in
    let p = c.args.prepared.now in
    let ready_pair = c.turn_in.new.pair in
    let same : ready_pair ≡ record i.pair { spare = ready_pair.spare } = c.turn_in.ensures.pair in
    let b1 = c.turn_in.new.blocks in
    let reads = c.turn_in.ensures.reads in
    let change : List Live → List Live = commit_live p.job.metric p in
    let metrics = i.book.metrics in
    let size = g.D.Disk.size i.blocks in
    let turn = c.in-Ok.turn in
    let taken = c.turn_in.new.book.taken in
    let ready = c.in-Ok.ensures.ready in
    let first = c.in-Ok.ensures.first in
    let rises = Rises_from_rising (map number_of metrics) c.metrics-ids.ensures.rising in
    (may g.D.Disk i size metrics w.blocks rises p taken turn ready first).apart

pub settle-requires-clause-order : goal.settle-requires-clause-order
settle-requires-clause-order g c =
    let i = c.self.inside in
    let inv = c.self.invariant in
    let unbroken : (i.pair.broken || i.damaged) ≡ false = subst (λ (v : ShelfView _). v.broken ≡ false) (sym c.self.view_is) c.requires.whole in
    let w = inv.whole unbroken in
    let lasting = c.faults_of-before.ensures.lasting (or_parts i.pair.broken i.damaged unbroken).0 in
    let p = c.args.prepared.now in
    let ready_pair = c.turn_in.new.pair in
    let same : ready_pair ≡ record i.pair { spare = ready_pair.spare } = c.turn_in.ensures.pair in
    let b1 = c.turn_in.new.blocks in
    let reads = c.turn_in.ensures.reads in
    let change : List Live → List Live = commit_live p.job.metric p in
    let metrics = i.book.metrics in
    let size = g.D.Disk.size i.blocks in
    let turn = c.in-Ok.turn in
    let taken = c.turn_in.new.book.taken in
    let ready = c.in-Ok.ensures.ready in
    let first = c.in-Ok.ensures.first in
    let rises = Rises_from_rising (map number_of metrics) c.metrics-ids.ensures.rising in
    subst (λ (x : CommitItem). AllPairs ComesBefore x.changes) (sym c.write_turn.ensures.turn.0) ready.turn_is.order

pub settle-requires-clause-taken : goal.settle-requires-clause-taken
settle-requires-clause-taken g c =
    let i = c.self.inside in
    let inv = c.self.invariant in
    let unbroken : (i.pair.broken || i.damaged) ≡ false = subst (λ (v : ShelfView _). v.broken ≡ false) (sym c.self.view_is) c.requires.whole in
    let w = inv.whole unbroken in
    let lasting = c.faults_of-before.ensures.lasting (or_parts i.pair.broken i.damaged unbroken).0 in
    let p = c.args.prepared.now in
    let ready_pair = c.turn_in.new.pair in
    let same : ready_pair ≡ record i.pair { spare = ready_pair.spare } = c.turn_in.ensures.pair in
    let b1 = c.turn_in.new.blocks in
    let reads = c.turn_in.ensures.reads in
    let change : List Live → List Live = commit_live p.job.metric p in
    let metrics = i.book.metrics in
    let size = g.D.Disk.size i.blocks in
    let turn = c.in-Ok.turn in
    let taken = c.turn_in.new.book.taken in
    let ready = c.in-Ok.ensures.ready in
    let first = c.in-Ok.ensures.first in
    let rises = Rises_from_rising (map number_of metrics) c.metrics-ids.ensures.rising in
    ap (λ (x : CommitItem). block_places (new_blocks x)) c.write_turn.ensures.turn.0 ∙ new_at g.D.Disk i size metrics w.blocks rises p taken turn ready first ∙ ready.turn_is.places

pub settle-requires-clause-within : goal.settle-requires-clause-within
settle-requires-clause-within g c =
    let i = c.self.inside in
    let inv = c.self.invariant in
    let unbroken : (i.pair.broken || i.damaged) ≡ false = subst (λ (v : ShelfView _). v.broken ≡ false) (sym c.self.view_is) c.requires.whole in
    let w = inv.whole unbroken in
    let lasting = c.faults_of-before.ensures.lasting (or_parts i.pair.broken i.damaged unbroken).0 in
    let p = c.args.prepared.now in
    let ready_pair = c.turn_in.new.pair in
    let same : ready_pair ≡ record i.pair { spare = ready_pair.spare } = c.turn_in.ensures.pair in
    let b1 = c.turn_in.new.blocks in
    let reads = c.turn_in.ensures.reads in
    let change : List Live → List Live = commit_live p.job.metric p in
    let metrics = i.book.metrics in
    let size = g.D.Disk.size i.blocks in
    let turn = c.in-Ok.turn in
    let taken = c.turn_in.new.book.taken in
    let ready = c.in-Ok.ensures.ready in
    let first = c.in-Ok.ensures.first in
    let rises = Rises_from_rising (map number_of metrics) c.metrics-ids.ensures.rising in
    subst (All IsWithin) ready.turn_is.places (All-map IsWithin (λ (x : Piece). x.at) turn.pieces.items c.in-Ok-write_turn.ensures.within.0)

pub release-requires : goal.release-requires
release-requires g c =
    let i = c.self.inside in
    let inv = c.self.invariant in
    let unbroken : (i.pair.broken || i.damaged) ≡ false = subst (λ (v : ShelfView _). v.broken ≡ false) (sym c.self.view_is) c.requires.whole in
    let w = inv.whole unbroken in
    let lasting = c.faults_of-before.ensures.lasting (or_parts i.pair.broken i.damaged unbroken).0 in
    let p = c.args.prepared.now in
    let ready_pair = c.turn_in.new.pair in
    let same : ready_pair ≡ record i.pair { spare = ready_pair.spare } = c.turn_in.ensures.pair in
    let b1 = c.turn_in.new.blocks in
    let reads = c.turn_in.ensures.reads in
    let change : List Live → List Live = commit_live p.job.metric p in
    let metrics = i.book.metrics in
    let size = g.D.Disk.size i.blocks in
    let turn = c.in-Ok.turn in
    let taken = c.turn_in.new.book.taken in
    let ready = c.in-Ok.ensures.ready in
    let first = c.in-Ok.ensures.first in
    let rises = Rises_from_rising (map number_of metrics) c.metrics-ids.ensures.rising in
    let sure = c.in-Ok.ensures.sure ready.metric ready.live in
    omega (arith, sure)

pub invariant_of-self-in-Ok-write_turn : goal.invariant_of-self-in-Ok-write_turn
invariant_of-self-in-Ok-write_turn g c =
    let i = c.self.inside in
    let inv = c.self.invariant in
    let unbroken : (i.pair.broken || i.damaged) ≡ false = subst (λ (v : ShelfView _). v.broken ≡ false) (sym c.self.view_is) c.requires.whole in
    let w = inv.whole unbroken in
    let lasting = c.faults_of-before.ensures.lasting (or_parts i.pair.broken i.damaged unbroken).0 in
    let p = c.args.prepared.now in
    let ready_pair = c.turn_in.new.pair in
    let same : ready_pair ≡ record i.pair { spare = ready_pair.spare } = c.turn_in.ensures.pair in
    let b1 = c.turn_in.new.blocks in
    let reads = c.turn_in.ensures.reads in
    let change : List Live → List Live = commit_live p.job.metric p in
    let metrics = i.book.metrics in
    let size = g.D.Disk.size i.blocks in
    let turn = c.in-Ok.turn in
    let taken = c.turn_in.new.book.taken in
    let ready = c.in-Ok.ensures.ready in
    let first = c.in-Ok.ensures.first in
    let rises = Rises_from_rising (map number_of metrics) c.metrics-ids.ensures.rising in
    let q = c.write_turn.new.pair in
    let b2 = c.write_turn.new.blocks in
    let first_same : is_some (g.D.Disk.told q.first) ≡ is_some (g.D.Disk.told i.pair.first) = g.met.D.Disk.came_tells 4 _ _ c.write_turn.ensures.came.0 ∙ ap (λ (x : PairView _). is_some (g.D.Disk.told x.first)) same in
    let second_same : is_some (g.D.Disk.told q.second) ≡ is_some (g.D.Disk.told i.pair.second) = g.met.D.Disk.came_tells 4 _ _ c.write_turn.ensures.came.1 ∙ ap (λ (x : PairView _). is_some (g.D.Disk.told x.second)) same in
    let within = c.in-Ok-write_turn.ensures.within.0 in
    let long : g.D.Disk.size b2 ≡ size_with size turn.pieces.items = c.in-Ok-write_turn.ensures.size ∙ ap (λ n. size_with n turn.pieces.items) reads.size in
    let item_same : c.write_turn.new.turn.item ≡ turn.item = c.write_turn.ensures.turn.0 in
    let new_is : c.settle.new.self.metrics ≡ after_record metrics (items.Commit turn.item) = c.settle.ensures.metrics ∙ ap (λ (ms : List Shelved). after_record ms (items.Commit c.write_turn.new.turn.item)) c.turn_in.ensures.metrics ∙ ap (λ (x : CommitItem). after_record metrics (items.Commit x)) item_same in
    let blocks = blocks_behind g.D.Disk i size metrics w.blocks rises p taken turn ready first (g.D.Disk.size b2) long within in
    let grows = size_grows size turn.pieces.items in
    record {
      role = ap (λ x. x.role) c.write_turn.ensures.same.0 ∙ ap (λ (x : PairView _). x.place.role) same ∙ inv.role;
      told = λ is is_too. added_told ready_pair.records q.records turn.body.items c.in-Ok-write_turn.ensures.added (subst (λ (x : PairView _). IsSome x.records) (sym same) (inv.told (sym first_same ∙ is) (sym second_same ∙ is_too)));
      free = c.settle.ensures.taken;
      whole = λ _. record {
        are = added_are size (g.D.Disk.size b2) metrics c.settle.new.self.metrics ready_pair.records q.records turn.body.items (items.Commit turn.item) c.in-Ok-write_turn.ensures.added (omega (arith, grows, long))
            (subst (λ (x : PairView _). IfSome x.records (AreRecordsOf size metrics)) (sym same) w.are) ready.turn_is.is ready.turn_is.spelled (follows g.D.Disk i size metrics w.blocks rises p taken turn ready first) (subst (AreBlocks (g.D.Disk.size b2)) (sym new_is) blocks) new_is;
        sound = subst (All IsSound) (sym new_is) (sound_after metrics (items.Commit turn.item) c.metrics-ids.ensures.rising w.sound (follows g.D.Disk i size metrics w.blocks rises p taken turn ready first));
        blocks = subst (AreBlocks (g.D.Disk.size b2)) (sym new_is) blocks;
        synced = c.in-Ok-write_turn.ensures.durable;
      };
    }

pub invariant_of-self-in-Err-write_turn : goal.invariant_of-self-in-Err-write_turn
invariant_of-self-in-Err-write_turn g c =
    let i = c.self.inside in
    let inv = c.self.invariant in
    let unbroken : (i.pair.broken || i.damaged) ≡ false = subst (λ (v : ShelfView _). v.broken ≡ false) (sym c.self.view_is) c.requires.whole in
    let w = inv.whole unbroken in
    let lasting = c.faults_of-before.ensures.lasting (or_parts i.pair.broken i.damaged unbroken).0 in
    let p = c.args.prepared.now in
    let ready_pair = c.turn_in.new.pair in
    let same : ready_pair ≡ record i.pair { spare = ready_pair.spare } = c.turn_in.ensures.pair in
    let b1 = c.turn_in.new.blocks in
    let reads = c.turn_in.ensures.reads in
    let change : List Live → List Live = commit_live p.job.metric p in
    let metrics = i.book.metrics in
    let size = g.D.Disk.size i.blocks in
    let turn = c.in-Ok.turn in
    let taken = c.turn_in.new.book.taken in
    let ready = c.in-Ok.ensures.ready in
    let first = c.in-Ok.ensures.first in
    let rises = Rises_from_rising (map number_of metrics) c.metrics-ids.ensures.rising in
    let q = c.write_turn.new.pair in
    let b2 = c.write_turn.new.blocks in
    let first_same : is_some (g.D.Disk.told q.first) ≡ is_some (g.D.Disk.told i.pair.first) = g.met.D.Disk.came_tells 4 _ _ c.write_turn.ensures.came.0 ∙ ap (λ (x : PairView _). is_some (g.D.Disk.told x.first)) same in
    let second_same : is_some (g.D.Disk.told q.second) ≡ is_some (g.D.Disk.told i.pair.second) = g.met.D.Disk.came_tells 4 _ _ c.write_turn.ensures.came.1 ∙ ap (λ (x : PairView _). is_some (g.D.Disk.told x.second)) same in
    record {
      role = ap (λ x. x.role) c.write_turn.ensures.same.0 ∙ ap (λ (x : PairView _). x.place.role) same ∙ inv.role;
      told = λ is is_too. subst IsSome (sym c.in-Err-write_turn.ensures.kept) (subst (λ (x : PairView _). IsSome x.records) (sym same) (inv.told (sym first_same ∙ is) (sym second_same ∙ is_too)));
      free = c.release.ensures.taken;
      whole = λ fine. (let no = (or_parts q.broken true fine).1 in absurd cc);
    }

pub returns-in-Ok-write_turn-clause-changed : goal.returns-in-Ok-write_turn-clause-changed
returns-in-Ok-write_turn-clause-changed g c =
    let i = c.self.inside in
    let inv = c.self.invariant in
    let unbroken : (i.pair.broken || i.damaged) ≡ false = subst (λ (v : ShelfView _). v.broken ≡ false) (sym c.self.view_is) c.requires.whole in
    let w = inv.whole unbroken in
    let lasting = c.faults_of-before.ensures.lasting (or_parts i.pair.broken i.damaged unbroken).0 in
    let p = c.args.prepared.now in
    let ready_pair = c.turn_in.new.pair in
    let same : ready_pair ≡ record i.pair { spare = ready_pair.spare } = c.turn_in.ensures.pair in
    let b1 = c.turn_in.new.blocks in
    let reads = c.turn_in.ensures.reads in
    let change : List Live → List Live = commit_live p.job.metric p in
    let metrics = i.book.metrics in
    let size = g.D.Disk.size i.blocks in
    let turn = c.in-Ok.turn in
    let taken = c.turn_in.new.book.taken in
    let ready = c.in-Ok.ensures.ready in
    let first = c.in-Ok.ensures.first in
    let rises = Rises_from_rising (map number_of metrics) c.metrics-ids.ensures.rising in
    let q = c.write_turn.new.pair in
    let b2 = c.write_turn.new.blocks in
    let first_same : is_some (g.D.Disk.told q.first) ≡ is_some (g.D.Disk.told i.pair.first) = g.met.D.Disk.came_tells 4 _ _ c.write_turn.ensures.came.0 ∙ ap (λ (x : PairView _). is_some (g.D.Disk.told x.first)) same in
    let second_same : is_some (g.D.Disk.told q.second) ≡ is_some (g.D.Disk.told i.pair.second) = g.met.D.Disk.came_tells 4 _ _ c.write_turn.ensures.came.1 ∙ ap (λ (x : PairView _). is_some (g.D.Disk.told x.second)) same in
    let written = c.write_turn.ensures.moments in
    let count = length turn.pieces.items + 1 in
    let on = g.met.D.Disk.came_goes_on 0 i.blocks b1 reads.came in
    let on_too = g.met.D.Disk.came_goes_on count b1 b2 c.write_turn.ensures.came.2 in
    let tells : is_some (g.D.Disk.told b2) ≡ is_some (g.D.Disk.told i.blocks) = g.met.D.Disk.came_tells count b1 b2 c.write_turn.ensures.came.2 ∙ ap is_some reads.told in
    let log = log_of ready_pair i.pair q ready_pair.spare (AreWritten g.D.Disk turn.pieces.items b1 b2) same written.log in
    let moments = subst (λ (x : PairView _). EachMoment g.D.Disk (pair_phases x q) (OfTwo (AreOldOrAdded x turn.body.items))) same written.moments in
    let within = c.in-Ok-write_turn.ensures.within.0 in
    let long : g.D.Disk.size b2 ≡ size_with size turn.pieces.items = c.in-Ok-write_turn.ensures.size ∙ ap (λ n. size_with n turn.pieces.items) reads.size in
    let item_same : c.write_turn.new.turn.item ≡ turn.item = c.write_turn.ensures.turn.0 in
    let new_is : c.settle.new.self.metrics ≡ after_record metrics (items.Commit turn.item) = c.settle.ensures.metrics ∙ ap (λ (ms : List Shelved). after_record ms (items.Commit c.write_turn.new.turn.item)) c.turn_in.ensures.metrics ∙ ap (λ (x : CommitItem). after_record metrics (items.Commit x)) item_same in
    λ lives keeps.
    let own : Keeps g.D.Disk (shelf_view i) lives = subst (λ (v : ShelfView _). Keeps g.D.Disk v lives) (sym c.self.view_is) keeps in
    let one = the_one (g.D.Disk.told b2) (tells ∙ ap is_some own.told) in
    let fills : All (FillsSlot one.0) turn.pieces.items = subst (λ o. IfSome o (λ bytes. All (FillsSlot bytes) turn.pieces.items)) one.1 c.in-Ok-write_turn.ensures.stand in
    let stay = still_held g.D.Disk g.met.D.Disk.whole g.met.D.Disk.counts_now g.met.D.Disk.only_now i inv w lasting rises p taken turn ready first b1 b2 q reads on on_too tells written.blocks log moments own.bytes one.0 lives own.told one.1 c.write_turn.ensures.spared own.held in
    record {
      bytes = one.0;
      first = first_same ∙ own.first;
      second = second_same ∙ own.second;
      told = one.1;
      held = subst (λ ms. HoldsMetrics one.0 ms (change lives)) (sym new_is) (then_held g.D.Disk i size metrics w.blocks rises p taken turn ready first own.bytes one.0 lives own.told fills own.held stay);
    }

pub returns-in-Ok-write_turn-clause-writes : goal.returns-in-Ok-write_turn-clause-writes
returns-in-Ok-write_turn-clause-writes g c =
    let i = c.self.inside in
    let inv = c.self.invariant in
    let unbroken : (i.pair.broken || i.damaged) ≡ false = subst (λ (v : ShelfView _). v.broken ≡ false) (sym c.self.view_is) c.requires.whole in
    let w = inv.whole unbroken in
    let lasting = c.faults_of-before.ensures.lasting (or_parts i.pair.broken i.damaged unbroken).0 in
    let p = c.args.prepared.now in
    let ready_pair = c.turn_in.new.pair in
    let same : ready_pair ≡ record i.pair { spare = ready_pair.spare } = c.turn_in.ensures.pair in
    let b1 = c.turn_in.new.blocks in
    let reads = c.turn_in.ensures.reads in
    let change : List Live → List Live = commit_live p.job.metric p in
    let metrics = i.book.metrics in
    let size = g.D.Disk.size i.blocks in
    let turn = c.in-Ok.turn in
    let taken = c.turn_in.new.book.taken in
    let ready = c.in-Ok.ensures.ready in
    let first = c.in-Ok.ensures.first in
    let rises = Rises_from_rising (map number_of metrics) c.metrics-ids.ensures.rising in
    let q = c.write_turn.new.pair in
    let b2 = c.write_turn.new.blocks in
    let first_same : is_some (g.D.Disk.told q.first) ≡ is_some (g.D.Disk.told i.pair.first) = g.met.D.Disk.came_tells 4 _ _ c.write_turn.ensures.came.0 ∙ ap (λ (x : PairView _). is_some (g.D.Disk.told x.first)) same in
    let second_same : is_some (g.D.Disk.told q.second) ≡ is_some (g.D.Disk.told i.pair.second) = g.met.D.Disk.came_tells 4 _ _ c.write_turn.ensures.came.1 ∙ ap (λ (x : PairView _). is_some (g.D.Disk.told x.second)) same in
    let n = length turn.pieces.items in
    let slots : AreSlotsOf (g.D.Disk.told i.blocks) i.book.metrics p n = record {
      metric = ready.metric;
      live = ready.live;
      made = ready.made;
      are = ready.are;
      chunks = ready.slots.chunks;
      enough = ready.slots.enough;
      slots_are = sym (length-map turn.pieces.items (λ (x : Piece). x.at)) ∙ ap length ready.turn_is.places ∙ ready.slots.long;
    } in
    let came = g.met.D.Disk.came_more (0 + (n + 1)) (n + 1) i.blocks b2 (omega arith) (g.met.D.Disk.came_then 0 (n + 1) i.blocks b1 b2 reads.came c.write_turn.ensures.came.2) in
    subst (λ (v : ShelfView _). WritesBlocks g.D.Disk v.metrics p v.blocks b2) c.self.view_is (some n slots came)

pub returns-in-Ok-write_turn-clause-any_moment : goal.returns-in-Ok-write_turn-clause-any_moment
returns-in-Ok-write_turn-clause-any_moment g c =
    let i = c.self.inside in
    let inv = c.self.invariant in
    let unbroken : (i.pair.broken || i.damaged) ≡ false = subst (λ (v : ShelfView _). v.broken ≡ false) (sym c.self.view_is) c.requires.whole in
    let w = inv.whole unbroken in
    let lasting = c.faults_of-before.ensures.lasting (or_parts i.pair.broken i.damaged unbroken).0 in
    let p = c.args.prepared.now in
    let ready_pair = c.turn_in.new.pair in
    let same : ready_pair ≡ record i.pair { spare = ready_pair.spare } = c.turn_in.ensures.pair in
    let b1 = c.turn_in.new.blocks in
    let reads = c.turn_in.ensures.reads in
    let change : List Live → List Live = commit_live p.job.metric p in
    let metrics = i.book.metrics in
    let size = g.D.Disk.size i.blocks in
    let turn = c.in-Ok.turn in
    let taken = c.turn_in.new.book.taken in
    let ready = c.in-Ok.ensures.ready in
    let first = c.in-Ok.ensures.first in
    let rises = Rises_from_rising (map number_of metrics) c.metrics-ids.ensures.rising in
    let q = c.write_turn.new.pair in
    let b2 = c.write_turn.new.blocks in
    let first_same : is_some (g.D.Disk.told q.first) ≡ is_some (g.D.Disk.told i.pair.first) = g.met.D.Disk.came_tells 4 _ _ c.write_turn.ensures.came.0 ∙ ap (λ (x : PairView _). is_some (g.D.Disk.told x.first)) same in
    let second_same : is_some (g.D.Disk.told q.second) ≡ is_some (g.D.Disk.told i.pair.second) = g.met.D.Disk.came_tells 4 _ _ c.write_turn.ensures.came.1 ∙ ap (λ (x : PairView _). is_some (g.D.Disk.told x.second)) same in
    let written = c.write_turn.ensures.moments in
    let count = length turn.pieces.items + 1 in
    let on = g.met.D.Disk.came_goes_on 0 i.blocks b1 reads.came in
    let on_too = g.met.D.Disk.came_goes_on count b1 b2 c.write_turn.ensures.came.2 in
    let tells : is_some (g.D.Disk.told b2) ≡ is_some (g.D.Disk.told i.blocks) = g.met.D.Disk.came_tells count b1 b2 c.write_turn.ensures.came.2 ∙ ap is_some reads.told in
    let log = log_of ready_pair i.pair q ready_pair.spare (AreWritten g.D.Disk turn.pieces.items b1 b2) same written.log in
    let moments = subst (λ (x : PairView _). EachMoment g.D.Disk (pair_phases x q) (OfTwo (AreOldOrAdded x turn.body.items))) same written.moments in
    subst (λ (v : ShelfView _). IsOldOrChanged g.D.Disk change v (shelf_view (record i { pair = q; blocks = b2; book = c.settle.new.self; damaged = i.damaged }))) c.self.view_is (commit_moments g.D.Disk g.met.D.Disk.whole g.met.D.Disk.counts_now g.met.D.Disk.only_now i inv w lasting rises p taken turn ready first b1 b2 q reads on on_too tells written.blocks log moments)

pub returns-in-Ok-write_turn-clause-left : goal.returns-in-Ok-write_turn-clause-left
returns-in-Ok-write_turn-clause-left g c =
    let i = c.self.inside in
    let inv = c.self.invariant in
    let unbroken : (i.pair.broken || i.damaged) ≡ false = subst (λ (v : ShelfView _). v.broken ≡ false) (sym c.self.view_is) c.requires.whole in
    let w = inv.whole unbroken in
    let lasting = c.faults_of-before.ensures.lasting (or_parts i.pair.broken i.damaged unbroken).0 in
    let p = c.args.prepared.now in
    let ready_pair = c.turn_in.new.pair in
    let same : ready_pair ≡ record i.pair { spare = ready_pair.spare } = c.turn_in.ensures.pair in
    let b1 = c.turn_in.new.blocks in
    let reads = c.turn_in.ensures.reads in
    let change : List Live → List Live = commit_live p.job.metric p in
    let metrics = i.book.metrics in
    let size = g.D.Disk.size i.blocks in
    let turn = c.in-Ok.turn in
    let taken = c.turn_in.new.book.taken in
    let ready = c.in-Ok.ensures.ready in
    let first = c.in-Ok.ensures.first in
    let rises = Rises_from_rising (map number_of metrics) c.metrics-ids.ensures.rising in
    let q = c.write_turn.new.pair in
    let b2 = c.write_turn.new.blocks in
    let first_same : is_some (g.D.Disk.told q.first) ≡ is_some (g.D.Disk.told i.pair.first) = g.met.D.Disk.came_tells 4 _ _ c.write_turn.ensures.came.0 ∙ ap (λ (x : PairView _). is_some (g.D.Disk.told x.first)) same in
    let second_same : is_some (g.D.Disk.told q.second) ≡ is_some (g.D.Disk.told i.pair.second) = g.met.D.Disk.came_tells 4 _ _ c.write_turn.ensures.came.1 ∙ ap (λ (x : PairView _). is_some (g.D.Disk.told x.second)) same in
    let written = c.write_turn.ensures.moments in
    let count = length turn.pieces.items + 1 in
    let on = g.met.D.Disk.came_goes_on 0 i.blocks b1 reads.came in
    let on_too = g.met.D.Disk.came_goes_on count b1 b2 c.write_turn.ensures.came.2 in
    let tells : is_some (g.D.Disk.told b2) ≡ is_some (g.D.Disk.told i.blocks) = g.met.D.Disk.came_tells count b1 b2 c.write_turn.ensures.came.2 ∙ ap is_some reads.told in
    let log = log_of ready_pair i.pair q ready_pair.spare (AreWritten g.D.Disk turn.pieces.items b1 b2) same written.log in
    let moments = subst (λ (x : PairView _). EachMoment g.D.Disk (pair_phases x q) (OfTwo (AreOldOrAdded x turn.body.items))) same written.moments in
    subst (λ (v : ShelfView _). LeavesOldOrChanged g.D.Disk change v (shelf_view (record i { pair = q; blocks = b2; book = c.settle.new.self; damaged = i.damaged }))) c.self.view_is (λ lives images keeps. commit_left g.D.Disk g.met.D.Disk.whole g.met.D.Disk.counts_now g.met.D.Disk.only_now i inv w lasting rises p taken turn ready first b1 b2 q reads on on_too tells written.blocks log moments lives keeps images)

pub returns-in-Ok-write_turn-clause-durable : goal.returns-in-Ok-write_turn-clause-durable
returns-in-Ok-write_turn-clause-durable g c =
    let i = c.self.inside in
    let inv = c.self.invariant in
    let unbroken : (i.pair.broken || i.damaged) ≡ false = subst (λ (v : ShelfView _). v.broken ≡ false) (sym c.self.view_is) c.requires.whole in
    let w = inv.whole unbroken in
    let lasting = c.faults_of-before.ensures.lasting (or_parts i.pair.broken i.damaged unbroken).0 in
    let p = c.args.prepared.now in
    let ready_pair = c.turn_in.new.pair in
    let same : ready_pair ≡ record i.pair { spare = ready_pair.spare } = c.turn_in.ensures.pair in
    let b1 = c.turn_in.new.blocks in
    let reads = c.turn_in.ensures.reads in
    let change : List Live → List Live = commit_live p.job.metric p in
    let then = invariant_of-self-in-Ok-write_turn g c in
    let unbroken_still = ap (λ t. t || i.damaged) c.in-Ok-write_turn.ensures.whole ∙ (or_parts i.pair.broken i.damaged unbroken).1 in
    λ lives a b z keeps left left_too left_last. lasting_held g.D.Disk g.met.D.Disk.whole c.write_turn.new.pair c.write_turn.new.blocks c.settle.new.self.metrics then.role (then.told keeps.first keeps.second) (then.whole unbroken_still).are (then.whole unbroken_still).synced
    c.in-Ok-write_turn.ensures.lasting lives keeps.bytes a b z keeps.told keeps.held left left_too left_last

pub returns-in-Err-write_turn-clause-kept : goal.returns-in-Err-write_turn-clause-kept
returns-in-Err-write_turn-clause-kept g c =
    let i = c.self.inside in
    let inv = c.self.invariant in
    let unbroken : (i.pair.broken || i.damaged) ≡ false = subst (λ (v : ShelfView _). v.broken ≡ false) (sym c.self.view_is) c.requires.whole in
    let w = inv.whole unbroken in
    let lasting = c.faults_of-before.ensures.lasting (or_parts i.pair.broken i.damaged unbroken).0 in
    let p = c.args.prepared.now in
    let ready_pair = c.turn_in.new.pair in
    let same : ready_pair ≡ record i.pair { spare = ready_pair.spare } = c.turn_in.ensures.pair in
    let b1 = c.turn_in.new.blocks in
    let reads = c.turn_in.ensures.reads in
    let change : List Live → List Live = commit_live p.job.metric p in
    let metrics = i.book.metrics in
    let size = g.D.Disk.size i.blocks in
    let turn = c.in-Ok.turn in
    let taken = c.turn_in.new.book.taken in
    let ready = c.in-Ok.ensures.ready in
    let first = c.in-Ok.ensures.first in
    let rises = Rises_from_rising (map number_of metrics) c.metrics-ids.ensures.rising in
    let q = c.write_turn.new.pair in
    let b2 = c.write_turn.new.blocks in
    let first_same : is_some (g.D.Disk.told q.first) ≡ is_some (g.D.Disk.told i.pair.first) = g.met.D.Disk.came_tells 4 _ _ c.write_turn.ensures.came.0 ∙ ap (λ (x : PairView _). is_some (g.D.Disk.told x.first)) same in
    let second_same : is_some (g.D.Disk.told q.second) ≡ is_some (g.D.Disk.told i.pair.second) = g.met.D.Disk.came_tells 4 _ _ c.write_turn.ensures.came.1 ∙ ap (λ (x : PairView _). is_some (g.D.Disk.told x.second)) same in
    let written = c.write_turn.ensures.moments in
    let count = length turn.pieces.items + 1 in
    let on = g.met.D.Disk.came_goes_on 0 i.blocks b1 reads.came in
    let on_too = g.met.D.Disk.came_goes_on count b1 b2 c.write_turn.ensures.came.2 in
    let tells : is_some (g.D.Disk.told b2) ≡ is_some (g.D.Disk.told i.blocks) = g.met.D.Disk.came_tells count b1 b2 c.write_turn.ensures.came.2 ∙ ap is_some reads.told in
    let log = log_of ready_pair i.pair q ready_pair.spare (AreWritten g.D.Disk turn.pieces.items b1 b2) same written.log in
    let moments = subst (λ (x : PairView _). EachMoment g.D.Disk (pair_phases x q) (OfTwo (AreOldOrAdded x turn.body.items))) same written.moments in
    let now_is = c.release.ensures.metrics ∙ c.turn_in.ensures.metrics in (
      now_is ∙ ap (λ (v : ShelfView _). v.metrics) c.self.view_is,
      λ lives keeps. (let own : Keeps g.D.Disk (shelf_view i) lives = subst (λ (v : ShelfView _). Keeps g.D.Disk v lives) (sym c.self.view_is) keeps in
          let one = the_one (g.D.Disk.told b2) (tells ∙ ap is_some own.told) in
          record {
            bytes = one.0;
            first = first_same ∙ own.first;
            second = second_same ∙ own.second;
            told = one.1;
            held = subst (λ ms. HoldsMetrics one.0 ms lives) (sym now_is) (still_held g.D.Disk g.met.D.Disk.whole g.met.D.Disk.counts_now g.met.D.Disk.only_now i inv w lasting rises p taken turn ready first b1 b2 q reads on on_too tells written.blocks log moments own.bytes one.0 lives own.told one.1 c.write_turn.ensures.spared own.held);
          }),
    )

pub returns-in-Err-write_turn-clause-writes : goal.returns-in-Err-write_turn-clause-writes
returns-in-Err-write_turn-clause-writes g c =
    let i = c.self.inside in
    let inv = c.self.invariant in
    let unbroken : (i.pair.broken || i.damaged) ≡ false = subst (λ (v : ShelfView _). v.broken ≡ false) (sym c.self.view_is) c.requires.whole in
    let w = inv.whole unbroken in
    let lasting = c.faults_of-before.ensures.lasting (or_parts i.pair.broken i.damaged unbroken).0 in
    let p = c.args.prepared.now in
    let ready_pair = c.turn_in.new.pair in
    let same : ready_pair ≡ record i.pair { spare = ready_pair.spare } = c.turn_in.ensures.pair in
    let b1 = c.turn_in.new.blocks in
    let reads = c.turn_in.ensures.reads in
    let change : List Live → List Live = commit_live p.job.metric p in
    let metrics = i.book.metrics in
    let size = g.D.Disk.size i.blocks in
    let turn = c.in-Ok.turn in
    let taken = c.turn_in.new.book.taken in
    let ready = c.in-Ok.ensures.ready in
    let first = c.in-Ok.ensures.first in
    let rises = Rises_from_rising (map number_of metrics) c.metrics-ids.ensures.rising in
    let q = c.write_turn.new.pair in
    let b2 = c.write_turn.new.blocks in
    let first_same : is_some (g.D.Disk.told q.first) ≡ is_some (g.D.Disk.told i.pair.first) = g.met.D.Disk.came_tells 4 _ _ c.write_turn.ensures.came.0 ∙ ap (λ (x : PairView _). is_some (g.D.Disk.told x.first)) same in
    let second_same : is_some (g.D.Disk.told q.second) ≡ is_some (g.D.Disk.told i.pair.second) = g.met.D.Disk.came_tells 4 _ _ c.write_turn.ensures.came.1 ∙ ap (λ (x : PairView _). is_some (g.D.Disk.told x.second)) same in
    let n = length turn.pieces.items in
    let slots : AreSlotsOf (g.D.Disk.told i.blocks) i.book.metrics p n = record {
      metric = ready.metric;
      live = ready.live;
      made = ready.made;
      are = ready.are;
      chunks = ready.slots.chunks;
      enough = ready.slots.enough;
      slots_are = sym (length-map turn.pieces.items (λ (x : Piece). x.at)) ∙ ap length ready.turn_is.places ∙ ready.slots.long;
    } in
    let came = g.met.D.Disk.came_more (0 + (n + 1)) (n + 1) i.blocks b2 (omega arith) (g.met.D.Disk.came_then 0 (n + 1) i.blocks b1 b2 reads.came c.write_turn.ensures.came.2) in
    subst (λ (v : ShelfView _). WritesBlocks g.D.Disk v.metrics p v.blocks b2) c.self.view_is (some n slots came)

pub returns-in-Err-write_turn-clause-any_moment : goal.returns-in-Err-write_turn-clause-any_moment
returns-in-Err-write_turn-clause-any_moment g c =
    let i = c.self.inside in
    let inv = c.self.invariant in
    let unbroken : (i.pair.broken || i.damaged) ≡ false = subst (λ (v : ShelfView _). v.broken ≡ false) (sym c.self.view_is) c.requires.whole in
    let w = inv.whole unbroken in
    let lasting = c.faults_of-before.ensures.lasting (or_parts i.pair.broken i.damaged unbroken).0 in
    let p = c.args.prepared.now in
    let ready_pair = c.turn_in.new.pair in
    let same : ready_pair ≡ record i.pair { spare = ready_pair.spare } = c.turn_in.ensures.pair in
    let b1 = c.turn_in.new.blocks in
    let reads = c.turn_in.ensures.reads in
    let change : List Live → List Live = commit_live p.job.metric p in
    let metrics = i.book.metrics in
    let size = g.D.Disk.size i.blocks in
    let turn = c.in-Ok.turn in
    let taken = c.turn_in.new.book.taken in
    let ready = c.in-Ok.ensures.ready in
    let first = c.in-Ok.ensures.first in
    let rises = Rises_from_rising (map number_of metrics) c.metrics-ids.ensures.rising in
    let q = c.write_turn.new.pair in
    let b2 = c.write_turn.new.blocks in
    let first_same : is_some (g.D.Disk.told q.first) ≡ is_some (g.D.Disk.told i.pair.first) = g.met.D.Disk.came_tells 4 _ _ c.write_turn.ensures.came.0 ∙ ap (λ (x : PairView _). is_some (g.D.Disk.told x.first)) same in
    let second_same : is_some (g.D.Disk.told q.second) ≡ is_some (g.D.Disk.told i.pair.second) = g.met.D.Disk.came_tells 4 _ _ c.write_turn.ensures.came.1 ∙ ap (λ (x : PairView _). is_some (g.D.Disk.told x.second)) same in
    let written = c.write_turn.ensures.moments in
    let count = length turn.pieces.items + 1 in
    let on = g.met.D.Disk.came_goes_on 0 i.blocks b1 reads.came in
    let on_too = g.met.D.Disk.came_goes_on count b1 b2 c.write_turn.ensures.came.2 in
    let tells : is_some (g.D.Disk.told b2) ≡ is_some (g.D.Disk.told i.blocks) = g.met.D.Disk.came_tells count b1 b2 c.write_turn.ensures.came.2 ∙ ap is_some reads.told in
    let log = log_of ready_pair i.pair q ready_pair.spare (AreWritten g.D.Disk turn.pieces.items b1 b2) same written.log in
    let moments = subst (λ (x : PairView _). EachMoment g.D.Disk (pair_phases x q) (OfTwo (AreOldOrAdded x turn.body.items))) same written.moments in
    subst (λ (v : ShelfView _). IsOldOrChanged g.D.Disk change v (shelf_view (record i { pair = q; blocks = b2; book = c.release.new.self; damaged = true }))) c.self.view_is (commit_moments g.D.Disk g.met.D.Disk.whole g.met.D.Disk.counts_now g.met.D.Disk.only_now i inv w lasting rises p taken turn ready first b1 b2 q reads on on_too tells written.blocks log moments)

pub returns-in-Err-write_turn-clause-left : goal.returns-in-Err-write_turn-clause-left
returns-in-Err-write_turn-clause-left g c =
    let i = c.self.inside in
    let inv = c.self.invariant in
    let unbroken : (i.pair.broken || i.damaged) ≡ false = subst (λ (v : ShelfView _). v.broken ≡ false) (sym c.self.view_is) c.requires.whole in
    let w = inv.whole unbroken in
    let lasting = c.faults_of-before.ensures.lasting (or_parts i.pair.broken i.damaged unbroken).0 in
    let p = c.args.prepared.now in
    let ready_pair = c.turn_in.new.pair in
    let same : ready_pair ≡ record i.pair { spare = ready_pair.spare } = c.turn_in.ensures.pair in
    let b1 = c.turn_in.new.blocks in
    let reads = c.turn_in.ensures.reads in
    let change : List Live → List Live = commit_live p.job.metric p in
    let metrics = i.book.metrics in
    let size = g.D.Disk.size i.blocks in
    let turn = c.in-Ok.turn in
    let taken = c.turn_in.new.book.taken in
    let ready = c.in-Ok.ensures.ready in
    let first = c.in-Ok.ensures.first in
    let rises = Rises_from_rising (map number_of metrics) c.metrics-ids.ensures.rising in
    let q = c.write_turn.new.pair in
    let b2 = c.write_turn.new.blocks in
    let first_same : is_some (g.D.Disk.told q.first) ≡ is_some (g.D.Disk.told i.pair.first) = g.met.D.Disk.came_tells 4 _ _ c.write_turn.ensures.came.0 ∙ ap (λ (x : PairView _). is_some (g.D.Disk.told x.first)) same in
    let second_same : is_some (g.D.Disk.told q.second) ≡ is_some (g.D.Disk.told i.pair.second) = g.met.D.Disk.came_tells 4 _ _ c.write_turn.ensures.came.1 ∙ ap (λ (x : PairView _). is_some (g.D.Disk.told x.second)) same in
    let written = c.write_turn.ensures.moments in
    let count = length turn.pieces.items + 1 in
    let on = g.met.D.Disk.came_goes_on 0 i.blocks b1 reads.came in
    let on_too = g.met.D.Disk.came_goes_on count b1 b2 c.write_turn.ensures.came.2 in
    let tells : is_some (g.D.Disk.told b2) ≡ is_some (g.D.Disk.told i.blocks) = g.met.D.Disk.came_tells count b1 b2 c.write_turn.ensures.came.2 ∙ ap is_some reads.told in
    let log = log_of ready_pair i.pair q ready_pair.spare (AreWritten g.D.Disk turn.pieces.items b1 b2) same written.log in
    let moments = subst (λ (x : PairView _). EachMoment g.D.Disk (pair_phases x q) (OfTwo (AreOldOrAdded x turn.body.items))) same written.moments in
    subst (λ (v : ShelfView _). LeavesOldOrChanged g.D.Disk change v (shelf_view (record i { pair = q; blocks = b2; book = c.release.new.self; damaged = true }))) c.self.view_is (λ lives images keeps. commit_left g.D.Disk g.met.D.Disk.whole g.met.D.Disk.counts_now g.met.D.Disk.only_now i inv w lasting rises p taken turn ready first b1 b2 q reads on on_too tells written.blocks log moments lives keeps images)

pub returns-in-Err-write_turn-clause-cause : goal.returns-in-Err-write_turn-clause-cause
returns-in-Err-write_turn-clause-cause g c =
    let i = c.self.inside in
    let inv = c.self.invariant in
    let unbroken : (i.pair.broken || i.damaged) ≡ false = subst (λ (v : ShelfView _). v.broken ≡ false) (sym c.self.view_is) c.requires.whole in
    let w = inv.whole unbroken in
    let lasting = c.faults_of-before.ensures.lasting (or_parts i.pair.broken i.damaged unbroken).0 in
    let p = c.args.prepared.now in
    let ready_pair = c.turn_in.new.pair in
    let same : ready_pair ≡ record i.pair { spare = ready_pair.spare } = c.turn_in.ensures.pair in
    let b1 = c.turn_in.new.blocks in
    let reads = c.turn_in.ensures.reads in
    let change : List Live → List Live = commit_live p.job.metric p in
    let metrics = i.book.metrics in
    let size = g.D.Disk.size i.blocks in
    let turn = c.in-Ok.turn in
    let taken = c.turn_in.new.book.taken in
    let ready = c.in-Ok.ensures.ready in
    let first = c.in-Ok.ensures.first in
    let rises = Rises_from_rising (map number_of metrics) c.metrics-ids.ensures.rising in
    let q = c.write_turn.new.pair in
    let b2 = c.write_turn.new.blocks in
    let first_same : is_some (g.D.Disk.told q.first) ≡ is_some (g.D.Disk.told i.pair.first) = g.met.D.Disk.came_tells 4 _ _ c.write_turn.ensures.came.0 ∙ ap (λ (x : PairView _). is_some (g.D.Disk.told x.first)) same in
    let second_same : is_some (g.D.Disk.told q.second) ≡ is_some (g.D.Disk.told i.pair.second) = g.met.D.Disk.came_tells 4 _ _ c.write_turn.ensures.came.1 ∙ ap (λ (x : PairView _). is_some (g.D.Disk.told x.second)) same in
    let rose = c.in-Err-write_turn.ensures.cause.rose in
    let later = g.met.D.Disk.came_later 0 i.blocks b1 reads.came in
    subst (λ (v : ShelfView _). IsCause g.D.Disk (HasOddSplits v.metrics p.job.metric) v (shelf_view (record i { pair = q; blocks = b2; book = c.release.new.self; damaged = true })) (MountDisk (record { before = c.faults_of-before.result; after = c.faults_of-after-in-Err-write_turn.result }))) c.self.view_is
    (record {
      fault = record {
        before_is = c.faults_of-before.ensures.count;
        after_is = c.faults_of-after-in-Err-write_turn.ensures.count;
        rose = record { rose = omega (arith, rose, later, ap (λ (x : PairView _). g.D.Disk.faults x.first) same, ap (λ (x : PairView _). g.D.Disk.faults x.second) same) };
      };
      broken = or_true q.broken;
    })

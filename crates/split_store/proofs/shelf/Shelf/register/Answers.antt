use Rattle.std.proofs.Common.{◌≡◌, ◌||◌, ℕ, [], List, false, map, refl, sym, ap, subst, ◌∙◌, arith}
use Rattle.std.specs.List.{All}
use Rattle.std.specs.Option.{IfSome, IsSome, is_some}
use Rattle.std.proofs.lemmas.Bool.{or_parts}
use Rattle.gno_disk.specs.Phases.{AtExit, EachMoment}
use Rattle.gno_codec.specs.declared.item.ShelfItem.{ShelfItem}
use Rattle.gno_codec.specs.declared.item.ShelfItem.TheVariants as items
use Rattle.gno_codec.specs.Shelf.{IsShelf}
use Rattle.log_pair.specs.PairView.{AreOldOrAdded, OfTwo, PairView, pair_phases}
use Rattle.series_model.proofs.Rising.{Rises_from_rising}
use Rattle.sack_history.specs.Scratch.{with_live}
use Rattle.split_update.specs.Live.{Live, live_from_scratch}
use Rattle.shelf_records.specs.Shelved.{AreBlocks, MayFollow, Shelved, after_record}
use Rattle.shelf_blocks.specs.Blocks.{HoldsMetrics}
use Rattle.split_store.specs.Inside.{shelf_view}
use Rattle.split_store.specs.Loading.{AreRecordsOf, IsSound}
use Rattle.split_store.specs.ShelfView.{IsOldOrChanged, Keeps, LeavesOldOrChanged, ShelfView}
use Rattle.split_store.proofs.Adding.{added_are, added_told, logged_left, logged_moments}
use Rattle.split_store.proofs.Held.{lasting_held}
use Rattle.split_store.proofs.Registered.{register_held}
use Rattle.split_store.proofs.Seen.{read_lasting, reserved_seen, seen_left, seen_moments}
use Rattle.split_store.proofs.Sound.{number_of, sound_after}
use Rattle.split_store.proofs.Using.{more_blocks}
use Rattle.split_store.proofs.shelf.Shelf.register.Goals as goal

pub returns-in-Err-clause-came : goal.returns-in-Err-clause-came
returns-in-Err-clause-came g c =
    let i = c.self.inside in
    let inv = c.self.invariant in
    let unbroken : (i.pair.broken || i.damaged) ≡ false = subst (λ (v : ShelfView _). v.broken ≡ false) (sym c.self.view_is) c.requires.whole in
    let w = inv.whole unbroken in
    let lasting = c.faults_of-before.ensures.lasting (or_parts i.pair.broken i.damaged unbroken).0 in
    let reserved = c.prepare_register.new.pair in
    let same : reserved ≡ record i.pair { spare = reserved.spare } = c.prepare_register.ensures.pair in (
      subst (λ (v : ShelfView _). g.D.Disk.came 4 v.first reserved.first) c.self.view_is (subst (λ (p : PairView _). g.D.Disk.came 4 i.pair.first p.first) (sym same) (g.met.D.Disk.came_more 0 4 _ _ (omega arith) (g.met.D.Disk.came_none i.pair.first))),
      subst (λ (v : ShelfView _). g.D.Disk.came 4 v.second reserved.second) c.self.view_is (subst (λ (p : PairView _). g.D.Disk.came 4 i.pair.second p.second) (sym same) (g.met.D.Disk.came_more 0 4 _ _ (omega arith) (g.met.D.Disk.came_none i.pair.second))),
    )

pub returns-in-Err-clause-any_moment : goal.returns-in-Err-clause-any_moment
returns-in-Err-clause-any_moment g c =
    let i = c.self.inside in
    let inv = c.self.invariant in
    let unbroken : (i.pair.broken || i.damaged) ≡ false = subst (λ (v : ShelfView _). v.broken ≡ false) (sym c.self.view_is) c.requires.whole in
    let w = inv.whole unbroken in
    let lasting = c.faults_of-before.ensures.lasting (or_parts i.pair.broken i.damaged unbroken).0 in
    let reserved = c.prepare_register.new.pair in
    let same : reserved ≡ record i.pair { spare = reserved.spare } = c.prepare_register.ensures.pair in
    let seen = reserved_seen g.D.Disk g.met.D.Disk.only_now g.met.D.Disk.came_none i reserved c.prepare_register.new.book reserved.spare same c.prepare_register.ensures.book.0 in
    let old = read_lasting g.D.Disk g.met.D.Disk.whole i i.blocks i.damaged inv seen.blocks w lasting in
    let new = shelf_view (record i { pair = reserved; book = c.prepare_register.new.book }) in
    let change : List Live → List Live = with_live (live_from_scratch c.args.metric c.args.policy.now c.args.done []) in
    subst (λ (v : ShelfView _). IsOldOrChanged g.D.Disk change v new) c.self.view_is (seen_moments g.D.Disk g.met.D.Disk.only_now change (shelf_view i) new seen (omega arith) old)

pub returns-in-Err-clause-left : goal.returns-in-Err-clause-left
returns-in-Err-clause-left g c =
    let i = c.self.inside in
    let inv = c.self.invariant in
    let unbroken : (i.pair.broken || i.damaged) ≡ false = subst (λ (v : ShelfView _). v.broken ≡ false) (sym c.self.view_is) c.requires.whole in
    let w = inv.whole unbroken in
    let lasting = c.faults_of-before.ensures.lasting (or_parts i.pair.broken i.damaged unbroken).0 in
    let reserved = c.prepare_register.new.pair in
    let same : reserved ≡ record i.pair { spare = reserved.spare } = c.prepare_register.ensures.pair in
    let seen = reserved_seen g.D.Disk g.met.D.Disk.only_now g.met.D.Disk.came_none i reserved c.prepare_register.new.book reserved.spare same c.prepare_register.ensures.book.0 in
    let old = read_lasting g.D.Disk g.met.D.Disk.whole i i.blocks i.damaged inv seen.blocks w lasting in
    let new = shelf_view (record i { pair = reserved; book = c.prepare_register.new.book }) in
    let change : List Live → List Live = with_live (live_from_scratch c.args.metric c.args.policy.now c.args.done []) in
    subst (λ (v : ShelfView _). LeavesOldOrChanged g.D.Disk change v new) c.self.view_is (seen_left g.D.Disk change (shelf_view i) new seen old)

pub invariant_of-self-in-Ok-write_record : goal.invariant_of-self-in-Ok-write_record
invariant_of-self-in-Ok-write_record g c =
    let i = c.self.inside in
    let inv = c.self.invariant in
    let unbroken : (i.pair.broken || i.damaged) ≡ false = subst (λ (v : ShelfView _). v.broken ≡ false) (sym c.self.view_is) c.requires.whole in
    let w = inv.whole unbroken in
    let lasting = c.faults_of-before.ensures.lasting (or_parts i.pair.broken i.damaged unbroken).0 in
    let reserved = c.prepare_register.new.pair in
    let same : reserved ≡ record i.pair { spare = reserved.spare } = c.prepare_register.ensures.pair in
    let size = g.D.Disk.size i.blocks in
    let metrics = i.book.metrics in
    let item : ShelfItem = items.Register c.args.metric c.args.done c.args.policy.now in
    let change : List Live → List Live = with_live (live_from_scratch c.args.metric c.args.policy.now c.args.done []) in
    let follows : MayFollow metrics item = subst (λ (v : ShelfView _). MayFollow v.metrics item) (sym c.self.view_is) c.requires.absent in
    let spelled = c.deref.ensures.value ∙ c.in-Ok.ensures.body.0 in
    let shelf : IsShelf item = c.in-Ok.ensures.body.1 in
    let blocks : AreBlocks size (after_record metrics item) = more_blocks c.args.metric c.args.done c.args.policy.now size metrics (Rises_from_rising (map number_of metrics) c.prepare_register.ensures.rising) follows w.blocks in
    let made : (z : List ℕ) (lives : List Live) → HoldsMetrics z metrics lives → HoldsMetrics z (after_record metrics item) (change lives) = λ z lives held. register_held z c.args.policy.now c.args.metric c.args.done metrics lives held in
    let q = c.write_record.new.pair in
    let body = c.deref.result.now in
    let first : is_some (g.D.Disk.told q.first) ≡ is_some (g.D.Disk.told i.pair.first) = g.met.D.Disk.came_tells 4 _ _ c.write_record.ensures.came.0 ∙ ap (λ (p : PairView _). is_some (g.D.Disk.told p.first)) same in
    let second : is_some (g.D.Disk.told q.second) ≡ is_some (g.D.Disk.told i.pair.second) = g.met.D.Disk.came_tells 4 _ _ c.write_record.ensures.came.1 ∙ ap (λ (p : PairView _). is_some (g.D.Disk.told p.second)) same in
    let new_is : c.register.new.self.metrics ≡ after_record metrics item = c.register.ensures.metrics ∙ ap (λ (f : Shelved). after_record c.prepare_register.new.book.metrics (items.Register f.id f.done f.policy)) c.in-Ok.ensures.filed ∙ ap (λ (ms : List Shelved). after_record ms item) c.prepare_register.ensures.book.0 in
    record {
      role = ap (λ p. p.role) c.write_record.ensures.same.0 ∙ ap (λ (p : PairView _). p.place.role) same ∙ inv.role;
      told = λ is is_too. added_told reserved.records q.records body c.in-Ok-write_record.ensures.added (subst (λ (p : PairView _). IsSome p.records) (sym same) (inv.told (sym first ∙ is) (sym second ∙ is_too)));
      free = c.register.ensures.taken ∙ c.prepare_register.ensures.book.1 ∙ inv.free;
      whole = λ _. record {
        are = added_are size size metrics c.register.new.self.metrics reserved.records q.records body item c.in-Ok-write_record.ensures.added (omega arith)
            (subst (λ (p : PairView _). IfSome p.records (AreRecordsOf size metrics)) (sym same) w.are) shelf spelled follows (subst (AreBlocks size) (sym new_is) blocks) new_is;
        sound = subst (All IsSound) (sym new_is) (sound_after metrics item c.prepare_register.ensures.rising w.sound follows);
        blocks = subst (AreBlocks size) (sym new_is) blocks;
        synced = w.synced;
      };
    }

pub returns-in-Ok-write_record-clause-changed : goal.returns-in-Ok-write_record-clause-changed
returns-in-Ok-write_record-clause-changed g c =
    let i = c.self.inside in
    let inv = c.self.invariant in
    let unbroken : (i.pair.broken || i.damaged) ≡ false = subst (λ (v : ShelfView _). v.broken ≡ false) (sym c.self.view_is) c.requires.whole in
    let w = inv.whole unbroken in
    let lasting = c.faults_of-before.ensures.lasting (or_parts i.pair.broken i.damaged unbroken).0 in
    let reserved = c.prepare_register.new.pair in
    let same : reserved ≡ record i.pair { spare = reserved.spare } = c.prepare_register.ensures.pair in
    let size = g.D.Disk.size i.blocks in
    let metrics = i.book.metrics in
    let item : ShelfItem = items.Register c.args.metric c.args.done c.args.policy.now in
    let change : List Live → List Live = with_live (live_from_scratch c.args.metric c.args.policy.now c.args.done []) in
    let follows : MayFollow metrics item = subst (λ (v : ShelfView _). MayFollow v.metrics item) (sym c.self.view_is) c.requires.absent in
    let spelled = c.deref.ensures.value ∙ c.in-Ok.ensures.body.0 in
    let shelf : IsShelf item = c.in-Ok.ensures.body.1 in
    let blocks : AreBlocks size (after_record metrics item) = more_blocks c.args.metric c.args.done c.args.policy.now size metrics (Rises_from_rising (map number_of metrics) c.prepare_register.ensures.rising) follows w.blocks in
    let made : (z : List ℕ) (lives : List Live) → HoldsMetrics z metrics lives → HoldsMetrics z (after_record metrics item) (change lives) = λ z lives held. register_held z c.args.policy.now c.args.metric c.args.done metrics lives held in
    let q = c.write_record.new.pair in
    let body = c.deref.result.now in
    let first : is_some (g.D.Disk.told q.first) ≡ is_some (g.D.Disk.told i.pair.first) = g.met.D.Disk.came_tells 4 _ _ c.write_record.ensures.came.0 ∙ ap (λ (p : PairView _). is_some (g.D.Disk.told p.first)) same in
    let second : is_some (g.D.Disk.told q.second) ≡ is_some (g.D.Disk.told i.pair.second) = g.met.D.Disk.came_tells 4 _ _ c.write_record.ensures.came.1 ∙ ap (λ (p : PairView _). is_some (g.D.Disk.told p.second)) same in
    let new_is : c.register.new.self.metrics ≡ after_record metrics item = c.register.ensures.metrics ∙ ap (λ (f : Shelved). after_record c.prepare_register.new.book.metrics (items.Register f.id f.done f.policy)) c.in-Ok.ensures.filed ∙ ap (λ (ms : List Shelved). after_record ms item) c.prepare_register.ensures.book.0 in
    λ lives keeps.
    let own : Keeps g.D.Disk (shelf_view i) lives = subst (λ (v : ShelfView _). Keeps g.D.Disk v lives) (sym c.self.view_is) keeps in
    record {
      bytes = own.bytes;
      first = first ∙ own.first;
      second = second ∙ own.second;
      told = own.told;
      held = subst (λ ms. HoldsMetrics own.bytes ms (change lives)) (sym new_is) (made own.bytes lives own.held);
    }

pub returns-in-Ok-write_record-clause-any_moment : goal.returns-in-Ok-write_record-clause-any_moment
returns-in-Ok-write_record-clause-any_moment g c =
    let i = c.self.inside in
    let inv = c.self.invariant in
    let unbroken : (i.pair.broken || i.damaged) ≡ false = subst (λ (v : ShelfView _). v.broken ≡ false) (sym c.self.view_is) c.requires.whole in
    let w = inv.whole unbroken in
    let lasting = c.faults_of-before.ensures.lasting (or_parts i.pair.broken i.damaged unbroken).0 in
    let reserved = c.prepare_register.new.pair in
    let same : reserved ≡ record i.pair { spare = reserved.spare } = c.prepare_register.ensures.pair in
    let size = g.D.Disk.size i.blocks in
    let metrics = i.book.metrics in
    let item : ShelfItem = items.Register c.args.metric c.args.done c.args.policy.now in
    let change : List Live → List Live = with_live (live_from_scratch c.args.metric c.args.policy.now c.args.done []) in
    let follows : MayFollow metrics item = subst (λ (v : ShelfView _). MayFollow v.metrics item) (sym c.self.view_is) c.requires.absent in
    let spelled = c.deref.ensures.value ∙ c.in-Ok.ensures.body.0 in
    let shelf : IsShelf item = c.in-Ok.ensures.body.1 in
    let blocks : AreBlocks size (after_record metrics item) = more_blocks c.args.metric c.args.done c.args.policy.now size metrics (Rises_from_rising (map number_of metrics) c.prepare_register.ensures.rising) follows w.blocks in
    let made : (z : List ℕ) (lives : List Live) → HoldsMetrics z metrics lives → HoldsMetrics z (after_record metrics item) (change lives) = λ z lives held. register_held z c.args.policy.now c.args.metric c.args.done metrics lives held in
    let q = c.write_record.new.pair in
    let body = c.deref.result.now in
    let moments = subst (λ (p : PairView _). EachMoment g.D.Disk (pair_phases p q) (OfTwo (AreOldOrAdded p body))) same c.write_record.ensures.any_moment in
    subst (λ (v : ShelfView _). IsOldOrChanged g.D.Disk change v (shelf_view (record i { pair = q; book = c.register.new.self }))) c.self.view_is
    (λ lives keeps. logged_moments g.D.Disk g.met.D.Disk.whole g.met.D.Disk.counts_now g.met.D.Disk.only_now i q body item (after_record metrics item) change inv w lasting shelf spelled follows blocks refl made lives keeps moments)

pub returns-in-Ok-write_record-clause-left : goal.returns-in-Ok-write_record-clause-left
returns-in-Ok-write_record-clause-left g c =
    let i = c.self.inside in
    let inv = c.self.invariant in
    let unbroken : (i.pair.broken || i.damaged) ≡ false = subst (λ (v : ShelfView _). v.broken ≡ false) (sym c.self.view_is) c.requires.whole in
    let w = inv.whole unbroken in
    let lasting = c.faults_of-before.ensures.lasting (or_parts i.pair.broken i.damaged unbroken).0 in
    let reserved = c.prepare_register.new.pair in
    let same : reserved ≡ record i.pair { spare = reserved.spare } = c.prepare_register.ensures.pair in
    let size = g.D.Disk.size i.blocks in
    let metrics = i.book.metrics in
    let item : ShelfItem = items.Register c.args.metric c.args.done c.args.policy.now in
    let change : List Live → List Live = with_live (live_from_scratch c.args.metric c.args.policy.now c.args.done []) in
    let follows : MayFollow metrics item = subst (λ (v : ShelfView _). MayFollow v.metrics item) (sym c.self.view_is) c.requires.absent in
    let spelled = c.deref.ensures.value ∙ c.in-Ok.ensures.body.0 in
    let shelf : IsShelf item = c.in-Ok.ensures.body.1 in
    let blocks : AreBlocks size (after_record metrics item) = more_blocks c.args.metric c.args.done c.args.policy.now size metrics (Rises_from_rising (map number_of metrics) c.prepare_register.ensures.rising) follows w.blocks in
    let made : (z : List ℕ) (lives : List Live) → HoldsMetrics z metrics lives → HoldsMetrics z (after_record metrics item) (change lives) = λ z lives held. register_held z c.args.policy.now c.args.metric c.args.done metrics lives held in
    let q = c.write_record.new.pair in
    let body = c.deref.result.now in
    let left = subst (λ (p : PairView _). (images : List (List ℕ)) → AtExit g.D.Disk (pair_phases p q) images → OfTwo (AreOldOrAdded p body) images) same c.write_record.ensures.left in
    subst (λ (v : ShelfView _). LeavesOldOrChanged g.D.Disk change v (shelf_view (record i { pair = q; book = c.register.new.self }))) c.self.view_is
    (λ lives images keeps at. logged_left g.D.Disk g.met.D.Disk.whole g.met.D.Disk.counts_now g.met.D.Disk.only_now i q body item (after_record metrics item) change inv w lasting shelf spelled follows blocks refl made lives keeps left images at)

pub returns-in-Ok-write_record-clause-durable : goal.returns-in-Ok-write_record-clause-durable
returns-in-Ok-write_record-clause-durable g c =
    let i = c.self.inside in
    let inv = c.self.invariant in
    let unbroken : (i.pair.broken || i.damaged) ≡ false = subst (λ (v : ShelfView _). v.broken ≡ false) (sym c.self.view_is) c.requires.whole in
    let w = inv.whole unbroken in
    let lasting = c.faults_of-before.ensures.lasting (or_parts i.pair.broken i.damaged unbroken).0 in
    let reserved = c.prepare_register.new.pair in
    let same : reserved ≡ record i.pair { spare = reserved.spare } = c.prepare_register.ensures.pair in
    let then = invariant_of-self-in-Ok-write_record g c in
    let unbroken_still = ap (λ t. t || i.damaged) c.in-Ok-write_record.ensures.whole ∙ (or_parts i.pair.broken i.damaged unbroken).1 in
    λ lives a b z keeps left left_too left_last. lasting_held g.D.Disk g.met.D.Disk.whole c.write_record.new.pair i.blocks c.register.new.self.metrics then.role (then.told keeps.first keeps.second) (then.whole unbroken_still).are (then.whole unbroken_still).synced
    c.in-Ok-write_record.ensures.durable lives keeps.bytes a b z keeps.told keeps.held left left_too left_last

pub invariant_of-self-in-Err-write_record : goal.invariant_of-self-in-Err-write_record
invariant_of-self-in-Err-write_record g c =
    let i = c.self.inside in
    let inv = c.self.invariant in
    let unbroken : (i.pair.broken || i.damaged) ≡ false = subst (λ (v : ShelfView _). v.broken ≡ false) (sym c.self.view_is) c.requires.whole in
    let w = inv.whole unbroken in
    let lasting = c.faults_of-before.ensures.lasting (or_parts i.pair.broken i.damaged unbroken).0 in
    let reserved = c.prepare_register.new.pair in
    let same : reserved ≡ record i.pair { spare = reserved.spare } = c.prepare_register.ensures.pair in
    let q = c.write_record.new.pair in
    let first : is_some (g.D.Disk.told q.first) ≡ is_some (g.D.Disk.told i.pair.first) = g.met.D.Disk.came_tells 4 _ _ c.write_record.ensures.came.0 ∙ ap (λ (p : PairView _). is_some (g.D.Disk.told p.first)) same in
    let second : is_some (g.D.Disk.told q.second) ≡ is_some (g.D.Disk.told i.pair.second) = g.met.D.Disk.came_tells 4 _ _ c.write_record.ensures.came.1 ∙ ap (λ (p : PairView _). is_some (g.D.Disk.told p.second)) same in
    record {
      role = ap (λ p. p.role) c.write_record.ensures.same.0 ∙ ap (λ (p : PairView _). p.place.role) same ∙ inv.role;
      told = λ is is_too. subst IsSome (sym c.in-Err-write_record.ensures.kept) (subst (λ (p : PairView _). IsSome p.records) (sym same) (inv.told (sym first ∙ is) (sym second ∙ is_too)));
      free = c.prepare_register.ensures.book.1 ∙ inv.free;
      whole = λ fine. (let no = (or_parts q.broken i.damaged fine).0 in let yes = c.in-Err-write_record.ensures.broken in absurd cc);
    }

pub returns-clause-kept : goal.returns-clause-kept
returns-clause-kept g c =
    let i = c.self.inside in
    let inv = c.self.invariant in
    let unbroken : (i.pair.broken || i.damaged) ≡ false = subst (λ (v : ShelfView _). v.broken ≡ false) (sym c.self.view_is) c.requires.whole in
    let w = inv.whole unbroken in
    let lasting = c.faults_of-before.ensures.lasting (or_parts i.pair.broken i.damaged unbroken).0 in
    let reserved = c.prepare_register.new.pair in
    let same : reserved ≡ record i.pair { spare = reserved.spare } = c.prepare_register.ensures.pair in
    let q = c.write_record.new.pair in
    let first : is_some (g.D.Disk.told q.first) ≡ is_some (g.D.Disk.told i.pair.first) = g.met.D.Disk.came_tells 4 _ _ c.write_record.ensures.came.0 ∙ ap (λ (p : PairView _). is_some (g.D.Disk.told p.first)) same in
    let second : is_some (g.D.Disk.told q.second) ≡ is_some (g.D.Disk.told i.pair.second) = g.met.D.Disk.came_tells 4 _ _ c.write_record.ensures.came.1 ∙ ap (λ (p : PairView _). is_some (g.D.Disk.told p.second)) same in (
      c.prepare_register.ensures.book.0 ∙ ap (λ (v : ShelfView _). v.metrics) c.self.view_is,
      λ lives keeps. (let own : Keeps g.D.Disk (shelf_view i) lives = subst (λ (v : ShelfView _). Keeps g.D.Disk v lives) (sym c.self.view_is) keeps in
          record {
            bytes = own.bytes;
            first = first ∙ own.first;
            second = second ∙ own.second;
            told = own.told;
            held = subst (λ ms. HoldsMetrics own.bytes ms lives) (sym c.prepare_register.ensures.book.0) own.held;
          }),
    )

pub returns-clause-any_moment : goal.returns-clause-any_moment
returns-clause-any_moment g c =
    let i = c.self.inside in
    let inv = c.self.invariant in
    let unbroken : (i.pair.broken || i.damaged) ≡ false = subst (λ (v : ShelfView _). v.broken ≡ false) (sym c.self.view_is) c.requires.whole in
    let w = inv.whole unbroken in
    let lasting = c.faults_of-before.ensures.lasting (or_parts i.pair.broken i.damaged unbroken).0 in
    let reserved = c.prepare_register.new.pair in
    let same : reserved ≡ record i.pair { spare = reserved.spare } = c.prepare_register.ensures.pair in
    let size = g.D.Disk.size i.blocks in
    let metrics = i.book.metrics in
    let item : ShelfItem = items.Register c.args.metric c.args.done c.args.policy.now in
    let change : List Live → List Live = with_live (live_from_scratch c.args.metric c.args.policy.now c.args.done []) in
    let follows : MayFollow metrics item = subst (λ (v : ShelfView _). MayFollow v.metrics item) (sym c.self.view_is) c.requires.absent in
    let spelled = c.deref.ensures.value ∙ c.in-Ok.ensures.body.0 in
    let shelf : IsShelf item = c.in-Ok.ensures.body.1 in
    let blocks : AreBlocks size (after_record metrics item) = more_blocks c.args.metric c.args.done c.args.policy.now size metrics (Rises_from_rising (map number_of metrics) c.prepare_register.ensures.rising) follows w.blocks in
    let made : (z : List ℕ) (lives : List Live) → HoldsMetrics z metrics lives → HoldsMetrics z (after_record metrics item) (change lives) = λ z lives held. register_held z c.args.policy.now c.args.metric c.args.done metrics lives held in
    let q = c.write_record.new.pair in
    let body = c.deref.result.now in
    let moments = subst (λ (p : PairView _). EachMoment g.D.Disk (pair_phases p q) (OfTwo (AreOldOrAdded p body))) same c.write_record.ensures.any_moment in
    subst (λ (v : ShelfView _). IsOldOrChanged g.D.Disk change v (shelf_view (record i { pair = q; book = c.prepare_register.new.book }))) c.self.view_is
    (λ lives keeps. logged_moments g.D.Disk g.met.D.Disk.whole g.met.D.Disk.counts_now g.met.D.Disk.only_now i q body item (after_record metrics item) change inv w lasting shelf spelled follows blocks refl made lives keeps moments)

pub returns-clause-left : goal.returns-clause-left
returns-clause-left g c =
    let i = c.self.inside in
    let inv = c.self.invariant in
    let unbroken : (i.pair.broken || i.damaged) ≡ false = subst (λ (v : ShelfView _). v.broken ≡ false) (sym c.self.view_is) c.requires.whole in
    let w = inv.whole unbroken in
    let lasting = c.faults_of-before.ensures.lasting (or_parts i.pair.broken i.damaged unbroken).0 in
    let reserved = c.prepare_register.new.pair in
    let same : reserved ≡ record i.pair { spare = reserved.spare } = c.prepare_register.ensures.pair in
    let size = g.D.Disk.size i.blocks in
    let metrics = i.book.metrics in
    let item : ShelfItem = items.Register c.args.metric c.args.done c.args.policy.now in
    let change : List Live → List Live = with_live (live_from_scratch c.args.metric c.args.policy.now c.args.done []) in
    let follows : MayFollow metrics item = subst (λ (v : ShelfView _). MayFollow v.metrics item) (sym c.self.view_is) c.requires.absent in
    let spelled = c.deref.ensures.value ∙ c.in-Ok.ensures.body.0 in
    let shelf : IsShelf item = c.in-Ok.ensures.body.1 in
    let blocks : AreBlocks size (after_record metrics item) = more_blocks c.args.metric c.args.done c.args.policy.now size metrics (Rises_from_rising (map number_of metrics) c.prepare_register.ensures.rising) follows w.blocks in
    let made : (z : List ℕ) (lives : List Live) → HoldsMetrics z metrics lives → HoldsMetrics z (after_record metrics item) (change lives) = λ z lives held. register_held z c.args.policy.now c.args.metric c.args.done metrics lives held in
    let q = c.write_record.new.pair in
    let body = c.deref.result.now in
    let left = subst (λ (p : PairView _). (images : List (List ℕ)) → AtExit g.D.Disk (pair_phases p q) images → OfTwo (AreOldOrAdded p body) images) same c.write_record.ensures.left in
    subst (λ (v : ShelfView _). LeavesOldOrChanged g.D.Disk change v (shelf_view (record i { pair = q; book = c.prepare_register.new.book }))) c.self.view_is
    (λ lives images keeps at. logged_left g.D.Disk g.met.D.Disk.whole g.met.D.Disk.counts_now g.met.D.Disk.only_now i q body item (after_record metrics item) change inv w lasting shelf spelled follows blocks refl made lives keeps left images at)

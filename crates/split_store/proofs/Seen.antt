-- A shelf whose blocks were read.
use Rattle.std.proofs.Common.{◌≡◌, inl, inr, ℕ, ◌≤◌, length, Bool, true, false, List, [], ◌∷◌, Option, Some, None, option_map, refl, sym, ap, subst, ◌∙◌, arith}
use Rattle.std.specs.Bool.{⊤}
use Rattle.std.specs.Option.{IfSome, IsSome}
use Rattle.gno_disk.specs.Disk.{NoMore, Only}
use Rattle.gno_disk.specs.Phases.{AtEntry, AtExit, IsUnwritten, phase}
use Rattle.gno_disk.specs.declared.disk.Disk.{Ghosts}
use Rattle.gno_disk.proofs.PhaseLemmas.{AtMoment-unwritten}
use Rattle.gno_num.specs.Faults.{Rose}
use Rattle.gate_log.specs.LogView.{MatchMountFault}
use Rattle.gate_log.specs.declared.fault.MountFault.{MountFault}
use Rattle.gate_log.specs.declared.fault.MountFault.TheVariants.{DiskFault as MountDisk, Damaged as MountDamaged, Memory as MountMemory}
use Rattle.split_update.specs.Live.{Live}
use Rattle.log_pair.specs.PairView.{IsLastingPair, PairView}
use Rattle.block_slots.specs.Reads.{IsReadOnly}
use Rattle.shelf_records.specs.Book.{BookView}
use Rattle.shelf_blocks.specs.BlockFaults.{MatchBlockFault}
use Rattle.shelf_blocks.specs.declared.fault.BlockFault.{BlockFault}
use Rattle.shelf_blocks.specs.declared.fault.BlockFault.TheVariants as block_fault
use Rattle.split_store.specs.declared.shelf.Shelf.TheInside.{Inside}
use Rattle.split_store.specs.Inside.{IsWhole, KeepsShelf, shelf_view}
use Rattle.shelf_records.specs.Shelved.{AreBlocks, Shelved, metric_of}
use Rattle.archive_policy.specs.declared.definition.Definition.{Definition}
use Rattle.series_model.proofs.Members.{Contains-cases, Contains-none}
use Rattle.std.proofs.lemmas.Option.{same_Some}
use Rattle.std.specs.List.{AllZip, Contains}
use Rattle.shelf_blocks.specs.Blocks.{HoldsMetrics, HoldsRaw, HoldsSplit, HoldsSplits}
use Rattle.archive_policy.specs.declared.kind.Kind.{Kind}
use Rattle.series_model.specs.declared.metric.MetricId.{MetricId}
use Rattle.series_model.specs.declared.point.Split.{Split}
use Rattle.series_model.specs.Tail.{Tail}
use Rattle.split_store.specs.Damage.{HasOddChunk, HasOddSplit, HasOddSplits}
use Rattle.split_store.specs.Loading.{AreRecordsOf, IsFoundSplit, IsPlacedIn}
use Rattle.split_store.specs.Shelf.{live_by}
use Rattle.split_store.proofs.Found.{live_held, one_raw, raw_never_odd}
use Rattle.split_store.proofs.SplitFound.{found_is, split_never_odd}
use Rattle.split_store.specs.ShelfView.{AreOldOrChanged, IsCause, IsKeptAs, IsLastingShelf, IsOldOrChanged, IsOnlySeen, Keeps, LeavesOldOrChanged, OfThree, ShelfView, shelf_faults, shelf_phases, split_in, stored_split}
use Rattle.split_store.proofs.Held.{lasting_held}

module _ {D : Type 0} (g : Ghosts D) where
  only_less : (d e : D) (o : Option (List ℕ)) → NoMore (g.may_leave d) (g.may_leave e) → IfSome o (λ bytes. Only bytes (g.may_leave d)) → IfSome o (λ bytes. Only bytes (g.may_leave e))
  only_less d e None less only = tt
  only_less d e (Some bytes) less only = λ image left. only image (less image left)

  -- it is whole still
  pub read_whole : (i : Inside D) (blocks : D) (damaged : Bool) → IsReadOnly g i.blocks blocks → IsWhole g i → IsWhole g (record i { blocks = blocks; damaged = damaged })
  read_whole i blocks damaged read w = record {
    are = subst (λ n. IfSome i.pair.records (AreRecordsOf n i.book.metrics)) (sym read.size) w.are;
    sound = w.sound;
    blocks = subst (λ n. AreBlocks n i.book.metrics) (sym read.size) w.blocks;
    synced = subst (λ o. IfSome o (λ bytes. Only bytes (g.may_leave blocks))) (sym read.told) (only_less i.blocks blocks (g.told i.blocks) read.unwritten.no_more w.synced);
  }

  -- and what a stop leaves has what it had
  pub read_lasting : ((disk : D) → IfSome (g.told disk) (λ bytes. length bytes ≡ g.size disk)) → (i : Inside D) (blocks : D) (damaged : Bool) → KeepsShelf g i → IsReadOnly g i.blocks blocks → IsWhole g i → IsLastingPair g i.pair
      → IsLastingShelf g (shelf_view (record i { blocks = blocks; damaged = damaged }))
  read_lasting law i blocks damaged inv read w lasting lives a b z keeps left left_too left_last =
      let then = read_whole i blocks damaged read w in
      lasting_held g law i.pair blocks i.book.metrics inv.role (inv.told keeps.first keeps.second) then.are then.synced lasting lives keeps.bytes a b z keeps.told keeps.held left left_too left_last

  pub seen_kept : (old new : ShelfView D) → IsOnlySeen g old new → IsKeptAs g old new
  seen_kept old new seen lives keeps = record {
    bytes = keeps.bytes;
    first = subst (λ d. IsSome (g.told d)) (sym seen.first) keeps.first;
    second = subst (λ d. IsSome (g.told d)) (sym seen.second) keeps.second;
    told = seen.blocks.told ∙ keeps.told;
    held = subst (λ ms. HoldsMetrics keeps.bytes ms lives) (sym seen.metrics) keeps.held;
  }

  -- why blocks weren't read is why a call on the shelf failed
  pub read_cause : (P : List ℕ → ℕ → Type 0) (old new : ShelfView D) (e : BlockFault) (fault : MountFault) (before after : ℕ) (damaged : Bool) → IsOnlySeen g old new → before ≡ shelf_faults g old → after ≡ shelf_faults g new
      → new.broken ≡ damaged → MatchBlockFault e (damaged ≡ true) (λ at. damaged ≡ true) (damaged ≡ false)
      → MatchBlockFault e (fault ≡ MountDisk (record { before = before; after = after })) (λ at. fault ≡ MountDamaged (record { disk = 2; at = at })) (fault ≡ MountMemory)
      → MatchBlockFault e (Rose (g.faults old.blocks) (g.faults new.blocks)) (λ at. IfSome (g.told old.blocks) (λ z. P z at)) ⊤
      → ((lives : List Live) (z : List ℕ) (at : ℕ) → Keeps g old lives → g.told old.blocks ≡ Some z → P z at → ⊥)
      → IsCause g P old new fault
  read_cause P old new block_fault.Failed fault before after damaged seen before_is after_is broken breaks is why never =
      subst (IsCause g P old new) (sym is) (record {
        fault = record { before_is = before_is; after_is = after_is; rose = record { rose = (let r = why.rose in omega (arith, r, ap g.faults seen.first, ap g.faults seen.second)) } };
        broken = broken ∙ breaks;
      })
  read_cause P old new (block_fault.Damaged at) fault before after damaged seen before_is after_is broken breaks is why never =
      subst (IsCause g P old new) (sym is) (record {
        disk = refl;
        at = why;
        broken = broken ∙ breaks;
        none = λ lives keeps. never lives keeps.bytes at keeps keeps.told (subst (λ o. IfSome o (λ z. P z at)) keeps.told why);
      })
  read_cause P old new block_fault.Memory fault before after damaged seen before_is after_is broken breaks is why never = subst (IsCause g P old new) (sym is) (broken ∙ breaks)

  -- ---- moments

  still_unwritten : (only_now : (disk : D) (image : List ℕ) → g.left_since disk (g.moment disk) image → g.may_leave disk image) → (d e : D) → e ≡ d → IsUnwritten g (phase d e)
  still_unwritten only_now d e same = subst (λ x. IsUnwritten g (phase d x)) (sym same) (record { within = only_now d; no_more = λ image left. left })

  three_entry : (change : List Live → List Live) (old new : ShelfView D) (lives : List Live) → IsLastingShelf g old → Keeps g old lives → (images : List (List ℕ)) → AtEntry g (shelf_phases old new) images → OfThree (AreOldOrChanged old.place lives change) images
  three_entry change old new lives lasting keeps [] left = absurd left
  three_entry change old new lives lasting keeps (z ∷ []) left = absurd left.1
  three_entry change old new lives lasting keeps (z ∷ a ∷ []) left = absurd left.1.1
  three_entry change old new lives lasting keeps (z ∷ a ∷ b ∷ []) left = inl (lasting lives a b z keeps left.1.0 left.1.1.0 left.0)
  three_entry change old new lives lasting keeps (z ∷ a ∷ b ∷ c ∷ images) left = absurd left.1.1.1

  -- what was only read leaves what it left
  pub seen_moments : (only_now : (disk : D) (image : List ℕ) → g.left_since disk (g.moment disk) image → g.may_leave disk image) → (change : List Live → List Live) (old new : ShelfView D) → IsOnlySeen g old new
      → g.moment old.blocks ≤ g.moment new.blocks → IsLastingShelf g old → IsOldOrChanged g change old new
  seen_moments only_now change old new seen later lasting lives keeps = record {
    later = (later, (omega (arith, ap g.moment seen.first), (omega (arith, ap g.moment seen.second), tt)));
    each = λ images moment. three_entry change old new lives lasting keeps images (AtMoment-unwritten g (shelf_phases old new) images
        (seen.blocks.unwritten, (still_unwritten only_now old.first new.first seen.first, (still_unwritten only_now old.second new.second seen.second, tt))) moment);
  }

  three_exit : (change : List Live → List Live) (old new : ShelfView D) (lives : List Live) → IsOnlySeen g old new → IsLastingShelf g old → Keeps g old lives → (images : List (List ℕ)) → AtExit g (shelf_phases old new) images → OfThree (AreOldOrChanged old.place lives change) images
  three_exit change old new lives seen lasting keeps [] left = absurd left
  three_exit change old new lives seen lasting keeps (z ∷ []) left = absurd left.1
  three_exit change old new lives seen lasting keeps (z ∷ a ∷ []) left = absurd left.1.1
  three_exit change old new lives seen lasting keeps (z ∷ a ∷ b ∷ []) left =
      inl (lasting lives a b z keeps (subst (λ d. g.may_leave d a) seen.first left.1.0) (subst (λ d. g.may_leave d b) seen.second left.1.1.0) (seen.blocks.unwritten.no_more z left.0))
  three_exit change old new lives seen lasting keeps (z ∷ a ∷ b ∷ c ∷ images) left = absurd left.1.1.1

  pub seen_left : (change : List Live → List Live) (old new : ShelfView D) → IsOnlySeen g old new → IsLastingShelf g old → LeavesOldOrChanged g change old new
  seen_left change old new seen lasting lives images keeps left = three_exit change old new lives seen lasting keeps images left

  -- a shelf that wasn't touched
  pub not_touched : (only_now : (disk : D) (image : List ℕ) → g.left_since disk (g.moment disk) image → g.may_leave disk image) (came_none : (disk : D) → g.came 0 disk disk) (old new : ShelfView D) → new ≡ old → IsOnlySeen g old new
  not_touched only_now came_none old new same = subst (IsOnlySeen g old) (sym same) (record {
    place = refl;
    epoch = refl;
    metrics = refl;
    first = refl;
    second = refl;
    blocks = record { told = refl; size = refl; unwritten = record { within = only_now old.blocks; no_more = λ image left. left }; came = came_none old.blocks };
  })

-- ---- what was read

-- the raw series of a live metric
pub raw_found : (told : Option (List ℕ)) (z : List ℕ) (metrics : List Shelved) (lives : List Live) (id : MetricId) (raw : Tail) → told ≡ Some z → IsSome (metric_of id metrics) → HoldsMetrics z metrics lives
    → IfSome told (λ z. (m : Shelved) → metric_of id metrics ≡ Some m → HoldsRaw z m.chunks m.anchor m.last raw) → option_map (λ l. l.raw) (live_by id lives) ≡ Some raw
raw_found told z metrics lives id raw tells live held read = by (metric_of id metrics) refl live
  where
    by : (o : Option Shelved) → metric_of id metrics ≡ o → IsSome o → option_map (λ (l : Live). l.raw) (live_by id lives) ≡ Some raw
    by None e live = absurd cc
    by (Some m) e live =
        let l = live_held z metrics lives id m held e in
        let here = subst (λ o. IfSome o (λ z. (m : Shelved) → metric_of id metrics ≡ Some m → HoldsRaw z m.chunks m.anchor m.last raw)) tells read in
        ap (option_map (λ (l : Live). l.raw)) l.there ∙ ap Some (one_raw z m.chunks m.anchor m.last l.live.raw raw l.holds.raw (here m e))

pub raw_never : (z : List ℕ) (metrics : List Shelved) (lives : List Live) (id : MetricId) (at : ℕ) → HoldsMetrics z metrics lives → HasOddChunk metrics id z at → ⊥
raw_never z metrics lives id at held odd =
    let l = live_held z metrics lives id odd.metric held odd.live in
    raw_never_odd z odd.metric.chunks odd.metric.anchor odd.metric.last l.live.raw at l.holds.raw odd.damaged

-- a split of one
pub split_found : (told : Option (List ℕ)) (z : List ℕ) (metrics : List Shelved) (lives : List Live) (id : MetricId) (definition : ℕ) (kind : Kind) (key : ℕ) (split : Option Split) → told ≡ Some z → IsSome (metric_of id metrics) → HoldsMetrics z metrics lives
    → ((m : Shelved) → metric_of id metrics ≡ Some m → IsPlacedIn definition kind m) → IfSome told (λ z. (m : Shelved) → metric_of id metrics ≡ Some m → IsFoundSplit z definition kind key m split) → split ≡ stored_split id definition kind key lives
split_found told z metrics lives id definition kind key split tells live held placed read = by (metric_of id metrics) refl live
  where
    by : (o : Option Shelved) → metric_of id metrics ≡ o → IsSome o → split ≡ stored_split id definition kind key lives
    by None e live = absurd cc
    by (Some m) e live =
        let l = live_held z metrics lives id m held e in
        let here = subst (λ o. IfSome o (λ z. (m : Shelved) → metric_of id metrics ≡ Some m → IsFoundSplit z definition kind key m split)) tells read in
        let p = placed m e in
        found_is z m l.live p.filed l.holds definition kind p.placed key split (here m e) ∙ ap (split_in definition kind key) (sym l.there)

pub split_never : (z : List ℕ) (metrics : List Shelved) (lives : List Live) (id : MetricId) (definition : ℕ) (kind : Kind) (key at : ℕ) → HoldsMetrics z metrics lives → ((m : Shelved) → metric_of id metrics ≡ Some m → IsPlacedIn definition kind m)
    → HasOddSplit metrics id definition kind key z at → ⊥
split_never z metrics lives id definition kind key at held placed odd =
    let l = live_held z metrics lives id odd.metric held odd.live in
    let p = placed odd.metric odd.live in
    split_never_odd z odd.metric l.live p.filed l.holds definition kind p.placed key odd.of odd.block odd.there odd.stored odd.unspelled

-- where two lists stand side by side, what is in one of them has its other
beside_of : {A B : Type 0} (R : A → B → Type 0) (xs : List A) (ys : List B) (x : A) → AllZip R xs ys → Contains xs x → (y : B) × R x y
beside_of R [] ys x all there = absurd (Contains-none x there)
beside_of R (a ∷ xs) [] x all there = absurd all
beside_of R (a ∷ xs) (b ∷ ys) x all there = elim (Contains-cases a xs x there) [
  | inl same ↦ (b, subst (λ c. R c b) same all.0)
  | inr later ↦ beside_of R xs ys x all.1 later
]

-- no split of a metric that is held is damaged
pub splits_never : (z : List ℕ) (metrics : List Shelved) (lives : List Live) (id : MetricId) (at : ℕ) → HoldsMetrics z metrics lives → HasOddSplits metrics id z at → ⊥
splits_never z metrics lives id at held odd =
    let m = odd.metric in
    let l = live_held z metrics lives id m held odd.live in
    let own = odd.damaged in
    let list = beside_of (HoldsSplits z m.policy) m.kept l.live.splits own.0 l.holds.splits own.2 in
    let same : list.1.definition ≡ own.1 = same_Some list.1.definition own.1 (sym list.1.there ∙ own.3) in
    let bad = own.4 in
    let split = beside_of (HoldsSplit z list.1.definition.granularity) own.0.splits list.0 bad.one list.1.each bad.is in
    bad.unspelled split.0 (subst (λ (d : Definition). HoldsSplit z d.granularity bad.one split.0) same split.1)

-- a fact of damage and of want of memory
pub match_seen : (e : MountFault) (P : Type 0) → P → MatchMountFault e (λ f. ⊤) (λ d. P) P
match_seen (MountDisk f) P p = tt
match_seen (MountDamaged d) P p = p
match_seen MountMemory P p = p

-- blocks were read, memory was made sure, and nothing else has changed
pub turned_seen : {D : Type 0} (g : Ghosts D) (i : Inside D) (pair : PairView D) (book : BookView) (blocks : D) (damaged : Bool) (spare : ℕ) → pair ≡ record i.pair { spare = spare } → book.metrics ≡ i.book.metrics → IsReadOnly g i.blocks blocks
    → IsOnlySeen g (shelf_view i) (shelf_view (record i { pair = pair; book = book; blocks = blocks; damaged = damaged }))
turned_seen g i pair book blocks damaged spare same metrics reads = record {
  place = ap (λ (p : PairView _). p.place) same;
  epoch = ap (λ (p : PairView _). p.epoch) same;
  metrics = metrics;
  first = ap (λ (p : PairView _). p.first) same;
  second = ap (λ (p : PairView _). p.second) same;
  blocks = reads;
}

-- memory was made sure, and nothing else has changed
pub reserved_seen : {D : Type 0} (g : Ghosts D) (only_now : (disk : D) (image : List ℕ) → g.left_since disk (g.moment disk) image → g.may_leave disk image) (came_none : (disk : D) → g.came 0 disk disk) (i : Inside D) (pair : PairView D) (book : BookView) (spare : ℕ)
    → pair ≡ record i.pair { spare = spare } → book.metrics ≡ i.book.metrics → IsOnlySeen g (shelf_view i) (shelf_view (record i { pair = pair; book = book }))
reserved_seen g only_now came_none i pair book spare same metrics = record {
  place = ap (λ (p : PairView _). p.place) same;
  epoch = ap (λ (p : PairView _). p.epoch) same;
  metrics = metrics;
  first = ap (λ (p : PairView _). p.first) same;
  second = ap (λ (p : PairView _). p.second) same;
  blocks = record { told = refl; size = refl; unwritten = record { within = only_now i.blocks; no_more = λ image left. left }; came = came_none i.blocks };
}

-- A shelf whose log has the record of a commit, or the old records.
use Rattle.std.proofs.Common.{◌≡◌, ◌≢◌, ◌||◌, ◌⊎◌, inl, inr, ℕ, ◌≤◌, ◌%◌, length, Bool, true, false, List, [], ◌∷◌, map, Option, Some, refl, sym, ap, subst, ◌∙◌, arith}
use Rattle.std.specs.Option.{IfSome, IsSome, is_some}
use Rattle.std.specs.List.{All, AllPairs, Contains}
use Rattle.gno_disk.specs.Disk.{Only, Told, TimeGoesOn}
use Rattle.gno_disk.specs.Moments.{LeavesOnly}
use Rattle.gno_disk.specs.Phases.{AtExit, EachMoment, IsUnwritten, phase}
use Rattle.gno_disk.specs.declared.disk.Disk.{Ghosts}
use Rattle.gno_disk.proofs.PhaseLemmas.{EachMoment-exit}
use Rattle.series_model.proofs.Rising.{Rises}
use Rattle.bound_series.specs.Jobs.{PreparedView}
use Rattle.split_update.specs.Live.{Live}
use Rattle.gno_codec.specs.declared.item.CommitItem.{CommitItem}
use Rattle.gno_codec.specs.declared.item.ShelfItem.TheVariants as items
use Rattle.sack_history.specs.Scratch.{commit_live}
use Rattle.log_pair.specs.PairView.{AreOldOrAdded, IsLastingPair, OfTwo, PairView, pair_phases}
use Rattle.shelf_records.specs.Book.{new_blocks, places_of as block_places}
use Rattle.shelf_records.specs.Shelved.{AreBlocks, IsInSlot, MayFollow, Shelved, after_record, blocks_in_use, metric_of, slot}
use Rattle.shelf_records.specs.Slots.{AreFirstFree, IsWithin}
use Rattle.block_slots.specs.declared.slots.Piece.{Piece}
use Rattle.block_slots.specs.Reads.{IsReadOnly}
use Rattle.block_slots.specs.Slots.{FillsSlot, IsBeside, IsSpared, Spares, places_of, size_with}
use Rattle.shelf_blocks.specs.Blocks.{HoldsMetrics}
use Rattle.shelf_blocks.specs.Pieces.{block_of}
use Rattle.shelf_blocks.specs.Turns.{AreMade}
use Rattle.shelf_blocks.proofs.Held.{metrics_stay}
use Rattle.split_store.specs.declared.shelf.Shelf.TheInside.{Inside}
use Rattle.split_store.specs.declared.turn.Turn.{Turn}
use Rattle.split_store.specs.Inside.{IsWhole, KeepsShelf, shelf_view}
use Rattle.split_store.specs.ShelfView.{AreOldOrChanged, Keeps, OfThree}
use Rattle.split_store.specs.Turn.{IsReady}
use Rattle.split_store.specs.Writing.{AreWritten, tried_of}
use Rattle.split_store.proofs.Behind.{blocks_longer, committed_blocks, found_number}
use Rattle.split_store.proofs.Committing.{commit_held}
use Rattle.split_store.proofs.Logged.{old_or_changed}
use Rattle.split_store.proofs.Placed.{MayWrite, blocks_in_slots, may_write, size_grows, tried_all}
use Rattle.split_store.proofs.Readied.{the_one}
use Rattle.split_store.proofs.Sound.{number_of}
use Rattle.split_store.proofs.Written.{spared_since, stands_still, still_moments, then_moments}

-- the places of the blocks of pieces
places_same : (pieces : List Piece) → block_places (map block_of pieces) ≡ places_of pieces
places_same [] = refl
places_same (p ∷ pieces) = ap (λ (l : List ℕ). p.at ∷ l) (places_same pieces)

pub or_true : (b : Bool) → (b || true) ≡ true
or_true true = refl
or_true false = refl

-- a log for which memory was made sure, and that wasn't touched then, is as it was
pub log_of : {D : Type 0} (ready old new : PairView D) (spare : ℕ) (W : Type 0) → ready ≡ record old { spare = spare } → (ready ≡ new) ⊎ W → ((old.first ≡ new.first) × (old.second ≡ new.second)) ⊎ W
log_of ready old new spare W same log = elim log [
  | inl still ↦ inl (sym (ap (λ (x : PairView _). x.first) same) ∙ ap (λ (x : PairView _). x.first) still, sym (ap (λ (x : PairView _). x.second) same) ∙ ap (λ (x : PairView _). x.second) still)
  | inr written ↦ inr written
]

told_too : (a b : Option (List ℕ)) → is_some b ≡ is_some a → IsSome a → IsSome b
told_too a b same is = same ∙ is

module _ {D : Type 0} (g : Ghosts D) (i : Inside D) (size : ℕ) (metrics : List Shelved) (blocks : AreBlocks size metrics) (rises : Rises (map number_of metrics))
    (p : PreparedView) (taken : List ℕ) (turn : Turn) (ready : IsReady (g.told i.blocks) metrics p taken turn) (first : AreFirstFree (block_places (blocks_in_use metrics)) taken) where
  abbrev item : CommitItem
  item = turn.item

  abbrev pieces : List Piece
  pieces = turn.pieces.items

  abbrev new : List Shelved
  new = after_record metrics (items.Commit item)

  pub of_metric : item.metric ≡ p.job.metric
  of_metric = ap (λ (c : CommitItem). c.metric) ready.turn_is.item_is

  found : metric_of item.metric metrics ≡ Some ready.metric
  found = ap (λ id. metric_of id metrics) of_metric ∙ ready.live

  pub follows : MayFollow metrics (items.Commit item)
  follows = (ready.metric, found, ready.turn_is.follows)

  pub may : MayWrite size metrics pieces
  may = may_write size metrics pieces blocks (subst (AreFirstFree (block_places (blocks_in_use metrics))) (sym ready.turn_is.places) first)

  pub new_at : block_places (new_blocks item) ≡ places_of pieces
  new_at = ap block_places ready.turn_is.blocks ∙ places_same pieces

  -- the blocks in use after it, once all pieces are written
  pub slots_held : (longer : ℕ) → longer ≡ size_with size pieces → All (λ p. IsWithin p.at) pieces → All (IsInSlot longer) (new_blocks item)
  slots_held longer long within =
      let all = tried_all pieces within in
      subst (All (IsInSlot longer)) (sym ready.turn_is.blocks)
      (subst (λ n. All (IsInSlot n) (map block_of pieces)) (sym long) (blocks_in_slots size pieces ready.turn_is.fit (subst (λ (ps : List Piece). All (λ at. at % slot ≡ 0) (places_of ps)) all may.aligned)))

  pub blocks_behind : (longer : ℕ) → longer ≡ size_with size pieces → All (λ p. IsWithin p.at) pieces → AreBlocks longer new
  blocks_behind longer long within =
      let all = tried_all pieces within in
      let le = size_grows size pieces in
      committed_blocks item ready.metric ready.turn_is.filed (found_number metrics item ready.metric found) ready.turn_is.follows ready.turn_is.order longer metrics rises found
      (blocks_longer size longer metrics (omega (arith, le, long)) blocks) (slots_held longer long within)
      (subst (All (λ at. Contains (block_places (blocks_in_use metrics)) at → ⊥)) (ap places_of all ∙ sym new_at) may.fresh)
      (subst (AllPairs (λ (a b : ℕ). a ≢ b)) (ap places_of all ∙ sym new_at) may.differ)

  -- what the blocks hold of the metrics, once all pieces are written
  pub then_held : (bytes z : List ℕ) (lives : List Live) → g.told i.blocks ≡ Some bytes → All (FillsSlot z) pieces → HoldsMetrics bytes metrics lives → HoldsMetrics z metrics lives → HoldsMetrics z new (commit_live p.job.metric p lives)
  then_held bytes z lives told fills was held =
      subst (λ id. HoldsMetrics z (after_record metrics (items.Commit item)) (commit_live id p lives)) of_metric
      (commit_held bytes z item p metrics lives ready.metric rises found
      (λ l before now. ready.turn_is.written bytes z l (subst (λ o. AreMade o ready.metric p ready.made) told ready.are) fills before now) was held)

-- ---- its moments

module _ {D : Type 0} (g : Ghosts D) (law : (disk : D) → IfSome (g.told disk) (λ bytes. length bytes ≡ g.size disk))
    (counts_now : (disk : D) (since : ℕ) (image : List ℕ) → since ≤ g.moment disk → g.may_leave disk image → g.left_since disk since image)
    (only_now : (disk : D) (image : List ℕ) → g.left_since disk (g.moment disk) image → g.may_leave disk image)
    (i : Inside D) (inv : KeepsShelf g i) (w : IsWhole g i) (lasting : IsLastingPair g i.pair) (rises : Rises (map number_of i.book.metrics))
    (p : PreparedView) (taken : List ℕ) (turn : Turn) (ready : IsReady (g.told i.blocks) i.book.metrics p taken turn) (first : AreFirstFree (block_places (blocks_in_use i.book.metrics)) taken)
    (b1 b2 : D) (q : PairView D) (reads : IsReadOnly g i.blocks b1)
    (on : TimeGoesOn (g.moment i.blocks) (g.moment b1) (g.left_since i.blocks) (g.left_since b1)) (on_too : TimeGoesOn (g.moment b1) (g.moment b2) (g.left_since b1) (g.left_since b2))
    (tells : is_some (g.told b2) ≡ is_some (g.told i.blocks)) (leaves : LeavesOnly g b1 b2 (IsSpared g (places_of (tried_of turn.pieces.items)) b1))
    (log : ((i.pair.first ≡ q.first) × (i.pair.second ≡ q.second)) ⊎ AreWritten g turn.pieces.items b1 b2)
    (moments : EachMoment g (pair_phases i.pair q) (OfTwo (AreOldOrAdded i.pair turn.body.items))) where
  abbrev metrics : List Shelved
  metrics = i.book.metrics

  abbrev size : ℕ
  size = g.size i.blocks

  abbrev own_pieces : List Piece
  own_pieces = turn.pieces.items

  abbrev places : List ℕ
  places = places_of (tried_of own_pieces)

  abbrev then : List Live → List Live
  then = commit_live p.job.metric p

  spared : (image : List ℕ) → g.left_since b2 (g.moment i.blocks) image → IsSpared g places i.blocks image
  spared = spared_since g places i.blocks b1 b2 reads on on_too leaves

  later : g.moment i.blocks ≤ g.moment b2
  later = let a = on.later in let b = leaves.later in omega (arith, a, b)

  now : (image : List ℕ) → g.may_leave b2 image → g.left_since b2 (g.moment i.blocks) image
  now image left = counts_now b2 (g.moment i.blocks) image later left

  beside : All (λ block. All (IsBeside block) places) (blocks_in_use metrics)
  beside = (may g i size metrics w.blocks rises p taken turn ready first).beside

  abbrev HeldBy : List Live → Type 0
  HeldBy lives = Keeps g (shelf_view i) lives

  only : (lives : List Live) (keeps : HeldBy lives) → Only keeps.bytes (g.may_leave i.blocks)
  only lives keeps = subst (λ o. IfSome o (λ bytes. Only bytes (g.may_leave i.blocks))) keeps.told w.synced

  long : (lives : List Live) (keeps : HeldBy lives) → length keeps.bytes ≡ size
  long lives keeps = subst (λ o. IfSome o (λ bytes. length bytes ≡ g.size i.blocks)) keeps.told (law i.blocks)

  same_unwritten : (d e : D) → d ≡ e → IsUnwritten g (phase d e)
  same_unwritten d e same = subst (λ x. IsUnwritten g (phase d x)) same (record { within = only_now d; no_more = λ image left. left })

  -- what a stop leaves once all pieces are written
  old_or_then : (lives : List Live) → HeldBy lives → AreWritten g own_pieces b1 b2 → (z a b : List ℕ) → g.may_leave b2 z → AreOldOrAdded i.pair turn.body.items a b → AreOldOrChanged i.pair.place lives then a b z
  old_or_then lives keeps written z a b left of =
      let one = the_one (g.told b2) (told_too (g.told i.blocks) (g.told b2) tells (ap is_some keeps.told)) in
      let same : z ≡ one.0 = subst (λ o. IfSome o (λ bytes. Only bytes (g.may_leave b2))) one.1 written.durable z left in
      let fills : All (FillsSlot z) own_pieces = subst (λ x. All (FillsSlot x) own_pieces) (sym same) (subst (λ o. IfSome o (λ bytes. All (FillsSlot bytes) own_pieces)) one.1 written.stand) in
      let far : length z ≡ g.size b2 = ap length same ∙ subst (λ o. IfSome o (λ bytes. length bytes ≡ g.size b2)) one.1 (law b2) in
      let still = stands_still g i.blocks b2 i.pair q places turn.body.items metrics lives (then lives) keeps.bytes size spared now inv.role (inv.told keeps.first keeps.second) w.are (long lives keeps) (only lives keeps) lasting keeps.held beside z (spared z (now z left)) in
      let reach : length z ≡ size_with size own_pieces = far ∙ written.size ∙ ap (λ n. size_with n own_pieces) reads.size in
      old_or_changed i.pair size metrics (after_record metrics (items.Commit turn.item)) turn.body.items z a b (items.Commit turn.item) lives (then lives) inv.role (inv.told keeps.first keeps.second) w.are still.1
      ready.turn_is.is ready.turn_is.spelled (follows g i size metrics w.blocks rises p taken turn ready first) (blocks_behind g i size metrics w.blocks rises p taken turn ready first (length z) reach written.within) refl
      still.0 (then_held g i size metrics w.blocks rises p taken turn ready first keeps.bytes z lives keeps.told fills keeps.held still.0) of

  pub commit_moments : (lives : List Live) → HeldBy lives → EachMoment g (phase i.blocks b2 ∷ pair_phases i.pair q) (OfThree (AreOldOrChanged i.pair.place lives then))
  commit_moments lives keeps = elim log [
    | inl same ↦ still_moments g i.blocks b2 i.pair q places turn.body.items metrics lives (then lives) keeps.bytes size spared now inv.role (inv.told keeps.first keeps.second) w.are (long lives keeps) (only lives keeps) lasting keeps.held beside later
        (same_unwritten i.pair.first q.first same.0, (same_unwritten i.pair.second q.second same.1, tt)) (omega (arith, ap g.moment same.0)) (omega (arith, ap g.moment same.1))
    | inr written ↦ then_moments g i.blocks b2 i.pair q places turn.body.items metrics lives (then lives) keeps.bytes size spared now inv.role (inv.told keeps.first keeps.second) w.are (long lives keeps) (only lives keeps) lasting keeps.held beside later
        (old_or_then lives keeps written) moments
  ]

  pub commit_left : (lives : List Live) → HeldBy lives → (images : List (List ℕ)) → AtExit g (phase i.blocks b2 ∷ pair_phases i.pair q) images → OfThree (AreOldOrChanged i.pair.place lives then) images
  commit_left lives keeps images at = EachMoment-exit g counts_now only_now (phase i.blocks b2) (pair_phases i.pair q) (OfThree (AreOldOrChanged i.pair.place lives then)) (commit_moments lives keeps) images at

  -- what the blocks hold as they read: of the metrics as they were
  pub still_held : (bytes bytes_now : List ℕ) (lives : List Live) → g.told i.blocks ≡ Some bytes → g.told b2 ≡ Some bytes_now → Told (Spares places) (g.told b1) (g.told b2) → HoldsMetrics bytes metrics lives → HoldsMetrics bytes_now metrics lives
  still_held bytes bytes_now lives told told_now spares held =
      metrics_stay places bytes bytes_now (subst (λ o. Told (Spares places) (Some bytes) o) told_now (subst (λ o. Told (Spares places) o (g.told b2)) (reads.told ∙ told) spares)) metrics lives beside held

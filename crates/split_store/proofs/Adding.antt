-- A shelf to whose log a record was added.
use Rattle.std.proofs.Common.{◌≡◌, ℕ, ◌≤◌, length, List, [], ◌∷◌, Option, Some, None, refl, sym, ap, subst, ◌∙◌, arith}
use Rattle.std.specs.Option.{IfSome, IsSome}
use Rattle.std.proofs.lemmas.List.Elements.{All-nil}
use Rattle.gno_disk.specs.Disk.{Only}
use Rattle.gno_disk.specs.Phases.{AtExit, EachMoment, phase}
use Rattle.gno_disk.specs.declared.disk.Disk.{Ghosts}
use Rattle.gate_log.specs.LogView.{Adds}
use Rattle.split_update.specs.Live.{Live}
use Rattle.gno_codec.specs.declared.item.ShelfItem.{ShelfItem}
use Rattle.gno_codec.specs.Shelf.{IsShelf, shelf_bytes}
use Rattle.log_pair.specs.PairView.{AreOldOrAdded, IsLastingPair, OfTwo, PairView, pair_phases}
use Rattle.shelf_records.specs.Shelved.{AreBlocks, MayFollow, Shelved, after_record}
use Rattle.block_slots.specs.Slots.{IsBeside}
use Rattle.shelf_blocks.specs.Blocks.{HoldsMetrics}
use Rattle.split_store.specs.declared.shelf.Shelf.TheInside.{Inside}
use Rattle.split_store.specs.Inside.{IsWhole, KeepsShelf, shelf_view}
use Rattle.split_store.specs.Loading.{AreRecordsOf}
use Rattle.split_store.specs.ShelfView.{AreOldOrChanged, Keeps, OfThree}
use Rattle.split_store.proofs.Logged.{old_or_changed, records_with, three_left}
use Rattle.split_store.proofs.Written.{spares_none, then_moments}

-- ---- records

pub added_are : (size longer : ℕ) (metrics new : List Shelved) (old then : Option (List (List ℕ))) (body : List ℕ) (item : ShelfItem) → Adds old then body → size ≤ longer → IfSome old (AreRecordsOf size metrics)
    → IsShelf item → body ≡ shelf_bytes item → MayFollow metrics item → AreBlocks longer new → new ≡ after_record metrics item → IfSome then (AreRecordsOf longer new)
added_are size longer metrics new None None body item adds le are shelf spelled follows blocks new_is = tt
added_are size longer metrics new None (Some rs) body item adds le are shelf spelled follows blocks new_is = absurd adds
added_are size longer metrics new (Some rs) None body item adds le are shelf spelled follows blocks new_is = absurd adds
added_are size longer metrics new (Some rs) (Some more) body item adds le are shelf spelled follows blocks new_is =
    subst (AreRecordsOf longer new) (sym adds) (records_with size longer metrics new rs body item le are shelf spelled follows blocks new_is)

pub added_told : (old then : Option (List (List ℕ))) (body : List ℕ) → Adds old then body → IsSome old → IsSome then
added_told None then body adds told = absurd cc
added_told (Some rs) None body adds told = absurd adds
added_told (Some rs) (Some more) body adds told = refl

-- ---- a record that leaves the blocks as they are

module _ {D : Type 0} (g : Ghosts D) (law : (disk : D) → IfSome (g.told disk) (λ bytes. length bytes ≡ g.size disk))
    (counts_now : (disk : D) (since : ℕ) (image : List ℕ) → since ≤ g.moment disk → g.may_leave disk image → g.left_since disk since image)
    (only_now : (disk : D) (image : List ℕ) → g.left_since disk (g.moment disk) image → g.may_leave disk image)
    (i : Inside D) (q : PairView D) (body : List ℕ) (item : ShelfItem) (new : List Shelved) (change : List Live → List Live)
    (inv : KeepsShelf g i) (w : IsWhole g i) (lasting : IsLastingPair g i.pair)
    (shelf : IsShelf item) (spelled : body ≡ shelf_bytes item) (follows : MayFollow i.book.metrics item) (blocks : AreBlocks (g.size i.blocks) new) (new_is : new ≡ after_record i.book.metrics item)
    (made : (z : List ℕ) (lives : List Live) → HoldsMetrics z i.book.metrics lives → HoldsMetrics z new (change lives)) where
  -- what a stop leaves with the old records, or with one more
  leaves : (lives : List Live) → Keeps g (shelf_view i) lives → (z a b : List ℕ) → g.may_leave i.blocks z → AreOldOrAdded i.pair body a b → AreOldOrChanged i.pair.place lives change a b z
  leaves lives keeps z a b left of =
      let only : Only keeps.bytes (g.may_leave i.blocks) = subst (λ o. IfSome o (λ bytes. Only bytes (g.may_leave i.blocks))) keeps.told w.synced in
      let same : z ≡ keeps.bytes = only z left in
      let long : length z ≡ g.size i.blocks = ap length same ∙ subst (λ o. IfSome o (λ bytes. length bytes ≡ g.size i.blocks)) keeps.told (law i.blocks) in
      let stand : HoldsMetrics z i.book.metrics lives = subst (λ x. HoldsMetrics x i.book.metrics lives) (sym same) keeps.held in
      old_or_changed i.pair (g.size i.blocks) i.book.metrics new body z a b item lives (change lives) inv.role (inv.told keeps.first keeps.second) w.are (omega (arith, long)) shelf spelled follows
      (subst (λ n. AreBlocks n new) (sym long) blocks) new_is stand (made z lives stand) of

  pub logged_moments : (lives : List Live) → Keeps g (shelf_view i) lives → EachMoment g (pair_phases i.pair q) (OfTwo (AreOldOrAdded i.pair body))
      → EachMoment g (phase i.blocks i.blocks ∷ pair_phases i.pair q) (OfThree (AreOldOrChanged i.pair.place lives change))
  logged_moments lives keeps moments =
      let only : Only keeps.bytes (g.may_leave i.blocks) = subst (λ o. IfSome o (λ bytes. Only bytes (g.may_leave i.blocks))) keeps.told w.synced in
      then_moments g i.blocks i.blocks i.pair q [] body i.book.metrics lives (change lives) keeps.bytes (g.size i.blocks)
      (λ image left. record { before = image; left = only_now i.blocks image left; spares = spares_none [] image })
      (λ image left. counts_now i.blocks (g.moment i.blocks) image (omega arith) left)
      inv.role (inv.told keeps.first keeps.second) w.are (subst (λ o. IfSome o (λ bytes. length bytes ≡ g.size i.blocks)) keeps.told (law i.blocks)) only lasting keeps.held
      (λ k d lt. All-nil (IsBeside _))
      (omega arith) (leaves lives keeps) moments

  pub logged_left : (lives : List Live) → Keeps g (shelf_view i) lives → ((images : List (List ℕ)) → AtExit g (pair_phases i.pair q) images → OfTwo (AreOldOrAdded i.pair body) images)
      → (images : List (List ℕ)) → AtExit g (phase i.blocks i.blocks ∷ pair_phases i.pair q) images → OfThree (AreOldOrChanged i.pair.place lives change) images
  logged_left lives keeps left = three_left g i.pair q body (AreOldOrChanged i.pair.place lives change) i.blocks i.blocks (leaves lives keeps) left

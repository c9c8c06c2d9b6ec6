-- What a commit writes.
use Rattle.std.specs.Prelude.{◌≡◌, ℕ, ◌+◌, ◌≤◌, List, ◌++◌, length, map, All, AllPairs, Option, Some, vec_capacity}
use Rattle.gno_disk.specs.declared.disk.Disk.{Ghosts}
use Rattle.bound_series.specs.Jobs.{IsPrepared, PreparedView}
use Rattle.split_update.specs.Live.{Live, after_commit}
use Rattle.gno_codec.specs.declared.item.Block.{Block}
use Rattle.gno_codec.specs.declared.item.Change.{Change}
use Rattle.gno_codec.specs.declared.item.CommitItem.{CommitItem}
use Rattle.gno_codec.specs.declared.item.ShelfItem.TheVariants as items
use Rattle.gno_codec.specs.Shelf.{ComesBefore, IsShelf, shelf_bytes}
use Rattle.shelf_records.specs.declared.moves.Move.{Move}
use Rattle.shelf_records.specs.Book.{new_blocks}
use Rattle.shelf_records.specs.Changes.{all_moved, blocks_of_changes}
use Rattle.shelf_records.specs.Filed.{IsFiled}
use Rattle.shelf_records.specs.Shelved.{FitsMetric, IsOfPolicy, MayFollow, Shelved, after_record, committed, kept_after, metric_of, slot}
use Rattle.block_slots.specs.declared.slots.Piece.{Piece}
use Rattle.block_slots.specs.Reads.{IsReadOnly}
use Rattle.block_slots.specs.Slots.{FillsSlot, places_of}
use Rattle.shelf_blocks.specs.declared.turn.Made.{Made}
use Rattle.shelf_blocks.specs.Blocks.{HoldsMetric, IsRaw}
use Rattle.shelf_blocks.specs.Pieces.{AreChunkPieces, AreEnough, IsPiece, block_of}
use Rattle.shelf_blocks.specs.Turns.{AreFitting, AreMade, AreTurned, made_count}
use Rattle.split_store.specs.declared.turn.Cut.{Cut}
use Rattle.split_store.specs.declared.turn.Turn.{Turn}
use Rattle.split_store.specs.Loading.{IsSound}

-- what was made for each series of a metric, by prepared work
pub record AreMadeOf (told : Option (List ℕ)) (m : Shelved) (p : PreparedView) (made : List Made) : Type 0 where
  pub count : length made ≡ length m.kept
  pub are : AreMade told m p made

-- prepared work is of a live metric, and what was made fits its series
pub record FitsTurn (metrics : List Shelved) (p : PreparedView) (made : List Made) : Type 0 where
  pub metric : Shelved
  pub live : metric_of p.job.metric metrics ≡ Some metric
  pub policy : p.job.policy ≡ metric.policy
  pub sound : IsSound metric
  pub count : length made ≡ length metric.kept
  pub fit : AreFitting metric made

-- there is a slot for each chunk of the raw series, and for each split that is made
pub record AreTaken (p : PreparedView) (made : List Made) (taken : List ℕ) : Type 0 where
  pub chunks : ℕ
  pub enough : AreEnough (length p.raw.points) chunks
  pub long : length taken ≡ chunks + made_count made

-- So many slots are written for prepared work of a live metric, where the blocks are told to hold this: one for each
-- chunk of the raw series, and one for each split that is made.
pub record AreSlotsOf (told : Option (List ℕ)) (metrics : List Shelved) (p : PreparedView) (slots : ℕ) : Type 0 where
  pub metric : Shelved
  pub live : metric_of p.job.metric metrics ≡ Some metric
  pub made : List Made
  pub are : AreMade told metric p made
  pub chunks : ℕ
  pub enough : AreEnough (length p.raw.points) chunks
  pub slots_are : slots ≡ chunks + made_count made

-- What a commit does to the blocks: it reads them alone, or writes its slots once each and syncs them.
pub data WritesBlocks {D : Type 0} (g : Ghosts D) (metrics : List Shelved) (p : PreparedView) (old new : D) : Type 0 where
  none : IsReadOnly g old new → WritesBlocks g metrics p old new
  some : (slots : ℕ) → AreSlotsOf (g.told old) metrics p slots → g.came (slots + 1) old new → WritesBlocks g metrics p old new

-- The raw series and the splits that are made were cut into pieces for the slots that were taken, the raw series
-- first; the changes are those of the moves of each series.
pub record IsCut (m : Shelved) (p : PreparedView) (made : List Made) (taken : List ℕ) (cut : Cut) : Type 0 where
  pub filed : IsFiled m
  pub prepared : IsPrepared p
  pub series : IsRaw p.raw
  pub raws : List Piece
  pub news : List Piece
  pub pieces_are : cut.pieces.items ≡ raws ++ news
  pub own : List ℕ
  pub others : List ℕ
  pub taken_are : taken ≡ own ++ others
  pub enough : AreEnough (length p.raw.points) (length own)
  pub raw : AreChunkPieces p.raw.points own raws
  pub news_at : places_of news ≡ others
  pub news_fit : All IsPiece news
  pub moves : List (List Move)
  pub turned : AreTurned m cut.pieces.items 0 made cut.series.items moves
  pub chunks : cut.chunks.items ≡ map block_of raws
  pub in_order : AllPairs ComesBefore cut.changes.items
  pub of_policy : All (IsOfPolicy m.policy) cut.changes.items
  pub moved : map (kept_after cut.changes.items) m.kept ≡ all_moved m.kept moves
  pub blocks : blocks_of_changes cut.changes.items ≡ map block_of news

-- the record of prepared work, with these chunks and changes
abbrev pub item_of : PreparedView → List Block → List Change → CommitItem
item_of p chunks changes = record {
  metric = p.job.metric;
  done = p.job.upto;
  last = p.raw.last;
  anchor = p.raw.anchor;
  chunks = chunks;
  changes = changes;
}

-- What is ready to be written for prepared work of a metric: pieces for the slots that were taken, and a record that
-- may follow. Once the pieces are written, with what the blocks hold of the metric beside them, they hold it as it is
-- after the commit.
pub record IsTurnOf (m : Shelved) (p : PreparedView) (made : List Made) (taken : List ℕ) (turn : Turn) : Type 0 where
  pub room : slot ≤ vec_capacity turn.buffer
  pub places : places_of turn.pieces.items ≡ taken
  pub fit : All IsPiece turn.pieces.items
  pub chunks : List Block
  pub changes : List Change
  pub item_is : turn.item ≡ item_of p chunks changes
  pub spelled : turn.body.items ≡ shelf_bytes (items.Commit turn.item)
  pub is : IsShelf (items.Commit turn.item)
  pub filed : IsFiled m
  pub order : AllPairs ComesBefore turn.item.changes
  pub follows : FitsMetric turn.item m
  pub kept : turn.series.items ≡ map (λ k. k.splits) (map (kept_after turn.item.changes) m.kept)
  pub blocks : new_blocks turn.item ≡ map block_of turn.pieces.items
  pub written : (old new : List ℕ) (l : Live) → AreMade (Some old) m p made → All (FillsSlot new) turn.pieces.items
      → HoldsMetric old m l → HoldsMetric new m l → HoldsMetric new (committed turn.item m) (after_commit p l)

-- What a commit is ready to write, where the blocks are told to hold this: it is of a live metric, by what was made
-- of its series.
pub record IsReady (told : Option (List ℕ)) (metrics : List Shelved) (p : PreparedView) (taken : List ℕ) (turn : Turn) : Type 0 where
  pub metric : Shelved
  pub live : metric_of p.job.metric metrics ≡ Some metric
  pub policy : p.job.policy ≡ metric.policy
  pub made : List Made
  pub are : AreMade told metric p made
  pub slots : AreTaken p made taken
  pub turn_is : IsTurnOf metric p made taken turn

-- The live metrics after a commit of prepared work: those after a record of it, which may follow.
pub record IsCommitted (p : PreparedView) (old new : List Shelved) : Type 0 where
  pub chunks : List Block
  pub changes : List Change
  pub follows : MayFollow old (items.Commit (item_of p chunks changes))
  pub new_is : new ≡ after_record old (items.Commit (item_of p chunks changes))

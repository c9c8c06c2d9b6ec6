-- The records of the shelf's log.
use Rattle.std.specs.Prelude.{◌≡◌, ℕ, ◌-◌, ◌*◌, ◌^◌, ◌<◌, ◌≤◌, ◌⊎◌, List, [], ◌∷◌, ◌++◌, length, Option, Some, None, IfSome, All}
use Rattle.std.specs.List.{flat_map, AllPairs}
use Rattle.byteorder.specs.Endian.{big_bytes}
use Rattle.archive_policy.specs.Kinds.{kind_index}
use Rattle.archive_policy.specs.Policies.{ArchivePolicy, IsArchivePolicy}
use Rattle.gno_codec.specs.declared.item.Block.{Block}
use Rattle.gno_codec.specs.declared.item.Change.{Change}
use Rattle.gno_codec.specs.declared.item.CommitItem.{CommitItem}
use Rattle.gno_codec.specs.declared.item.ShelfItem.{ShelfItem}
use Rattle.gno_codec.specs.declared.item.ShelfItem.TheVariants as items
use Rattle.gno_codec.specs.Incoming.{measure_bytes, IsMeasure}
use Rattle.gno_codec.specs.Policy.{policy_bytes}

-- ---- spellings

-- what there is behind a byte 1, or a byte 0
abbrev pub optional_bytes : {A : Type 0} → (A → List ℕ) → Option A → List ℕ
optional_bytes spelled None = 0 ∷ []
optional_bytes spelled (Some x) = 1 ∷ spelled x

-- the last timestamp, or the greatest number of eight bytes
abbrev pub last_bytes : Option ℕ → List ℕ
last_bytes None = big_bytes 8 (2 ^ 64 - 1)
last_bytes (Some at) = big_bytes 8 at

-- a place in eight bytes, and a length in four
abbrev pub block_bytes : Block → List ℕ
block_bytes block = big_bytes 8 block.at ++ big_bytes 4 block.len

-- the block of a split, or the place 0 and the length 0 where the split is gone
abbrev pub stored_bytes : Option Block → List ℕ
stored_bytes None = big_bytes 8 0 ++ big_bytes 4 0
stored_bytes (Some block) = block_bytes block

-- a definition and a kind in a byte each, the split's key, and where it is stored
abbrev pub change_bytes : Change → List ℕ
change_bytes c =
    big_bytes 1 c.definition ++ big_bytes 1 (kind_index c.kind) ++ big_bytes 8 c.key ++ stored_bytes c.block

-- how many blocks, and the blocks
abbrev pub blocks_bytes : List Block → List ℕ
blocks_bytes blocks = big_bytes 8 (length blocks) ++ flat_map block_bytes blocks

-- how many changes, and the changes
abbrev pub changes_bytes : List Change → List ℕ
changes_bytes changes = big_bytes 8 (length changes) ++ flat_map change_bytes changes

-- `Register`: the metric, its done number, and its policy
abbrev pub register_bytes : ℕ → ℕ → ArchivePolicy → List ℕ
register_bytes metric done policy = 1 ∷ big_bytes 16 metric ++ big_bytes 8 done ++ policy_bytes policy

-- `Commit`: the metric, its done number, the last timestamp, the anchor, the raw chunks, and the changes
abbrev pub commit_bytes : CommitItem → List ℕ
commit_bytes c =
    2 ∷ big_bytes 16 c.metric.0 ++ big_bytes 8 c.done ++ last_bytes c.last ++ optional_bytes measure_bytes c.anchor
    ++ blocks_bytes c.chunks ++ changes_bytes c.changes

-- `Drop`: the metric
abbrev pub drop_bytes : ℕ → List ℕ
drop_bytes metric = 3 ∷ big_bytes 16 metric

-- the one spelling of a record
abbrev pub shelf_bytes : ShelfItem → List ℕ
shelf_bytes (items.Register metric done policy) = register_bytes metric.0 done policy
shelf_bytes (items.Commit commit) = commit_bytes commit
shelf_bytes (items.Drop metric) = drop_bytes metric.0

-- ---- what has a spelling

-- a block has at least one byte
abbrev pub HasLength : Block → Type 0
HasLength block = 1 ≤ block.len

-- a block: at least one byte at a place
pub record IsBlock (block : Block) : Type 0 where
  pub place : block.at < 2 ^ 64
  pub some : 1 ≤ block.len
  pub length : block.len < 2 ^ 32

-- a change of a split
pub record IsChange (c : Change) : Type 0 where
  pub definition : c.definition < 256
  pub key : c.key < 9 * 10 ^ 18
  pub block : IfSome c.block IsBlock

-- a change comes before another: by definition, then kind, then key
abbrev pub ComesBefore : Change → Change → Type 0
ComesBefore c d =
    (c.definition < d.definition)
    ⊎ ((c.definition ≡ d.definition)
    × ((kind_index c.kind < kind_index d.kind) ⊎ ((kind_index c.kind ≡ kind_index d.kind) × (c.key < d.key))))

-- a `Register` that has a record
pub record IsRegister (metric number : ℕ) (kept_by : ArchivePolicy) : Type 0 where
  pub id : metric < 2 ^ 128
  pub done : number < 2 ^ 64
  pub policy : IsArchivePolicy kept_by

-- a `Commit` that has a record
pub record IsCommit (c : CommitItem) : Type 0 where
  pub id : c.metric.0 < 2 ^ 128
  pub done : c.done < 2 ^ 64
  pub last : IfSome c.last (λ at. at < 9 * 10 ^ 18)
  pub anchor : IfSome c.anchor IsMeasure
  pub chunk_count : length c.chunks < 2 ^ 64
  pub chunks : All IsBlock c.chunks
  pub change_count : length c.changes < 2 ^ 64
  pub changes : All IsChange c.changes
  pub in_order : AllPairs ComesBefore c.changes

-- what has a record
abbrev pub IsShelf : ShelfItem → Type 0
IsShelf (items.Register metric done policy) = IsRegister metric.0 done policy
IsShelf (items.Commit commit) = IsCommit commit
IsShelf (items.Drop metric) = metric.0 < 2 ^ 128

-- what the types leave open of a record: each block has a length, and the changes come in order
pub record IsOrderly (c : CommitItem) : Type 0 where
  pub chunks : All HasLength c.chunks
  pub changes : All (λ change. IfSome change.block HasLength) c.changes
  pub in_order : AllPairs ComesBefore c.changes

abbrev pub IsWritable : ShelfItem → Type 0
IsWritable (items.Register metric done policy) = Unit {0}
IsWritable (items.Commit commit) = IsOrderly commit
IsWritable (items.Drop metric) = Unit {0}

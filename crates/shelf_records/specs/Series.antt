-- Where the splits of one definition and kind are stored.
use Rattle.std.specs.Prelude.{◌≡◌, ℕ, ◌==◌, nat_lt, if◌then◌else◌, List, [], ◌∷◌, ◌++◌, length, Option, Some, None}
use Rattle.std.specs.List.{filter, fold}
use Rattle.std.specs.List.Sorted.{IsStrictlyIncreasing}
use Rattle.gno_codec.specs.declared.item.Block.{Block}
use Rattle.shelf_records.specs.declared.moves.Move.{Move}
use Rattle.shelf_records.specs.declared.series.Stored.{Stored}
use Rattle.shelf_records.specs.declared.series.Series.TheInside.{Inside}

-- keys with their blocks
abbrev pub stored_at : List ℕ → List Block → List Stored
stored_at [] blocks = []
stored_at (key ∷ keys) [] = []
stored_at (key ∷ keys) (block ∷ blocks) = record { key = key; block = block } ∷ stored_at keys blocks

-- a split at a block, or none
abbrev pub stored_or_gone : ℕ → Option Block → List Stored
stored_or_gone key None = []
stored_or_gone key (Some block) = record { key = key; block = block } ∷ []

-- the splits once the one with this key is at another block, or gone: those before it and those behind it
-- stay
abbrev pub changed : ℕ → Option Block → List Stored → List Stored
changed key block splits =
    filter (λ s. nat_lt s.key key) splits ++ (stored_or_gone key block ++ filter (λ s. nat_lt key s.key) splits)

-- where the split with this key is, if it is stored
abbrev pub block_of : ℕ → List Stored → Option Block
block_of key [] = None
block_of key (s ∷ splits) = if s.key == key then Some s.block else block_of key splits

-- what contracts see of a series
abbrev pub series_view : Inside → List Stored
series_view s = stored_at s.keys.items s.blocks.items

-- each key has its block, and the keys rise
pub record IsSeries (s : Inside) : Type 0 where
  pub paired : length s.keys.items ≡ length s.blocks.items
  pub rising : IsStrictlyIncreasing s.keys.items

-- a split's move: the split with this key is at this block from then on, or gone
abbrev pub after_move : List Stored → Move → List Stored
after_move splits move = changed move.key move.block splits

-- the splits after moves, one after another
abbrev pub after_moves : List Move → List Stored → List Stored
after_moves moves splits = fold after_move splits moves

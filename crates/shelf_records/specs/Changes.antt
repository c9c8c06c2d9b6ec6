-- The changes that a commit of moves records.
use Rattle.std.specs.Prelude.{◌≡◌, ℕ, ◌%◌, List, [], ◌∷◌, ◌++◌, map, All, Some, option_to_list}
use Rattle.std.specs.List.{flat_map, slice_get}
use Rattle.archive_policy.specs.declared.definition.Definition.{Definition}
use Rattle.archive_policy.specs.Policies.{ArchivePolicy}
use Rattle.series_model.specs.Stored.{split_span}
use Rattle.gno_codec.specs.declared.item.Block.{Block}
use Rattle.gno_codec.specs.declared.item.Change.{Change}
use Rattle.shelf_records.specs.declared.moves.Move.{Move}
use Rattle.shelf_records.specs.Filed.{layout_of}
use Rattle.shelf_records.specs.Series.{after_moves}
use Rattle.shelf_records.specs.Shelved.{Kept}

-- a move of a split of a definition and kind
abbrev pub change_of : Kept → Move → Change
change_of kept m = record { definition = kept.definition; kind = kept.kind; key = m.key; block = m.block }

-- the changes of lists of moves, one for each definition and kind
abbrev pub changes_by : List Kept → List (List Move) → List Change
changes_by [] moves = []
changes_by (kept ∷ layout) [] = []
changes_by (kept ∷ layout) (own ∷ moves) = map (change_of kept) own ++ changes_by layout moves

-- each series after its own moves
abbrev pub all_moved : List Kept → List (List Move) → List Kept
all_moved [] moves = []
all_moved (kept ∷ others) [] = []
all_moved (kept ∷ others) (own ∷ moves) =
    record kept { splits = after_moves own kept.splits } ∷ all_moved others moves

-- the keys of the moves of each definition and kind are multiples of 3,600 of the definition's granularities
abbrev pub HaveKeys : ArchivePolicy → List (List Move) → Type 0
HaveKeys policy moves =
    (place : ℕ) (kept : Kept) (own : List Move) (d : Definition) → slice_get (layout_of policy) place ≡ Some kept
    → slice_get moves place ≡ Some own → slice_get policy.definitions kept.definition ≡ Some d
    → All (λ m. m.key % split_span d.granularity ≡ 0) own

-- the blocks at which changes put splits, in order
abbrev pub blocks_of_changes : List Change → List Block
blocks_of_changes changes = flat_map (λ c. option_to_list c.block) changes

-- Which moves lead from some splits to others.
use Rattle.std.specs.Prelude.{◌≡◌, ℕ, ◌+◌, ◌<◌, ◌≤◌, ◌==◌, nat_lt, if◌then◌else◌, Bool, true, false, List, [], ◌∷◌, length, map, Option, Some, None, option_to_list, drop}
use Rattle.std.specs.List.{flat_map, list_any}
use Rattle.gno_codec.specs.declared.item.Block.{Block}
use Rattle.shelf_records.specs.declared.moves.Move.{Move}
use Rattle.shelf_records.specs.declared.moves.Step.{Step}
use Rattle.shelf_records.specs.declared.series.Stored.{Stored}

-- the move of a split to its block
abbrev pub put_of : Stored → Move
put_of s = record { key = s.key; block = Some s.block }

-- the move of a split that is gone
abbrev pub gone_of : ℕ → Move
gone_of key = record { key = key; block = None }

-- a block, or none
abbrev pub is_block : Option Block → Bool
is_block None = false
is_block (Some block) = true

-- a move to a block
abbrev pub is_put : Move → Bool
is_put m = is_block m.block

-- one of these splits has the key
abbrev pub is_made : List Stored → ℕ → Bool
is_made made key = list_any (λ s. s.key == key) made

-- the blocks to which moves go, in order
abbrev pub blocks_of_moves : List Move → List Block
blocks_of_moves moves = flat_map (λ m. option_to_list m.block) moves

-- the moves by rising key, of which a key and the rest of the keys are one side, and splits the other
abbrev pub merged_with : (List Stored → List Move) → ℕ → List Stored → List Move
merged_with rest key [] = gone_of key ∷ rest []
merged_with rest key (s ∷ made) =
    if nat_lt key s.key then gone_of key ∷ rest (s ∷ made)
    else (if key == s.key then put_of s ∷ rest made else put_of s ∷ merged_with rest key made)

-- the moves, by rising key, of splits with these keys that are gone unless they are made again, and of those
-- that are made
abbrev pub merged : List ℕ → List Stored → List Move
merged [] made = map put_of made
merged (key ∷ gone) made = merged_with (merged gone) key made

-- a step goes past some of both sides, with their first move
pub record Leads (step : Step) (gone : List ℕ) (made : List Stored) : Type 0 where
  pub passed : step.passed ≤ length gone
  pub reached : step.reached ≤ length made
  pub further : 0 < step.passed + step.reached
  pub leads : step.moved ∷ merged (drop step.passed gone) (drop step.reached made) ≡ merged gone made

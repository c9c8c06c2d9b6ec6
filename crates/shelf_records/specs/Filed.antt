-- The series of a live metric, in the order of its policy.
use Rattle.std.specs.Prelude.{◌≡◌, ℕ, ◌+◌, ◌*◌, ◌==◌, ◌&&◌, nat_lt, if◌then◌else◌, Bool, List, [], ◌∷◌, length, map, All, Option, None, position}
use Rattle.std.specs.Option.{option_map}
use Rattle.std.specs.List.Sorted.{IsStrictlyIncreasing}
use Rattle.archive_policy.specs.declared.kind.Kind.{Kind}
use Rattle.archive_policy.specs.Kinds.{kind_index}
use Rattle.archive_policy.specs.Policies.{AreDefinitions, AreKinds, ArchivePolicy}
use Rattle.shelf_records.specs.declared.filed.Filed.TheInside.{Inside}
use Rattle.shelf_records.specs.declared.series.Stored.{Stored}
use Rattle.shelf_records.specs.Shelved.{Kept, Shelved, none_kept}

-- each definition of a policy and, within it, each kind, without splits
abbrev pub layout_of : ArchivePolicy → List Kept
layout_of policy = none_kept policy.kinds 0 policy.definitions

-- a definition and kind without its splits
abbrev pub emptied : Kept → Kept
emptied kept = record kept { splits = [] }

-- definitions and kinds with these splits, one after another
abbrev pub with_splits : List Kept → List (List Stored) → List Kept
with_splits [] series = []
with_splits (kept ∷ layout) [] = []
with_splits (kept ∷ layout) (splits ∷ series) = record kept { splits = splits } ∷ with_splits layout series

-- the keys of splits rise
abbrev pub AreRising : List Stored → Type 0
AreRising splits = IsStrictlyIncreasing (map (λ s. s.key) splits)

-- a metric as it is filed: it has a series for each definition of its policy and, within it, each kind, and
-- their keys rise
pub record IsFiled (m : Shelved) : Type 0 where
  pub definitions : AreDefinitions m.policy.definitions
  pub kinds : AreKinds m.policy.kinds
  pub layout : map emptied m.kept ≡ layout_of m.policy
  pub rising : All (λ kept. AreRising kept.splits) m.kept

-- the series of a definition and kind
abbrev pub is_series_of : ℕ → Kind → Kept → Bool
is_series_of definition kind kept = kept.definition == definition && kind_index kept.kind == kind_index kind

-- the place of a definition's and kind's series, if the policy has both
abbrev pub place_in : ArchivePolicy → ℕ → Kind → Option ℕ
place_in policy definition kind =
    if nat_lt definition (length policy.definitions)
    then option_map (λ place. definition * length policy.kinds + place) (position (λ k. kind_index k == kind_index kind) policy.kinds)
    else None

-- the splits of a definition and kind, none where there is no such series
abbrev pub splits_of : ℕ → Kind → List Kept → List Stored
splits_of definition kind [] = []
splits_of definition kind (kept ∷ others) =
    if is_series_of definition kind kept then kept.splits else splits_of definition kind others

-- what contracts see of a filed metric
abbrev pub filed_view : Inside → Shelved
filed_view f = record {
  id = f.id;
  policy = f.policy;
  done = f.done;
  last = f.last;
  anchor = f.anchor;
  chunks = f.chunks;
  kept = with_splits (layout_of f.policy) f.kept.items;
}

-- there is a series for each definition and kind, and the keys rise
pub record HoldsSeries (f : Inside) : Type 0 where
  pub definitions : AreDefinitions f.policy.definitions
  pub kinds : AreKinds f.policy.kinds
  pub paired : length f.kept.items ≡ length (layout_of f.policy)
  pub rising : All AreRising f.kept.items

-- What three disks hold, by the pair and the book.
use Rattle.std.proofs.Common.{◌≡◌, ◌&&◌, ℕ, List, [], length, map, Option, Some, None, sym, ap, subst, ◌∙◌}
use Rattle.std.specs.Option.{IfSome, IsSome, is_some}
use Rattle.std.proofs.lemmas.List.Elements.{All-nil}
use Rattle.gno_disk.specs.Disk.{Only}
use Rattle.gno_disk.specs.declared.disk.Disk.{Ghosts}
use Rattle.split_update.specs.Live.{Live}
use Rattle.gno_codec.specs.Shelf.{IsShelf, shelf_bytes}
use Rattle.log_pair.specs.declared.place.Place.{Place}
use Rattle.log_pair.specs.Pair.{HoldsPair}
use Rattle.log_pair.specs.PairView.{IsLastingPair, PairView}
use Rattle.shelf_records.specs.Shelved.{AreLegal, Shelved}
use Rattle.shelf_blocks.specs.Blocks.{HoldsMetrics}
use Rattle.split_store.specs.Loading.{AreRecordsOf}
use Rattle.split_store.specs.Shelf.{HoldsShelf, IsShelfLog, shelf_place}

pub same_place : (place : Place) → place.role ≡ 3 → shelf_place place ≡ place
same_place place role = ap (λ r. record { role = r; sack = place.sack; sacks = place.sacks }) (sym role)

-- the empty log, and any blocks
pub empty_held : (place : Place) (a b z : List ℕ) → HoldsPair (shelf_place place) 1 [] a b → HoldsShelf place [] a b z
empty_held place a b z held = record { epoch = 1; items = []; log = record { held = held; each = All-nil IsShelf; legal = tt }; stand = tt }

-- the records that a book has
pub log_by : (size : ℕ) (metrics : List Shelved) (place : Place) (epoch : ℕ) (records : List (List ℕ)) (a b z : List ℕ) → place.role ≡ 3 → length z ≡ size
    → (are : AreRecordsOf size metrics records) → HoldsPair place epoch records a b → IsShelfLog place (length z) epoch are.items a b
log_by size metrics place epoch records a b z role long are held = record {
  held = subst (λ p. HoldsPair p epoch (map shelf_bytes are.items) a b) (sym (same_place place role)) (subst (λ rs. HoldsPair place epoch rs a b) are.are held);
  each = are.each;
  legal = subst (λ n. AreLegal n [] are.items) (sym long) are.legal;
}

-- and blocks that hold what its metrics have
pub held_by : (size : ℕ) (metrics : List Shelved) (place : Place) (epoch : ℕ) (records : List (List ℕ)) (lives : List Live) (a b z : List ℕ) → place.role ≡ 3 → length z ≡ size
    → AreRecordsOf size metrics records → HoldsPair place epoch records a b → HoldsMetrics z metrics lives → HoldsShelf place lives a b z
held_by size metrics place epoch records lives a b z role long are held stand = record {
  epoch = epoch;
  items = are.items;
  log = log_by size metrics place epoch records a b z role long are held;
  stand = subst (λ ms. HoldsMetrics z ms lives) (sym are.metrics_are) stand;
}

-- what a stop leaves of a shelf that is synced
pub lasting_held : {D : Type 0} (g : Ghosts D) → ((disk : D) → IfSome (g.told disk) (λ bytes. length bytes ≡ g.size disk)) → (pair : PairView D) (blocks : D) (metrics : List Shelved) → pair.place.role ≡ 3
    → IsSome pair.records → IfSome pair.records (AreRecordsOf (g.size blocks) metrics) → IfSome (g.told blocks) (λ bytes. Only bytes (g.may_leave blocks)) → IsLastingPair g pair
    → (lives : List Live) (bytes a b z : List ℕ) → g.told blocks ≡ Some bytes → HoldsMetrics bytes metrics lives → g.may_leave pair.first a → g.may_leave pair.second b → g.may_leave blocks z → HoldsShelf pair.place lives a b z
lasting_held {D} g whole pair blocks metrics role told are synced lasting lives bytes a b z tells stand left left_too left_last =
    let only : Only bytes (g.may_leave blocks) = subst (λ o. IfSome o (λ bytes. Only bytes (g.may_leave blocks))) tells synced in
    let long : length bytes ≡ g.size blocks = subst (λ o. IfSome o (λ bytes. length bytes ≡ g.size blocks)) tells (whole blocks) in
    let same : z ≡ bytes = only z left_last in
    by pair.records told are (lasting a b left left_too) (ap length same ∙ long) (subst (λ x. HoldsMetrics x metrics lives) (sym same) stand)
  where
    by : (records : Option (List (List ℕ))) → IsSome records → IfSome records (AreRecordsOf (g.size blocks) metrics) → IfSome records (λ rs. HoldsPair pair.place pair.epoch rs a b)
        → length z ≡ g.size blocks → HoldsMetrics z metrics lives → HoldsShelf pair.place lives a b z
    by None told are held long stand = absurd cc
    by (Some rs) told are held long stand = held_by (g.size blocks) metrics pair.place pair.epoch rs lives a b z role long are held stand

-- the records are told, where both disks of the pair tell their bytes
pub records_told : (first second a b : Option (List ℕ)) (records : Option (List (List ℕ))) → is_some records ≡ (is_some a && is_some b) → is_some first ≡ is_some a → is_some second ≡ is_some b
    → IsSome first → IsSome second → IsSome records
records_told first second a b records told same same_too is is_too =
    told ∙ ap (λ x. x && is_some b) (sym same ∙ is) ∙ (sym same_too ∙ is_too)

-- Records of a shelf taken in one after another.
use Rattle.std.proofs.Common.{◌≡◌, ℕ, ◌+◌, List, [], ◌∷◌, ◌++◌, map, take, length, Option, Some, None, refl, sym, ap, subst, ◌∙◌, arith}
use Rattle.std.specs.Option.{IfSome}
use Rattle.std.specs.List.{slice_get}
use Rattle.std.proofs.lemmas.List.{take_all}
use Rattle.std.proofs.lemmas.List.Elements.{All-nil, All-push}
use Rattle.gno_codec.specs.declared.item.ShelfItem.{ShelfItem}
use Rattle.gno_codec.specs.Shelf.{IsShelf, shelf_bytes}
use Rattle.pair_reading.proofs.ReadLemmas.{one_more}
use Rattle.shelf_records.specs.Shelved.{AreBlocks, MayFollow, Shelved, after_record, after_records}
use Rattle.shelf_blocks.proofs.Held.{legal_more, records_more}
use Rattle.split_store.specs.Damage.{IsOddRecord}
use Rattle.split_store.specs.Loading.{AreRecordsOf, IsOddBehind}

-- no record yet
pub none_read : (size : ℕ) (records : Option (List (List ℕ))) (metrics : List Shelved) → metrics ≡ [] → IfSome records (λ rs. AreRecordsOf size metrics (take 0 rs))
none_read size None metrics none = tt
none_read size (Some records) metrics none = record { items = []; each = All-nil IsShelf; are = refl; legal = tt; metrics_are = sym none }

pub spelled_more : (items : List ShelfItem) (item : ShelfItem) → map shelf_bytes (items ++ item ∷ []) ≡ map shelf_bytes items ++ shelf_bytes item ∷ []
spelled_more [] item = refl
spelled_more (x ∷ items) item = ap (λ rs. shelf_bytes x ∷ rs) (spelled_more items item)

-- a record more
pub read_more : (size index : ℕ) (body : List ℕ) (item : ShelfItem) (metrics new : List Shelved) (records : Option (List (List ℕ))) → IfSome records (λ rs. slice_get rs index ≡ Some body)
    → IfSome records (λ rs. AreRecordsOf size metrics (take index rs)) → IsShelf item → body ≡ shelf_bytes item → MayFollow metrics item → AreBlocks size new → new ≡ after_record metrics item
    → IfSome records (λ rs. AreRecordsOf size new (take (index + 1) rs))
read_more size index body item metrics new None stands are shelf spelled follows blocks new_is = tt
read_more size index body item metrics new (Some records) stands are shelf spelled follows blocks new_is = record {
  items = are.items ++ item ∷ [];
  each = All-push IsShelf are.items item are.each shelf;
  are = one_more records index body stands ∙ ap (λ rs. rs ++ body ∷ []) are.are ∙ ap (λ (b : List ℕ). map shelf_bytes are.items ++ b ∷ []) spelled ∙ sym (spelled_more are.items item);
  legal = legal_more size [] are.items item are.legal
      (subst (λ ms. MayFollow ms item) (sym are.metrics_are) follows)
      (subst (λ ms. AreBlocks size (after_record ms item)) (sym are.metrics_are) (subst (AreBlocks size) new_is blocks));
  metrics_are = records_more [] are.items item ∙ ap (λ ms. after_record ms item) are.metrics_are ∙ sym new_is;
}

-- a body that is odd behind the records that were read
pub odd_behind : (size index : ℕ) (body : List ℕ) (metrics : List Shelved) (records : Option (List (List ℕ))) → IfSome records (λ rs. AreRecordsOf size metrics (take index rs))
    → ((items : List ShelfItem) → after_records [] items ≡ metrics → IsOddRecord size items body) → IfSome records (λ rs. IsOddBehind size (take index rs) body)
odd_behind size index body metrics None are odd = tt
odd_behind size index body metrics (Some records) are odd =
    record { items = are.items; each = are.each; are = are.are; legal = are.legal; odd = odd are.items are.metrics_are }

-- all were read
pub all_read : (size : ℕ) (metrics : List Shelved) (records : Option (List (List ℕ))) (index : ℕ) → IfSome records (λ rs. length rs ≡ index) → IfSome records (λ rs. AreRecordsOf size metrics (take index rs)) → IfSome records (AreRecordsOf size metrics)
all_read size metrics None index counted are = tt
all_read size metrics (Some records) index counted are = subst (AreRecordsOf size metrics) (take_all index records (omega (arith, counted))) are

-- there is none
pub none_are : (size : ℕ) (metrics : List Shelved) (records : Option (List (List ℕ))) → metrics ≡ [] → IfSome records (λ rs. rs ≡ []) → IfSome records (AreRecordsOf size metrics)
none_are size metrics None no_metric none = tt
none_are size metrics (Some records) no_metric none = record { items = []; each = All-nil IsShelf; are = none; legal = tt; metrics_are = sym no_metric }

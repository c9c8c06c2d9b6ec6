-- A shelf that was mounted.
use Rattle.std.proofs.Common.{◌≡◌, inl, inr, ℕ, ◌+◌, ◌&&◌, List, [], ◌∷◌, ◌++◌, length, map, take, drop, Option, Some, None, refl, sym, ap, subst, ◌∙◌, arith}
use Rattle.std.specs.Bool.{⊤}
use Rattle.std.specs.Option.{IfSome, is_some}
use Rattle.std.specs.Prelude.{All, slice_get}
use Rattle.std.proofs.lemmas.List.{drop_more, take-append-drop}
use Rattle.std.proofs.lemmas.Option.{get_or_from_slice_get, slice_get_within}
use Rattle.std.proofs.lemmas.List.Elements.{All-head, All-tail}
use Rattle.gno_disk.specs.Disk.{Elapses, NoMore}
use Rattle.gno_disk.specs.Phases.{IsUnwritten, phase}
use Rattle.gno_disk.specs.declared.disk.Disk.{Ghosts}
use Rattle.gno_num.specs.Faults.{Rose}
use Rattle.gno_num.specs.declared.faults.Damaged.{Damaged as Damage}
use Rattle.gno_num.specs.declared.faults.DiskFault.{DiskFault as Fault}
use Rattle.gate_log.specs.LogView.{IsFault, MatchMountFault}
use Rattle.gate_log.specs.declared.fault.MountFault.{MountFault}
use Rattle.gate_log.specs.declared.fault.MountFault.TheVariants.{DiskFault as MountDisk, Damaged as MountDamaged, Memory as MountMemory}
use Rattle.gno_codec.specs.declared.item.ShelfItem.{ShelfItem}
use Rattle.gno_codec.specs.Shelf.{IsShelf, shelf_bytes}
use Rattle.gno_codec.proofs.Steps.{one_spelling}
use Rattle.gno_codec.proofs.ShelfRecords.{shelf_field}
use Rattle.split_update.specs.Live.{Live}
use Rattle.log_pair.specs.declared.place.Place.{Place}
use Rattle.log_pair.specs.Choice.{TwoTold}
use Rattle.log_pair.specs.Pair.{Counts, HoldsPair, place_behind}
use Rattle.log_pair.specs.PairView.{AreOfPair, PairView}
use Rattle.pair_reading.specs.Reading.{IsOddOf}
use Rattle.shelf_records.specs.Shelved.{AreBlocks, AreLegal, MayFollow, Shelved, after_record, after_records}
use Rattle.shelf_blocks.specs.Blocks.{HoldsMetrics}
use Rattle.split_store.specs.Damage.{IsDamagedShelf, IsOddRecord}
use Rattle.split_store.specs.Damage.IsOddRecord.{unspelled, unfit}
use Rattle.split_store.specs.Damage.IsDamagedShelf.{odd}
use Rattle.split_store.specs.Loading.{AreRecordsOf, IsOddBehind}
use Rattle.split_store.specs.Shelf.{HasNoShelfLog, HasShelfLog, HoldsShelf, IsShelfLog, shelf_place}
use Rattle.split_store.proofs.Held.{log_by}
use Rattle.split_store.specs.ShelfView.{ThreeTold}

-- the same bytes are those of the same records
pub same_items : (xs ys : List ShelfItem) → All IsShelf xs → All IsShelf ys → map shelf_bytes xs ≡ map shelf_bytes ys → xs ≡ ys
same_items [] [] each each_too same = refl
same_items [] (y ∷ ys) each each_too same = absurd cc
same_items (x ∷ xs) [] each each_too same = absurd cc
same_items (x ∷ xs) (y ∷ ys) each each_too same =
    let first : x ≡ y = one_spelling shelf_field x y (All-head IsShelf x xs each) (All-head IsShelf y ys each_too) cc in
    let rest : xs ≡ ys = same_items xs ys (All-tail IsShelf x xs each) (All-tail IsShelf y ys each_too) cc in
    ap (λ z. z ∷ xs) first ∙ ap (λ zs. y ∷ zs) rest

-- a fact of three disks from one of two and one more
pub three_of_two : (ta tb tz : Option (List ℕ)) (P : List ℕ → List ℕ → Type 0) (Q : List ℕ → List ℕ → List ℕ → Type 0) → ((x y z : List ℕ) → ta ≡ Some x → tb ≡ Some y → tz ≡ Some z → P x y → Q x y z)
    → TwoTold ta tb P → ThreeTold ta tb tz Q
three_of_two None tb tz P Q has p = tt
three_of_two (Some x) None tz P Q has p = tt
three_of_two (Some x) (Some y) None P Q has p = tt
three_of_two (Some x) (Some y) (Some z) P Q has p = has x y z refl refl refl p

-- the metrics of the book are those of any records that the pair holds
pub metrics_by : (size : ℕ) (metrics : List Shelved) (place : Place) (records : Option (List (List ℕ))) (epoch number length_z : ℕ) (items : List ShelfItem) (x y : List ℕ) → IfSome records (AreRecordsOf size metrics)
    → ((e : ℕ) (rs : List (List ℕ)) → HoldsPair (shelf_place place) e rs x y → (epoch ≡ e) × (records ≡ Some rs)) → IsShelfLog place length_z number items x y → (epoch ≡ number) × (metrics ≡ after_records [] items)
metrics_by size metrics place records epoch number length_z items x y are exact log =
    let is = exact number (map shelf_bytes items) log.held in
    let of : AreRecordsOf size metrics (map shelf_bytes items) = subst (λ o. IfSome o (AreRecordsOf size metrics)) is.1 are in
    (is.0, sym of.metrics_are ∙ ap (after_records []) (sym (same_items items of.items log.each of.each of.are)))

-- what the blocks hold, by the book
pub stand_by : (size : ℕ) (metrics : List Shelved) (place : Place) (records : Option (List (List ℕ))) (epoch : ℕ) (lives : List Live) (x y z : List ℕ) → IfSome records (AreRecordsOf size metrics)
    → ((e : ℕ) (rs : List (List ℕ)) → HoldsPair (shelf_place place) e rs x y → (epoch ≡ e) × (records ≡ Some rs)) → HoldsShelf place lives x y z → HoldsMetrics z metrics lives
stand_by size metrics place records epoch lives x y z are exact h =
    subst (λ ms. HoldsMetrics z ms lives) (sym (metrics_by size metrics place records epoch h.epoch (length z) h.items x y are exact h.log).1) h.stand

-- the records that the book was read from
pub has_log : {D : Type 0} (p : PairView D) (records : List (List ℕ)) (size : ℕ) (metrics : List Shelved) (place : Place) (x y z : List ℕ) → p.place ≡ shelf_place place → p.records ≡ Some records → length z ≡ size
    → AreOfPair p x y → AreRecordsOf size metrics records → HasShelfLog place (length z) p.epoch metrics x y
has_log p records size metrics place x y z is told long held are =
    let log = log_by size metrics (shelf_place place) p.epoch records x y z refl long are (subst (λ q. HoldsPair q p.epoch records x y) is (subst (λ o. IfSome o (λ rs. HoldsPair p.place p.epoch rs x y)) told held)) in
    record { items = are.items; log = record { held = log.held; each = log.each; legal = log.legal }; metrics_are = sym are.metrics_are }

-- a fault of a part of the call
pub cause_of : (e r : MountFault) (before after counted counted_too : ℕ) (P : Fault → Type 0) (Q Q' : Damage → Type 0) → counted ≡ before → counted_too ≡ after → ((f : Fault) → P f → Rose before after) → ((d : Damage) → Q d → Q' d)
    → MatchMountFault e P Q ⊤ → MatchMountFault e (λ f. r ≡ MountDisk (record { before = counted; after = counted_too })) (λ d. r ≡ MountDamaged d) (r ≡ MountMemory)
    → MatchMountFault r (IsFault before after) Q' ⊤
cause_of (MountDisk f) r before after counted counted_too P Q Q' first last rose damage fault is =
    subst (λ x. MatchMountFault x (IsFault before after) Q' ⊤) (sym is) (record { before_is = first; after_is = last; rose = rose f fault })
cause_of (MountDamaged d) r before after counted counted_too P Q Q' first last rose damage fault is = subst (λ x. MatchMountFault x (IsFault before after) Q' ⊤) (sym is) (damage d fault)
cause_of MountMemory r before after counted counted_too P Q Q' first last rose damage fault is = subst (λ x. MatchMountFault x (IsFault before after) Q' ⊤) (sym is) tt

-- damage of a part of it, where nothing is held
pub never_of : (e r : MountFault) (F : Fault) (P : Fault → Type 0) (Q : Damage → Type 0) (N : Type 0) → ((d : Damage) → Q d → N)
    → MatchMountFault e P Q ⊤ → MatchMountFault e (λ f. r ≡ MountDisk F) (λ d. r ≡ MountDamaged d) (r ≡ MountMemory) → MatchMountFault r (λ _. ⊤) (λ _. N) ⊤
never_of (MountDisk f) r F P Q N never fault is = subst (λ x. MatchMountFault x (λ _. ⊤) (λ _. N) ⊤) (sym is) tt
never_of (MountDamaged d) r F P Q N never fault is = subst (λ x. MatchMountFault x (λ _. ⊤) (λ _. N) ⊤) (sym is) (never d fault)
never_of MountMemory r F P Q N never fault is = subst (λ x. MatchMountFault x (λ _. ⊤) (λ _. N) ⊤) (sym is) tt

-- ---- damage

split_at : (records : List (List ℕ)) (index : ℕ) (body : List ℕ) → slice_get records index ≡ Some body → records ≡ take index records ++ body ∷ drop (index + 1) records
split_at records index body stands =
    sym (take-append-drop index records)
    ∙ ap (λ (rs : List (List ℕ)). take index records ++ rs)
    (drop_more records index [] (slice_get_within records index body stands) ∙ ap (λ (x : List ℕ). x ∷ drop (index + 1) records) (get_or_from_slice_get records index body [] stands))

-- a record that may not stand there is damage
pub odd_damage : {D : Type 0} (p : PairView D) (records : List (List ℕ)) (size : ℕ) (place : Place) (a b : List ℕ) (d : Damage) → p.place ≡ shelf_place place → Counts p.on_second (shelf_place place) p.epoch a b
    → HoldsPair p.place p.epoch records a b → IsOddOf (IsOddBehind size) p records d → IsDamagedShelf place size a b d
odd_damage p records size place a b d is counts held o =
    let of = o.odd in
    let here : records ≡ map shelf_bytes of.items ++ o.body ∷ drop (o.index + 1) records = split_at records o.index o.body o.stands ∙ ap (λ rs. rs ++ o.body ∷ drop (o.index + 1) records) of.are in
    odd of.items o.body of.each of.legal of.odd (record {
      second = p.on_second;
      epoch = p.epoch;
      rest = drop (o.index + 1) records;
      counts = counts;
      held = subst (λ (q : Place). HoldsPair q p.epoch (map shelf_bytes of.items ++ o.body ∷ drop (o.index + 1) records) a b) is (subst (λ (rs : List (List ℕ)). HoldsPair p.place p.epoch rs a b) here held);
      disk_is = o.disk_is;
      at_is = o.at_is ∙ ap (λ (q : Place). place_behind q p.epoch (take o.index records)) is ∙ ap (λ rs. place_behind (shelf_place place) p.epoch rs) of.are;
    })

-- a record of legal ones that stands behind these
record Stood (size : ℕ) (metrics : List Shelved) (items : List ShelfItem) (body : List ℕ) : Type 0 where
  item : ShelfItem
  is : IsShelf item
  spelled : body ≡ shelf_bytes item
  follows : MayFollow (after_records metrics items) item
  blocks : AreBlocks size (after_record (after_records metrics items) item)

stood : (size : ℕ) (metrics : List Shelved) (items all : List ShelfItem) (body : List ℕ) (rest : List (List ℕ)) → All IsShelf items → All IsShelf all → map shelf_bytes all ≡ map shelf_bytes items ++ body ∷ rest → AreLegal size metrics all → Stood size metrics items body
stood size metrics [] [] body rest each each_too same legal = absurd cc
stood size metrics [] (y ∷ all) body rest each each_too same legal = record { item = y; is = All-head IsShelf y all each_too; spelled = cc; follows = legal.0; blocks = legal.1 }
stood size metrics (x ∷ items) [] body rest each each_too same legal = absurd cc
stood size metrics (x ∷ items) (y ∷ all) body rest each each_too same legal =
    let first : y ≡ x = one_spelling shelf_field y x (All-head IsShelf y all each_too) (All-head IsShelf x items each) cc in
    let more : map shelf_bytes all ≡ map shelf_bytes items ++ body ∷ rest = cc in
    let later = stood size (after_record metrics x) items all body rest (All-tail IsShelf x items each) (All-tail IsShelf y all each_too) more
    (subst (λ (i : ShelfItem). AreLegal size (after_record metrics i) all) first legal.2) in
    record { item = later.item; is = later.is; spelled = later.spelled; follows = later.follows; blocks = later.blocks }

odd_never : (size : ℕ) (items : List ShelfItem) (body : List ℕ) → Stood size [] items body → IsOddRecord size items body → ⊥
odd_never size items body s (unspelled none) = none s.item s.is s.spelled
odd_never size items body s (unfit item is spelled never) =
    let same : s.item ≡ item = one_spelling shelf_field s.item item s.is is (sym s.spelled ∙ spelled) in
    never (subst (MayFollow (after_records [] items)) same s.follows, subst (λ i. AreBlocks size (after_record (after_records [] items) i)) same s.blocks)

-- and then there are no legal records
pub odd_held_never : {D : Type 0} (p : PairView D) (records : List (List ℕ)) (size : ℕ) (place : Place) (number : ℕ) (a b z : List ℕ) (d : Damage) → length z ≡ size
    → ((epoch : ℕ) (rs : List (List ℕ)) → HoldsPair (shelf_place place) epoch rs a b → (number ≡ epoch) × (Some records ≡ Some rs))
    → IsOddOf (IsOddBehind size) p records d → HasNoShelfLog place (length z) a b
odd_held_never p records size place number a b z d long exact o epoch items log =
    let of = o.odd in
    let is : records ≡ map shelf_bytes items = cc_some records (map shelf_bytes items) (exact epoch (map shelf_bytes items) log.held).1 in
    odd_never size of.items o.body
    (stood size [] of.items items o.body (drop (o.index + 1) records) of.each log.each
    (sym is ∙ split_at records o.index o.body o.stands ∙ ap (λ rs. rs ++ o.body ∷ drop (o.index + 1) records) of.are) (subst (λ n. AreLegal n [] items) long log.legal)) of.odd
  where
    cc_some : (xs ys : List (List ℕ)) → Some xs ≡ Some ys → xs ≡ ys
    cc_some xs ys same = cc

-- a fact of three disks, where records are told only if two of them are
pub three_damaged : (ta tb tz : Option (List ℕ)) (records : Option (List (List ℕ))) (P : List ℕ → List ℕ → Type 0) (R : List (List ℕ) → Type 0) (Q : List ℕ → List ℕ → List ℕ → Type 0)
    → is_some records ≡ (is_some ta && is_some tb) → ((rs : List (List ℕ)) (x y z : List ℕ) → records ≡ Some rs → tz ≡ Some z → P x y → R rs → Q x y z) → TwoTold ta tb P → IfSome records R → ThreeTold ta tb tz Q
three_damaged None tb tz records P R Q told has p r = tt
three_damaged (Some x) None tz records P R Q told has p r = tt
three_damaged (Some x) (Some y) None records P R Q told has p r = tt
three_damaged (Some x) (Some y) (Some z) None P R Q told has p r = absurd cc
three_damaged (Some x) (Some y) (Some z) (Some rs) P R Q told has p r = has rs x y z refl refl p r

-- both of two facts of two disks
pub two_and : (ta tb : Option (List ℕ)) (P Q : List ℕ → List ℕ → Type 0) → TwoTold ta tb P → TwoTold ta tb Q → TwoTold ta tb (λ x y. P x y × Q x y)
two_and None tb P Q p q = tt
two_and (Some x) None P Q p q = tt
two_and (Some x) (Some y) P Q p q = (p, q)

-- the length of what a disk tells
pub long_by : {D : Type 0} (g : Ghosts D) → ((disk : D) → IfSome (g.told disk) (λ bytes. length bytes ≡ g.size disk)) → (disk : D) (z : List ℕ) (size : ℕ) → g.told disk ≡ Some z → size ≡ g.size disk → length z ≡ size
long_by g whole disk z size tells is = subst (λ o. IfSome o (λ bytes. length bytes ≡ g.size disk)) tells (whole disk) ∙ sym is

pub damage_here : {D : Type 0} (p : PairView D) (records : List (List ℕ)) (size : ℕ) (place : Place) (x y z : List ℕ) (d : Damage) → p.place ≡ shelf_place place → p.records ≡ Some records → length z ≡ size
    → Counts p.on_second (shelf_place place) p.epoch x y → AreOfPair p x y → IsOddOf (IsOddBehind size) p records d → IsDamagedShelf place (length z) x y d
damage_here p records size place x y z d is told long counts held o =
    subst (λ n. IsDamagedShelf place n x y d) (sym long)
    (odd_damage p records size place x y d is counts (subst (λ o. IfSome o (λ rs. HoldsPair p.place p.epoch rs x y)) told held) o)

-- a sync writes nothing
pub sync_unwritten : {D : Type 0} (g : Ghosts D) → ((disk : D) (image : List ℕ) → g.left_since disk (g.moment disk) image → g.may_leave disk image) → (old new : D) → Elapses (g.moment old) (g.moment new) (g.left_since old) (g.left_since new) (g.may_leave new)
    → NoMore (g.may_leave old) (g.may_leave new) → IsUnwritten g (phase old new)
sync_unwritten g only_now old new time crash = record {
  within = λ image left. elim (time.nothing_else (g.moment old) image (omega arith) left) [ inl past ↦ only_now old image past | inr now ↦ crash image now ];
  no_more = crash;
}

-- Records of the index's log, one after another.
use Rattle.std.proofs.Common.{◌≡◌, inl, inr, ℕ, List, [], ◌∷◌, ◌++◌, map, refl, sym, ap, subst, ◌∙◌}
use Rattle.std.specs.List.{AllByRecursion}
use Rattle.std.proofs.lemmas.List.{append-nil, map_push}
use Rattle.gno_codec.specs.Index.{IsIndex, index_bytes}
use Rattle.gno_codec.specs.declared.item.IndexItem.{IndexItem}
use Rattle.gno_codec.specs.declared.item.IndexItem.TheVariants as items
use Rattle.gno_codec.proofs.IndexRecords.{index_field}
use Rattle.gno_codec.proofs.Steps.{one_spelling}
use Rattle.front_api.specs.Maps.{Maps}
use Rattle.metric_index.specs.Catalog.{new_catalog}
use Rattle.metric_index.specs.IndexDamage.{IsOddIndex, no_store, refused, unspelled}
use Rattle.metric_index.specs.IndexLog.{IsIndexLog, MayAll, after_items}
use Rattle.metric_index.specs.Items.{May, after_one, counted_of}

pub same_item : (x y : IndexItem) → IsIndex x → IsIndex y → index_bytes x ≡ index_bytes y → x ≡ y
same_item x y is is_too e = one_spelling index_field x y is is_too e

head_is : {X : Type 0} (x y : X) (xs ys : List X) → x ∷ xs ≡ y ∷ ys → x ≡ y
head_is x y xs ys e = cc

tail_is : {X : Type 0} (x y : X) (xs ys : List X) → x ∷ xs ≡ y ∷ ys → xs ≡ ys
tail_is x y xs ys e = cc

-- items whose records begin with those of others begin with these
same_front : (xs ys : List IndexItem) (more : List (List ℕ)) → AllByRecursion IsIndex xs → AllByRecursion IsIndex ys → map index_bytes ys ≡ map index_bytes xs ++ more
    → (rest : List IndexItem) × (ys ≡ xs ++ rest) × (map index_bytes rest ≡ more)
same_front [] ys more has has_too e = (ys, refl, e)
same_front (x ∷ xs) [] more has has_too e = absurd cc
same_front (x ∷ xs) (y ∷ ys) more has has_too e =
    let one : y ≡ x = same_item y x has_too.0 has.0 (head_is _ _ _ _ e) in
    let rest = same_front xs ys more has.1 has_too.1 (tail_is _ _ _ _ e) in
    (rest.0, ap (λ (i : IndexItem). i ∷ ys) one ∙ ap (λ (l : List IndexItem). x ∷ l) rest.1, rest.2)

abbrev store_number : IndexItem → ℕ
store_number (items.Store number counter) = number
store_number (items.AddPolicy policy) = 0
store_number (items.DropPolicy name) = 0
store_number (items.AddRule rule) = 0
store_number (items.DropRule name) = 0
store_number (items.Draw counter) = 0
store_number (items.AddMetric id policy name unit resource) = 0
store_number (items.DropMetric id) = 0
store_number (items.AddResource id) = 0
store_number (items.DropResource id) = 0

abbrev store_counter : IndexItem → ℕ
store_counter (items.Store number counter) = counter
store_counter (items.AddPolicy policy) = 0
store_counter (items.DropPolicy name) = 0
store_counter (items.AddRule rule) = 0
store_counter (items.DropRule name) = 0
store_counter (items.Draw counter) = 0
store_counter (items.AddMetric id policy name unit resource) = 0
store_counter (items.DropMetric id) = 0
store_counter (items.AddResource id) = 0
store_counter (items.DropResource id) = 0

-- ---- one more

all_push : (xs : List IndexItem) (x : IndexItem) → AllByRecursion IsIndex xs → IsIndex x → AllByRecursion IsIndex (xs ++ x ∷ [])
all_push [] x all has = (has, tt)
all_push (y ∷ xs) x all has = (all.0, all_push xs x all.1 has)

all_at : (xs : List IndexItem) (x : IndexItem) (rest : List IndexItem) → AllByRecursion IsIndex (xs ++ x ∷ rest) → IsIndex x
all_at [] x rest all = all.0
all_at (y ∷ xs) x rest all = all_at xs x rest all.1

after_push : (m : Maps) (xs : List IndexItem) (x : IndexItem) → after_items m (xs ++ x ∷ []) ≡ after_one (after_items m xs) (counted_of x)
after_push m [] x = refl
after_push m (y ∷ xs) x = after_push (after_one m (counted_of y)) xs x

may_push : (m : Maps) (xs : List IndexItem) (x : IndexItem) → MayAll m xs → May (after_items m xs) (counted_of x) → MayAll m (xs ++ x ∷ [])
may_push m [] x all may = (may, tt)
may_push m (y ∷ xs) x all may = (all.0, may_push (after_one m (counted_of y)) xs x all.1 may)

may_at : (m : Maps) (xs : List IndexItem) (x : IndexItem) (rest : List IndexItem) → MayAll m (xs ++ x ∷ rest) → May (after_items m xs) (counted_of x)
may_at m [] x rest all = all.0
may_at m (y ∷ xs) x rest all = may_at (after_one m (counted_of y)) xs x rest all.1

pub log_item : (records : List (List ℕ)) (m : Maps) (item : IndexItem) → IsIndexLog records m → IsIndex item → May m (counted_of item) → IsIndexLog (records ++ index_bytes item ∷ []) (after_one m (counted_of item))
log_item records m item log is may = record {
  number = log.number;
  counter = log.counter;
  rest = log.rest ++ item ∷ [];
  first = log.first;
  each = all_push log.rest item log.each is;
  may = may_push (new_catalog log.number log.counter) log.rest item log.may (subst (λ (n : Maps). May n (counted_of item)) log.maps_are may);
  maps_are = ap (λ (n : Maps). after_one n (counted_of item)) log.maps_are ∙ sym (after_push (new_catalog log.number log.counter) log.rest item);
  records_are =
      ap (λ (rs : List (List ℕ)). rs ++ index_bytes item ∷ []) log.records_are
      ∙ ap (λ (rs : List (List ℕ)). index_bytes (items.Store log.number log.counter) ∷ rs) (sym (map_push index_bytes log.rest item));
}

pub log_store : (number counter : ℕ) → IsIndex (items.Store number counter) → IsIndexLog (index_bytes (items.Store number counter) ∷ []) (new_catalog number counter)
log_store number counter is = record { number = number; counter = counter; rest = []; first = is; each = tt; may = tt; maps_are = refl; records_are = refl }

-- ---- a log that goes on

same_start : (records more : List (List ℕ)) (m n : Maps) (log : IsIndexLog records m) (whole : IsIndexLog (records ++ more) n) → new_catalog whole.number whole.counter ≡ new_catalog log.number log.counter
same_start records more m n log whole =
    let e : index_bytes (items.Store whole.number whole.counter) ∷ map index_bytes whole.rest ≡ index_bytes (items.Store log.number log.counter) ∷ (map index_bytes log.rest ++ more) =
    sym whole.records_are ∙ ap (λ (rs : List (List ℕ)). rs ++ more) log.records_are in
    let one = same_item (items.Store whole.number whole.counter) (items.Store log.number log.counter) whole.first log.first (head_is _ _ _ _ e) in
    ap (λ (i : IndexItem). new_catalog (store_number i) (store_counter i)) one

goes_on : (records more : List (List ℕ)) (m n : Maps) (log : IsIndexLog records m) (whole : IsIndexLog (records ++ more) n) → (rest : List IndexItem) × (whole.rest ≡ log.rest ++ rest) × (map index_bytes rest ≡ more)
goes_on records more m n log whole =
    let e : index_bytes (items.Store whole.number whole.counter) ∷ map index_bytes whole.rest ≡ index_bytes (items.Store log.number log.counter) ∷ (map index_bytes log.rest ++ more) =
    sym whole.records_are ∙ ap (λ (rs : List (List ℕ)). rs ++ more) log.records_are in
    same_front log.rest whole.rest more log.each whole.each (tail_is _ _ _ _ e)

none_left : (rest : List IndexItem) → map index_bytes rest ≡ [] → rest ≡ []
none_left [] e = refl
none_left (x ∷ rest) e = absurd cc

-- records amount to one state of maps
pub one_log : (records : List (List ℕ)) (m n : Maps) → IsIndexLog records m → IsIndexLog records n → m ≡ n
one_log records m n log other =
    let whole : IsIndexLog (records ++ []) n = subst (λ (rs : List (List ℕ)). IsIndexLog rs n) (sym (append-nil records)) other in
    let on = goes_on records [] m n log whole in
    let same : whole.rest ≡ log.rest = on.1 ∙ ap (λ (r : List IndexItem). log.rest ++ r) (none_left on.0 on.2) ∙ append-nil log.rest in
    log.maps_are ∙ ap (after_items (new_catalog log.number log.counter)) (sym same) ∙ ap (λ (s : Maps). after_items s whole.rest) (sym (same_start records [] m n log whole)) ∙ sym whole.maps_are

-- ---- a record that may not stand there

-- the item of a record that stands behind good ones
stands_next : (records : List (List ℕ)) (body : List ℕ) (more : List (List ℕ)) (m n : Maps) → IsIndexLog records m → IsIndexLog (records ++ body ∷ more) n
    → (item : IndexItem) × IsIndex item × (body ≡ index_bytes item) × May m (counted_of item)
stands_next records body more m n log whole =
    let on = goes_on records (body ∷ more) m n log whole in
    by on.0 on.1 on.2
  where
    by : (rest : List IndexItem) → whole.rest ≡ log.rest ++ rest → map index_bytes rest ≡ body ∷ more → (item : IndexItem) × IsIndex item × (body ≡ index_bytes item) × May m (counted_of item)
    by [] e is = absurd cc
    by (x ∷ rest) e is =
        let may = may_at (new_catalog whole.number whole.counter) log.rest x rest (subst (MayAll (new_catalog whole.number whole.counter)) e whole.may) in
        let there : after_items (new_catalog whole.number whole.counter) log.rest ≡ m = ap (λ (s : Maps). after_items s log.rest) (same_start records (body ∷ more) m n log whole) ∙ sym log.maps_are in
        (x, all_at log.rest x rest (subst (AllByRecursion IsIndex) e whole.each), sym (head_is _ _ _ _ is), subst (λ (s : Maps). May s (counted_of x)) there may)

first_is : (records : List (List ℕ)) (body : List ℕ) (more : List (List ℕ)) (n : Maps) → records ≡ [] → (whole : IsIndexLog (records ++ body ∷ more) n) → body ≡ index_bytes (items.Store whole.number whole.counter)
first_is records body more n none whole = head_is _ _ _ _ (ap (λ (rs : List (List ℕ)). rs ++ body ∷ more) (sym none) ∙ whole.records_are)

-- no log goes on with it
pub odd_never : (records : List (List ℕ)) (body : List ℕ) (more : List (List ℕ)) → IsOddIndex records body → (n : Maps) → IsIndexLog (records ++ body ∷ more) n → ⊥
odd_never records body more (unspelled (inl none) never) n whole = never (items.Store whole.number whole.counter) whole.first (first_is records body more n none whole)
odd_never records body more (unspelled (inr good) never) n whole =
    let next = stands_next records body more good.0 n good.1 whole in
    never next.0 next.1 next.2
odd_never records body more (no_store item none is spells other) n whole =
    other whole.number whole.counter (same_item item (items.Store whole.number whole.counter) is whole.first (sym spells ∙ first_is records body more n none whole))
odd_never records body more (refused m item log is spells never) n whole =
    let next = stands_next records body more m n log whole in
    never (subst (λ (i : IndexItem). May m (counted_of i)) (same_item next.0 item next.1 is (sym next.2 ∙ spells)) next.3)

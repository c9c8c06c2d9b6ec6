-- Records taken in one after another.
use Rattle.std.proofs.Common.{◌≡◌, inl, ℕ, ◌+◌, Bool, List, [], ◌∷◌, ◌++◌, length, take, Option, Some, None, Result, Ok, Err, refl, sym, ap, subst, ◌∙◌, arith}
use Rattle.std.specs.Option.{IfSome}
use Rattle.std.specs.Result.{IfOk}
use Rattle.std.specs.List.{slice_get}
use Rattle.std.proofs.lemmas.List.{take_all, take_more}
use Rattle.std.proofs.lemmas.Option.{IfSome_then, get_or_from_slice_get, slice_get_within}
use Rattle.gno_num.specs.declared.faults.Damaged.{Damaged as Damage}
use Rattle.gno_codec.specs.Index.{index_bytes}
use Rattle.gno_codec.specs.declared.item.IndexItem.{IndexItem}
use Rattle.gno_codec.specs.declared.item.IndexItem.TheVariants as items
use Rattle.log_pair.specs.Pair.{disk_number, place_behind}
use Rattle.log_pair.specs.PairView.{PairView}
use Rattle.front_api.specs.Maps.{Maps}
use Rattle.metric_index.specs.Catalog.{new_catalog}
use Rattle.metric_index.specs.IndexDamage.{IsNoStore, IsOddIndex, no_store, unspelled}
use Rattle.metric_index.specs.IndexLog.{IsIndexLog}
use Rattle.metric_index.specs.Reading.{IsOddOf, IsReadAs, StandsAs}
use Rattle.metric_index.proofs.Logs.{log_store}

-- what holds of the spelling of a record holds of the bytes that were read as it
pub read_as : {E : Type 0} (r : Result Bool E) (v : Bool) (item : Option IndexItem) (x : IndexItem) (Q : List (List ℕ) → Type 0) (P : List (List ℕ) → List ℕ → Type 0) → item ≡ Some x
    → IfOk r (λ may. may ≡ v → (records : List (List ℕ)) → Q records → P records (index_bytes x))
    → IfOk r (λ may. may ≡ v → (records : List (List ℕ)) (body : List ℕ) → IsReadAs item body → Q records → P records body)
read_as (Err e) v item x Q P is has = tt
read_as (Ok may) v item x Q P is has = λ e records body read q.
    subst (P records) (sym (subst (λ (o : Option IndexItem). IsReadAs o body) is read).1) (has e records q)

one_more : (records : List (List ℕ)) (index : ℕ) (body : List ℕ) → slice_get records index ≡ Some body → take (index + 1) records ≡ take index records ++ body ∷ []
one_more records index body stands =
    take_more records index [] (slice_get_within records index body stands)
    ∙ ap (λ (b : List ℕ). take index records ++ b ∷ []) (get_or_from_slice_get records index body [] stands)

pub load_taken : (records : Option (List (List ℕ))) (index : ℕ) (item : Option IndexItem) (m n : Maps) → IfSome records (λ rs. StandsAs rs index item) → IfSome records (λ rs. IsIndexLog (take index rs) m)
    → ((rs : List (List ℕ)) (body : List ℕ) → IsReadAs item body → IsIndexLog rs m → IsIndexLog (rs ++ body ∷ []) n) → IfSome records (λ rs. IsIndexLog (take (index + 1) rs) n)
load_taken None index item m n stands are taken = tt
load_taken (Some records) index item m n stands are taken =
    subst (λ (rs : List (List ℕ)). IsIndexLog rs n) (sym (one_more records index stands.body stands.stands)) (taken (take index records) stands.body stands.is are)

-- the first record, where it is `Store`
pub load_first : (records : Option (List (List ℕ))) (item : Option IndexItem) (number counter : ℕ) (m : Maps) → IfSome records (λ rs. StandsAs rs 0 item) → item ≡ Some (items.Store number counter)
    → m ≡ new_catalog number counter → IfSome records (λ rs. IsIndexLog (take 1 rs) m)
load_first None item number counter m stands is maps = tt
load_first (Some records) item number counter m stands is maps =
    let read = subst (λ (o : Option IndexItem). IsReadAs o stands.body) is stands.is in
    let body : stands.body ≡ index_bytes (items.Store number counter) = read.1 in
    subst (λ (rs : List (List ℕ)). IsIndexLog rs m) (sym (one_more records 0 stands.body stands.stands ∙ ap (λ (b : List ℕ). b ∷ []) body))
    (subst (IsIndexLog (index_bytes (items.Store number counter) ∷ [])) (sym maps) (log_store number counter read.0))

-- a first record that isn't `Store` is none
pub first_odd : (item : Option IndexItem) → IfSome item IsNoStore → (body : List ℕ) → IsReadAs item body → IsOddIndex [] body
first_odd None other body read = unspelled (inl refl) read
first_odd (Some x) other body read = no_store x refl read.0 read.1 other

pub load_odd : {D : Type 0} (old new : PairView D) (index : ℕ) (item : Option IndexItem) (d : Damage) → new.records ≡ old.records → new.place ≡ old.place → new.epoch ≡ old.epoch → new.on_second ≡ old.on_second
    → IfSome old.records (λ rs. StandsAs rs index item)
    → IfSome old.records (λ rs. (body : List ℕ) → IsReadAs item body → IsOddIndex (take index rs) body)
    → d.disk ≡ disk_number new.on_second → IfSome new.records (λ rs. d.at ≡ place_behind new.place new.epoch (take index rs)) → IfSome old.records (λ rs. IsOddOf old rs d)
load_odd {D} old new index item d records place epoch on_second stands is_odd disk at =
    let at_old : IfSome old.records (λ rs. d.at ≡ place_behind new.place new.epoch (take index rs)) = subst (λ o. IfSome o (λ rs. d.at ≡ place_behind new.place new.epoch (take index rs))) records at in
    by old.records stands is_odd at_old
  where
    by : (o : Option (List (List ℕ))) → IfSome o (λ rs. StandsAs rs index item) → IfSome o (λ rs. (body : List ℕ) → IsReadAs item body → IsOddIndex (take index rs) body) → IfSome o (λ rs. d.at ≡ place_behind new.place new.epoch (take index rs)) → IfSome o (λ rs. IsOddOf old rs d)
    by None stands is_odd at = tt
    by (Some rs) stands is_odd at = record {
      index = index;
      body = stands.body;
      stands = stands.stands;
      odd = is_odd stands.body stands.is;
      disk_is = disk ∙ ap disk_number on_second;
      at_is = at ∙ ap (λ p. place_behind p new.epoch (take index rs)) place ∙ ap (λ n. place_behind old.place n (take index rs)) epoch;
    }

-- a fact of all records, where they are told
pub for_all : (records : Option (List (List ℕ))) (P : List (List ℕ) → Type 0) → ((rs : List (List ℕ)) → P rs) → IfSome records P
for_all None P has = tt
for_all (Some rs) P has = has rs

-- the same of the pair as it was before it was read
pub odd_moved : {D : Type 0} (old mid : PairView D) (d : Damage) → mid.records ≡ old.records → mid.place ≡ old.place → mid.epoch ≡ old.epoch → mid.on_second ≡ old.on_second
    → IfSome mid.records (λ rs. IsOddOf mid rs d) → IfSome old.records (λ rs. IsOddOf old rs d)
odd_moved {D} old mid d records place epoch on_second odd =
    IfSome_then old.records (subst (λ o. IfSome o (λ rs. IsOddOf mid rs d)) records odd) (λ rs o. record {
      index = o.index;
      body = o.body;
      stands = o.stands;
      odd = o.odd;
      disk_is = o.disk_is ∙ ap disk_number on_second;
      at_is = o.at_is ∙ ap (λ p. place_behind p mid.epoch (take o.index rs)) place ∙ ap (λ n. place_behind old.place n (take o.index rs)) epoch;
    })

-- all records were taken in
pub all_taken : (m : Maps) (records : Option (List (List ℕ))) (n : ℕ) → IfSome records (λ rs. length rs ≡ n) → IfSome records (λ rs. IsIndexLog (take n rs) m) → IfSome records (λ rs. IsIndexLog rs m)
all_taken m None n long are = tt
all_taken m (Some records) n long are = subst (λ (rs : List (List ℕ)). IsIndexLog rs m) (take_all n records (omega (arith, long))) are

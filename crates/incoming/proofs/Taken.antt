-- A record that is taken in, or may not stand where it does.
use Rattle.std.proofs.Common.{◌≡◌, ℕ, ◌+◌, ◌<◌, ◌≤◌, Bool, true, false, List, [], ◌∷◌, ◌++◌, length, get_or, take, Option, Some, None, refl, sym, ap, subst, ◌∙◌, arith}
use Rattle.std.specs.Option.{IfSome}
use Rattle.std.specs.List.{slice_get}
use Rattle.std.proofs.lemmas.List.{take_more}
use Rattle.std.proofs.lemmas.Option.{IfSome_then, get_or_from_slice_get, same_Some, slice_get_within}
use Rattle.series_model.specs.declared.measure.Measure.{Measure}
use Rattle.series_model.specs.declared.metric.MetricId.{MetricId}
use Rattle.gno_num.specs.declared.faults.Damaged.{Damaged as Damage}
use Rattle.gno_codec.specs.Incoming.{incoming_bytes, next_bytes, post_bytes, IsIncoming, IsNext, IsPost}
use Rattle.gno_codec.specs.declared.item.IncomingItem.{IncomingItem}
use Rattle.gno_codec.specs.declared.item.IncomingItem.TheVariants as items
use Rattle.gno_codec.proofs.Records.{incoming_field}
use Rattle.gno_codec.proofs.Steps.{one_spelling}
use Rattle.log_pair.specs.Pair.{disk_number, place_behind}
use Rattle.log_pair.specs.PairView.{PairView}
use Rattle.incoming.specs.declared.contents.Contents.{Contents}
use Rattle.incoming.specs.declared.mark.Mark.{Mark}
use Rattle.incoming.specs.Contents.{AreOf}
use Rattle.incoming.specs.Damage.{IsOddBehind, unspelled}
use Rattle.incoming.specs.Reading.{IsOddOf, IsOnlyRead, IsReadAs, StandsAs}

pub small_disk : (s : Bool) → disk_number s < 2
small_disk true = omega arith
small_disk false = omega arith

-- ---- one record, behind the good ones

pub odd_unspelled : (c : Contents) (records : List (List ℕ)) (body : List ℕ) → IsReadAs None body → AreOf c records → IsOddBehind records body
odd_unspelled c records body none are = record { start = are.start; posts = are.posts; log = are.log; odd = unspelled none }

-- what holds of a spelling holds of the bytes
pub spelled : (P : List ℕ → Type 0) (body bytes : List ℕ) → body ≡ bytes → P bytes → P body
spelled P body bytes e has = subst P (sym e) has

one_more : (records : List (List ℕ)) (index : ℕ) (body : List ℕ) → slice_get records index ≡ Some body → take (index + 1) records ≡ take index records ++ body ∷ []
one_more records index body stands =
    take_more records index [] (slice_get_within records index body stands)
    ∙ ap (λ (b : List ℕ). take index records ++ b ∷ []) (get_or_from_slice_get records index body [] stands)

pub load_taken : (records : Option (List (List ℕ))) (index : ℕ) (item : Option IncomingItem) (c d : Contents) → IfSome records (λ rs. StandsAs rs index item) → IfSome records (λ rs. AreOf c (take index rs))
    → ((rs : List (List ℕ)) (body : List ℕ) → IsReadAs item body → AreOf c rs → AreOf d (rs ++ body ∷ [])) → IfSome records (λ rs. AreOf d (take (index + 1) rs))
load_taken None index item c d stands are taken = tt
load_taken (Some records) index item c d stands are taken =
    subst (AreOf d) (sym (one_more records index stands.body stands.stands)) (taken (take index records) stands.body stands.is are)

pub load_odd : {D : Type 0} (old new : PairView D) (index : ℕ) (item : Option IncomingItem) (c : Contents) (d : Damage) → new.records ≡ old.records → new.place ≡ old.place → new.epoch ≡ old.epoch → new.on_second ≡ old.on_second
    → IfSome old.records (λ rs. StandsAs rs index item) → IfSome old.records (λ rs. AreOf c (take index rs))
    → ((rs : List (List ℕ)) (body : List ℕ) → IsReadAs item body → AreOf c rs → IsOddBehind rs body)
    → d.disk ≡ disk_number new.on_second → IfSome new.records (λ rs. d.at ≡ place_behind new.place new.epoch (take index rs)) → IfSome old.records (λ rs. IsOddOf old rs d)
load_odd {D} old new index item c d records place epoch on_second stands are is_odd disk at =
    let at_old : IfSome old.records (λ rs. d.at ≡ place_behind new.place new.epoch (take index rs)) = subst (λ o. IfSome o (λ rs. d.at ≡ place_behind new.place new.epoch (take index rs))) records at in
    by old.records stands are at_old
  where
    by : (o : Option (List (List ℕ))) → IfSome o (λ rs. StandsAs rs index item) → IfSome o (λ rs. AreOf c (take index rs)) → IfSome o (λ rs. d.at ≡ place_behind new.place new.epoch (take index rs)) → IfSome o (λ rs. IsOddOf old rs d)
    by None stands are at = tt
    by (Some rs) stands are at = record {
      index = index;
      body = stands.body;
      stands = stands.stands;
      odd = is_odd (take index rs) stands.body stands.is are;
      disk_is = disk ∙ ap disk_number on_second;
      at_is = at ∙ ap (λ p. place_behind p new.epoch (take index rs)) place ∙ ap (λ n. place_behind old.place n (take index rs)) epoch;
    }

-- ---- the post of a mark

found_in : (rs : List (List ℕ)) (index : ℕ) (item : Option IncomingItem) (mark : Mark) (batch : List Measure) → item ≡ Some (items.Post mark.number mark.metric batch) → StandsAs rs index item
    → (slice_get rs index ≡ Some (post_bytes mark.number mark.metric.0 batch)) × IsPost mark.number mark.metric.0 batch
found_in rs index item mark batch is stands =
    let read = subst (λ o. IsReadAs o stands.body) is stands.is in
    (stands.stands ∙ ap (λ (b : List ℕ). Some b) read.1, read.0)

pub found_post : (records : Option (List (List ℕ))) (index : ℕ) (item : Option IncomingItem) (mark : Mark) (batch : List Measure) → item ≡ Some (items.Post mark.number mark.metric batch)
    → IfSome records (λ rs. StandsAs rs index item) → IfSome records (λ rs. (slice_get rs index ≡ Some (post_bytes mark.number mark.metric.0 batch)) × IsPost mark.number mark.metric.0 batch)
found_post None index item mark batch is stands = tt
found_post (Some rs) index item mark batch is stands = found_in rs index item mark batch is stands

other_in : (body : List ℕ) (item : Option IncomingItem) (mark : Mark) → IsReadAs item body → ((measures : List Measure) → item ≡ Some (items.Post mark.number mark.metric measures) → ⊥)
    → (measures : List Measure) → IsPost mark.number mark.metric.0 measures → body ≡ post_bytes mark.number mark.metric.0 measures → ⊥
other_in body None mark is none measures fits e = is (items.Post mark.number mark.metric measures) fits e
other_in body (Some item) mark is none measures fits e =
    none measures (ap (λ (x : IncomingItem). Some x) (one_spelling incoming_field item (items.Post mark.number mark.metric measures) is.0 fits (sym is.1 ∙ e)))

pub other_post : (records : Option (List (List ℕ))) (index : ℕ) (item : Option IncomingItem) (mark : Mark) → ((measures : List Measure) → item ≡ Some (items.Post mark.number mark.metric measures) → ⊥)
    → IfSome records (λ rs. StandsAs rs index item)
    → IfSome records (λ rs. (measures : List Measure) → IsPost mark.number mark.metric.0 measures → slice_get rs index ≡ Some (post_bytes mark.number mark.metric.0 measures) → ⊥)
other_post None index item mark none stands = tt
other_post (Some rs) index item mark none stands = λ measures fits e.
    other_in stands.body item mark stands.is none measures fits (same_Some _ _ (sym stands.stands ∙ e))

-- the same of the pair as it was before it was read
pub odd_moved : {D : Type 0} (old mid : PairView D) (d : Damage) → mid.records ≡ old.records → mid.place ≡ old.place → mid.epoch ≡ old.epoch → mid.on_second ≡ old.on_second
    → IfSome mid.records (λ rs. IsOddOf mid rs d) → IfSome old.records (λ rs. IsOddOf old rs d)
odd_moved {D} old mid d records place epoch on_second odd =
    IfSome_then old.records (subst (λ o. IfSome o (λ rs. IsOddOf mid rs d)) records odd) (λ rs o. record {
      index = o.index;
      body = o.body;
      stands = o.stands;
      odd = o.odd;
      disk_is = o.disk_is ∙ ap disk_number on_second;
      at_is = o.at_is ∙ ap (λ p. place_behind p mid.epoch (take o.index rs)) place ∙ ap (λ n. place_behind old.place n (take o.index rs)) epoch;
    })

-- what holds of a post's spelling holds of what was read as it
pub as_post : (item : Option IncomingItem) (number : ℕ) (metric : MetricId) (measures : List Measure) (P : List ℕ → Type 0) (body : List ℕ) → item ≡ Some (items.Post number metric measures) → IsReadAs item body
    → (IsPost number metric.0 measures → P (post_bytes number metric.0 measures)) → P body
as_post item number metric measures P body is read has =
    let r = subst (λ o. IsReadAs o body) is read in
    subst P (sym r.1) (has r.0)

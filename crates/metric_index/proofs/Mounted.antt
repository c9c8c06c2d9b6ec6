-- What two disks hold, by what their pair holds and the maps that its records make.
use Rattle.std.proofs.Common.{◌≡◌, ◌⊎◌, inl, inr, ℕ, ◌+◌, ◌≤◌, true, ◌&&◌, List, [], ◌∷◌, ◌++◌, take, drop, Option, Some, None, refl, sym, ap, subst, ◌∙◌}
use Rattle.std.specs.Bool.{⊤}
use Rattle.std.specs.List.{slice_get}
use Rattle.std.specs.Option.{IfSome, is_some}
use Rattle.std.proofs.lemmas.List.{drop_more, take-append-drop}
use Rattle.std.proofs.lemmas.Option.{get_or_from_slice_get, same_Some, slice_get_within}
use Rattle.gno_num.specs.declared.faults.Damaged.{Damaged as Damage}
use Rattle.gno_num.specs.declared.faults.DiskFault.{DiskFault as Fault}
use Rattle.gno_num.specs.Faults.{Rose, Rose-from}
use Rattle.gate_log.specs.LogView.{IsFault, MatchMountFault}
use Rattle.gate_log.specs.declared.fault.MountFault.{MountFault}
use Rattle.gate_log.specs.declared.fault.MountFault.TheVariants.{DiskFault as MountDisk, Damaged as MountDamaged, Memory as MountMemory}
use Rattle.gno_disk.specs.Disk.{TimeGoesOn}
use Rattle.gno_disk.specs.Phases.{AreUnwritten, phase}
use Rattle.gno_disk.specs.declared.disk.Disk.{Ghosts}
use Rattle.log_pair.specs.declared.place.Place.{Place}
use Rattle.log_pair.specs.Choice.{TwoTold}
use Rattle.log_pair.specs.Pair.{Counts, HoldsNoPair, HoldsPair, IsDamagedPair, place_behind}
use Rattle.log_pair.specs.PairView.{IsLastingPair, PairView}
use Rattle.front_api.specs.Maps.{Maps}
use Rattle.metric_index.specs.IndexDamage.{HoldsNoIndex, IsDamagedIndex, empty, odd, pair}
use Rattle.metric_index.specs.IndexLog.{HoldsIndex, IsIndexLog, index_place}
use Rattle.metric_index.specs.Reading.{IsOddOf, IsOnlyRead}
use Rattle.metric_index.proofs.Logs.{odd_never, one_log}
use Rattle.metric_index.proofs.ReadLemmas.{lasting_read, unwritten_then}

pub two_told : (ta tb : Option (List ℕ)) (P Q R : List ℕ → List ℕ → Type 0) → ((x y : List ℕ) → ta ≡ Some x → tb ≡ Some y → P x y → Q x y → R x y) → TwoTold ta tb P → TwoTold ta tb Q → TwoTold ta tb R
two_told None tb P Q R has p q = tt
two_told (Some x) None P Q R has p q = tt
two_told (Some x) (Some y) P Q R has p q = has x y refl refl p q

-- ---- what is held

-- of records that are told
pub held_told : (records : Option (List (List ℕ))) (p : Place) (sacks epoch : ℕ) (m : Maps) (a b : List ℕ) → p ≡ index_place sacks → IfSome records (λ rs. IsIndexLog rs m) → IfSome records (λ rs. HoldsPair p epoch rs a b)
    → is_some records ≡ true → HoldsIndex sacks m a b
held_told None p sacks epoch m a b is are held told = absurd cc
held_told (Some records) p sacks epoch m a b is are held told =
    record { epoch = epoch; records = records; held = subst (λ (q : Place). HoldsPair q epoch records a b) is held; log = are }

module _ {D : Type 0} (g : Ghosts D) (old new : PairView D) (read : IsOnlyRead g old new) (m : Maps) (sacks : ℕ) (is : old.place ≡ index_place sacks) where
  pub new_are : IfSome old.records (λ rs. IsIndexLog rs m) → IfSome new.records (λ rs. IsIndexLog rs m)
  new_are are = subst (λ o. IfSome o (λ rs. IsIndexLog rs m)) (sym read.records) are

  pub mounted_lasting : IfSome old.records (λ rs. IsIndexLog rs m) → IsLastingPair g old → (a b : List ℕ) → g.may_leave new.first a → g.may_leave new.second b → is_some new.records ≡ true → HoldsIndex new.place.sacks m a b
  mounted_lasting are lasting a b left left_too told =
      let here : new.place ≡ index_place new.place.sacks = read.place ∙ is ∙ ap index_place (sym (ap (λ (q : Place). q.sacks) (read.place ∙ is))) in
      held_told new.records new.place new.place.sacks new.epoch m a b here (new_are are) (lasting_read g old new read lasting a b left left_too) told

  pub mounted_exact : (ta tb : Option (List ℕ)) → is_some old.records ≡ (is_some ta && is_some tb) → IfSome old.records (λ rs. IsIndexLog rs m)
      → TwoTold ta tb (λ x y. (epoch : ℕ) (rs : List (List ℕ)) → HoldsPair (index_place sacks) epoch rs x y → (old.epoch ≡ epoch) × (old.records ≡ Some rs))
      → TwoTold ta tb (λ x y. (n : Maps) → HoldsIndex sacks n x y → m ≡ n)
  mounted_exact None tb told are exact = tt
  mounted_exact (Some x) None told are exact = tt
  mounted_exact (Some x) (Some y) told are exact = λ n h.
      one_log h.records m n (subst (λ o. IfSome o (λ rs. IsIndexLog rs m)) (exact h.epoch h.records h.held).1 are) h.log

pub mounted_unwritten : {D : Type 0} (g : Ghosts D) (old new : PairView D) → IsOnlyRead g old new → (goes_on : (n : ℕ) (old new : D) → g.came n old new → TimeGoesOn (g.moment old) (g.moment new) (g.left_since old) (g.left_since new)) (a b : D)
    → g.came 2 a old.first → g.came 2 b old.second → AreUnwritten g (phase a old.first ∷ phase b old.second ∷ []) → AreUnwritten g (phase a new.first ∷ phase b new.second ∷ [])
mounted_unwritten g old new read goes_on a b first second unwritten = (
  unwritten_then g a old.first new.first (goes_on 2 _ _ first).later (goes_on 0 _ _ read.came_first) unwritten.0 read.unwritten.0,
  (unwritten_then g b old.second new.second (goes_on 2 _ _ second).later (goes_on 0 _ _ read.came_second) unwritten.1.0 read.unwritten.1.0, tt),
)

-- ---- damage

split_at : (records : List (List ℕ)) (index : ℕ) (body : List ℕ) → slice_get records index ≡ Some body → records ≡ take index records ++ body ∷ drop (index + 1) records
split_at records index body stands =
    sym (take-append-drop index records)
    ∙ ap (λ (rs : List (List ℕ)). take index records ++ rs)
    (drop_more records index [] (slice_get_within records index body stands) ∙ ap (λ (x : List ℕ). x ∷ drop (index + 1) records) (get_or_from_slice_get records index body [] stands))

module _ {D : Type 0} (p : PairView D) (sacks : ℕ) (is : p.place ≡ index_place sacks) (d : Damage) where
  abbrev Odd : List (List ℕ) → Type 0
  Odd rs = ((rs ≡ []) × (d.disk ≡ 0) × (d.at ≡ 0)) ⊎ IsOddOf p rs d

  odd_damage : (records : List (List ℕ)) (a b : List ℕ) → Counts p.on_second (index_place sacks) p.epoch a b → HoldsPair p.place p.epoch records a b → Odd records → IsDamagedIndex sacks a b d
  odd_damage records a b counts held (inl none) =
      empty p.epoch (subst (λ (rs : List (List ℕ)). HoldsPair (index_place sacks) p.epoch rs a b) none.0 (subst (λ (q : Place). HoldsPair q p.epoch records a b) is held)) none.1 none.2
  odd_damage records a b counts held (inr o) =
      odd (take o.index records) o.body o.odd (record {
        second = p.on_second;
        epoch = p.epoch;
        rest = drop (o.index + 1) records;
        counts = counts;
        held = subst (λ (q : Place). HoldsPair q p.epoch (take o.index records ++ o.body ∷ drop (o.index + 1) records) a b) is (subst (λ (rs : List (List ℕ)). HoldsPair p.place p.epoch rs a b) (split_at records o.index o.body o.stands) held);
        disk_is = o.disk_is;
        at_is = o.at_is ∙ ap (λ (q : Place). place_behind q p.epoch (take o.index records)) is;
      })

  odd_held_never : (records : List (List ℕ)) (a b : List ℕ) → ((epoch : ℕ) (rs : List (List ℕ)) → HoldsPair (index_place sacks) epoch rs a b → (p.epoch ≡ epoch) × (Some records ≡ Some rs)) → Odd records → HoldsNoIndex sacks a b
  odd_held_never records a b exact o n h = by o
    where
      same : records ≡ h.records
      same = same_Some records h.records (exact h.epoch h.records h.held).1

      by : Odd records → ⊥
      by (inl none) = let e = sym none.0 ∙ same ∙ h.log.records_are in absurd cc
      by (inr o) = odd_never (take o.index records) o.body (drop (o.index + 1) records) o.odd n (subst (λ (rs : List (List ℕ)). IsIndexLog rs n) (sym same ∙ split_at records o.index o.body o.stands) h.log)

  pub damage_told : (records : Option (List (List ℕ))) (ta tb : Option (List ℕ)) → is_some records ≡ (is_some ta && is_some tb) → TwoTold ta tb (Counts p.on_second (index_place sacks) p.epoch)
      → TwoTold ta tb (λ a b. IfSome records (λ rs. HoldsPair p.place p.epoch rs a b)) → IfSome records (λ rs. ((rs ≡ []) × (d.disk ≡ 0) × (d.at ≡ 0)) ⊎ IsOddOf p rs d) → TwoTold ta tb (λ x y. IsDamagedIndex sacks x y d)
  damage_told records None tb told counts held o = tt
  damage_told records (Some x) None told counts held o = tt
  damage_told None (Some x) (Some y) told counts held o = absurd cc
  damage_told (Some records) (Some x) (Some y) told counts held o = odd_damage records x y counts held o

  pub never_told : (records : Option (List (List ℕ))) (ta tb : Option (List ℕ)) → is_some records ≡ (is_some ta && is_some tb)
      → TwoTold ta tb (λ x y. (epoch : ℕ) (rs : List (List ℕ)) → HoldsPair (index_place sacks) epoch rs x y → (p.epoch ≡ epoch) × (records ≡ Some rs))
      → IfSome records (λ rs. ((rs ≡ []) × (d.disk ≡ 0) × (d.at ≡ 0)) ⊎ IsOddOf p rs d) → TwoTold ta tb (HoldsNoIndex sacks)
  never_told records None tb told exact o = tt
  never_told records (Some x) None told exact o = tt
  never_told None (Some x) (Some y) told exact o = absurd cc
  never_told (Some records) (Some x) (Some y) told exact o = odd_held_never records x y exact o

-- damage of the pair
pub pair_damage : (sacks : ℕ) (d : Damage) (ta tb : Option (List ℕ)) → TwoTold ta tb (λ x y. IsDamagedPair (index_place sacks) x y d) → TwoTold ta tb (λ x y. IsDamagedIndex sacks x y d)
pair_damage sacks d None tb damage = tt
pair_damage sacks d (Some x) None damage = tt
pair_damage sacks d (Some x) (Some y) damage = pair damage

pub pair_never : (sacks : ℕ) (ta tb : Option (List ℕ)) → TwoTold ta tb (HoldsNoPair (index_place sacks)) → TwoTold ta tb (HoldsNoIndex sacks)
pair_never sacks None tb none = tt
pair_never sacks (Some x) None none = tt
pair_never sacks (Some x) (Some y) none = λ n h. none h.epoch h.records h.held

-- ---- faults

-- a fault of the reading is one of the mounting
pub mount_cause : (e r : MountFault) (before mid after last : ℕ) (Q Q' : Damage → Type 0) → before ≤ mid → after ≡ last → ((d : Damage) → Q d → Q' d)
    → MatchMountFault e (IsFault mid after) Q ⊤ → MatchMountFault e (λ f. r ≡ MountDisk (record { before = before; after = f.after })) (λ d. r ≡ MountDamaged d) (r ≡ MountMemory)
    → MatchMountFault r (IsFault before last) Q' ⊤
mount_cause (MountDisk f) r before mid after last Q Q' le same damage fault is =
    subst (λ x. MatchMountFault x (IsFault before last) Q' ⊤) (sym is)
    (record { before_is = refl; after_is = fault.after_is ∙ same; rose = subst (Rose before) same (Rose-from before le fault.rose) })
mount_cause (MountDamaged d) r before mid after last Q Q' le same damage fault is = subst (λ x. MatchMountFault x (IsFault before last) Q' ⊤) (sym is) (damage d fault)
mount_cause MountMemory r before mid after last Q Q' le same damage fault is = subst (λ x. MatchMountFault x (IsFault before last) Q' ⊤) (sym is) tt

pub mount_never : (e r : MountFault) (before : ℕ) (F : Fault → Type 0) (Q : Damage → Type 0) (N : Type 0) → ((d : Damage) → Q d → N)
    → MatchMountFault e F Q ⊤ → MatchMountFault e (λ f. r ≡ MountDisk (record { before = before; after = f.after })) (λ d. r ≡ MountDamaged d) (r ≡ MountMemory)
    → MatchMountFault r (λ _. ⊤) (λ _. N) ⊤
mount_never (MountDisk f) r before F Q N never fault is = subst (λ x. MatchMountFault x (λ _. ⊤) (λ _. N) ⊤) (sym is) tt
mount_never (MountDamaged d) r before F Q N never fault is = subst (λ x. MatchMountFault x (λ _. ⊤) (λ _. N) ⊤) (sym is) (never d fault)
mount_never MountMemory r before F Q N never fault is = subst (λ x. MatchMountFault x (λ _. ⊤) (λ _. N) ⊤) (sym is) tt

-- what holds of a fault holds of what follows from it
pub fault_to : (e : MountFault) (F F' : Fault → Type 0) (Q Q' : Damage → Type 0) → ((f : Fault) → F f → F' f) → ((d : Damage) → Q d → Q' d) → MatchMountFault e F Q ⊤ → MatchMountFault e F' Q' ⊤
fault_to (MountDisk f) F F' Q Q' on_disk on_damage was = on_disk f was
fault_to (MountDamaged d) F F' Q Q' on_disk on_damage was = on_damage d was
fault_to MountMemory F F' Q Q' on_disk on_damage was = tt

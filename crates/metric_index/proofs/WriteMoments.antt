-- What a stop in a write leaves.
use Rattle.std.proofs.Common.{◌≡◌, ◌⊎◌, inl, inr, ℕ, true, List, [], ◌∷◌, ◌++◌, Option, Some, None, refl, sym, ap, subst, ◌∙◌, arith}
use Rattle.std.specs.Option.{IfSome, is_some}
use Rattle.gate_log.specs.LogView.{Adds}
use Rattle.gno_disk.specs.Phases.{EachMoment, phase}
use Rattle.gno_disk.specs.declared.disk.Disk.{Ghosts}
use Rattle.gno_disk.proofs.PhaseLemmas.{EachMoment-two, EachMoment-weaker}
use Rattle.gno_codec.specs.Index.{IsIndex, index_bytes}
use Rattle.gno_codec.specs.declared.item.IndexItem.{IndexItem}
use Rattle.log_pair.specs.declared.place.Place.{Place}
use Rattle.log_pair.specs.Pair.{HoldsPair}
use Rattle.log_pair.specs.PairView.{AreNoneOrMade, AreOldOrAdded, IsLastingPair, LeavesNoLog, OfTwo, PairView}
use Rattle.front_api.specs.Maps.{Maps}
use Rattle.metric_index.specs.IndexLog.{HoldsIndex, IsIndexLog, index_place}
use Rattle.metric_index.specs.Items.{May, after_one, counted_of}
use Rattle.metric_index.proofs.Logs.{log_item}
use Rattle.metric_index.proofs.Mounted.{held_told}

two_weaker : (P Q : List ℕ → List ℕ → Type 0) → ((a b : List ℕ) → P a b → Q a b) → (images : List (List ℕ)) → OfTwo P images → OfTwo Q images
two_weaker P Q has [] p = p
two_weaker P Q has (a ∷ []) p = p
two_weaker P Q has (a ∷ b ∷ []) p = has a b p
two_weaker P Q has (a ∷ b ∷ x ∷ images) p = p

-- the maps, or those with one record more
next_told : (records : Option (List (List ℕ))) (p : Place) (epoch : ℕ) (m : Maps) (item : IndexItem) (body : List ℕ) (a b : List ℕ) → p ≡ index_place p.sacks → IfSome records (λ rs. IsIndexLog rs m) → body ≡ index_bytes item → IsIndex item → May m (counted_of item)
    → IfSome records (λ rs. HoldsPair p epoch rs a b ⊎ HoldsPair p epoch (rs ++ body ∷ []) a b) → is_some records ≡ true → HoldsIndex p.sacks m a b ⊎ HoldsIndex p.sacks (after_one m (counted_of item)) a b
next_told None p epoch m item body a b is are spells fits may held told = absurd cc
next_told (Some records) p epoch m item body a b is are spells fits may (inl held) told = inl (held_told (Some records) p p.sacks epoch m a b is are held refl)
next_told (Some records) p epoch m item body a b is are spells fits may (inr held) told =
    inr (held_told (Some (records ++ body ∷ [])) p p.sacks epoch (after_one m (counted_of item)) a b is (subst (λ (x : List ℕ). IsIndexLog (records ++ x ∷ []) (after_one m (counted_of item))) (sym spells) (log_item records m item are fits may)) held refl)

-- records with one more at their end
pub are_added : (old new : Option (List (List ℕ))) (m : Maps) (item : IndexItem) (body : List ℕ) → body ≡ index_bytes item → IsIndex item → May m (counted_of item) → Adds old new body → IfSome old (λ rs. IsIndexLog rs m) → IfSome new (λ rs. IsIndexLog rs (after_one m (counted_of item)))
are_added None None m item body spells fits may adds are = tt
are_added None (Some new) m item body spells fits may adds are = absurd adds
are_added (Some old) None m item body spells fits may adds are = tt
are_added (Some old) (Some new) m item body spells fits may adds are =
    subst (λ (rs : List (List ℕ)). IsIndexLog rs (after_one m (counted_of item))) (sym (adds ∙ ap (λ (x : List ℕ). old ++ x ∷ []) spells)) (log_item old m item are fits may)

module _ {D : Type 0} (g : Ghosts D) where
  -- of disks that stand still
  pub still_moments : (only_now : (disk : D) (image : List ℕ) → g.left_since disk (g.moment disk) image → g.may_leave disk image) (d e : D) (P : List ℕ → List ℕ → Type 0)
      → ((a b : List ℕ) → g.may_leave d a → g.may_leave e b → P a b) → EachMoment g (phase d d ∷ phase e e ∷ []) (OfTwo P)
  still_moments only_now d e P has = EachMoment-two g (phase d d) (phase e e) (OfTwo P) (omega arith) (omega arith)
      (λ x y left left_too. has x y (only_now d x left) left_too)
      (λ x y left left_too. has x y left (only_now e y left_too))

  -- of a making that never began
  pub none_made : (only_now : (disk : D) (image : List ℕ) → g.left_since disk (g.moment disk) image → g.may_leave disk image) (place : Place) (records : List (List ℕ)) (a b : D)
      → LeavesNoLog g a → LeavesNoLog g b → EachMoment g (phase b b ∷ phase a a ∷ []) (OfTwo (AreNoneOrMade place records))
  none_made only_now place records a b none_a none_b = still_moments only_now b a (AreNoneOrMade place records) (λ y x left_b left_a. inl (none_a x left_a, none_b y left_b))

  module _ (old : PairView D) (m : Maps) (item : IndexItem) (is : old.place ≡ index_place old.place.sacks) (are : IfSome old.records (λ rs. IsIndexLog rs m)) where
    abbrev Next : List ℕ → List ℕ → Type 0
    Next a b = is_some old.records ≡ true → HoldsIndex old.place.sacks m a b ⊎ HoldsIndex old.place.sacks (after_one m (counted_of item)) a b

    pub still_next : (only_now : (disk : D) (image : List ℕ) → g.left_since disk (g.moment disk) image → g.may_leave disk image) → IsLastingPair g old
        → EachMoment g (phase old.first old.first ∷ phase old.second old.second ∷ []) (OfTwo (λ a b. is_some old.records ≡ true → HoldsIndex old.place.sacks m a b ⊎ HoldsIndex old.place.sacks (after_one m (counted_of item)) a b))
    still_next only_now lasting = still_moments only_now old.first old.second Next
        (λ a b left left_too told. inl (held_told old.records old.place old.place.sacks old.epoch m a b is are (lasting a b left left_too) told))

    pub next_moments : (first second : D) (body : List ℕ) → body ≡ index_bytes item → IsIndex item → May m (counted_of item)
        → EachMoment g (phase old.first first ∷ phase old.second second ∷ []) (OfTwo (AreOldOrAdded old body))
        → EachMoment g (phase old.first first ∷ phase old.second second ∷ []) (OfTwo (λ a b. is_some old.records ≡ true → HoldsIndex old.place.sacks m a b ⊎ HoldsIndex old.place.sacks (after_one m (counted_of item)) a b))
    next_moments first second body spells fits may moments =
        EachMoment-weaker g (phase old.first first ∷ phase old.second second ∷ []) (OfTwo (AreOldOrAdded old body)) (OfTwo Next)
        (two_weaker (AreOldOrAdded old body) Next (λ a b held. next_told old.records old.place old.epoch m item body a b is are spells fits may held)) moments

-- one record, where all are this
pub store_are : (records : Option (List (List ℕ))) (made : List (List ℕ)) (m : Maps) → IsIndexLog made m → IfSome records (λ rs. rs ≡ made) → IfSome records (λ rs. IsIndexLog rs m)
store_are None made m log same = tt
store_are (Some records) made m log same = subst (λ (rs : List (List ℕ)). IsIndexLog rs m) (sym same) log

-- What the images of two disks hold, by those of the log and of the other disk.
use Rattle.std.proofs.Common.{◌≡◌, ◌⊎◌, ℕ, ◌≤◌, Bool, true, false, ◌&&◌, List, [], ◌∷◌, ◌++◌, drop, Option, Some, None, Result, Ok, Err, inl, inr, refl, sym, ap, subst, ◌∙◌, arith}
use Rattle.std.specs.Option.{IfSome, is_some}
use Rattle.std.specs.Result.{OnOk}
use Rattle.gno_disk.specs.Moments.{LeavesOnly}
use Rattle.gno_disk.specs.Phases.{EachMoment, phase}
use Rattle.gno_disk.specs.declared.disk.Disk.{Ghosts}
use Rattle.gno_disk.proofs.Moments.{leaves_now}
use Rattle.gno_disk.proofs.PhaseLemmas.{EachMoment-two}
use Rattle.gate_log.specs.Steps.{IsSynced}
use Rattle.gate_log.specs.LogView.{Adds, IsOfRecords, IsOldOrAdded}
use Rattle.gate_log.specs.Records.{Holds}
use Rattle.log_pair.specs.declared.place.Place.{Place}
use Rattle.log_pair.specs.Choice.{TwoTold}
use Rattle.log_pair.specs.Header.{FitsHeader, IsEpoch, log_header}
use Rattle.log_pair.specs.PairView.{OfTwo}
use Rattle.log_pair.specs.Inside.{BeginsWithHeader, behind_header}
use Rattle.log_pair.specs.Pair.{HoldsPair, IsOlder, one_of, other_of}

pub one_one : {A : Type 0} (s : Bool) (x y : A) → one_of s (one_of s x y) (other_of s x y) ≡ x
one_one false x y = refl
one_one true x y = refl

pub other_one : {A : Type 0} (s : Bool) (x y : A) → other_of s (one_of s x y) (other_of s x y) ≡ y
other_one false x y = refl
other_one true x y = refl

-- records behind a header, and what holds them
pub pair_held : (place : Place) (epoch : ℕ) (s : Bool) (records : List (List ℕ)) (x y : List ℕ) → FitsHeader place epoch → IsEpoch epoch → Holds x (log_header place epoch ∷ records) → IsOlder s epoch y → HoldsPair place epoch records (one_of s x y) (other_of s x y)
pair_held place epoch s records x y fits in_range held older = record {
  second = s;
  fits = fits;
  in_range = in_range;
  held = subst (λ (b : List ℕ). Holds b (log_header place epoch ∷ records)) (sym (one_one s x y)) held;
  older = subst (IsOlder s epoch) (sym (other_one s x y)) older;
}

module _ (place : Place) (epoch : ℕ) (s : Bool) (fits : FitsHeader place epoch) (in_range : IsEpoch epoch) where
  abbrev Pairs : List (List ℕ) → List ℕ → List ℕ → Type 0
  Pairs records x y = HoldsPair place epoch records (one_of s x y) (other_of s x y)

  behind : (records : List (List ℕ)) (x y : List ℕ) → BeginsWithHeader place epoch records → Holds x records → IsOlder s epoch y → Pairs (drop 1 records) x y
  behind records x y begins held older =
      let whole = begins.records_are in
      subst (λ (rs : List (List ℕ)). Pairs rs x y) (sym (ap (drop 1) whole)) (pair_held place epoch s begins.rest x y fits in_range (subst (Holds x) whole held) older)

  -- the log's image holds its records, and the other is older
  pub image_held : (told : Option (List ℕ)) (records : Option (List (List ℕ))) (x y : List ℕ) → IfSome records (BeginsWithHeader place epoch) → IsOfRecords records x → IfSome told (λ _. IsOlder s epoch y)
      → IfSome (behind_header told records) (λ rs. Pairs rs x y)
  image_held None records x y begins held older = tt
  image_held (Some bytes) None x y begins held older = tt
  image_held (Some bytes) (Some records) x y begins held older = behind records x y begins held older

  added_behind : (records : List (List ℕ)) (body : List ℕ) → BeginsWithHeader place epoch records → drop 1 (records ++ body ∷ []) ≡ drop 1 records ++ body ∷ []
  added_behind records body begins =
      let whole = begins.records_are in
      ap (λ (rs : List (List ℕ)). drop 1 (rs ++ body ∷ [])) whole ∙ sym (ap (λ (rs : List (List ℕ)). drop 1 rs ++ body ∷ []) whole)

  added_begins : (records : List (List ℕ)) (body : List ℕ) → BeginsWithHeader place epoch records → BeginsWithHeader place epoch (records ++ body ∷ [])
  added_begins records body begins = record {
    rest = begins.rest ++ body ∷ [];
    records_are = ap (λ (rs : List (List ℕ)). rs ++ body ∷ []) begins.records_are;
  }

  -- the same of records with a body at their end, or without it
  pub image_added : (told : Option (List ℕ)) (records : Option (List (List ℕ))) (body x y : List ℕ) → IfSome records (BeginsWithHeader place epoch) → IsOldOrAdded records body x → IfSome told (λ _. IsOlder s epoch y)
      → IfSome (behind_header told records) (λ rs. Pairs rs x y ⊎ Pairs (rs ++ body ∷ []) x y)
  image_added None records body x y begins held older = tt
  image_added (Some bytes) None body x y begins held older = tt
  image_added (Some bytes) (Some records) body x y begins held older = elim held [
    | inl old ↦ inl (behind records x y begins old older)
    | inr new ↦ inr (subst (λ (rs : List (List ℕ)). Pairs rs x y) (added_behind records body begins) (behind (records ++ body ∷ []) x y (added_begins records body begins) new older))
  ]

-- images of two disks, by which of them has the log
pub images_of : {D : Type 0} (g : Ghosts D) (s : Bool) (d e : D) (P : List ℕ → List ℕ → Type 0) → ((x y : List ℕ) → g.may_leave d x → g.may_leave e y → P (one_of s x y) (other_of s x y))
    → (a b : List ℕ) → g.may_leave (one_of s d e) a → g.may_leave (other_of s d e) b → P a b
images_of g false d e P has a b left left_too = has a b left left_too
images_of g true d e P has a b left left_too = has b a left_too left

-- ---- one call on the disk of the log, and none on the other

module _ {D : Type 0} (g : Ghosts D) where
  pub came_both : (n : ℕ) (s : Bool) (d next e : D) → g.came n d next → g.came n e e → g.came n (one_of s d e) (one_of s next e) × g.came n (other_of s d e) (other_of s next e)
  came_both n false d next e came still = (came, still)
  came_both n true d next e came still = (still, came)

  -- what a stop at any moment of such a call leaves
  pub moments_both : ((disk : D) (since : ℕ) (image : List ℕ) → since ≤ g.moment disk → g.may_leave disk image → g.left_since disk since image)
      → ((disk : D) (image : List ℕ) → g.left_since disk (g.moment disk) image → g.may_leave disk image)
      → (s : Bool) (d next e : D) (Q : List ℕ → Type 0) (P : List ℕ → List ℕ → Type 0) → LeavesOnly g d next Q → ((x : List ℕ) → g.may_leave d x → Q x)
      → ((x y : List ℕ) → Q x → g.may_leave e y → P (one_of s x y) (other_of s x y))
      → EachMoment g (phase (one_of s d e) (one_of s next e) ∷ phase (other_of s d e) (other_of s next e) ∷ []) (OfTwo P)
  moments_both counts_now only_now false d next e Q P leaves before has = EachMoment-two g (phase d next) (phase e e) (OfTwo P) leaves.later (omega arith)
      (λ x y left left_too. has x y (leaves.each x left) left_too)
      (λ x y left left_too. has x y (leaves_now g d next Q counts_now leaves x left) (only_now e y left_too))
  moments_both counts_now only_now true d next e Q P leaves before has = EachMoment-two g (phase e e) (phase d next) (OfTwo P) (omega arith) leaves.later
      (λ y x left left_too. has x y (before x left_too) (only_now e y left))
      (λ y x left left_too. has x y (leaves.each x left_too) left)

-- the bytes of two disks hold the records behind the header
module _ (place : Place) (epoch : ℕ) (fits : FitsHeader place epoch) (in_range : IsEpoch epoch) where
  pub told_held : (s : Bool) (log other : Option (List ℕ)) (may : List ℕ → Type 0) (records : Option (List (List ℕ))) → IfSome records (BeginsWithHeader place epoch) → IfSome log (IsOfRecords records)
      → IfSome other (λ _. (image : List ℕ) → may image → IsOlder s epoch image) → IfSome other may
      → TwoTold (one_of s log other) (other_of s log other) (λ a b. IfSome (behind_header other records) (λ rs. HoldsPair place epoch rs a b))
  told_held false None other may records begins held older reads = tt
  told_held true None None may records begins held older reads = tt
  told_held true None (Some y) may records begins held older reads = tt
  told_held false (Some x) None may records begins held older reads = tt
  told_held true (Some x) None may records begins held older reads = tt
  told_held false (Some x) (Some y) may records begins held older reads = image_held place epoch false fits in_range (Some y) records x y begins held (older y reads)
  told_held true (Some x) (Some y) may records begins held older reads = image_held place epoch true fits in_range (Some y) records x y begins held (older y reads)

-- what is known of all images of the other disk is known of one
pub older_image : (told : Option (List ℕ)) (may : List ℕ → Type 0) (s : Bool) (epoch : ℕ) (y : List ℕ) → IfSome told (λ _. (image : List ℕ) → may image → IsOlder s epoch image) → may y → IfSome told (λ _. IsOlder s epoch y)
older_image None may s epoch y older left = tt
older_image (Some bytes) may s epoch y older left = older y left

-- the bytes that are told are the only image, and come before the epoch
pub older_synced : (told : Option (List ℕ)) (may : List ℕ → Type 0) (s : Bool) (epoch : ℕ) → IfSome told (IsOlder s epoch) → IsSynced told may → IfSome told (λ _. (image : List ℕ) → may image → IsOlder s epoch image)
older_synced None may s epoch older synced = tt
older_synced (Some bytes) may s epoch older synced = λ image left. subst (IsOlder s epoch) (sym (synced image left)) older

-- a body more leaves the header in front
pub header_added : (place : Place) (epoch : ℕ) (old new : Option (List (List ℕ))) (body : List ℕ) → Adds old new body → IfSome old (BeginsWithHeader place epoch) → IfSome new (BeginsWithHeader place epoch)
header_added place epoch None None body adds begins = tt
header_added place epoch None (Some new) body adds begins = absurd adds
header_added place epoch (Some old) None body adds begins = tt
header_added place epoch (Some old) (Some new) body adds begins = record {
  rest = begins.rest ++ body ∷ [];
  records_are = adds ∙ ap (λ (rs : List (List ℕ)). rs ++ body ∷ []) begins.records_are;
}

-- two facts of an Ok have a third
pub OnOk-both : {X E : Type 0} (r : Result X E) (P Q R : Type 0) → (P → Q → R) → OnOk r P → OnOk r Q → OnOk r R
OnOk-both (Ok x) P Q R has p q = has p q
OnOk-both (Err e) P Q R has p q = tt

-- records that begin with the header
pub header_first : (place : Place) (epoch : ℕ) (records : Option (List (List ℕ))) (first : List ℕ) (rest : List (List ℕ)) → first ≡ log_header place epoch → IfSome records (λ rs. rs ≡ first ∷ rest) → IfSome records (BeginsWithHeader place epoch)
header_first place epoch None first rest same are = tt
header_first place epoch (Some records) first rest same are = record { rest = rest; records_are = are ∙ ap (λ (b : List ℕ). b ∷ rest) same }

-- whether the records behind the header are told
pub behind_told : (other : Option (List ℕ)) (records : Option (List (List ℕ))) → is_some (behind_header other records) ≡ (is_some records && is_some other)
behind_told None None = refl
behind_told None (Some records) = refl
behind_told (Some bytes) None = refl
behind_told (Some bytes) (Some records) = refl

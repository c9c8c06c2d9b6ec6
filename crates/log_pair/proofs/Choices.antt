-- Which log counts, by the headers that were found.
use Rattle.std.proofs.Common.{◌≡◌, ◌⊎◌, ℕ, ◌≤◌, ◌^◌, Bool, true, false, ltb, [], ◌∷◌, ◌++◌, drop, length, slice_index, ⊎_elim, List, Option, Some, None, refl, sym, ap, subst, ◌∙◌, arith}
use Rattle.std.specs.Option.{IfSome}
use Rattle.std.proofs.lemmas.Bool.{ltb-true, ltb-false}
use Rattle.std.proofs.lemmas.Option.{same_Some, none-some}
use Rattle.gno_num.specs.declared.faults.Damaged.{Damaged as Damage}
use Rattle.byteorder.specs.Endian.{big_bytes, big_number}
use Rattle.byteorder.specs.Numbers.{big_number-reads_back}
use Rattle.gate_log.specs.Records.{Holds, HoldsNoList, IsDamaged}
use Rattle.gate_log.proofs.Exact.{BeginsWith-one, Holds-first, IsDamaged-never}
use Rattle.log_pair.specs.declared.header.Header.{Header}
use Rattle.log_pair.specs.declared.place.Place.{Place}
use Rattle.log_pair.specs.Choice.{IsHeaderOf, TwoTold, comes_second}
use Rattle.log_pair.specs.Header.{FitsHeader, HasHeader, IsEpoch, log_header}
use Rattle.log_pair.specs.Pair.{Counts, HoldsNoPair, HoldsPair, IsDamagedPair, no_header, another, damaged, IsOlder, disk_number, one_of, other_of}

abbrev IfHeader : Option Header → List ℕ → Type 0
IfHeader found bytes = IfSome found (λ (h : Header). HasHeader h.place h.epoch bytes)

abbrev header_with : Place → ℕ → Header
header_with place epoch = record { place = place; epoch = epoch }

-- where no header was found there is none
pub none_there : (found : Option Header) (bytes : List ℕ) → found ≡ None → IsHeaderOf found bytes → (place : Place) (epoch : ℕ) → HasHeader place epoch bytes → ⊥
none_there found bytes none is place epoch has = none-some (header_with place epoch) (sym none ∙ is.only place epoch has)

-- the other header comes no earlier than the one that counts
pub older_than : (first second : Option Header) (h : Header) → one_of (comes_second first second) first second ≡ Some h → (bytes : List ℕ) → IsHeaderOf (other_of (comes_second first second) first second) bytes
    → IsOlder (comes_second first second) h.epoch bytes
older_than None None h is bytes found = absurd (none-some h is)
older_than None (Some second) h is bytes found = λ place other has. absurd (none_there None bytes refl found place other has)
older_than (Some first) None h is bytes found = λ place other has. absurd (none_there None bytes refl found place other has)
older_than (Some first) (Some second) h is bytes found = by (ltb first.epoch second.epoch) refl is found
  where
    by : (b : Bool) → ltb first.epoch second.epoch ≡ b → one_of b (Some first) (Some second) ≡ Some h → IsHeaderOf (other_of b (Some first) (Some second)) bytes → IsOlder b h.epoch bytes
    by true less same there = λ place other has.
        let own : first ≡ header_with place other = same_Some first (header_with place other) (there.only place other has) in
        omega (arith, ltb-true first.epoch second.epoch less, ap (λ (x : Header). x.epoch) own, ap (λ (x : Header). x.epoch) (same_Some second h same))
    by false late same there = λ place other has.
        let own : second ≡ header_with place other = same_Some second (header_with place other) (there.only place other has) in
        omega (arith, ltb-false first.epoch second.epoch late, ap (λ (x : Header). x.epoch) own, ap (λ (x : Header). x.epoch) (same_Some first h same))

-- the header that counts
counting : (first second : Option Header) (h : Header) (a b : List ℕ) → one_of (comes_second first second) first second ≡ Some h → IsHeaderOf first a → IsHeaderOf second b → Counts (comes_second first second) h.place h.epoch a b
counting first second h a b is found_a found_b = by (comes_second first second) is (older_than first second h is)
  where
    by : (s : Bool) → one_of s first second ≡ Some h → ((bytes : List ℕ) → IsHeaderOf (other_of s first second) bytes → IsOlder s h.epoch bytes) → Counts s h.place h.epoch a b
    by false same older = record { header = subst (λ (o : Option Header). IfHeader o a) same found_a.is; older = older b found_b }
    by true same older = record { header = subst (λ (o : Option Header). IfHeader o b) same found_b.is; older = older a found_a }

-- neither disk has a header
pub no_choice : (first second : Option Header) (d : Damage) (place : Place) (a b : List ℕ) → one_of (comes_second first second) first second ≡ None → d.disk ≡ disk_number (comes_second first second) → d.at ≡ 0 → IsHeaderOf first a → IsHeaderOf second b → IsDamagedPair place a b d
no_choice None None d place a b none disk at found_a found_b = no_header disk at (none_there None a refl found_a) (none_there None b refl found_b)
no_choice None (Some second) d place a b none disk at found_a found_b = absurd (none-some second (sym none))
no_choice (Some first) None d place a b none disk at found_a found_b = absurd (none-some first (sym none))
no_choice (Some first) (Some second) d place a b none disk at found_a found_b = absurd (by (ltb first.epoch second.epoch) none)
  where
    by : (s : Bool) → one_of s (Some first) (Some second) ≡ None → ⊥
    by true same = none-some second (sym same)
    by false same = none-some first (sym same)

-- the header that counts is another one
pub other_choice : (first second : Option Header) (h : Header) (d : Damage) (place : Place) (a b : List ℕ) → one_of (comes_second first second) first second ≡ Some h → ((h.place ≡ place → ⊥) ⊎ (IsEpoch h.epoch → ⊥)) → d.disk ≡ disk_number (comes_second first second) → d.at ≡ 0 → IsHeaderOf first a → IsHeaderOf second b → IsDamagedPair place a b d
other_choice first second h d place a b is why disk at found_a found_b =
    another (comes_second first second) h.place h.epoch (counting first second h a b is found_a found_b) why disk at

-- what is chosen has the header
pub chosen_header : (found : Option Header) (h : Header) (bytes : List ℕ) → found ≡ Some h → IsHeaderOf found bytes → HasHeader h.place h.epoch bytes
chosen_header found h bytes is there = subst (λ (o : Option Header). IfHeader o bytes) is there.is

-- ---- of two disks one header counts

-- a header tells its place and epoch
pub log_header-one : (p q : Place) (m n : ℕ) → FitsHeader p m → FitsHeader q n → log_header p m ≡ log_header q n → (p ≡ q) × (m ≡ n)
log_header-one p q m n fits fits_too same =
    let sacks_of : (r : Place) (k : ℕ) → FitsHeader r k → big_number 2 (drop 8 (log_header r k)) ≡ r.sacks = λ r k f. big_number-reads_back 2 r.sacks (big_bytes 8 k) (omega (arith, f.sacks)) in
    let sack_of : (r : Place) (k : ℕ) → FitsHeader r k → big_number 2 (drop 6 (log_header r k)) ≡ r.sack = λ r k f. big_number-reads_back 2 r.sack (big_bytes 2 r.sacks ++ big_bytes 8 k) (omega (arith, f.sack)) in
    let epoch_of : (r : Place) (k : ℕ) → FitsHeader r k → big_number 8 (drop 10 (log_header r k)) ≡ k = λ r k f. big_number-reads_back 8 k [] (omega (arith, f.epoch)) in
    let role : p.role ≡ q.role = ap (λ (b : List ℕ). slice_index b 5) same in
    let sack : p.sack ≡ q.sack = sym (sack_of p m fits) ∙ ap (λ (b : List ℕ). big_number 2 (drop 6 b)) same ∙ sack_of q n fits_too in
    let sacks : p.sacks ≡ q.sacks = sym (sacks_of p m fits) ∙ ap (λ (b : List ℕ). big_number 2 (drop 8 b)) same ∙ sacks_of q n fits_too in (
      ap (λ r. record { role = r; sack = p.sack; sacks = p.sacks }) role ∙ ap (λ r. record { role = q.role; sack = r; sacks = p.sacks }) sack ∙ ap (λ r. record { role = q.role; sack = q.sack; sacks = r }) sacks,
      sym (epoch_of p m fits) ∙ ap (λ (b : List ℕ). big_number 8 (drop 10 b)) same ∙ epoch_of q n fits_too,
    )

-- bytes have one header
pub HasHeader-one : (p q : Place) (m n : ℕ) (bytes : List ℕ) → HasHeader p m bytes → HasHeader q n bytes → (p ≡ q) × (m ≡ n)
HasHeader-one p q m n bytes first second =
    log_header-one p q m n first.fits second.fits (BeginsWith-one (log_header p m) (log_header q n) bytes (omega arith) (omega arith) first.first second.first)

-- what counts, and what is held, by one of two disks
pub record IsCounted (s t : Bool) (p q : Place) (m n : ℕ) : Type 0 where
  pub same_disk : s ≡ t
  pub same_place : p ≡ q
  pub same_epoch : m ≡ n

pub Counts-one : (s t : Bool) (p q : Place) (m n : ℕ) (a b : List ℕ) → Counts s p m a b → Counts t q n a b → IsCounted s t p q m n
Counts-one false false p q m n a b first second =
    let one = HasHeader-one p q m n a first.header second.header in record { same_disk = refl; same_place = one.0; same_epoch = one.1 }
Counts-one true true p q m n a b first second =
    let one = HasHeader-one p q m n b first.header second.header in record { same_disk = refl; same_place = one.0; same_epoch = one.1 }
Counts-one false true p q m n a b first second = absurd (omega (arith, first.older q n second.header, second.older p m first.header))
Counts-one true false p q m n a b first second = absurd (omega (arith, first.older q n second.header, second.older p m first.header))

-- what is held counts
pub pair_counts : (place : Place) (epoch : ℕ) (records : List (List ℕ)) (a b : List ℕ) (h : HoldsPair place epoch records a b) → Counts h.second place epoch a b
pair_counts place epoch records a b h = record {
  header = record { fits = h.fits; first = Holds-first (one_of h.second a b) (log_header place epoch) records h.held };
  older = h.older;
}

-- damaged disks hold no pair
pub damaged_never : (place : Place) (a b : List ℕ) (d : Damage) → length a ≤ 2 ^ 60 → length b ≤ 2 ^ 60 → IsDamagedPair place a b d → (epoch : ℕ) (records : List (List ℕ)) → HoldsPair place epoch records a b → ⊥
damaged_never place a b d short_a short_b (no_header disk at none none_too) epoch records h = by h.second (pair_counts place epoch records a b h)
  where
    by : (s : Bool) → Counts s place epoch a b → ⊥
    by false counts = none place epoch counts.header
    by true counts = none_too place epoch counts.header
damaged_never place a b d short_a short_b (another s p m counts why disk at) epoch records h =
    let one = Counts-one s h.second p place m epoch a b counts (pair_counts place epoch records a b h) in
    ⊎_elim (λ other. other one.same_place) (λ none. none (subst IsEpoch (sym one.same_epoch) h.in_range)) why
damaged_never place a b d short_a short_b (damaged s m counts disk at) epoch records h =
    let one = Counts-one s h.second place place m epoch a b counts (pair_counts place epoch records a b h) in
    IsDamaged-never (one_of s a b) d.at (by s) at (log_header place epoch ∷ records) (subst (λ t. Holds (one_of t a b) (log_header place epoch ∷ records)) (sym one.same_disk) h.held)
  where
    by : (t : Bool) → length (one_of t a b) ≤ 2 ^ 60
    by false = short_a
    by true = short_b

-- ---- what isn't held

-- neither header stands there
pub no_choice_never : (first second : Option Header) (place : Place) (a b : List ℕ) → one_of (comes_second first second) first second ≡ None → IsHeaderOf first a → IsHeaderOf second b → HoldsNoPair place a b
no_choice_never None None place a b none found_a found_b epoch records h = by h.second (pair_counts place epoch records a b h)
  where
    by : (s : Bool) → Counts s place epoch a b → ⊥
    by false counts = none_there None a refl found_a place epoch counts.header
    by true counts = none_there None b refl found_b place epoch counts.header
no_choice_never None (Some second) place a b none found_a found_b epoch records h = none-some second (sym none)
no_choice_never (Some first) None place a b none found_a found_b epoch records h = none-some first (sym none)
no_choice_never (Some first) (Some second) place a b none found_a found_b epoch records h = by (ltb first.epoch second.epoch) none
  where
    by : (s : Bool) → one_of s (Some first) (Some second) ≡ None → ⊥
    by true same = none-some second (sym same)
    by false same = none-some first (sym same)

-- the header that counts is another one
pub other_choice_never : (first second : Option Header) (h : Header) (place : Place) (a b : List ℕ) → one_of (comes_second first second) first second ≡ Some h → ((h.place ≡ place → ⊥) ⊎ (IsEpoch h.epoch → ⊥)) → IsHeaderOf first a → IsHeaderOf second b → HoldsNoPair place a b
other_choice_never first second h place a b is why found_a found_b epoch records held =
    let one = Counts-one (comes_second first second) held.second h.place place h.epoch epoch a b (counting first second h a b is found_a found_b) (pair_counts place epoch records a b held) in
    ⊎_elim (λ other. other one.same_place) (λ none. none (subst IsEpoch (sym one.same_epoch) held.in_range)) why

-- ---- what the told bytes of two disks are

module _ (place : Place) (n : ℕ) where
  pub counted : (s : Bool) (ta tb : Option (List ℕ)) → IfSome (one_of s ta tb) (HasHeader place n) → IfSome (other_of s ta tb) (IsOlder s n) → TwoTold ta tb (Counts s place n)
  counted s None tb has older = tt
  counted s (Some x) None has older = tt
  counted false (Some x) (Some y) has older = record { header = has; older = older }
  counted true (Some x) (Some y) has older = record { header = has; older = older }

  pub pair_exact : (s : Bool) (ta tb : Option (List ℕ)) (number : ℕ) (records : Option (List (List ℕ))) → number ≡ n → IfSome (one_of s ta tb) (HasHeader place n) → IfSome (other_of s ta tb) (IsOlder s n)
      → TwoTold (one_of s ta tb) (other_of s ta tb) (λ x _. (rs : List (List ℕ)) → Holds x (log_header place n ∷ rs) → records ≡ Some rs)
      → TwoTold ta tb (λ x y. (epoch : ℕ) (rs : List (List ℕ)) → HoldsPair place epoch rs x y → (number ≡ epoch) × (records ≡ Some rs))
  pair_exact s None tb number records same has older exact = tt
  pair_exact s (Some x) None number records same has older exact = tt
  pair_exact s (Some x) (Some y) number records same has older exact = λ epoch rs h.
      let one = Counts-one s h.second place place n epoch x y (counted s (Some x) (Some y) has older) (pair_counts place epoch rs x y h) in
      let held : Holds (one_of s x y) (log_header place n ∷ rs) =
      subst (λ m. Holds (one_of s x y) (log_header place m ∷ rs)) (sym one.same_epoch) (subst (λ t. Holds (one_of t x y) (log_header place epoch ∷ rs)) (sym one.same_disk) h.held) in
      (same ∙ one.same_epoch, by s exact rs held)
    where
      by : (t : Bool) → TwoTold (one_of t (Some x) (Some y)) (other_of t (Some x) (Some y)) (λ z _. (rs : List (List ℕ)) → Holds z (log_header place n ∷ rs) → records ≡ Some rs)
          → (rs : List (List ℕ)) → Holds (one_of t x y) (log_header place n ∷ rs) → records ≡ Some rs
      by false fact = fact
      by true fact = fact

  pub damaged_told : (s : Bool) (ta tb : Option (List ℕ)) (d : Damage) → IfSome (one_of s ta tb) (HasHeader place n) → IfSome (other_of s ta tb) (IsOlder s n) → d.disk ≡ disk_number s → IfSome (one_of s ta tb) (λ x. IsDamaged x d.at)
      → TwoTold ta tb (λ x y. IsDamagedPair place x y d)
  damaged_told s None tb d has older disk at = tt
  damaged_told s (Some x) None d has older disk at = tt
  damaged_told false (Some x) (Some y) d has older disk at = damaged false n (record { header = has; older = older }) disk at
  damaged_told true (Some x) (Some y) d has older disk at = damaged true n (record { header = has; older = older }) disk at

  pub never_told : (s : Bool) (ta tb : Option (List ℕ)) → IfSome (one_of s ta tb) (HasHeader place n) → IfSome (other_of s ta tb) (IsOlder s n) → IfSome (one_of s ta tb) HoldsNoList → TwoTold ta tb (HoldsNoPair place)
  never_told s None tb has older none = tt
  never_told s (Some x) None has older none = tt
  never_told s (Some x) (Some y) has older none = λ epoch rs h.
      let one = Counts-one s h.second place place n epoch x y (counted s (Some x) (Some y) has older) (pair_counts place epoch rs x y h) in
      by s none (log_header place epoch ∷ rs) (subst (λ t. Holds (one_of t x y) (log_header place epoch ∷ rs)) (sym one.same_disk) h.held)
    where
      by : (t : Bool) → IfSome (one_of t (Some x) (Some y)) HoldsNoList → (rs : List (List ℕ)) → Holds (one_of t x y) rs → ⊥
      by false fact = fact
      by true fact = fact

-- facts of two disks from one of each
pub two_told : (ta tb : Option (List ℕ)) (P Q : List ℕ → Type 0) (R : List ℕ → List ℕ → Type 0) → ((x y : List ℕ) → P x → Q y → R x y) → IfSome ta P → IfSome tb Q → TwoTold ta tb R
two_told None tb P Q R has p q = tt
two_told (Some x) None P Q R has p q = tt
two_told (Some x) (Some y) P Q R has p q = has x y p q

-- A log that was mounted and then read.
use Rattle.std.proofs.Common.{◌≡◌, ◌⊎◌, ℕ, ◌+◌, ◌≤◌, Bool, true, false, ◌&&◌, List, [], ◌∷◌, Option, Some, None, refl, sym, ap, subst, ◌∙◌, arith}
use Rattle.std.specs.Option.{IfSome, is_some, option_map}
use Rattle.gno_num.specs.declared.faults.Damaged.{Damaged as Damage}
use Rattle.std.specs.Bool.{⊤}
use Rattle.gno_num.specs.Faults.{Rose, Rose-from}
use Rattle.gno_num.specs.declared.faults.DiskFault.{DiskFault as Fault}
use Rattle.gate_log.specs.LogView.{IsFault, MatchMountFault}
use Rattle.gate_log.specs.declared.fault.MountFault.{MountFault}
use Rattle.gate_log.specs.declared.fault.MountFault.TheVariants.{DiskFault as MountDisk, Damaged as MountDamaged, Memory as MountMemory}
use Rattle.gno_disk.specs.Disk.{TimeGoesOn}
use Rattle.gno_disk.specs.Phases.{AreUnwritten, phase}
use Rattle.gno_disk.specs.declared.disk.Disk.{Ghosts}
use Rattle.log_pair.specs.declared.place.Place.{Place}
use Rattle.log_pair.specs.Choice.{TwoTold}
use Rattle.log_pair.specs.Pair.{Counts, HoldsNoPair, HoldsPair, IsDamagedPair}
use Rattle.log_pair.specs.PairView.{AreOfPair, IsLastingPair, PairView}
use Rattle.incoming.specs.declared.contents.Contents.{Contents}
use Rattle.incoming.specs.Contents.{AreOf}
use Rattle.incoming.specs.Damage.{HoldsNoIncoming, IsDamagedIncoming, pair}
use Rattle.incoming.specs.Inside.{posts_in}
use Rattle.incoming.specs.Posts.{HoldsIncoming, Post, incoming_place}
use Rattle.incoming.specs.Reading.{IsOddOf, IsOnlyRead}
use Rattle.incoming.proofs.Held.{exact_by, held_told, odd_damage, odd_held_never, two_told}
use Rattle.incoming.proofs.ReadLemmas.{lasting_read, same_pair, unwritten_then}

role_is : (p place : Place) → p ≡ incoming_place place → p.role ≡ 2
role_is p place is = ap (λ (q : Place). q.role) is

module _ {D : Type 0} (g : Ghosts D) (old new : PairView D) (read : IsOnlyRead g old new) (c : Contents) (place : Place) (is : old.place ≡ incoming_place place) where
  new_role : new.place.role ≡ 2
  new_role = role_is new.place place (read.place ∙ is)

  pub new_are : IfSome old.records (AreOf c) → IfSome new.records (AreOf c)
  new_are are = subst (λ o. IfSome o (AreOf c)) (sym read.records) are

  pub mounted_held : (ta tb : Option (List ℕ)) → IfSome old.records (AreOf c) → TwoTold ta tb (AreOfPair old) → TwoTold ta tb (λ a b. IfSome (option_map posts_in new.records) (λ posts. HoldsIncoming new.place posts c.next a b))
  mounted_held ta tb are held =
      two_told ta tb (AreOfPair old) (AreOfPair old) _
      (λ a b first second p q. held_told c new.place new.epoch new_role new.records a b (new_are are) (same_pair g old new a b read.records read.place read.epoch p))
      held held

  pub mounted_exact : (ta tb : Option (List ℕ)) → IfSome old.records (AreOf c)
      → TwoTold ta tb (λ x y. (epoch : ℕ) (rs : List (List ℕ)) → HoldsPair (incoming_place place) epoch rs x y → (old.epoch ≡ epoch) × (old.records ≡ Some rs))
      → TwoTold ta tb (λ x y. (posts : List Post) (next : ℕ) → HoldsIncoming place posts next x y → (option_map posts_in new.records ≡ Some posts) × (c.next ≡ next))
  mounted_exact ta tb are exact =
      two_told ta tb _ (λ x y. Unit {0}) _
      (λ x y first second p q posts next h. let e = exact_by c old.records place old.epoch x y are p posts next h in (ap (option_map posts_in) read.records ∙ e.0, e.1))
      exact (all_told ta tb)
    where
      all_told : (ta tb : Option (List ℕ)) → TwoTold ta tb (λ x y. Unit {0})
      all_told None tb = tt
      all_told (Some x) None = tt
      all_told (Some x) (Some y) = tt

  pub mounted_lasting : IfSome old.records (AreOf c) → IsLastingPair g old → (a b : List ℕ) → g.may_leave new.first a → g.may_leave new.second b → IfSome (option_map posts_in new.records) (λ posts. HoldsIncoming new.place posts c.next a b)
  mounted_lasting are lasting a b left left_too =
      held_told c new.place new.epoch new_role new.records a b (new_are are) (lasting_read g old new read lasting a b left left_too)

pub mounted_unwritten : {D : Type 0} (g : Ghosts D) (old new : PairView D) → IsOnlyRead g old new → (goes_on : (n : ℕ) (old new : D) → g.came n old new → TimeGoesOn (g.moment old) (g.moment new) (g.left_since old) (g.left_since new)) (a b : D)
    → g.came 2 a old.first → g.came 2 b old.second → AreUnwritten g (phase a old.first ∷ phase b old.second ∷ []) → AreUnwritten g (phase a new.first ∷ phase b new.second ∷ [])
mounted_unwritten g old new read goes_on a b first second unwritten = (
  unwritten_then g a old.first new.first (goes_on 2 _ _ first).later (goes_on 0 _ _ read.came_first) unwritten.0 read.unwritten.0,
  (unwritten_then g b old.second new.second (goes_on 2 _ _ second).later (goes_on 0 _ _ read.came_second) unwritten.1.0 read.unwritten.1.0, tt),
)

-- ---- damage

module _ {D : Type 0} (p : PairView D) (place : Place) (is : p.place ≡ incoming_place place) (d : Damage) where
  pub damage_told : (records : Option (List (List ℕ))) (ta tb : Option (List ℕ)) → is_some records ≡ (is_some ta && is_some tb) → TwoTold ta tb (Counts p.on_second (incoming_place place) p.epoch)
      → TwoTold ta tb (λ a b. IfSome records (λ rs. HoldsPair p.place p.epoch rs a b)) → IfSome records (λ rs. IsOddOf p rs d) → TwoTold ta tb (λ x y. IsDamagedIncoming place x y d)
  damage_told records None tb told counts held o = tt
  damage_told records (Some x) None told counts held o = tt
  damage_told None (Some x) (Some y) told counts held o = absurd cc
  damage_told (Some records) (Some x) (Some y) told counts held o = odd_damage p records place x y d is counts held o

  pub never_told : (records : Option (List (List ℕ))) (ta tb : Option (List ℕ)) → is_some records ≡ (is_some ta && is_some tb)
      → TwoTold ta tb (λ x y. (epoch : ℕ) (rs : List (List ℕ)) → HoldsPair (incoming_place place) epoch rs x y → (p.epoch ≡ epoch) × (records ≡ Some rs))
      → IfSome records (λ rs. IsOddOf p rs d) → TwoTold ta tb (HoldsNoIncoming place)
  never_told records None tb told exact o = tt
  never_told records (Some x) None told exact o = tt
  never_told None (Some x) (Some y) told exact o = absurd cc
  never_told (Some records) (Some x) (Some y) told exact o = odd_held_never p records place p.epoch x y d exact o

-- damage of the pair
pub pair_damage : (place : Place) (d : Damage) (ta tb : Option (List ℕ)) → TwoTold ta tb (λ x y. IsDamagedPair (incoming_place place) x y d) → TwoTold ta tb (λ x y. IsDamagedIncoming place x y d)
pair_damage place d None tb damage = tt
pair_damage place d (Some x) None damage = tt
pair_damage place d (Some x) (Some y) damage = pair damage

pub pair_never : (place : Place) (ta tb : Option (List ℕ)) → TwoTold ta tb (HoldsNoPair (incoming_place place)) → TwoTold ta tb (HoldsNoIncoming place)
pair_never place None tb none = tt
pair_never place (Some x) None none = tt
pair_never place (Some x) (Some y) none = λ posts next h. none h.epoch h.records h.held

-- ---- faults

-- a fault of the reading is one of the mounting
pub mount_cause : (e r : MountFault) (before mid after last : ℕ) (B : Type 0) (Q Q' : Damage → Type 0) → before ≤ mid → after ≡ last → ((d : Damage) → Q d → Q' d)
    → MatchMountFault e (λ f. IsFault mid after f × B) Q ⊤ → MatchMountFault e (λ f. r ≡ MountDisk (record { before = before; after = f.after })) (λ d. r ≡ MountDamaged d) (r ≡ MountMemory)
    → MatchMountFault r (IsFault before last) Q' ⊤
mount_cause (MountDisk f) r before mid after last B Q Q' le same damage fault is =
    subst (λ x. MatchMountFault x (IsFault before last) Q' ⊤) (sym is)
    (record { before_is = refl; after_is = fault.0.after_is ∙ same; rose = subst (Rose before) same (Rose-from before le fault.0.rose) })
mount_cause (MountDamaged d) r before mid after last B Q Q' le same damage fault is = subst (λ x. MatchMountFault x (IsFault before last) Q' ⊤) (sym is) (damage d fault)
mount_cause MountMemory r before mid after last B Q Q' le same damage fault is = subst (λ x. MatchMountFault x (IsFault before last) Q' ⊤) (sym is) tt

pub mount_never : (e r : MountFault) (before : ℕ) (F : Fault → Type 0) (Q : Damage → Type 0) (N : Type 0) → ((d : Damage) → Q d → N)
    → MatchMountFault e F Q ⊤ → MatchMountFault e (λ f. r ≡ MountDisk (record { before = before; after = f.after })) (λ d. r ≡ MountDamaged d) (r ≡ MountMemory)
    → MatchMountFault r (λ _. ⊤) (λ _. N) ⊤
mount_never (MountDisk f) r before F Q N never fault is = subst (λ x. MatchMountFault x (λ _. ⊤) (λ _. N) ⊤) (sym is) tt
mount_never (MountDamaged d) r before F Q N never fault is = subst (λ x. MatchMountFault x (λ _. ⊤) (λ _. N) ⊤) (sym is) (never d fault)
mount_never MountMemory r before F Q N never fault is = subst (λ x. MatchMountFault x (λ _. ⊤) (λ _. N) ⊤) (sym is) tt

-- A store that was mounted, book by book.
use Rattle.std.proofs.Common.{◌≡◌, ℕ, true, List, [], ◌∷◌, ◌++◌, reverse, Option, Some, None, refl, ap, subst, ◌∙◌}
use Rattle.std.specs.List.{flat_map}
use Rattle.std.specs.Option.{IfSome, IsSome, is_some}
use Rattle.std.proofs.lemmas.List.{reverse-reverse}
use Rattle.gno_disk.specs.declared.disk.Disk.{Ghosts}
use Rattle.gno_disk.specs.Phases.{AreUnwritten, phase}
use Rattle.gate_log.specs.declared.fault.MountFault.{MountFault}
use Rattle.log_pair.specs.Choice.{TwoTold}
use Rattle.front_api.specs.Maps.{Maps}
use Rattle.metric_index.specs.IndexLog.{HoldsIndex}
use Rattle.metric_index.specs.IndexView.{IndexView, OfDisks, StandsFor as IndexStandsFor}
use Rattle.sack_state.specs.declared.disks.SackDisks.{SackDisks}
use Rattle.sack_state.specs.Books.{IsUnmounted}
use Rattle.sack_state.specs.SackView.{SackView}
use Rattle.front.specs.Making.{AreOpened, IsMountedIndex, IsMountedOn, IsMountedSack, IsUnmountedIndex, IsUnmountedOn, at_index, at_sack}
use Rattle.front.specs.Plan.{StoreDisks, five, sack_place}
use Rattle.front.specs.SoloView.{SoloView, disks_of_sacks}
use Rattle.front.specs.StoreFaults.{told_in_store}
use Rattle.front.proofs.Created.{SomeOpened, TakesIndex}

module _ {D : Type 0} (g : Ghosts D) (total : ℕ) (a b : D) where
  pub mounted_index : (v : IndexView D) → v.sacks ≡ total → IsSome v.maps → IfSome v.maps (λ m. TwoTold (g.told a) (g.told b) (HoldsIndex total m))
      → TwoTold (g.told a) (g.told b) (λ x y. (m : Maps) → HoldsIndex total m x y → v.maps ≡ Some m)
      → (is_some (g.told a) ≡ true → is_some (g.told b) ≡ true → IfSome v.maps (λ m. IndexStandsFor g m [] v))
      → OfDisks v.disks (λ first second. AreUnwritten g (phase a first ∷ phase b second ∷ [])) → OfDisks v.disks (λ first second. g.came 2 a first × g.came 2 b second) → IsMountedIndex g total a b v
  mounted_index v sacks there held exact stands unwritten came = by v.maps refl v.disks refl there held stands unwritten came
    where
      by : (m : Option Maps) → v.maps ≡ m → (l : List D) → v.disks ≡ l → IsSome m → IfSome m (λ m. TwoTold (g.told a) (g.told b) (HoldsIndex total m))
          → (is_some (g.told a) ≡ true → is_some (g.told b) ≡ true → IfSome m (λ m. IndexStandsFor g m [] v))
          → OfDisks l (λ first second. AreUnwritten g (phase a first ∷ phase b second ∷ [])) → OfDisks l (λ first second. g.came 2 a first × g.came 2 b second) → IsMountedIndex g total a b v
      by None maps_are l is there held stands unwritten came = cc
      by (Some m) maps_are [] is there held stands unwritten came = absurd unwritten
      by (Some m) maps_are (x ∷ []) is there held stands unwritten came = absurd unwritten
      by (Some m) maps_are (x ∷ y ∷ []) is there held stands unwritten came = record {
        first = x;
        second = y;
        maps = m;
        disks = is;
        sacks = sacks;
        maps_are = maps_are;
        held = held;
        exact = exact;
        stands = stands;
        unwritten = unwritten;
        came_a = came.0;
        came_b = came.1;
      }
      by (Some m) maps_are (x ∷ y ∷ z ∷ l) is there held stands unwritten came = absurd unwritten

module _ {D : Type 0} (g : Ghosts D) (total : ℕ) (old : StoreDisks D) (a b : D) (rest : List D) (takes : TakesIndex old a b rest) where
  -- an index of the disks of the store
  as_index : (v : IndexView D) → IsMountedIndex g total a b v → IsMountedIndex g total old.index_a old.index_b v
  as_index v is = subst (λ (z : D). IsMountedIndex g total z old.index_b v) takes.a_is (subst (λ (z : D). IsMountedIndex g total a z v) takes.b_is is)

  pub mounted_on : (v : SoloView D) → IsMountedIndex g total a b v.index → AreOpened (IsMountedSack g total) 0 old.sacks v.sacks → v.opened ≡ v.index → IsMountedOn g total old v
  mounted_on v index sacks opened = record { sacks = sacks; index = as_index v.index index; opened = opened }

  pub unmounted_index : (x y : D) (fault : MountFault) (back : List D) (none : List (SackView D)) → none ≡ [] → back ≡ x ∷ y ∷ (disks_of_sacks none ++ reverse rest) → IsUnmountedIndex g total a b x y fault
      → IsUnmountedOn g total old back fault
  unmounted_index x y fault back none empty is un = at_index x y
      (is ∙ ap (λ l. x ∷ y ∷ (disks_of_sacks l ++ reverse rest)) empty ∙ ap (λ l. x ∷ y ∷ reverse l) takes.rest_is ∙ ap (λ l. x ∷ y ∷ l) (reverse-reverse (flat_map five old.sacks)))
      (subst (λ (z : D). IsUnmountedIndex g total z old.index_b x y fault) takes.a_is (subst (λ (z : D). IsUnmountedIndex g total a z x y fault) takes.b_is un))

  pub unmounted_sack : (v : IndexView D) (x y : D) (items back : List D) (new : List (SackView D)) (sack : ℕ) (on fault : MountFault) → IsMountedIndex g total a b v → v.disks ≡ x ∷ y ∷ []
      → SomeOpened (IsMountedSack g total) (λ (k : ℕ) (was now : SackDisks D) (e : ℕ × MountFault). (e.0 ≡ k) × IsUnmounted g (sack_place total k) was now e.1) old.sacks items new (sack, on)
      → back ≡ x ∷ y ∷ (disks_of_sacks new ++ reverse items) → fault ≡ told_in_store sack on → IsUnmountedOn g total old back fault
  unmounted_sack v x y items back new sack on fault index disks opened is told = at_sack v x y opened.front opened.rest opened.one opened.back new on (as_index v index) disks opened.split opened.are opened.un.1
      (is ∙ ap (λ l. x ∷ y ∷ (disks_of_sacks new ++ l)) opened.items_are) (told ∙ ap (λ k. told_in_store k on) opened.un.0)

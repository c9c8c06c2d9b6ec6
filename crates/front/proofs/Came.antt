-- How often the disks of a store were changed, and which disks there are then.
use Rattle.std.proofs.Common.{◌≡◌, ℕ, ◌+◌, ◌≤◌, List, [], ◌∷◌, ◌++◌, Option, Some, None, refl, ap, ◌∙◌, arith}
use Rattle.std.specs.List.{flat_map}
use Rattle.std.specs.Option.{MatchOption}
use Rattle.gno_disk.specs.declared.disk.Disk.{Ghosts}
use Rattle.sack_state.specs.declared.disks.SackDisks.{SackDisks}
use Rattle.sack_state.specs.Disks.{CameWithin}
use Rattle.sack_state.specs.SackView.{Of, SackState, SackView}
use Rattle.front.specs.Creating.{SacksCame, StoreCame}
use Rattle.front.specs.Making.{AreOpened, IsCreatedOn, IsMadeSack, IsMountedOn, IsMountedSack}
use Rattle.front.specs.Plan.{OnPlan, StoreDisks, five, in_plan}
use Rattle.front.specs.SoloView.{SoloView, disks_of_sack, disks_of_sacks, disks_of_solo}

module _ {D : Type 0} (g : Ghosts D) (incoming shelf blocks : ℕ) where
  -- the disks that opened sacks have now
  pub record AreNow (disks : List (SackDisks D)) (sacks : List (SackView D)) : Type 0 where
    pub now : List (SackDisks D)
    pub are : disks_of_sacks sacks ≡ flat_map five now
    pub came : SacksCame g incoming shelf blocks disks now

  -- and those of one
  record IsNow (d : SackDisks D) (v : SackView D) : Type 0 where
    pub now : SackDisks D
    pub are : disks_of_sack v ≡ five now
    pub came : CameWithin g incoming shelf blocks d now

  is_now : (d : SackDisks D) (v : SackView D) → Of v (λ s. CameWithin g incoming shelf blocks d s.disks) → IsNow d v
  is_now d v is = by v.state refl is
    where
      by : (o : Option (SackState D)) → v.state ≡ o → MatchOption o ⊥ (λ s. CameWithin g incoming shelf blocks d s.disks) → IsNow d v
      by None e is = absurd is
      by (Some s) e is = record {
        now = s.disks;
        are = ap (λ (o : Option (SackState D)). elim o as (λ x. List D) [ None ↦ [] | Some s ↦ five s.disks ]) e;
        came = is;
      }

  pub are_now : (Opened : ℕ → SackDisks D → SackView D → Type 0) → ((k : ℕ) (d : SackDisks D) (v : SackView D) → Opened k d v → Of v (λ s. CameWithin g incoming shelf blocks d s.disks))
      → (sack : ℕ) (disks : List (SackDisks D)) (sacks : List (SackView D)) → AreOpened Opened sack disks sacks → AreNow disks sacks
  are_now Opened came sack [] [] are = record { now = []; are = refl; came = tt }
  are_now Opened came sack [] (v ∷ sacks) are = absurd are
  are_now Opened came sack (d ∷ disks) [] are = absurd are
  are_now Opened came sack (d ∷ disks) (v ∷ sacks) are =
      let one = is_now d v (came sack d v are.0) in
      let rest = are_now Opened came (sack + 1) disks sacks are.1 in
      record {
        now = one.now ∷ rest.now;
        are = ap (λ l. l ++ disks_of_sacks sacks) one.are ∙ ap (λ l. five one.now ++ l) rest.are;
        came = (one.came, rest.came);
      }

module _ {D : Type 0} (g : Ghosts D) (came_then : (m n : ℕ) (old mid new : D) → g.came m old mid → g.came n mid new → g.came (m + n) old new)
    (more : (m n : ℕ) (old new : D) → m ≤ n → g.came m old new → g.came n old new) (total number : ℕ) (old : StoreDisks D) (disks : List D) (are : disks ≡ in_plan old) (v : SoloView D) where
  solo_is : (first second : D) (now : List (SackDisks D)) → v.index.disks ≡ first ∷ second ∷ [] → disks_of_sacks v.sacks ≡ flat_map five now → disks_of_solo v ≡ in_plan (record { index_a = first; index_b = second; sacks = now })
  solo_is first second now index sacks = ap (λ l. l ++ disks_of_sacks v.sacks) index ∙ ap (λ l. first ∷ second ∷ l) sacks

  pub created_came : IsCreatedOn g total number old v → OnPlan (StoreCame g 15 9 9 1) disks (disks_of_solo v)
  created_came is =
      let now = are_now g 9 9 1 (IsMadeSack g total) (λ k d v is. is.came) 0 old.sacks v.sacks is.books.sacks in
      let i = is.books.index in
      record {
        old = old;
        new = record { index_a = i.first; index_b = i.second; sacks = now.now };
        old_is = are;
        new_is = solo_is i.first i.second now.now i.disks now.are;
        holds = record {
          index_a = came_then 6 9 old.index_a is.index_a i.first is.looked_a.came i.came_a;
          index_b = more 11 15 old.index_b i.second (omega arith) (came_then 6 5 old.index_b is.index_b i.second is.looked_b.came i.came_b);
          sacks = now.came;
        };
      }

  pub mounted_came : IsMountedOn g total old v → OnPlan (StoreCame g 2 2 2 1) disks (disks_of_solo v)
  mounted_came is =
      let now = are_now g 2 2 1 (IsMountedSack g total) (λ k d v is. is.came) 0 old.sacks v.sacks is.sacks in
      let i = is.index in
      record {
        old = old;
        new = record { index_a = i.first; index_b = i.second; sacks = now.now };
        old_is = are;
        new_is = solo_is i.first i.second now.now i.disks now.are;
        holds = record { index_a = i.came_a; index_b = i.came_b; sacks = now.came };
      }

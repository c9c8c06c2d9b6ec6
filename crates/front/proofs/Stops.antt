-- What a stop leaves of a store that is made.
use Rattle.std.proofs.Common.{◌≡◌, ℕ, ◌<◌, ◌≤◌, ◌^◌, List, ◌∷◌, ◌++◌, inl, inr, refl, sym, ap, subst, ◌∙◌}
use Rattle.std.specs.List.{flat_map}
use Rattle.std.specs.Option.{IsSome, is_some}
use Rattle.std.proofs.lemmas.Grind.{flat_map-append}
use Rattle.gno_disk.specs.Disk.{TimeGoesOn}
use Rattle.gno_disk.specs.declared.disk.Disk.{Ghosts}
use Rattle.sack_state.specs.declared.disks.SackDisks.{SackDisks}
use Rattle.front.specs.declared.fault.Unmade.{Unmade}
use Rattle.front.specs.Creating.{IsMakingOrLooking, IsMakingStore, SacksCame}
use Rattle.front.specs.Making.{AreUnmadeOn, IsCreatedOn, IsLooked, IsUncreatedOn, at_index, at_sack, exists, unlooked, unmade_books}
use Rattle.front.specs.Plan.{OnPlan, StoreDisks, five, in_plan}
use Rattle.front.specs.SoloView.{SoloView, disks_of_sacks, disks_of_solo}
use Rattle.front.proofs.Looks.{still_leaves}
use Rattle.front.proofs.Making.{are_made_now, part_making, whole_making}
use Rattle.front.proofs.Still.{came_among}

module _ {D : Type 0} (g : Ghosts D) (only_now : (disk : D) (image : List ℕ) → g.left_since disk (g.moment disk) image → g.may_leave disk image) (came_none : (disk : D) → g.came 0 disk disk)
    (more : (m n : ℕ) (old new : D) → m ≤ n → g.came m old new → g.came n old new) (tells : (n : ℕ) (old new : D) → g.came n old new → is_some (g.told new) ≡ is_some (g.told old))
    (goes_on : (n : ℕ) (old new : D) → g.came n old new → TimeGoesOn (g.moment old) (g.moment new) (g.left_since old) (g.left_since new))
    (total number : ℕ) (fits : number < 2 ^ 32) (old : StoreDisks D) (disks back : List D) (are : disks ≡ in_plan old) where
  told_still : (n : ℕ) (a b : D) → g.came n a b → IsSome (g.told a) → IsSome (g.told b)
  told_still n a b came some = tells n a b came ∙ some

  pub created_moments : (v : SoloView D) → back ≡ disks_of_solo v → IsCreatedOn g total number old v → OnPlan (IsMakingStore g total number) disks back
  created_moments v back_is is =
      let now = are_made_now g total 0 old.sacks v.sacks is.books.sacks in
      let i = is.books.index in
      record {
        old = old;
        new = record { index_a = i.first; index_b = i.second; sacks = now.now };
        old_is = are;
        new_is = back_is ∙ ap (λ l. l ++ disks_of_sacks v.sacks) i.disks ∙ ap (λ l. i.first ∷ i.second ∷ l) now.are;
        holds = record {
          index_a = is.index_a;
          index_b = is.index_b;
          looked_a = is.looked_a.leaves;
          looked_b = is.looked_b.leaves;
          moments = λ some_a some_b tell.
              let told_a = told_still 6 old.index_a is.index_a is.looked_a.came some_a in
              let told_b = told_still 6 old.index_b is.index_b is.looked_b.came some_b in
              whole_making g goes_on total number fits old.sacks now.now is.index_a is.index_b i.first i.second now.came (now.empty tell)
              (is.looked_a.free.no_log told_a) (is.looked_b.free.no_log told_b) told_a told_b i.making;
        };
      }

  unmade_moments : (a b : D) (why : Unmade) → IsLooked g old.index_a a → IsLooked g old.index_b b → AreUnmadeOn g total number a b old.sacks back why → OnPlan (IsMakingOrLooking g total number) disks back
  unmade_moments a b why looked_a looked_b (at_sack front rest one new sacks fault split made un is why_is) =
      let now = are_made_now g total 0 front sacks made in
      let came = subst (λ (l : List (SackDisks D)). SacksCame g 9 9 1 l (now.now ++ new ∷ rest)) (sym split) (came_among g only_now came_none more 9 9 1 front now.now rest one new now.came un.came) in
      record {
        old = old;
        new = record { index_a = a; index_b = b; sacks = now.now ++ new ∷ rest };
        old_is = are;
        new_is = is ∙ ap (λ l. a ∷ b ∷ (l ++ flat_map five (new ∷ rest))) now.are ∙ ap (λ l. a ∷ b ∷ l) (sym (flat_map-append five now.now (new ∷ rest)));
        holds = inr (record {
          index_a = a;
          index_b = b;
          looked_a = looked_a.leaves;
          looked_b = looked_b.leaves;
          moments = λ some_a some_b tell.
              part_making g goes_on only_now total number old.sacks (now.now ++ new ∷ rest) a b (came_none a) (came_none b) came
              (looked_a.free.no_log (told_still 6 old.index_a a looked_a.came some_a)) (looked_b.free.no_log (told_still 6 old.index_b b looked_b.came some_b));
        });
      }
  unmade_moments a b why looked_a looked_b (at_index first second sacks fault made un is why_is) =
      let now = are_made_now g total 0 old.sacks sacks made in
      record {
        old = old;
        new = record { index_a = first; index_b = second; sacks = now.now };
        old_is = are;
        new_is = is ∙ ap (λ l. first ∷ second ∷ l) now.are;
        holds = inr (record {
          index_a = a;
          index_b = b;
          looked_a = looked_a.leaves;
          looked_b = looked_b.leaves;
          moments = λ some_a some_b tell.
              let told_a = told_still 6 old.index_a a looked_a.came some_a in
              let told_b = told_still 6 old.index_b b looked_b.came some_b in
              whole_making g goes_on total number fits old.sacks now.now a b first second now.came (now.empty tell)
              (looked_a.free.no_log told_a) (looked_b.free.no_log told_b) told_a told_b un.making;
        });
      }

  pub uncreated_moments : (why : Unmade) → IsUncreatedOn g total number old back why → OnPlan (IsMakingOrLooking g total number) disks back
  uncreated_moments why (exists new is read came_a came_b has why_is) = record {
    old = old;
    new = new;
    old_is = are;
    new_is = is;
    holds = inl (record {
      looked_a = still_leaves g old.index_a new.index_a read.index_a;
      looked_b = still_leaves g old.index_b new.index_b read.index_b;
      sacks = read.sacks;
    });
  }
  uncreated_moments why (unlooked a b fault is leaves_a leaves_b came_a came_b cause why_is) = record {
    old = old;
    new = record old { index_a = a; index_b = b };
    old_is = are;
    new_is = is;
    holds = inl (record { looked_a = leaves_a; looked_b = leaves_b; sacks = refl });
  }
  uncreated_moments why (unmade_books a b looked_a looked_b un) = unmade_moments a b why looked_a looked_b un

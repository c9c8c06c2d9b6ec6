-- A store that was made or mounted, book by book.
use Rattle.std.proofs.Common.{◌≡◌, ◌⊎◌, ℕ, ◌+◌, ◌*◌, true, List, [], ◌∷◌, ◌++◌, reverse, length, Some, refl, sym, ap, subst, ◌∙◌, append-nil, arith, suc}
use Rattle.std.specs.List.{flat_map}
use Rattle.std.specs.Option.{IfSome, is_some}
use Rattle.std.proofs.lemmas.List.{length-reverse, reverse-append, reverse-reverse}
use Rattle.std.specs.Result.{IfErr, IfOk}
use Rattle.std.specs.declared.result.Result.{Result}
use Rattle.std.specs.declared.result.Result.TheVariants.{Ok, Err}
use Rattle.gno_disk.specs.declared.disk.Disk.{Ghosts}
use Rattle.gate_log.specs.LogView.{IsFault, MatchFault}
use Rattle.gate_log.specs.Steps.{IsUntouched}
use Rattle.gate_log.specs.declared.fault.LogFault.{LogFault}
use Rattle.gate_log.specs.declared.fault.LogFault.TheVariants as log_fault
use Rattle.log_pair.specs.PairView.{IsMaking, both_faults}
use Rattle.front_api.specs.Maps.{new_maps}
use Rattle.metric_index.specs.IndexLog.{index_place}
use Rattle.metric_index.specs.IndexView.{IndexView, OfDisks, StandsFor as IndexStandsFor}
use Rattle.sack_state.specs.declared.disks.SackDisks.{SackDisks}
use Rattle.sack_state.specs.Books.{IsUnmade}
use Rattle.sack_state.specs.SackView.{SackView}
use Rattle.front.specs.declared.fault.Unmade.{Unmade}
use Rattle.front.specs.declared.fault.Unmade.TheVariants as unmade
use Rattle.front.specs.Looking.{HasStore, IsFree, LeavesOldOrNone}
use Rattle.front.specs.Making.{AreMadeOn, AreOpened, AreUnmadeOn, IsCreatedOn, IsLooked, IsMadeIndex, IsMadeSack, IsUncreatedOn, OpensSacks, all, at_index, at_sack, exists, new_records, some, unlooked, unmade_books}
use Rattle.front.specs.Plan.{StoreDisks, five, in_plan, sack_place}
use Rattle.front.specs.SoloView.{SoloView, disks_of_sacks}

pub length-five : {D : Type 0} (left : List (SackDisks D)) → length (flat_map five left) ≡ 5 * length left
length-five [] = refl
length-five (d ∷ left) = let e = length-five left in let e : suc (suc (suc (suc (suc (length (flat_map five left)))))) ≡ 5 * suc (length left) = omega (arith, e) in e

-- so many disks are those of so many sacks
pub as_many_left : {D : Type 0} (left : List (SackDisks D)) (items : List D) (n : ℕ) → items ≡ reverse (flat_map five left) → length items ≡ 5 * n → length left + 0 ≡ n
as_many_left left items n is many =
    let e : length items ≡ 5 * length left = ap length is ∙ length-reverse (flat_map five left) ∙ length-five left in
    omega (arith, e, many)

-- all sacks were opened, and no disk is left
pub record AllOpened {D : Type 0} (Opened : ℕ → SackDisks D → SackView D → Type 0) (left : List (SackDisks D)) (items : List D) (new : List (SackView D)) : Type 0 where
  pub are : AreOpened Opened 0 left new
  pub none : items ≡ []

-- the opening of one failed
pub record SomeOpened {D F : Type 0} (Opened : ℕ → SackDisks D → SackView D → Type 0) (Unopened : ℕ → SackDisks D → SackDisks D → F → Type 0) (left : List (SackDisks D)) (items : List D) (new : List (SackView D)) (fault : F) : Type 0 where
  pub front : List (SackDisks D)
  pub rest : List (SackDisks D)
  pub one : SackDisks D
  pub back : SackDisks D
  pub split : left ≡ front ++ one ∷ rest
  pub are : AreOpened Opened 0 front new
  pub un : Unopened (length front) one back fault
  pub items_are : reverse items ≡ flat_map five (back ∷ rest)

module _ {D F : Type 0} (Opened : ℕ → SackDisks D → SackView D → Type 0) (Unopened : ℕ → SackDisks D → SackDisks D → F → Type 0) (left : List (SackDisks D)) (items : List D) (old new : List (SackView D)) (result : Result (Unit {0}) F) (empty : old ≡ []) where
  joined : (sacks : List (SackView D)) → new ≡ old ++ sacks → sacks ≡ new
  joined sacks is = sym (is ∙ ap (λ l. l ++ sacks) empty)

  pub all_opened : result ≡ Ok tt → OpensSacks Opened Unopened 0 left items old new result → AllOpened Opened left items new
  all_opened ok (all sacks are none new_is is) = record { are = subst (λ (l : List (SackView D)). AreOpened Opened 0 left l) (joined sacks new_is) are; none = none }
  all_opened ok (some front rest one back sacks fault split are un left_is new_is err) = absurd (no_both result tt fault ok err)
    where
      no_both : (r : Result (Unit {0}) F) (u : Unit {0}) (f : F) → r ≡ Ok u → r ≡ Err f → ⊥
      no_both r u f a b = cc

  pub some_opened : (fault : F) → result ≡ Err fault → OpensSacks Opened Unopened 0 left items old new result → SomeOpened Opened Unopened left items new fault
  some_opened fault err (all sacks are none new_is ok) = absurd (no_both result tt fault ok err)
    where
      no_both : (r : Result (Unit {0}) F) (u : Unit {0}) (f : F) → r ≡ Ok u → r ≡ Err f → ⊥
      no_both r u f a b = cc
  some_opened fault err (some front rest one back sacks other split are un left_is new_is err_too) = record {
    front = front;
    rest = rest;
    one = one;
    back = back;
    split = split;
    are = subst (λ (l : List (SackView D)). AreOpened Opened 0 front l) (joined sacks new_is) are;
    un = subst (λ (f : F). Unopened (length front) one back f) (same_fault result other fault err_too err) (subst (λ (k : ℕ). Unopened k one back other) (let e : 0 + length front ≡ length front = omega arith in e) un);
    items_are = ap (λ l. reverse l) left_is ∙ reverse-reverse (flat_map five (back ∷ rest));
  }
    where
      same_fault : (r : Result (Unit {0}) F) (x y : F) → r ≡ Err x → r ≡ Err y → x ≡ y
      same_fault r x y a b = cc

module _ {D : Type 0} (g : Ghosts D) (total number : ℕ) (a b : D) where
  -- a sack wasn't made
  pub unmade_sack : (left : List (SackDisks D)) (items back : List D) (new : List (SackView D)) (fault : LogFault) → SomeOpened (IsMadeSack g total) (λ k. IsUnmade g (sack_place total k)) left items new fault
      → back ≡ a ∷ b ∷ (disks_of_sacks new ++ reverse items) → AreUnmadeOn g total number a b left back (unmade.Failed fault)
  unmade_sack left items back new fault opened back_is =
      at_sack opened.front opened.rest opened.one opened.back new fault opened.split opened.are opened.un (back_is ∙ ap (λ l. a ∷ b ∷ (disks_of_sacks new ++ l)) opened.items_are) refl

  -- the index wasn't
  any_fault : (fault : LogFault) (P : _ → Type 0) (Q : Type 0) → MatchFault fault P Q → MatchFault fault P (Unit {0})
  any_fault (log_fault.DiskFault f) P Q is = is
  any_fault log_fault.Memory P Q is = tt

  pub unmade_index : (left : List (SackDisks D)) (items back : List D) (new : List (SackView D)) (first second : D) (fault : LogFault) (Q : Type 0) → AllOpened (IsMadeSack g total) left items new
      → IsMaking g (index_place total) (new_records number) a b first second → g.came 9 a first × g.came 5 b second
      → MatchFault fault (IsFault (both_faults g a b) (both_faults g first second)) Q
      → back ≡ first ∷ second ∷ (disks_of_sacks new ++ reverse items) → AreUnmadeOn g total number a b left back (unmade.Failed fault)
  unmade_index left items back new first second fault Q opened making came cause back_is =
      at_index first second new fault opened.are (record { making = making; came_a = came.0; came_b = came.1; cause = any_fault fault _ Q cause })
      (back_is ∙ ap (λ l. first ∷ second ∷ (disks_of_sacks new ++ reverse l)) opened.none ∙ ap (λ l. first ∷ second ∷ l) (append-nil (disks_of_sacks new))) refl

  -- the index was made
  pub made_index : (v : IndexView D) → v.sacks ≡ total → v.maps ≡ Some (new_maps number)
      → (is_some (g.told a) ≡ true → is_some (g.told b) ≡ true → IndexStandsFor g (new_maps number) [] v)
      → OfDisks v.disks (IsMaking g (index_place total) (new_records number) a b) → OfDisks v.disks (λ first second. g.came 9 a first × g.came 5 b second) → IsMadeIndex g total number a b v
  made_index v sacks maps stands making came = by v.disks refl making came
    where
      by : (l : List D) → v.disks ≡ l → OfDisks l (IsMaking g (index_place total) (new_records number) a b) → OfDisks l (λ first second. g.came 9 a first × g.came 5 b second) → IsMadeIndex g total number a b v
      by [] is making came = absurd making
      by (x ∷ []) is making came = absurd making
      by (x ∷ y ∷ []) is making came = record {
        first = x;
        second = y;
        disks = is;
        sacks = sacks;
        maps = maps;
        stands = stands;
        making = making;
        came_a = came.0;
        came_b = came.1;
      }
      by (x ∷ y ∷ z ∷ l) is making came = absurd making

-- ---- the disks of the index

-- the last two disks in the opposite order are those of the index
pub record TakesIndex {D : Type 0} (old : StoreDisks D) (a b : D) (rest : List D) : Type 0 where
  pub a_is : a ≡ old.index_a
  pub b_is : b ≡ old.index_b
  pub rest_is : rest ≡ reverse (flat_map five old.sacks)

pub takes_index : {D : Type 0} (old : StoreDisks D) (items back mid rest : List D) (a b : D) → items ≡ in_plan old → back ≡ reverse items → back ≡ mid ++ a ∷ [] → mid ≡ rest ++ b ∷ [] → TakesIndex old a b rest
takes_index {D} old items back mid rest a b is turned first second = record {
  a_is = one (sym is ∙ all_is);
  b_is = two (sym is ∙ all_is);
  rest_is = sym (reverse-reverse rest) ∙ ap (λ l. reverse l) (sym (tails (sym is ∙ all_is)));
}
  where
    all_is : items ≡ a ∷ b ∷ reverse rest
    all_is = sym (reverse-reverse items) ∙ ap (λ l. reverse l) (sym turned ∙ first ∙ ap (λ l. l ++ a ∷ []) second) ∙ reverse-append (rest ++ b ∷ []) (a ∷ []) ∙ ap (λ l. a ∷ l) (reverse-append rest (b ∷ []))

    one : {x y x' y' : D} {l m : List D} → (x ∷ y ∷ l) ≡ (x' ∷ y' ∷ m) → x' ≡ x
    one same = cc

    two : {x y x' y' : D} {l m : List D} → (x ∷ y ∷ l) ≡ (x' ∷ y' ∷ m) → y' ≡ y
    two same = cc

    tails : {x y x' y' : D} {l m : List D} → (x ∷ y ∷ l) ≡ (x' ∷ y' ∷ m) → l ≡ m
    tails same = cc

module _ {D : Type 0} (g : Ghosts D) (total number : ℕ) (old : StoreDisks D) (a b x y : D) (rest : List D) (takes : TakesIndex old a b rest) (leaves : LeavesOldOrNone g a x × LeavesOldOrNone g b y) (came : g.came 6 a x × g.came 6 b y) where
  looked : (u v w : D) → u ≡ w → IsFree g u v → LeavesOldOrNone g u v → g.came 6 u v → IsLooked g w v
  looked u v w same free leave came_too = subst (λ (z : D). IsLooked g z v) same (record { free = free; leaves = leave; came = came_too })

  pub created_on : IsFree g a x × IsFree g b y → (v : SoloView D) → AreMadeOn g total number x y old.sacks v → IsCreatedOn g total number old v
  created_on free v books = record {
    index_a = x;
    index_b = y;
    looked_a = looked a x old.index_a takes.a_is free.0 leaves.0 came.0;
    looked_b = looked b y old.index_b takes.b_is free.1 leaves.1 came.1;
    books = books;
  }

  pub uncreated_on : IsFree g a x × IsFree g b y → (back : List D) (why : Unmade) → AreUnmadeOn g total number x y old.sacks back why → IsUncreatedOn g total number old back why
  uncreated_on free back why books = unmade_books x y (looked a x old.index_a takes.a_is free.0 leaves.0 came.0) (looked b y old.index_b takes.b_is free.1 leaves.1 came.1) books

  back_as : (back : List D) (none : List (SackView D)) → none ≡ [] → back ≡ x ∷ y ∷ (disks_of_sacks none ++ reverse rest) → back ≡ in_plan (record { index_a = x; index_b = y; sacks = old.sacks })
  back_as back none empty is = is ∙ ap (λ l. x ∷ y ∷ (disks_of_sacks l ++ reverse rest)) empty ∙ ap (λ l. x ∷ y ∷ reverse l) takes.rest_is ∙ ap (λ l. x ∷ y ∷ l) (reverse-reverse (flat_map five old.sacks))

  pub exists_on : (back : List D) (none : List (SackView D)) → none ≡ [] → back ≡ x ∷ y ∷ (disks_of_sacks none ++ reverse rest) → IsUntouched g a x × IsUntouched g b y → IfSome (g.told a) HasStore ⊎ IfSome (g.told b) HasStore
      → IsUncreatedOn g total number old back unmade.Exists
  exists_on back none empty is still found = exists (record { index_a = x; index_b = y; sacks = old.sacks }) (back_as back none empty is)
      (record {
        index_a = subst (λ (z : D). IsUntouched g z x) takes.a_is still.0;
        index_b = subst (λ (z : D). IsUntouched g z y) takes.b_is still.1;
        sacks = refl;
      })
      (subst (λ (z : D). g.came 6 z x) takes.a_is came.0) (subst (λ (z : D). g.came 6 z y) takes.b_is came.1)
      (subst (λ (z : D). IfSome (g.told z) HasStore ⊎ IfSome (g.told old.index_b) HasStore) takes.a_is (subst (λ (z : D). IfSome (g.told a) HasStore ⊎ IfSome (g.told z) HasStore) takes.b_is found)) refl

  pub unlooked_on : (back : List D) (none : List (SackView D)) (fault : LogFault) → none ≡ [] → back ≡ x ∷ y ∷ (disks_of_sacks none ++ reverse rest) → MatchFault fault (IsFault (both_faults g a b) (both_faults g x y)) (Unit {0})
      → IsUncreatedOn g total number old back (unmade.Failed fault)
  unlooked_on back none fault empty is cause = unlooked x y fault (back_as back none empty is)
      (subst (λ (z : D). LeavesOldOrNone g z x) takes.a_is leaves.0) (subst (λ (z : D). LeavesOldOrNone g z y) takes.b_is leaves.1)
      (subst (λ (z : D). g.came 6 z x) takes.a_is came.0) (subst (λ (z : D). g.came 6 z y) takes.b_is came.1)
      (subst (λ (z : D). MatchFault fault (IsFault (both_faults g z old.index_b) (both_faults g x y)) (Unit {0})) takes.a_is
      (subst (λ (z : D). MatchFault fault (IsFault (both_faults g a z) (both_faults g x y)) (Unit {0})) takes.b_is cause)) refl

-- a fact of a result, and what follows of it
pub if_ok : {T E : Type 0} (r : Result T E) (P Q : T → Type 0) → ((v : T) → P v → Q v) → IfOk r P → IfOk r Q
if_ok (Ok v) P Q by is = by v is
if_ok (Err e) P Q by is = tt

pub if_err : {T E : Type 0} (r : Result T E) (P Q : E → Type 0) → ((e : E) → P e → Q e) → IfErr r P → IfErr r Q
if_err (Ok v) P Q by is = tt
if_err (Err e) P Q by is = by e is

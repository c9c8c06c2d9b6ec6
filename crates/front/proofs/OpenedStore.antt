-- What a store stands for as it was opened.
use Rattle.std.proofs.Common.{◌≡◌, ℕ, ◌+◌, ◌≤◌, ◌&&◌, Bool, true, false, cond, List, [], ◌∷◌, length, Option, Some, None, refl, sym, ap, subst, ◌∙◌, arith}
use Rattle.std.specs.Option.{IfSome, IsSome, is_some}
use Rattle.gno_disk.specs.declared.disk.Disk.{Ghosts}
use Rattle.front_api.specs.Maps.{Maps, new_maps}
use Rattle.front_api.specs.Seen.{IndexBook, SackBook, SeenBook, SeenBooks, entries_in, marked}
use Rattle.metric_index.specs.IndexLog.{HoldsIndex}
use Rattle.metric_index.specs.IndexView.{IndexView, StandsFor as IndexStandsFor}
use Rattle.sack_history.specs.Scratch.{Durable}
use Rattle.sack_state.specs.declared.disks.Opening.{Opening}
use Rattle.sack_state.specs.declared.disks.SackDisks.{SackDisks}
use Rattle.sack_state.specs.Disks.{TellAll}
use Rattle.sack_state.specs.SackView.{SackView, StandsFor as SackStandsFor}
use Rattle.front.specs.Looking.{HaveNoStore}
use Rattle.front.specs.Making.{AreOpened, IsCreatedOn, IsMadeSack, IsMountedOn, IsMountedSack}
use Rattle.front.specs.Opening.{OfIndexDisks, AreNewBooks, AreNewSackBooks, AreOpenedOn, IsNewIndexBook, IsNewSackBook, IsOpenedOn}
use Rattle.front.specs.Plan.{StoreDisks, in_plan}
use Rattle.front.specs.SoloView.{AreRealFaults, AreSackBooks, IsIndexBook, IsSackBook, IsSackOrigin, SoloView, StandsForBooks, do_tell, found, index_faults, index_origin, made, none_held, untold}

-- ---- what is seen of a new book

own_of_none : {O E : Type 0} (book : SeenBook O E) → book.seen ≡ [] → book.seen ≡ marked book.caller (entries_in book.seen)
own_of_none book none = subst (λ seen. seen ≡ marked book.caller (entries_in seen)) (sym none) refl

none_in : {O E : Type 0} (book : SeenBook O E) → book.seen ≡ [] → [] ≡ entries_in book.seen
none_in book none = sym (ap (λ seen. entries_in seen) none)

-- ---- the sacks

module _ {D : Type 0} (g : Ghosts D) (total : ℕ) where
  pub made_are_opened : (sack : ℕ) (disks : List (SackDisks D)) (sacks : List (SackView D)) → AreOpened (IsMadeSack g total) sack disks sacks → AreOpenedOn total sack true disks sacks
  made_are_opened sack [] [] are = tt
  made_are_opened sack [] (v ∷ sacks) are = absurd are
  made_are_opened sack (d ∷ disks) [] are = absurd are
  made_are_opened sack (d ∷ disks) (v ∷ sacks) are = (are.0.place, are.0.opening, made_are_opened (sack + 1) disks sacks are.1)

  pub mounted_are_opened : (sack : ℕ) (disks : List (SackDisks D)) (sacks : List (SackView D)) → AreOpened (IsMountedSack g total) sack disks sacks → AreOpenedOn total sack false disks sacks
  mounted_are_opened sack [] [] are = tt
  mounted_are_opened sack [] (v ∷ sacks) are = absurd are
  mounted_are_opened sack (d ∷ disks) [] are = absurd are
  mounted_are_opened sack (d ∷ disks) (v ∷ sacks) are = (are.0.place, are.0.opening, mounted_are_opened (sack + 1) disks sacks are.1)

  -- a sack that was made stands for nothing
  made_book : (sack : ℕ) (d : SackDisks D) (v : SackView D) (book : SackBook) → IsMadeSack g total sack d v → IsNewSackBook g v book → IsSackBook g sack v book
  made_book sack d v book is new = record {
    alone = new.alone;
    own = own_of_none book new.unseen;
    number = ap (λ p. p.sack) is.place;
    origin = new.origin;
    failed = new.failed;
    stands = λ some. subst (λ l. SackStandsFor g l v) (none_in book new.unseen) (is.stands (tell new.origin some));
  }
    where
      no_origin : (o : Option Durable) → o ≡ None → IsSome o → ⊥
      no_origin None e some = cc
      no_origin (Some x) e some = cc

      tell : IsSackOrigin g v.place v.opening book.origin → IsSome book.origin → TellAll g d
      tell (made is_new all is_it) some = subst (λ (o : Opening D). TellAll g o.disks) is.opening all
      tell (found s old held is_it) some = absurd (no_both v.opening.is_new (ap (λ o. o.is_new) is.opening) old)
        where
          no_both : (b : Bool) → b ≡ true → b ≡ false → ⊥
          no_both b x y = cc
      tell (untold isnt none) some = absurd (no_origin book.origin none some)
      tell (none_held old none_is none) some = absurd (no_origin book.origin none some)

  pub made_books : (sack : ℕ) (disks : List (SackDisks D)) (sacks : List (SackView D)) (books : List SackBook) → AreOpened (IsMadeSack g total) sack disks sacks → AreNewSackBooks g sacks books → AreSackBooks g sack sacks books
  made_books sack [] [] [] are new = tt
  made_books sack [] [] (b ∷ books) are new = absurd new
  made_books sack [] (v ∷ sacks) books are new = absurd are
  made_books sack (d ∷ disks) [] books are new = absurd are
  made_books sack (d ∷ disks) (v ∷ sacks) [] are new = absurd new
  made_books sack (d ∷ disks) (v ∷ sacks) (b ∷ books) are new = (made_book sack d v b are.0 new.0, made_books (sack + 1) disks sacks books are.1 new.1)

  -- one that was mounted stands for nothing behind what its disks held
  mounted_book : (sack : ℕ) (d : SackDisks D) (v : SackView D) (book : SackBook) → IsMountedSack g total sack d v → IsNewSackBook g v book → IsSackBook g sack v book
  mounted_book sack d v book is new = record {
    alone = new.alone;
    own = own_of_none book new.unseen;
    number = ap (λ p. p.sack) is.place;
    origin = new.origin;
    failed = new.failed;
    stands = λ some. subst (λ l. SackStandsFor g l v) (none_in book new.unseen) is.stands;
  }

  pub mounted_books : (sack : ℕ) (disks : List (SackDisks D)) (sacks : List (SackView D)) (books : List SackBook) → AreOpened (IsMountedSack g total) sack disks sacks → AreNewSackBooks g sacks books → AreSackBooks g sack sacks books
  mounted_books sack [] [] [] are new = tt
  mounted_books sack [] [] (b ∷ books) are new = absurd new
  mounted_books sack [] (v ∷ sacks) books are new = absurd are
  mounted_books sack (d ∷ disks) [] books are new = absurd are
  mounted_books sack (d ∷ disks) (v ∷ sacks) [] are new = absurd new
  mounted_books sack (d ∷ disks) (v ∷ sacks) (b ∷ books) are new = (mounted_book sack d v b are.0 new.0, mounted_books (sack + 1) disks sacks books are.1 new.1)

-- ---- the index

module _ {D : Type 0} (g : Ghosts D) (tells : (n : ℕ) (old new : D) → g.came n old new → is_some (g.told new) ≡ is_some (g.told old)) where
  -- where its origin is told, both disks tell their bytes
  both_tell : (x y : Bool) (maps : Option Maps) (first : Maps) → cond (x && (y && true)) maps None ≡ Some first → (x ≡ true) × (y ≡ true) × (maps ≡ Some first)
  both_tell true true maps first is = (refl, refl, is)
  both_tell true false maps first is = cc
  both_tell false y maps first is = cc

  index_book : (n : ℕ) (v : SoloView D) (a b first second : D) (m : Maps) (book : IndexBook) → v.opened ≡ v.index → v.index.disks ≡ first ∷ second ∷ [] → v.index.maps ≡ Some m
      → g.came n a first → g.came n b second → (is_some (g.told a) ≡ true → is_some (g.told b) ≡ true → IndexStandsFor g m [] v.index) → IsNewIndexBook g v book → IsIndexBook g v.opened v.index book
  index_book n v a b first second m book opened disks maps came_a came_b stands new = record {
    alone = new.alone;
    own = own_of_none book new.unseen;
    origin = new.origin;
    failed = new.failed;
    real = λ other is. subst (λ l. AreRealFaults book.failed l (index_faults g v.index)) (none_in book new.unseen) (omega (arith, new.failed, ap (λ (i : IndexView D). index_faults g i) opened));
    stands = λ other is. stand other (both_tell (is_some (g.told first)) (is_some (g.told second)) v.index.maps other (as_cond other is));
  }
    where
      as_cond : (other : Maps) → book.origin ≡ Some other → cond (is_some (g.told first) && (is_some (g.told second) && true)) v.index.maps None ≡ Some other
      as_cond other is = ap (λ l. cond (do_tell g l) v.index.maps None) (sym disks) ∙ ap (λ (i : IndexView D). index_origin g i) (sym opened) ∙ sym new.origin ∙ is

      same_maps : (o : Option Maps) (x y : Maps) → o ≡ Some x → o ≡ Some y → x ≡ y
      same_maps o x y p q = cc

      stand : (other : Maps) → (is_some (g.told first) ≡ true) × (is_some (g.told second) ≡ true) × (v.index.maps ≡ Some other) → IndexStandsFor g other (entries_in book.seen) v.index
      stand other told = subst (λ l. IndexStandsFor g other l v.index) (none_in book new.unseen)
          (subst (λ (x : Maps). IndexStandsFor g x [] v.index) (same_maps v.index.maps m other maps told.2)
          (stands (sym (tells n a first came_a) ∙ told.0) (sym (tells n b second came_b) ∙ told.1)))

  module _ (more : (m n : ℕ) (old new : D) → m ≤ n → g.came m old new → g.came n old new) (total number : ℕ) (old : StoreDisks D) (disks : List D) (are : disks ≡ in_plan old) (v : SoloView D) where
    pub created_opened : IsCreatedOn g total number old v → IsOpenedOn total true disks v × (v.index.maps ≡ Some (new_maps number))
    created_opened is = (record { from = old; disks_are = are; index = is.books.opened; two = ap (λ (l : List D). length l) is.books.index.disks; opened = made_are_opened g total 0 old.sacks v.sacks is.books.sacks }, is.books.index.maps)

    pub created_stands : IsCreatedOn g total number old v → (books : SeenBooks) → AreNewBooks g v books → StandsForBooks g v books
    created_stands is books new = record {
      index = index_book 9 v is.index_a is.index_b is.books.index.first is.books.index.second (new_maps number) books.index is.books.opened is.books.index.disks is.books.index.maps
          is.books.index.came_a (more 5 9 is.index_b is.books.index.second (omega arith) is.books.index.came_b) is.books.index.stands new.index;
      sacks = made_books g total 0 old.sacks v.sacks books.sacks is.books.sacks new.sacks;
    }

    pub created_none : IsCreatedOn g total number old v → HaveNoStore g disks
    created_none is = subst (λ (l : List D). HaveNoStore g l) (sym are) (is.looked_a.free.had_none, is.looked_b.free.had_none)

    pub mounted_opened : IsMountedOn g total old v → IsOpenedOn total false disks v
    mounted_opened is = record { from = old; disks_are = are; index = is.opened; two = ap (λ (l : List D). length l) is.index.disks; opened = mounted_are_opened g total 0 old.sacks v.sacks is.sacks }

    pub mounted_stands : IsMountedOn g total old v → (books : SeenBooks) → AreNewBooks g v books → StandsForBooks g v books
    mounted_stands is books new = record {
      index = index_book 2 v old.index_a old.index_b is.index.first is.index.second is.index.maps books.index is.opened is.index.disks is.index.maps_are is.index.came_a is.index.came_b is.index.stands new.index;
      sacks = mounted_books g total 0 old.sacks v.sacks books.sacks is.sacks new.sacks;
    }

    pub mounted_held : IsMountedOn g total old v → IfSome v.index.maps (λ m. OfIndexDisks g disks (HoldsIndex total m))
    mounted_held is = subst (λ (o : Option Maps). IfSome o (λ m. OfIndexDisks g disks (HoldsIndex total m))) (sym is.index.maps_are) (subst (λ (l : List D). OfIndexDisks g l (HoldsIndex total is.index.maps)) (sym are) is.index.held)

    pub mounted_exact : IsMountedOn g total old v → OfIndexDisks g disks (λ x y. (m : Maps) → HoldsIndex total m x y → v.index.maps ≡ Some m)
    mounted_exact is = subst (λ (l : List D). OfIndexDisks g l (λ x y. (m : Maps) → HoldsIndex total m x y → v.index.maps ≡ Some m)) (sym are) is.index.exact

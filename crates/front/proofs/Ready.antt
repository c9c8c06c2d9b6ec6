-- What a front has that was opened over disks that are ready.
use Rattle.std.proofs.Common.{◌≡◌, ℕ, ◌+◌, ◌-◌, ◌<◌, ◌≤◌, ◌^◌, ◌&&◌, Bool, true, false, if◌then◌else◌, List, [], ◌∷◌, ◌++◌, length, Option, Some, None, is_some, refl, sym, ap, subst, ◌∙◌, arith}
use Rattle.std.specs.List.{flat_map}
use Rattle.std.specs.Prelude.{⊤}
use Rattle.std.specs.Option.{IfSome}
use Rattle.gno_disk.specs.declared.disk.Disk.{Ghosts}
use Rattle.gno_num.specs.declared.faults.Damaged.{Damaged as Damage}
use Rattle.log_pair.specs.declared.place.Place.{Place}
use Rattle.sack_history.specs.declared.entry.Counted.{Counted}
use Rattle.sack_history.specs.Legal.{IsLegalCount}
use Rattle.sack_history.specs.Scratch.{durable}
use Rattle.front_api.specs.Maps.{Maps, new_maps}
use Rattle.front_api.specs.Seen.{SackBook, SeenBooks}
use Rattle.front_api.specs.SeenLaws.{WereOpened}
use Rattle.metric_index.specs.IndexDamage.{HoldsNoIndex, IsDamagedIndex}
use Rattle.metric_index.specs.IndexLog.{HoldsIndex}
use Rattle.metric_index.specs.IndexView.{IndexView, sum_of_faults}
use Rattle.sack_state.specs.declared.disks.Opening.{Opening}
use Rattle.sack_state.specs.declared.disks.SackDisks.{SackDisks}
use Rattle.sack_state.specs.Disks.{AreTold, TellAll, sack_faults}
use Rattle.sack_state.specs.SackHolding.{HoldsNoSack, HoldsSack}
use Rattle.sack_state.specs.SackView.{SackView}
use Rattle.front.specs.Creating.{StoreCame}
use Rattle.front.specs.Failing.{failed_sacks}
use Rattle.front.specs.Opening.{AreDamaged, AreNewSackBooks, AreOpenedOn, IsOpenedOn, OfIndexDisks, IsDamagedStore}
use Rattle.front.specs.Opening as opening
use Rattle.front.specs.Plan.{OnPlan, StoreDisks, five, in_plan, sack_place}
use Rattle.front.specs.Ready.{AreWholeBooks, HoldSacks, HoldStore}
use Rattle.front.specs.SoloView.{IsSackOrigin, SoloView, disks_of_sacks, disks_of_solo, do_tell, index_faults, index_origin}
use Rattle.front.proofs.Unfailing.{sum_both}

-- ---- lists

pub both_first : (x y : Bool) → (x && y) ≡ true → x ≡ true
both_first true y e = refl
both_first false y e = e

pub both_second : (x y : Bool) → (x && y) ≡ true → y ≡ true
both_second true y e = e
both_second false y e = absurd (cc e)

-- a list of two in front of others
two_in_front : {D : Type 0} (l rest more : List D) (x y : D) → length l ≡ 2 → (l ++ rest) ≡ (x ∷ y ∷ more) → l ≡ (x ∷ y ∷ [])
two_in_front [] rest more x y two e = absurd (cc two)
two_in_front (a ∷ []) rest more x y two e = absurd (cc two)
two_in_front (a ∷ b ∷ []) rest more x y two e = cc e
two_in_front (a ∷ b ∷ c ∷ l) rest more x y two e = absurd (cc two)

-- disks in groups of five are in one way
same_five : {D : Type 0} (xs ys : List (SackDisks D)) → flat_map five xs ≡ flat_map five ys → xs ≡ ys
same_five [] [] e = refl
same_five [] (y ∷ ys) e = absurd (cc e)
same_five (x ∷ xs) [] e = absurd (cc e)
same_five (x ∷ xs) (y ∷ ys) e =
    let rest = same_five xs ys (cc e) in
    let a : x.incoming_a ≡ y.incoming_a = cc e in
    let b : x.incoming_b ≡ y.incoming_b = cc e in
    let c : x.shelf_a ≡ y.shelf_a = cc e in
    let d : x.shelf_b ≡ y.shelf_b = cc e in
    let z : x.blocks ≡ y.blocks = cc e in
    λ i. record { incoming_a = a i; incoming_b = b i; shelf_a = c i; shelf_b = d i; blocks = z i } ∷ rest i

if_some : {A : Type 0} (P : A → Type 0) (o : Option A) (x : A) → o ≡ Some x → IfSome o P → P x
if_some P o x is h = subst (λ (p : Option _). IfSome p P) is h

-- ---- the books

module _ {D : Type 0} (g : Ghosts D) where
  -- each disk of the sack tells its bytes, and those of the others do
  tell_five : (d : SackDisks D) (rest : List D) → do_tell g (five d ++ rest) ≡ true → TellAll g d × (do_tell g rest ≡ true)
  tell_five d rest e =
      let e1 = both_second (is_some (g.told d.incoming_a)) _ e in
      let e2 = both_second (is_some (g.told d.incoming_b)) _ e1 in
      let e3 = both_second (is_some (g.told d.shelf_a)) _ e2 in
      let e4 = both_second (is_some (g.told d.shelf_b)) _ e3 in (
        record {
          incoming_a = both_first (is_some (g.told d.incoming_a)) _ e;
          incoming_b = both_first (is_some (g.told d.incoming_b)) _ e1;
          shelf_a = both_first (is_some (g.told d.shelf_a)) _ e2;
          shelf_b = both_first (is_some (g.told d.shelf_b)) _ e3;
          blocks = both_first (is_some (g.told d.blocks)) _ e4;
        },
        both_second (is_some (g.told d.blocks)) _ e4,
      )

  -- the books of sacks that were opened on these disks
  record OfSacks (disks : List (SackDisks D)) (sacks : List (SackView D)) : Type 0 where
    books : List SackBook
    new : AreNewSackBooks g sacks books
    opened : WereOpened books
    failed : failed_sacks books < 2 ^ 64 - 1 → sum_of_faults g (flat_map five disks) ≤ failed_sacks books

  five_faults : (d : SackDisks D) → sum_of_faults g (five d) ≡ g.faults d.incoming_a + (g.faults d.incoming_b + (g.faults d.shelf_a + (g.faults d.shelf_b + (g.faults d.blocks + 0))))
  five_faults d = refl

  one_more : (d : SackDisks D) (disks : List (SackDisks D)) (v : SackView D) (sacks : List (SackView D)) (counts : List Counted) → v.opening.disks ≡ d
      → IsSackOrigin g v.place v.opening (Some (durable counts)) → IsLegalCount counts → OfSacks disks sacks → OfSacks (d ∷ disks) (v ∷ sacks)
  one_more d disks v sacks counts on origin legal others = record {
    books = record { origin = Some (durable counts); failed = sack_faults g v.opening.disks; is_shared = false; caller = 0; seen = [] } ∷ others.books;
    new = (record { alone = refl; unseen = refl; origin = origin; failed = refl }, others.new);
    opened = ((counts, record { legal = legal; amounts = refl }), others.opened);
    failed = λ below.
        let both = sum_both g (five d) (flat_map five disks) in
        let here = five_faults d in
        let same : sack_faults g v.opening.disks ≡ sack_faults g d = ap (λ (l : SackDisks D). sack_faults g l) on in
        let rest = others.failed (omega (arith, below)) in
        omega (arith, both, here, same, rest, below);
  }

  made_sacks : (total sack : ℕ) (disks : List (SackDisks D)) (sacks : List (SackView D)) → AreOpenedOn total sack true disks sacks → do_tell g (flat_map five disks) ≡ true → OfSacks disks sacks
  made_sacks total sack [] [] are tell = record { books = []; new = tt; opened = tt; failed = λ below. omega arith }
  made_sacks total sack [] (v ∷ sacks) are tell = absurd are
  made_sacks total sack (d ∷ disks) [] are tell = absurd are
  made_sacks total sack (d ∷ disks) (v ∷ sacks) are tell =
      let tells = tell_five d (flat_map five disks) tell in
      let on : v.opening.disks ≡ d = ap (λ (o : Opening D). o.disks) are.1 in
      one_more d disks v sacks [] on
      (IsSackOrigin.made (ap (λ (o : Opening D). o.is_new) are.1) (subst (λ (l : SackDisks D). TellAll g l) (sym on) tells.0) refl) tt
      (made_sacks total (sack + 1) disks sacks are.2 tells.1)

  found_sacks : (total sack : ℕ) (disks : List (SackDisks D)) (sacks : List (SackView D)) → AreOpenedOn total sack false disks sacks → HoldSacks g total sack disks → OfSacks disks sacks
  found_sacks total sack [] [] are hold = record { books = []; new = tt; opened = tt; failed = λ below. omega arith }
  found_sacks total sack [] (v ∷ sacks) are hold = absurd are
  found_sacks total sack (d ∷ disks) [] are hold = absurd are
  found_sacks total sack (d ∷ disks) (v ∷ sacks) are hold =
      let on : v.opening.disks ≡ d = ap (λ (o : Opening D). o.disks) are.1 in
      let counts = hold.0.0 in
      let told : AreTold g v.opening.disks (HoldsSack (sack_place total sack) (durable counts)) =
      subst (λ (l : SackDisks D). AreTold g l (HoldsSack (sack_place total sack) (durable counts))) (sym on) hold.0.2 in
      one_more d disks v sacks counts on
      (IsSackOrigin.found (durable counts) (ap (λ (o : Opening D). o.is_new) are.1)
      (subst (λ (p : Place). AreTold g v.opening.disks (HoldsSack p (durable counts))) (sym are.0) told) refl) hold.0.1
      (found_sacks total (sack + 1) disks sacks are.2 hold.1)

  module _ (later : (n : ℕ) (old new : D) → g.came n old new → g.faults old ≤ g.faults new)
      (tells : (n : ℕ) (old new : D) → g.came n old new → is_some (g.told new) ≡ is_some (g.told old)) where
    -- the disks of the index tell their bytes if they did before, and have failed at least as often
    record OfIndex (from : StoreDisks D) (v : SoloView D) : Type 0 where
      tell : is_some (g.told from.index_a) ≡ true → is_some (g.told from.index_b) ≡ true → do_tell g v.index.disks ≡ true
      failed : g.faults from.index_a + g.faults from.index_b ≤ sum_of_faults g v.index.disks

    of_index : (index incoming shelf blocks : ℕ) (from : StoreDisks D) (disks : List D) (v : SoloView D) → disks ≡ in_plan from → length v.index.disks ≡ 2
        → OnPlan (StoreCame g index incoming shelf blocks) disks (disks_of_solo v) → OfIndex from v
    of_index index incoming shelf blocks from disks v are two came =
        let same : in_plan from ≡ in_plan came.old = sym are ∙ came.old_is in
        let a : came.old.index_a ≡ from.index_a = cc same in
        let b : came.old.index_b ≡ from.index_b = cc same in
        let is = two_in_front v.index.disks (disks_of_sacks v.sacks) (flat_map five came.new.sacks) came.new.index_a came.new.index_b two came.new_is in
        let tells_a = tells index came.old.index_a came.new.index_a came.holds.index_a ∙ ap (λ (d : D). is_some (g.told d)) a in
        let tells_b = tells index came.old.index_b came.new.index_b came.holds.index_b ∙ ap (λ (d : D). is_some (g.told d)) b in
        let later_a = later index came.old.index_a came.new.index_a came.holds.index_a in
        let later_b = later index came.old.index_b came.new.index_b came.holds.index_b in
        let same_a : g.faults came.old.index_a ≡ g.faults from.index_a = ap (λ (d : D). g.faults d) a in
        let same_b : g.faults came.old.index_b ≡ g.faults from.index_b = ap (λ (d : D). g.faults d) b in
        let sum : sum_of_faults g v.index.disks ≡ g.faults came.new.index_a + (g.faults came.new.index_b + 0) = ap (λ (l : List D). sum_of_faults g l) is in
        record {
          tell = λ some_a some_b. subst (λ (l : List D). do_tell g l ≡ true) (sym is) (all_tell (is_some (g.told came.new.index_a)) (is_some (g.told came.new.index_b)) (tells_a ∙ some_a) (tells_b ∙ some_b));
          failed = omega (arith, sum, later_a, later_b, same_a, same_b);
        }
      where
        all_tell : (x y : Bool) → x ≡ true → y ≡ true → (x && (y && true)) ≡ true
        all_tell x y p q = cc (p, q)

    whole_books : (is_new : Bool) (total : ℕ) (from : StoreDisks D) (disks : List D) (v : SoloView D) (m : Maps) → disks ≡ in_plan from → v.opened ≡ v.index
        → OfIndex from v → do_tell g v.index.disks ≡ true → v.index.maps ≡ Some m → OfSacks from.sacks v.sacks → (books : SeenBooks) × AreWholeBooks g disks v books
    whole_books is_new total from disks v m are opened index tell maps sacks =
        let same : do_tell g v.opened.disks ≡ true = ap (λ (w : IndexView D). do_tell g w.disks) opened ∙ tell in
        let maps_are : v.opened.maps ≡ Some m = ap (λ (w : IndexView D). w.maps) opened ∙ maps in
        let origin : index_origin g v.opened ≡ Some m = ap (λ (t : Bool). if t then v.opened.maps else None) same ∙ maps_are in (
          record { index = record { origin = index_origin g v.opened; failed = index_faults g v.opened; is_shared = false; caller = 0; seen = [] }; sacks = sacks.books },
          record {
            new = record { index = record { alone = refl; unseen = refl; origin = refl; failed = refl }; sacks = sacks.new };
            opened = record { first = m; index = origin; sacks = sacks.opened };
            failed = λ below.
                let sum : sum_of_faults g disks ≡ g.faults from.index_a + (g.faults from.index_b + sum_of_faults g (flat_map five from.sacks)) = ap (λ (l : List D). sum_of_faults g l) are in
                let rest = sacks.failed (omega (arith, below)) in
                let count : index_faults g v.opened ≡ index_faults g v.index = ap (λ (w : IndexView D). index_faults g w) opened in
                let more = index.failed in
                omega (arith, sum, below, rest, count, more);
          },
        )

    pub made_whole : (total number : ℕ) (disks : List D) (v : SoloView D) → IsOpenedOn total true disks v → v.index.maps ≡ Some (new_maps number)
        → OnPlan (StoreCame g 15 9 9 1) disks (disks_of_solo v) → do_tell g disks ≡ true → (books : SeenBooks) × AreWholeBooks g disks v books
    made_whole total number disks v is maps came tell =
        let index = of_index 15 9 9 1 is.from disks v is.disks_are is.two came in
        let all : do_tell g (in_plan is.from) ≡ true = subst (λ (l : List D). do_tell g l ≡ true) is.disks_are tell in
        let some_a = both_first (is_some (g.told is.from.index_a)) _ all in
        let more = both_second (is_some (g.told is.from.index_a)) _ all in
        let some_b = both_first (is_some (g.told is.from.index_b)) _ more in
        whole_books true total is.from disks v (new_maps number) is.disks_are is.index index (index.tell some_a some_b) maps
        (made_sacks total 0 is.from.sacks v.sacks is.opened (both_second (is_some (g.told is.from.index_b)) _ more))

    pub found_whole : (total : ℕ) (disks : List D) (v : SoloView D) → IsOpenedOn total false disks v
        → OfIndexDisks g disks (λ x y. (m : Maps) → HoldsIndex total m x y → v.index.maps ≡ Some m)
        → OnPlan (StoreCame g 2 2 2 1) disks (disks_of_solo v) → HoldStore g total disks → (books : SeenBooks) × AreWholeBooks g disks v books
    found_whole total disks v is exact came hold =
        let index = of_index 2 2 2 1 hold.from disks v hold.disks_are is.two came in
        let same : in_plan hold.from ≡ in_plan is.from = sym hold.disks_are ∙ is.disks_are in
        let groups : hold.from.sacks ≡ is.from.sacks = same_five hold.from.sacks is.from.sacks (cc same) in
        let told : OfIndexDisks g (in_plan hold.from) (λ x y. (m : Maps) → HoldsIndex total m x y → v.index.maps ≡ Some m) =
        subst (λ (l : List D). OfIndexDisks g l (λ x y. (m : Maps) → HoldsIndex total m x y → v.index.maps ≡ Some m)) hold.disks_are exact in
        let first = if_some (λ x. IfSome (g.told hold.from.index_b) (λ y. (m : Maps) → HoldsIndex total m x y → v.index.maps ≡ Some m)) (g.told hold.from.index_a) hold.a hold.told_a told in
        let maps = if_some (λ y. (m : Maps) → HoldsIndex total m hold.a y → v.index.maps ≡ Some m) (g.told hold.from.index_b) hold.b hold.told_b first hold.maps hold.index in
        let opened : AreOpenedOn total 0 false hold.from.sacks v.sacks = subst (λ (l : List (SackDisks D)). AreOpenedOn total 0 false l v.sacks) (sym groups) is.opened in
        whole_books false total hold.from disks v hold.maps hold.disks_are is.index index
        (index.tell (ap (λ (o : Option (List ℕ)). is_some o) hold.told_a) (ap (λ (o : Option (List ℕ)). is_some o) hold.told_b)) maps
        (found_sacks total 0 hold.from.sacks v.sacks opened hold.each)

  -- ---- disks that hold a store aren't damaged

  -- what is said of the bytes that a sack's disks tell
  told_of : (d : SackDisks D) (P Q : List ℕ → List ℕ → List ℕ → List ℕ → List ℕ → Type 0) → AreTold g d P → AreTold g d Q
      → (a b z c e : List ℕ) × P a b z c e × Q a b z c e
  told_of d P Q p q =
      let a : q.a ≡ p.a = cc (p.incoming_a, q.incoming_a) in
      let b : q.b ≡ p.b = cc (p.incoming_b, q.incoming_b) in
      let z : q.z ≡ p.z = cc (p.blocks, q.blocks) in
      let c : q.c ≡ p.c = cc (p.shelf_a, q.shelf_a) in
      let e : q.e ≡ p.e = cc (p.shelf_b, q.shelf_b) in
      (p.a, p.b, p.z, p.c, p.e, p.have, subst (λ x. x) (λ i. Q (a i) (b i) (z i) (c i) (e i)) q.have)

  -- the sack behind these others holds something
  holds_behind : (total sack : ℕ) (front rest : List (SackDisks D)) (one : SackDisks D) → HoldSacks g total sack (front ++ one ∷ rest)
      → (counts : List Counted) × AreTold g one (HoldsSack (sack_place total (sack + length front)) (durable counts))
  holds_behind total sack [] rest one hold =
      (hold.0.0, subst (λ n. AreTold g one (HoldsSack (sack_place total n) (durable hold.0.0))) (omega arith) hold.0.2)
  holds_behind total sack (d ∷ front) rest one hold =
      let more = holds_behind total (sack + 1) front rest one hold.1 in
      (more.0, subst (λ n. AreTold g one (HoldsSack (sack_place total n) (durable more.0))) (omega arith) more.1)

  pub not_damaged : (total : ℕ) (disks : List D) (damage : Damage) → HoldStore g total disks → AreDamaged g total disks damage → ⊥
  not_damaged total disks damage hold (from, are, is) = by is
    where
      same : in_plan hold.from ≡ in_plan from
      same = sym hold.disks_are ∙ are

      groups : hold.from.sacks ≡ from.sacks
      groups = same_five hold.from.sacks from.sacks (cc same)

      by : IsDamagedStore g total from damage → ⊥
      by (opening.index damaged) =
          let a : from.index_a ≡ hold.from.index_a = cc same in
          let b : from.index_b ≡ hold.from.index_b = cc same in
          let first = if_some (λ x. IfSome (g.told from.index_b) (λ y. IsDamagedIndex total x y damage × HoldsNoIndex total x y)) (g.told from.index_a) hold.a (ap (λ (d : D). g.told d) a ∙ hold.told_a) damaged in
          let second = if_some (λ y. IsDamagedIndex total hold.a y damage × HoldsNoIndex total hold.a y) (g.told from.index_b) hold.b (ap (λ (d : D). g.told d) b ∙ hold.told_b) first in
          second.1 hold.maps hold.index
      by (opening.sack front rest one on split damaged never at) =
          let holds = holds_behind total 0 front rest one (subst (HoldSacks g total 0) (groups ∙ split) hold.each) in
          let here : AreTold g one (HoldsSack (sack_place total (length front)) (durable holds.0)) = subst (λ n. AreTold g one (HoldsSack (sack_place total n) (durable holds.0))) (omega arith) holds.1 in
          let any : AreTold g one (λ a b z c e. ⊤) = record {
            a = here.a;
            b = here.b;
            z = here.z;
            c = here.c;
            e = here.e;
            incoming_a = here.incoming_a;
            incoming_b = here.incoming_b;
            blocks = here.blocks;
            shelf_a = here.shelf_a;
            shelf_b = here.shelf_b;
            have = tt;
          } in
          let both = told_of one (HoldsSack (sack_place total (length front)) (durable holds.0)) (HoldsNoSack (sack_place total (length front))) here (never any) in
          both.6 (durable holds.0) both.5

-- What reading takes from the front, one step after the other, and that it takes what was written.
use Rattle.std.proofs.Common.{◌≡◌, ℕ, zero, suc, ◌<◌, Bool, true, false, cond, eqb, List, [], ◌∷◌, ◌++◌, length, get_or, Option, Some, None, Result, Ok, Err, refl, sym, ap, subst, ◌∙◌, append_assoc, arith}
use Rattle.std.specs.Prelude.{IfOk}
use Rattle.std.specs.List.{flat_map}
use Rattle.std.proofs.lemmas.Bool.{eqb-true}
use Rattle.std.proofs.lemmas.List.{append-nil, nil_from_length}
use Rattle.std.proofs.lemmas.List.Concat.{flat_map-cons}
use Rattle.gno_codec.specs.declared.fault.ReadFault.{ReadFault}
use Rattle.gno_codec.specs.declared.fault.ReadFault.TheVariants as faults
use Rattle.gno_codec.specs.Reading.{Unread, Reading, Answers, AnswersAs, on_read, then_at, done, standing_for, or_fault, tested, items_at, at_end, whole}

abbrev pub IsBytes : List ℕ → Type 0
IsBytes bytes = (i : ℕ) → get_or bytes i 0 < 256

-- the value of a step that did not fail
pub read_ok : {A B : Type 0} (r : Result (A × Unread) ℕ) (k : A → Reading B) (y : B × Unread) → on_read r k ≡ Ok y → (x : A × Unread) × (r ≡ Ok x) × (k x.0 x.1 ≡ Ok y)
read_ok (Ok x) k y e = (x, refl, e)
read_ok (Err at) k y e = absurd cc

abbrev good : {A : Type 0} → A → Result A ℕ
good x = Ok x

pub ok_is : {A : Type 0} (x y : A) → good x ≡ good y → x ≡ y
ok_is x y e = cc

-- what reading took from the front
pub record Takes (from : Unread) (text : List ℕ) (to : Unread) : Type 0 where
  pub parts : from.rest ≡ text ++ to.rest
  pub rest_fits : IsBytes to.rest

pub Takes-then : (a b c : Unread) (x y : List ℕ) → Takes a x b → Takes b y c → Takes a (x ++ y) c
Takes-then a b c x y p q =
    record { parts = p.parts ∙ ap (λ (t : List ℕ). x ++ t) q.parts ∙ sym (append_assoc x y c.rest); rest_fits = q.rest_fits }

-- Reading a field takes one spelling of one value, and takes the spelling of each value that has one.
pub record IsField {A : Type 0} (field : Reading A) (spelled : A → List ℕ) (Has : A → Type 0) : Type 0 where
  pub takes : (from : Unread) (x : A) (to : Unread) → IsBytes from.rest → field from ≡ Ok (x, to) → Takes from (spelled x) to × Has x
  pub again : (at : ℕ) (rest : List ℕ) (x : A) → Has x
      → (next : ℕ) × (field (record { at = at; rest = spelled x ++ rest }) ≡ Ok (x, record { at = next; rest = rest }))

-- the same field, with another word for what has a spelling
pub as_well : {A : Type 0} {field : Reading A} {spelled : A → List ℕ} {Has : A → Type 0} (Also : A → Type 0) → IsField field spelled Has → ((x : A) → Has x → Also x) → ((x : A) → Also x → Has x) → IsField field spelled Also
as_well Also is there back = record {
  takes = λ from x to fits e. let t = is.takes from x to fits e in (t.0, there x t.1);
  again = λ at rest x has. is.again at rest x (back x has);
}

-- ---- what is read is spelled so

-- the rest of a value whose front was read before
pub record TakesRest {B : Type 0} (before : List ℕ) (from : Unread) (y : B) (to : Unread) (spelled : B → List ℕ) (Has : B → Type 0) : Type 0 where
  pub tail : List ℕ
  pub parts : spelled y ≡ before ++ tail
  pub taken : Takes from tail to
  pub is : Has y

-- Reading goes on where the front of a value was read.
pub record Goes {B : Type 0} (reading : Reading B) (before : List ℕ) (spelled : B → List ℕ) (Has : B → Type 0) : Type 0 where
  pub on : (from : Unread) (y : B) (to : Unread) → IsBytes from.rest → reading from ≡ Ok (y, to) → TakesRest before from y to spelled Has

pub goes_then : {A B : Type 0} {field : Reading A} {spelled : A → List ℕ} {Has : A → Type 0} {k : A → Reading B} {before : List ℕ} {all : B → List ℕ} {Is : B → Type 0}
    → IsField field spelled Has → ((x : A) → Has x → Goes (k x) (before ++ spelled x) all Is) → Goes (then_at field k) before all Is
unfolding then_at
goes_then {A} {B} {field} {spelled} {Has} {k} {before} {all} {Is} is rest = record {
  on = λ from y to fits e.
      let a = read_ok (field from) k (y, to) e in
      let t = is.takes from a.0.0 a.0.1 fits a.1 in
      let r = (rest a.0.0 t.1).on a.0.1 y to t.0.rest_fits a.2 in
      record {
        tail = spelled a.0.0 ++ r.tail;
        parts = r.parts ∙ append_assoc before (spelled a.0.0) r.tail;
        taken = Takes-then from a.0.1 to (spelled a.0.0) r.tail t.0 r.taken;
        is = r.is;
      };
}

pub goes_done : {B : Type 0} {before : List ℕ} {all : B → List ℕ} {Is : B → Type 0} (y : B) → all y ≡ before → Is y → Goes (done y) before all Is
unfolding done
goes_done {B} {before} {all} {Is} y same is = record {
  on = λ from z to fits e.
      let own : TakesRest before from y from all Is = record { tail = []; parts = same ∙ sym (append-nil before); taken = record { parts = refl; rest_fits = fits }; is = is } in
      subst (λ (x : B × Unread). TakesRest before from x.0 x.1 all Is) (ok_is (y, from) (z, to) e) own;
}

-- a field at the end
pub goes_last : {B : Type 0} {before : List ℕ} {spelled all : B → List ℕ} {Has Is : B → Type 0} {field : Reading B} → IsField field spelled Has → ((y : B) → Has y → (all y ≡ before ++ spelled y) × Is y) → Goes field before all Is
goes_last {B} {before} {spelled} {all} {Has} {Is} is same = record {
  on = λ from y to fits e.
      let t = is.takes from y to fits e in
      let s = same y t.1 in
      record { tail = spelled y; parts = s.0; taken = t.0; is = s.1 };
}

pub goes_if : {B : Type 0} {before : List ℕ} {all : B → List ℕ} {Is : B → Type 0} (b : Bool) (k j : Reading B) → (b ≡ true → Goes k before all Is) → (b ≡ false → Goes j before all Is) → Goes (cond b k j) before all Is
goes_if {B} {before} {all} {Is} b k j where_true where_false =
    let P : Bool → Type 0 = λ c. (c ≡ true → Goes k before all Is) → (c ≡ false → Goes j before all Is) → Goes (cond c k j) before all Is in
    (elim b as P [ true ↦ λ y n. y refl | false ↦ λ y n. n refl ]) where_true where_false

pub goes_choice : {B : Type 0} {before : List ℕ} {all : B → List ℕ} {Is : B → Type 0} (b : Bool) (x y : B) → (b ≡ true → Goes (done x) before all Is) → (b ≡ false → Goes (done y) before all Is) → Goes (done (cond b x y)) before all Is
goes_choice {B} {before} {all} {Is} b x y where_true where_false =
    let P : Bool → Type 0 = λ c. (c ≡ true → Goes (done x) before all Is) → (c ≡ false → Goes (done y) before all Is) → Goes (done (cond c x y)) before all Is in
    (elim b as P [ true ↦ λ t f. t refl | false ↦ λ t f. f refl ]) where_true where_false

-- ---- what is spelled so is read

-- Reading takes this text as this value.
pub record Again {B : Type 0} (reading : Reading B) (text : List ℕ) (y : B) : Type 0 where
  pub reads : (at : ℕ) (rest : List ℕ) → (next : ℕ) × (reading (record { at = at; rest = text ++ rest }) ≡ Ok (y, record { at = next; rest = rest }))

pub again_then : {A B : Type 0} {field : Reading A} {spelled : A → List ℕ} {Has : A → Type 0} {tail : List ℕ} {y : B} (k : A → Reading B)
    → IsField field spelled Has → (x : A) → Has x → Again (k x) tail y → Again (then_at field k) (spelled x ++ tail) y
unfolding then_at
again_then {A} {B} {field} {spelled} {Has} {tail} {y} k is x has others = record {
  reads = λ at rest.
      let first = is.again at (tail ++ rest) x has in
      let then = others.reads first.0 rest in
      (then.0, rw (append_assoc, first.1) then.1);
}

pub again_done : {B : Type 0} (y : B) → Again (done y) [] y
unfolding done
again_done y = record { reads = λ at rest. (at, refl) }

pub again_else : {B : Type 0} {text : List ℕ} {y : B} (b : Bool) (k j : Reading B) → b ≡ false → Again j text y → Again (cond b k j) text y
again_else {B} {text} {y} b k j e is = subst (λ (c : Bool). Again (cond c k j) text y) (sym e) is

-- four texts one after the other
pub flat_4 : (a b c d : List ℕ) → a ++ (b ++ (c ++ (d ++ []))) ≡ a ++ b ++ c ++ d
flat_4 a b c d = simp (append_assoc, append-nil)

pub flat_7 : (a b c d e f g : List ℕ) → a ++ (b ++ (c ++ (d ++ (e ++ (f ++ (g ++ [])))))) ≡ a ++ b ++ c ++ d ++ e ++ f ++ g
flat_7 a b c d e f g = simp (append_assoc, append-nil)

-- a field at the end
pub again_field : {B : Type 0} {reading : Reading B} {spelled : B → List ℕ} {Has : B → Type 0} → IsField reading spelled Has → (y : B) → Has y → Again reading (spelled y) y
again_field is y has = record { reads = λ at rest. is.again at rest y has }

pub again_text : {B : Type 0} {reading : Reading B} {text : List ℕ} {y : B} (other : List ℕ) → text ≡ other → Again reading text y → Again reading other y
again_text {B} {reading} {text} {y} other same is = subst (λ (t : List ℕ). Again reading t y) same is

-- ---- a field of these steps

pub made_of : {B : Type 0} {reading : Reading B} (all : B → List ℕ) (Is : B → Type 0) → Goes reading [] all Is → ((y : B) → Is y → Again reading (all y) y) → IsField reading all Is
made_of {B} {reading} all Is goes again = record {
  takes = λ from y to fits e.
      let r = goes.on from y to fits e in
      (subst (λ (t : List ℕ). Takes from t to) (sym r.parts) r.taken, r.is);
  again = λ at rest y is. (again y is).reads at rest;
}

-- ---- a field that stands for a value, or passes a test

pub there_is : {A : Type 0} (o : Option A) (at : ℕ) (to : Unread) (y : A × Unread) → or_fault at o to ≡ Ok y → (o ≡ Some y.0) × (to ≡ y.1)
there_is (Some x) at to y e = let same = ok_is (x, to) y e in (ap (λ (z : _ × Unread). Some z.0) same, ap (λ (z : _ × Unread). z.1) same)
there_is None at to y e = absurd cc

module _ {A B : Type 0} {field : Reading A} {spelled : A → List ℕ} {Has : A → Type 0} (value : A → Option B) (is : IsField field spelled Has) (all : B → List ℕ) (Is : B → Type 0)
    (there : (x : A) (y : B) → Has x → value x ≡ Some y → (all y ≡ spelled x) × Is y)
    (back : (y : B) → Is y → (x : A) × Has x × (value x ≡ Some y) × (all y ≡ spelled x)) where
  standing_takes : (from : Unread) (y : B) (to : Unread) → IsBytes from.rest → standing_for value field from ≡ Ok (y, to) → Takes from (all y) to × Is y
  unfolding standing_for
  standing_takes from y to fits e =
      let a = read_ok (field from) (λ x. or_fault from.at (value x)) (y, to) e in
      let t = is.takes from a.0.0 a.0.1 fits a.1 in
      let o = there_is (value a.0.0) from.at a.0.1 (y, to) a.2 in
      let g = there a.0.0 y t.1 o.0 in
      let taken : Takes from (spelled a.0.0) to = subst (λ (u : Unread). Takes from (spelled a.0.0) u) o.1 t.0 in
      (subst (λ (s : List ℕ). Takes from s to) (sym g.0) taken, g.1)

  standing_again : (at : ℕ) (rest : List ℕ) (y : B) → Is y → (next : ℕ) × (standing_for value field (record { at = at; rest = all y ++ rest }) ≡ Ok (y, record { at = next; rest = rest }))
  unfolding standing_for
  standing_again at rest y has =
      let b = back y has in
      let r = is.again at rest b.0 b.1 in
      (r.0, rw (b.3, r.1, b.2) refl)

  pub standing_field : IsField (standing_for value field) all Is
  standing_field = record { takes = standing_takes; again = standing_again }

pub some_if : {A : Type 0} (b : Bool) (x y : A) → cond b (Some x) None ≡ Some y → (b ≡ true) × (x ≡ y)
some_if true x y e = (refl, cc)
some_if false x y e = absurd cc

-- a test that leaves exactly what has a spelling
pub tested_field : {A : Type 0} {field : Reading A} {spelled : A → List ℕ} {Has : A → Type 0} (test : A → Bool) → IsField field spelled Has → (Is : A → Type 0)
    → ((x : A) → Has x → test x ≡ true → Is x) → ((x : A) → Is x → Has x × (test x ≡ true)) → IsField (tested test field) spelled Is
unfolding tested standing_for
tested_field {A} {field} {spelled} {Has} test is Is there back =
    standing_field (λ (x : A). cond (test x) (Some x) None) is spelled Is
    (λ x y has e. let s = some_if (test x) x y e in (ap spelled (sym s.1), subst Is s.1 (there x has s.0)))
    (λ y has. let b = back y has in (y, b.0, ap (λ (t : Bool). cond t (Some y) None) b.1, refl))

-- ---- several of one kind

-- each is what may stand behind the one before it
abbrev pub IsChain : {A : Type 0} → (Option A → A → Type 0) → Option A → List A → Type 0
IsChain Has before [] = Unit {0}
IsChain Has before (x ∷ xs) = Has before x × IsChain Has (Some x) xs

module _ {A : Type 0} (item : Option A → Reading A) (spelled : A → List ℕ) (Has : Option A → A → Type 0) (is : (before : Option A) → IsField (item before) spelled (Has before)) where
  one_more : (before : Option A) (n : ℕ) → ((x : A) → IsField (items_at item (Some x) n) (flat_map spelled) (λ xs. (length xs ≡ n) × IsChain Has (Some x) xs))
      → (xs : List A) → (length xs ≡ suc n) × IsChain Has before xs
      → Again (then_at (item before) (λ x. then_at (items_at item (Some x) n) (λ others. done (x ∷ others)))) (flat_map spelled xs) xs
  one_more before n others [] have = absurd (omega (arith, have.0))
  one_more before n others (x ∷ xs) have =
      let count : length xs ≡ n = omega (arith, have.0) in
      again_text (flat_map spelled (x ∷ xs)) (ap (λ (t : List ℕ). spelled x ++ t) (append-nil (flat_map spelled xs)) ∙ sym (flat_map-cons spelled x xs))
      (again_then _ (is before) x have.1.0 (again_then _ (others x) xs (count, have.1.1) (again_done (x ∷ xs))))

  nothing : (before : Option A) (xs : List A) → (length xs ≡ 0) × IsChain Has before xs → Again (done {A = List A} []) (flat_map spelled xs) xs
  nothing before [] have = again_done []
  nothing before (x ∷ xs) have = absurd (omega (arith, have.0))

  pub items_field : (before : Option A) (n : ℕ) → IsField (items_at item before n) (flat_map spelled) (λ xs. (length xs ≡ n) × IsChain Has before xs)
  unfolding items_at
  items_field before zero =
      made_of (flat_map spelled) (λ xs. (length xs ≡ 0) × IsChain Has before xs) (goes_done [] refl (refl, tt)) (nothing before)
  items_field before (suc n) =
      let others : (x : A) → IsField (items_at item (Some x) n) (flat_map spelled) (λ xs. (length xs ≡ n) × IsChain Has (Some x) xs) = λ x. items_field (Some x) n in
      made_of (flat_map spelled) (λ xs. (length xs ≡ suc n) × IsChain Has before xs)
      (goes_then (is before) (λ x has. goes_then (others x) (λ xs have. goes_done (x ∷ xs) (flat_map-cons spelled x xs) (ap suc have.0, (has, have.1)))))
      (one_more before n others)

-- ---- what is all of the bytes

ended : {A : Type 0} (b : Bool) (x y : A) (at : ℕ) → cond b (Ok x) (Err at) ≡ Ok y → (b ≡ true) × (x ≡ y)
ended true x y at e = (refl, cc)
ended false x y at e = absurd cc

whole_is : {A : Type 0} (r : Result (A × Unread) ℕ) (y : A) → at_end r ≡ Ok y → (to : Unread) × (r ≡ Ok (y, to)) × (to.rest ≡ [])
whole_is {A} (Ok x) y e =
    let g = ended (eqb (length x.1.rest) 0) x.0 y x.1.at e in
    (x.1, ap (λ (z : A). Ok (z, x.1)) g.1, nil_from_length x.1.rest (eqb-true _ _ g.0))
whole_is (Err at) y e = absurd cc

module _ {A : Type 0} {reading : Reading A} {spelled : A → List ℕ} {Has : A → Type 0} (is : IsField reading spelled Has) where
  pub whole_takes : (bytes : List ℕ) (x : A) → IsBytes bytes → whole reading bytes ≡ Ok x → Has x × (bytes ≡ spelled x)
  unfolding whole
  whole_takes bytes x fits e =
      let w = whole_is (reading (record { at = 0; rest = bytes })) x e in
      let t = is.takes (record { at = 0; rest = bytes }) x w.0 fits w.1 in
      (t.1, t.0.parts ∙ ap (λ (r : List ℕ). spelled x ++ r) w.2 ∙ append-nil (spelled x))

  pub whole_again : (x : A) → Has x → whole reading (spelled x) ≡ Ok x
  unfolding whole
  whole_again x has =
      let r = is.again 0 [] x has in
      let read : reading (record { at = 0; rest = spelled x }) ≡ Ok (x, record { at = r.0; rest = [] }) =
      ap (λ (t : List ℕ). reading (record { at = 0; rest = t })) (sym (append-nil (spelled x))) ∙ r.1 in
      rw read refl

  -- no two values have one spelling
  pub one_spelling : (x y : A) → Has x → Has y → spelled x ≡ spelled y → x ≡ y
  one_spelling x y p q e = ok_is x y (sym (whole_again x p) ∙ ap (whole reading) e ∙ whole_again y q)

  -- what is read is spelled so
  pub is_found_as : {X : Type 0} (view : X → A) (bytes : List ℕ) (r : Result X ReadFault) → IsBytes bytes → AnswersAs view r (whole reading bytes) → IfOk r (λ x. Has (view x) × (bytes ≡ spelled (view x)))
  is_found_as view bytes (Ok x) fits given = whole_takes bytes (view x) fits given
  is_found_as view bytes (Err fault) fits given = tt

  pub is_found : (bytes : List ℕ) (r : Result A ReadFault) → IsBytes bytes → Answers r (whole reading bytes) → IfOk r (λ x. Has x × (bytes ≡ spelled x))
  is_found bytes (Ok x) fits given = whole_takes bytes x fits given
  is_found bytes (Err fault) fits given = tt

  -- what is spelled so is read
  pub is_read_as : {X : Type 0} (view : X → A) (bytes : List ℕ) (r : Result X ReadFault) → AnswersAs view r (whole reading bytes) → (x : A) → Has x → bytes ≡ spelled x → AnswersAs view r (Ok x)
  is_read_as view bytes r given x has e = subst (λ (f : Result A ℕ). AnswersAs view r f) (ap (whole reading) e ∙ whole_again x has) given

  pub is_read : (bytes : List ℕ) (r : Result A ReadFault) → Answers r (whole reading bytes) → (x : A) → Has x → bytes ≡ spelled x → Answers r (Ok x)
  is_read bytes r given x has e = subst (λ (f : Result A ℕ). Answers r f) (ap (whole reading) e ∙ whole_again x has) given

  -- bytes that are refused spell nothing
  refused_is_none : (bytes : List ℕ) (at : ℕ) → whole reading bytes ≡ Err at → (x : A) → Has x → bytes ≡ spelled x → ⊥
  refused_is_none bytes at refused x has e =
      let read : whole reading bytes ≡ Ok x = ap (whole reading) e ∙ whole_again x has in
      absurd cc

  pub is_none_as : {X : Type 0} (view : X → A) (bytes : List ℕ) (r : Result X ReadFault) → AnswersAs view r (whole reading bytes) → (at : ℕ) → r ≡ Err (faults.Bad at) → (x : A) → Has x → bytes ≡ spelled x → ⊥
  is_none_as {X} view bytes r given at bad x has e =
      refused_is_none bytes at (subst (λ (s : Result X ReadFault). AnswersAs view s (whole reading bytes)) bad given) x has e

  pub is_none : (bytes : List ℕ) (r : Result A ReadFault) → Answers r (whole reading bytes) → (at : ℕ) → r ≡ Err (faults.Bad at) → (x : A) → Has x → bytes ≡ spelled x → ⊥
  is_none bytes r given at bad x has e =
      refused_is_none bytes at (subst (λ (s : Result A ReadFault). Answers s (whole reading bytes)) bad given) x has e

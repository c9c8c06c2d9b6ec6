-- Records of the incoming log: what is read is spelled so, and what is spelled so is read.
use Rattle.std.proofs.Common.{◌≡◌, ℕ, ◌-◌, ◌*◌, ◌^◌, ◌<◌, ◌≤◌, Bool, true, false, cond, eqb, leb, ltb, ◌&&◌, ◌⊎◌, inl, inr, List, [], ◌∷◌, ◌++◌, length, Option, Some, None, refl, sym, ap, subst, append_assoc, arith, lit<}
use Rattle.std.specs.Prelude.{unsigned_abs, All}
use Rattle.std.specs.List.{flat_map, AllByRecursion}
use Rattle.std.specs.Int.{w64, cast_unsigned}
use Rattle.std.specs.Cmp.Derive.{both_true}
use Rattle.std.proofs.lemmas.Bool.{eqb-true, leb-true, ltb-true, le-leb, lt-ltb}
use Rattle.std.proofs.lemmas.Int.{fits_signed_from_abs}
use Rattle.std.proofs.lemmas.List.{append-nil}
use Rattle.std.proofs.lemmas.List.Elements.{All-from_recursion, recursion_from_All}
use Rattle.byteorder.specs.Endian.{big_bytes}
use Rattle.gno_codec.specs.declared.item.IncomingItem.{IncomingItem}
use Rattle.gno_codec.specs.declared.item.IncomingItem.TheVariants.{Post, Next}
use Rattle.gno_codec.specs.Incoming.{measure_bytes, post_bytes, next_bytes, incoming_bytes, IsMeasure, IsIncoming}
use Rattle.gno_codec.specs.Reading.{Unread, Reading, or_fault, then_at, number_at, tested, standing_for, items_at, by_kind}
use Rattle.gno_codec.specs.IncomingReading.{stamp_at, value_at, measure_at, post_at, next_at, incoming_kinds}
use Rattle.gno_codec.proofs.Steps.{IsField, Takes, Takes-then, read_ok, there_is, Goes, Again, IsChain, as_well, goes_then, goes_done, again_then, again_done, again_text, made_of, tested_field, items_field}
use Rattle.gno_codec.proofs.Fields.{number_field, signed_field, whole_64}

-- both tests passed
pub both_passed : (a b : Bool) → (a && b) ≡ true → (a ≡ true) × (b ≡ true)
both_passed true b e = (refl, e)
both_passed false b e = absurd cc

-- a number of n bytes from one to another
pub numbered : (n least most : ℕ) → most < 256 ^ n → IsField (tested (λ x. leb least x && leb x most) (number_at n)) (big_bytes n) (λ x. (least ≤ x) × (x ≤ most))
numbered n least most fits =
    tested_field (λ x. leb least x && leb x most) (number_field n) (λ x. (least ≤ x) × (x ≤ most))
    (λ x has e. let b = both_passed (leb least x) (leb x most) e in (leb-true _ _ b.0, leb-true _ _ b.1))
    (λ x is. (omega (arith, is.1, fits), both_true (le-leb _ _ is.0) (le-leb _ _ is.1)))

-- a number of n bytes up to another
pub limited : (n most : ℕ) → most < 256 ^ n → IsField (tested (λ x. leb x most) (number_at n)) (big_bytes n) (λ x. x ≤ most)
limited n most fits =
    tested_field (λ x. leb x most) (number_field n) (λ x. x ≤ most) (λ x has e. leb-true _ _ e) (λ x is. (omega (arith, is, fits), le-leb _ _ is))

-- a number of n bytes from another on
pub at_least : (n least : ℕ) → IsField (tested (λ x. leb least x) (number_at n)) (big_bytes n) (λ x. (least ≤ x) × (x < 256 ^ n))
at_least n least =
    tested_field (λ x. leb least x) (number_field n) (λ x. (least ≤ x) × (x < 256 ^ n)) (λ x has e. (leb-true _ _ e, has)) (λ x is. (is.1, le-leb _ _ is.0))

-- ---- measures

pub stamp_field : IsField stamp_at (big_bytes 8) (λ nanos. nanos < 9 * 10 ^ 18)
unfolding stamp_at
stamp_field =
    tested_field (λ nanos. ltb nanos (9 * 10 ^ 18)) (number_field 8) (λ nanos. nanos < 9 * 10 ^ 18) (λ x has e. ltb-true _ _ e) (λ x is. (omega (arith, is), lt-ltb _ _ is))

pub value_field : IsField value_at (λ units. big_bytes 8 (cast_unsigned w64 units)) (λ units. unsigned_abs units ≤ 10 ^ 18)
unfolding value_at
value_field =
    tested_field (λ units. leb (unsigned_abs units) (10 ^ 18)) (signed_field w64 whole_64) (λ units. unsigned_abs units ≤ 10 ^ 18)
    (λ x has e. leb-true _ _ e)
    (λ x is. (fits_signed_from_abs w64 x (omega (arith, is)), le-leb _ _ is))

pub measure_field : IsField measure_at measure_bytes IsMeasure
unfolding measure_at
measure_field = made_of measure_bytes IsMeasure
    (goes_then stamp_field (λ at time. goes_then value_field (λ value magnitude. goes_done (record { at = at; value = value }) refl (record { time = time; magnitude = magnitude }))))
    (λ m is. again_text (measure_bytes m) (simp append-nil) (again_then _ stamp_field m.at is.time (again_then _ value_field m.value is.magnitude (again_done m))))

-- ---- several of one kind, where none depends on the one before it

pub chain_is : {A : Type 0} (Is : A → Type 0) (before : Option A) (xs : List A) → IsChain (λ _ x. Is x) before xs → AllByRecursion Is xs
chain_is Is before [] h = tt
chain_is Is before (x ∷ xs) h = (h.0, chain_is Is (Some x) xs h.1)

pub is_chain : {A : Type 0} (Is : A → Type 0) (before : Option A) (xs : List A) → AllByRecursion Is xs → IsChain (λ _ x. Is x) before xs
is_chain Is before [] h = tt
is_chain Is before (x ∷ xs) h = (h.0, is_chain Is (Some x) xs h.1)

pub each_field : {A : Type 0} {item : Reading A} {spelled : A → List ℕ} {Is : A → Type 0} → IsField item spelled Is → (n : ℕ) → IsField (items_at (λ _. item) None n) (flat_map spelled) (λ xs. (length xs ≡ n) × All Is xs)
each_field {A} {item} {spelled} {Is} is n =
    as_well (λ xs. (length xs ≡ n) × All Is xs) (items_field (λ _. item) spelled (λ _ x. Is x) (λ _. is) None n)
    (λ xs h. (h.0, All-from_recursion Is xs (chain_is Is None xs h.1)))
    (λ xs h. (h.0, is_chain Is None xs (recursion_from_All Is xs h.1)))

-- ---- by the first byte

-- Reading a record takes what the first byte asks for.
pub kind_goes : {A : Type 0} {all : A → List ℕ} {Is : A → Type 0} (kinds : ℕ → Option (Reading A)) → ((kind : ℕ) (r : Reading A) → kinds kind ≡ Some r → Goes r (big_bytes 1 kind) all Is) → Goes (by_kind kinds) [] all Is
unfolding by_kind then_at standing_for
kind_goes {A} {all} {Is} kinds each = record {
  on = λ from y to fits e.
      let a = read_ok (standing_for kinds (number_at 1) from) (λ r. r) (y, to) e in
      let b = read_ok (number_at 1 from) (λ x. or_fault from.at (kinds x)) a.0 a.1 in
      let t = (number_field 1).takes from b.0.0 b.0.1 fits b.1 in
      let o = there_is (kinds b.0.0) from.at b.0.1 a.0 b.2 in
      let taken : Takes from (big_bytes 1 b.0.0) a.0.1 = subst (λ (u : Unread). Takes from (big_bytes 1 b.0.0) u) o.1 t.0 in
      let r = (each b.0.0 a.0.0 o.0).on a.0.1 y to taken.rest_fits a.2 in
      record { tail = big_bytes 1 b.0.0 ++ r.tail; parts = r.parts; taken = Takes-then from a.0.1 to (big_bytes 1 b.0.0) r.tail taken r.taken; is = r.is };
}

pub kind_again : {A : Type 0} (kinds : ℕ → Option (Reading A)) (kind : ℕ) (r : Reading A) (tail : List ℕ) (y : A) → kind < 256 → kinds kind ≡ Some r → Again r tail y → Again (by_kind kinds) (big_bytes 1 kind ++ tail) y
unfolding by_kind then_at standing_for
kind_again kinds kind r tail y fits is again = record {
  reads = λ at rest.
      let first = (number_field 1).again at (tail ++ rest) kind fits in
      let then = again.reads first.0 rest in
      (then.0, rw (append_assoc, first.1, is) then.1);
}

-- the choice by a first byte
pub chosen : {A : Type 0} (b : Bool) (x y : A) (other : Option A) → cond b (Some x) other ≡ Some y → ((b ≡ true) × (x ≡ y)) ⊎ (other ≡ Some y)
chosen true x y other e = inl (refl, cc)
chosen false x y other e = inr e

-- what reads the record of one first byte
pub goes_as : {A : Type 0} {all : A → List ℕ} {Is : A → Type 0} (kind own : ℕ) (reading r : Reading A) → eqb kind own ≡ true → reading ≡ r → Goes reading (big_bytes 1 own) all Is → Goes r (big_bytes 1 kind) all Is
goes_as {A} {all} {Is} kind own reading r e same goes =
    subst (λ (s : Reading A). Goes s (big_bytes 1 kind) all Is) same (subst (λ (k : ℕ). Goes reading (big_bytes 1 k) all Is) (sym (eqb-true _ _ e)) goes)

-- ---- posts and next numbers

post_goes : Goes post_at (big_bytes 1 1) incoming_bytes IsIncoming
unfolding post_at
post_goes =
    goes_then (numbered 8 1 (2 ^ 63 - 1) (lit< tt)) (λ number range. goes_then (number_field 16) (λ metric id. goes_then (limited 4 50000 (lit< tt)) (λ count most. goes_then (each_field measure_field count) (λ measures have.
    goes_done (Post number (record { 0 = metric }) measures) (ap (λ (k : ℕ). 1 ∷ big_bytes 8 number ++ big_bytes 16 metric ++ big_bytes 4 k ++ flat_map measure_bytes measures) have.0)
    (record { first = range.0; last = range.1; id = id; count = omega (arith, have.0, most); each = have.1 })))))

next_goes : Goes next_at (big_bytes 1 2) incoming_bytes IsIncoming
unfolding next_at
next_goes = goes_then (numbered 8 1 (2 ^ 63) (lit< tt)) (λ number range. goes_done (Next number) refl (record { first = range.0; last = range.1 }))

incoming_goes : (kind : ℕ) (r : Reading IncomingItem) → incoming_kinds kind ≡ Some r → Goes r (big_bytes 1 kind) incoming_bytes IsIncoming
unfolding incoming_kinds
incoming_goes kind r e =
    let P : ℕ → Reading IncomingItem → Type 0 = λ k s. Goes s (big_bytes 1 k) incoming_bytes IsIncoming in
    elim (chosen (eqb kind 1) post_at r (cond (eqb kind 2) (Some next_at) None) e) [
      | inl post ↦ subst (P kind) post.1 (subst (λ (k : ℕ). P k post_at) (sym (eqb-true _ _ post.0)) post_goes)
      | inr others ↦ elim (chosen (eqb kind 2) next_at r None others) [
        | inl next ↦ subst (P kind) next.1 (subst (λ (k : ℕ). P k next_at) (sym (eqb-true _ _ next.0)) next_goes)
        | inr none ↦ absurd cc
      ]
    ]

incoming_again : (item : IncomingItem) → IsIncoming item → Again (by_kind incoming_kinds) (incoming_bytes item) item
unfolding incoming_kinds post_at next_at
incoming_again (Post number metric measures) is =
    again_text (post_bytes number metric.0 measures) (simp (append_assoc, append-nil)) (kind_again incoming_kinds 1 post_at _ _ (lit< tt) refl
    (again_then _ (numbered 8 1 (2 ^ 63 - 1) (lit< tt)) number (is.first, is.last) (again_then _ (number_field 16) metric.0 is.id (again_then _ (limited 4 50000 (lit< tt)) (length measures) is.count (again_then _ (each_field measure_field (length measures)) measures (refl, is.each)
    (again_done (Post number metric measures)))))))
incoming_again (Next number) is =
    again_text (next_bytes number) (simp append-nil) (kind_again incoming_kinds 2 next_at _ _ (lit< tt) refl
    (again_then _ (numbered 8 1 (2 ^ 63) (lit< tt)) number (is.first, is.last) (again_done (Next number))))

pub incoming_field : IsField (by_kind incoming_kinds) incoming_bytes IsIncoming
incoming_field = made_of incoming_bytes IsIncoming (kind_goes incoming_kinds incoming_goes) incoming_again

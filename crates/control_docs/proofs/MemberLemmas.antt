-- Names, kinds and identifiers.
use Rattle.std.proofs.Common.{◌≡◌, ◌↔◌, ℕ, List, [], ◌∷◌, length, Option, Some, None, Ok, Err, Bool, true, false, cond, refl, sym, ap, ◌∙◌, arith, ◌&&◌, not, leb, eqb}
use Rattle.std.specs.List.{find, list_all}
use Rattle.std.specs.Str.{bytes_eq}
use Rattle.std.specs.Cmp.Derive.{both_true}
use Rattle.std.proofs.lemmas.Bool.Decides.{nat_tests}
use Rattle.std.proofs.lemmas.Bool.{leb-true, le-leb}
use Rattle.std.proofs.lemmas.List.Elements.{All-weaker}
use Rattle.std.proofs.lemmas.List.Sums.{AllPass-from_list_all, list_all-from_AllPass}
use Rattle.std.proofs.lemmas.Option.{none-some}
use Rattle.std.proofs.lemmas.Slice.Eq.{bytes_eq-Decides}
use Rattle.archive_policy.specs.Names.{IsName, IsNameByte}
use Rattle.archive_policy.specs.declared.kind.Kind.{Kind}
use Rattle.archive_policy.specs.declared.kind.Kind.TheVariants.{Mean, Min, Max, Sum, Count, First, Last, Nunique, RateMean, RateMin, RateMax, RateSum, RateCount, RateFirst, RateLast, RateNunique}
use Rattle.archive_policy.specs.Kinds.{all_kinds, kind_name}
use Rattle.control_docs.specs.declared.fault.ControlBodyFault.TheVariants.{BadName}
use Rattle.control_docs.specs.Member.{may_be_named, may_be_name, text_name, kind_named}

-- ---- names

pub both : (a b : Bool) → (a && b) ≡ true → (a ≡ true) × (b ≡ true)
both true true e = (refl, refl)
both true false e = absurd cc
both false b e = absurd cc

name-byte : (byte : ℕ) → may_be_named byte ≡ true → IsNameByte byte
name-byte byte e =
    let a = both (leb 32 byte) (leb byte 126 && not (eqb byte 47)) e in
    let b = both (leb byte 126) (not (eqb byte 47)) a.1 in
    record { from = leb-true _ _ a.0; upto = leb-true _ _ b.0; no_slash = other_than byte 47 b.1 }
  where
    other_than : (x y : ℕ) → not (eqb x y) ≡ true → x ≡ y → ⊥
    other_than x y e same = grind (arith, nat_tests)

byte-passes : (byte : ℕ) → IsNameByte byte → may_be_named byte ≡ true
byte-passes byte h =
    both_true (le-leb _ _ h.from) (both_true (le-leb _ _ h.upto) (differs byte 47 h.no_slash))
  where
    differs : (x y : ℕ) → (x ≡ y → ⊥) → not (eqb x y) ≡ true
    differs x y ne = grind (arith, nat_tests)

pub IsName-may_be_name : (text : List ℕ) → may_be_name text ≡ true → IsName text
IsName-may_be_name text e =
    let a = both (leb 1 (length text)) (leb (length text) 255 && list_all may_be_named text) e in
    let b = both (leb (length text) 255) (list_all may_be_named text) a.1 in
    record {
      some = leb-true _ _ a.0;
      few = leb-true _ _ b.0;
      bytes = All-weaker (λ b. may_be_named b ≡ true) IsNameByte name-byte text (AllPass-from_list_all may_be_named text b.1);
    }

pub may_be_name-IsName : (text : List ℕ) → IsName text → may_be_name text ≡ true
may_be_name-IsName text h =
    both_true (le-leb _ _ h.some) (both_true (le-leb _ _ h.few)
    (list_all-from_AllPass may_be_named text (All-weaker IsNameByte (λ b. may_be_named b ≡ true) byte-passes text h.bytes)))

pub name-there : (text : List ℕ) → IsName text → text_name text ≡ Ok text
name-there text h = rw (may_be_name-IsName text h) refl

pub name-missing : (text : List ℕ) → ¬ IsName text → text_name text ≡ Err BadName
name-missing text n = by (may_be_name text) refl
  where
    by : (v : Bool) → may_be_name text ≡ v → text_name text ≡ Err BadName
    by true e = absurd (n (IsName-may_be_name text e))
    by false e = rw e refl

-- ---- kinds

pub own_kind : (kind : Kind) → kind_named (kind_name kind) ≡ Some kind
own_kind Mean = refl
own_kind Min = refl
own_kind Max = refl
own_kind Sum = refl
own_kind Count = refl
own_kind First = refl
own_kind Last = refl
own_kind Nunique = refl
own_kind RateMean = refl
own_kind RateMin = refl
own_kind RateMax = refl
own_kind RateSum = refl
own_kind RateCount = refl
own_kind RateFirst = refl
own_kind RateLast = refl
own_kind RateNunique = refl

find_none : {X : Type 0} (p : X → Bool) (xs : List X) → ((x : X) → p x ≡ false) → find p xs ≡ None
find_none p [] none = refl
find_none p (x ∷ xs) none = ap (λ b. cond b (Some x) (find p xs)) (none x) ∙ find_none p xs none

-- a kind that is found exactly by its name is the one with the name
pub kind_found : (name : List ℕ) (found : Option Kind) → ((kind : Kind) → (found ≡ Some kind) ↔ (name ≡ kind_name kind)) → found ≡ kind_named name
kind_found name (Some kind) exact = sym (ap kind_named ((exact kind).0 refl) ∙ own_kind kind)
kind_found name None exact =
    sym (find_none (λ kind. bytes_eq name (kind_name kind)) all_kinds (λ kind. other kind (bytes_eq name (kind_name kind)) refl))
  where
    other : (kind : Kind) (b : Bool) → bytes_eq name (kind_name kind) ≡ b → b ≡ false
    other kind false is = refl
    other kind true is = absurd (none-some kind ((exact kind).1 ((bytes_eq-Decides name (kind_name kind)).0 is)))

-- ---- identifiers

-- what has no reading is None
pub no-reading : {A : Type 0} (o : Option A) → (((u : A) × (o ≡ Some u)) → false ≡ true) → o ≡ None
no-reading None h = refl
no-reading (Some x) h = let never : false ≡ true = h (x, refl) in absurd cc

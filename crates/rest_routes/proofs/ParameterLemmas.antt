-- Names and escapes in parameters.
use Rattle.std.proofs.Common.{◌≡◌, ◌≢◌, ℕ, List, [], ◌∷◌, length, Option, Some, None, Bool, true, false, refl, ap, arith, ◌==◌, ◌&&◌, not, leb, eqb}
use Rattle.std.specs.List.{list_all, AllByRecursion}
use Rattle.std.proofs.lemmas.Bool.Decides.{nat_tests}
use Rattle.std.proofs.lemmas.Bool.{leb-true, le-leb}
use Rattle.std.proofs.lemmas.List.Elements.{All-weaker}
use Rattle.std.proofs.lemmas.List.Sums.{AllPass-from_list_all, list_all-from_AllPass}
use Rattle.std.specs.Cmp.Derive.{both_true}
use Rattle.archive_policy.specs.Names.{IsName, IsNameByte}
use Rattle.rest_routes.specs.Escapes.{percent, byte_before, unescaped}
use Rattle.rest_routes.specs.Parameter.{may_be_named, may_be_name, as_name}
use Rattle.rest_routes.proofs.Walk.{both}

name-byte : (byte : ℕ) → may_be_named byte ≡ true → IsNameByte byte
name-byte byte e =
    let a = both (leb 32 byte) (leb byte 126 && not (eqb byte 47)) e in
    let b = both (leb byte 126) (not (eqb byte 47)) a.1 in
    record { from = leb-true _ _ a.0; upto = leb-true _ _ b.0; no_slash = other_than byte 47 b.1 }
  where
    other_than : (x y : ℕ) → not (eqb x y) ≡ true → x ≡ y → ⊥
    other_than x y e same = grind (arith, nat_tests)

byte-passes : (byte : ℕ) → IsNameByte byte → may_be_named byte ≡ true
byte-passes byte h =
    both_true (le-leb _ _ h.from) (both_true (le-leb _ _ h.upto) (differs byte 47 h.no_slash))
  where
    differs : (x y : ℕ) → (x ≡ y → ⊥) → not (eqb x y) ≡ true
    differs x y ne = grind (arith, nat_tests)

pub IsName-may_be_name : (text : List ℕ) → may_be_name text ≡ true → IsName text
IsName-may_be_name text e =
    let a = both (leb 1 (length text)) (leb (length text) 255 && list_all may_be_named text) e in
    let b = both (leb (length text) 255) (list_all may_be_named text) a.1 in
    record {
      some = leb-true _ _ a.0;
      few = leb-true _ _ b.0;
      bytes = All-weaker (λ b. may_be_named b ≡ true) IsNameByte name-byte text (AllPass-from_list_all may_be_named text b.1);
    }

pub may_be_name-IsName : (text : List ℕ) → IsName text → may_be_name text ≡ true
may_be_name-IsName text h =
    both_true (le-leb _ _ h.some) (both_true (le-leb _ _ h.few)
    (list_all-from_AllPass may_be_named text (All-weaker IsNameByte (λ b. may_be_named b ≡ true) byte-passes text h.bytes)))

pub name-there : (text : List ℕ) → IsName text → as_name text ≡ Some text
name-there text h = rw (may_be_name-IsName text h) refl

pub name-missing : (text : List ℕ) → ¬ IsName text → as_name text ≡ None
name-missing text n = by (may_be_name text) refl
  where
    by : (v : Bool) → may_be_name text ≡ v → as_name text ≡ None
    by true e = absurd (n (IsName-may_be_name text e))
    by false e = rw e refl

-- what has no reading is None
pub no-reading : {A : Type 0} (o : Option A) → (((u : A) × (o ≡ Some u)) → false ≡ true) → o ≡ None
no-reading None h = refl
no-reading (Some x) h = let never : false ≡ true = h (x, refl) in absurd cc

-- a text without `%` stands for itself
pub plain-unescaped : (text : List ℕ) → AllByRecursion (λ b. b ≢ 37) text → unescaped text ≡ Some text
plain-unescaped [] h = refl
plain-unescaped (b ∷ []) h =
    let n : b ≢ 37 = h.0 in
    let e : (b == percent) ≡ false = grind (arith, nat_tests) in
    rw e refl
plain-unescaped (b ∷ c ∷ []) h =
    let n : b ≢ 37 = h.0 in
    let m : c ≢ 37 = h.1.0 in
    let e : (b == percent) ≡ false = grind (arith, nat_tests) in
    let f : (c == percent) ≡ false = grind (arith, nat_tests) in
    rw (e, f) refl
plain-unescaped (b ∷ c ∷ d ∷ rest) h =
    let n : b ≢ 37 = h.0 in
    let e : (b == percent) ≡ false = grind (arith, nat_tests) in
    rw e (ap (λ z. byte_before b z) (plain-unescaped (c ∷ d ∷ rest) h.1))

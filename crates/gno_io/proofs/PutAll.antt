-- What a sink has taken while bytes are put one part after the other.
use Rattle.std.proofs.Common.{◌≡◌, ℕ, ◌+◌, ◌-◌, ◌≤◌, List, ◌++◌, length, take, drop, Option, refl, sym, ap, subst, ◌∙◌, arith}
use Rattle.std.specs.Io.KnownBytes.{Appends, Keeps}
use Rattle.std.proofs.KnownBytes.{Appends-nil, Appends-trans, Appends-kept}
use Rattle.std.proofs.Math.Seq.{take-add}
use Rattle.std.proofs.lemmas.List.{drop-drop, take_all, length-drop}

-- the bytes were put but for the rest
pub record HasPut (old new : Option (List ℕ)) (bytes rest : List ℕ) : Type 0 where
  pub count : ℕ
  pub within : count ≤ length bytes
  pub rest_is : rest ≡ drop count bytes
  pub appended : Appends old new (take count bytes)

-- nothing was put
pub HasPut-none : (known : Option (List ℕ)) (bytes : List ℕ) → HasPut known known bytes bytes
HasPut-none known bytes = record { count = 0; within = omega arith; rest_is = refl; appended = Appends-nil known }

-- a part of the rest was put
pub HasPut-more : (a b c : Option (List ℕ)) (bytes rest : List ℕ) (n : ℕ) → HasPut a b bytes rest → n ≤ length rest → Appends b c (take n rest) → HasPut a c bytes (drop n rest)
HasPut-more a b c bytes rest n so_far fits more =
    let k = so_far.count in
    let within = so_far.within in
    let rest-is = so_far.rest_is in
    let rest-len : length rest ≡ length bytes - k = ap length rest-is ∙ length-drop k bytes in
    let joined : take (k + n) bytes ≡ take k bytes ++ take n rest = take-add k n bytes ∙ ap (λ (xs : List ℕ). take k bytes ++ take n xs) (sym rest-is) in
    record {
      count = k + n;
      within = omega arith;
      rest_is = ap (drop n) rest-is ∙ drop-drop n k bytes;
      appended = subst (Appends a c) (sym joined) (Appends-trans a b c _ _ so_far.appended more);
    }

-- all was put
pub HasPut-all : (a b : Option (List ℕ)) (bytes rest : List ℕ) → HasPut a b bytes rest → length rest ≡ 0 → Appends a b bytes
HasPut-all a b bytes rest so_far none =
    let k = so_far.count in
    let rest-len : length rest ≡ length bytes - k = ap length so_far.rest_is ∙ length-drop k bytes in
    subst (Appends a b) (take_all k bytes (omega arith)) so_far.appended

-- some first bytes were put, and a sink that failed took none
pub HasPut-kept : (a b c : Option (List ℕ)) (bytes rest : List ℕ) → HasPut a b bytes rest → Keeps b c → (n : ℕ) × (n ≤ length bytes) × Appends a c (take n bytes)
HasPut-kept a b c bytes rest so_far same = (so_far.count, so_far.within, Appends-kept a b c _ so_far.appended same)

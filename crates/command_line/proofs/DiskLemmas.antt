-- The names of disks.
use Rattle.std.proofs.Common.{◌≡◌, ◌≢◌, ℕ, zero, suc, ◌+◌, ◌*◌, ◌^◌, ◌<◌, ◌≤◌, Bool, true, false, cond, List, [], ◌∷◌, ◌++◌, ◌-◌, ◌==◌, map, length, get_or, AllPairs, refl, sym, ap, ◌∙◌, arith, codes}
use Rattle.std.specs.Char.{is_ascii_digit}
use Rattle.std.specs.Fmt.{decimal}
use Rattle.std.specs.List.{AllByRecursion}
use Rattle.std.specs.Str.{all_ascii_digits, bytes_eq}
use Rattle.std.proofs.lemmas.Bool.{both_ways}
use Rattle.std.proofs.lemmas.Bool.Decides.{nat_tests}
use Rattle.std.proofs.lemmas.Fmt.{decimal_injective, digits_decimal}
use Rattle.std.proofs.lemmas.List.{append_cancel_left}
use Rattle.std.proofs.lemmas.List.Elements.{All-from_recursion}
use Rattle.std.proofs.lemmas.List.Kept.{AllPairs-cons}
use Rattle.std.proofs.lemmas.Slice.Eq.{bytes_eq-Decides}
use Rattle.command_line.specs.Plan.{sack_disk, sack_disks, sack_kinds, store_disks}
use Rattle.command_line.proofs.NumberLemmas.{first_true, own, second_true}

pub five_each : (front : List ℕ) (sack count : ℕ) → length (sack_disks front sack count) ≡ 5 * count
five_each front sack zero = refl
five_each front sack (suc count) = let more = five_each front (suc sack) count in omega arith

-- ---- different names

-- the bytes before the first point
before_point : List ℕ → List ℕ
before_point [] = []
before_point (b ∷ bytes) = cond (b == 46) [] (b ∷ before_point bytes)

no_point : (b : ℕ) → is_ascii_digit b ≡ true → (b == 46) ≡ false
no_point b is = by (b == 46) refl
  where
    by : (t : Bool) → (b == 46) ≡ t → t ≡ false
    by false same = refl
    by true same =
        let e : b ≡ 46 = grind (arith, nat_tests) in
        let d : false ≡ true = sym (ap is_ascii_digit e) ∙ is in
        cc

digits_before : (digits rest : List ℕ) → all_ascii_digits digits ≡ true → before_point (digits ++ 46 ∷ rest) ≡ digits
unfolding before_point
digits_before [] rest all = refl
digits_before (d ∷ digits) rest all =
    ap (λ b. cond b [] (d ∷ before_point (digits ++ 46 ∷ rest))) (no_point d (first_true (is_ascii_digit d) (all_ascii_digits digits) all))
    ∙ ap (λ ds. d ∷ ds) (digits_before digits rest (second_true (is_ascii_digit d) (all_ascii_digits digits) all))

-- names of different sacks differ
same_sack : (front : List ℕ) (j k : ℕ) (s t : List ℕ) → j < 2 ^ 64 → k < 2 ^ 64 → sack_disk front j (46 ∷ s) ≡ sack_disk front k (46 ∷ t) → j ≡ k
same_sack front j k s t small low same =
    let behind : codes "sack-" ++ (decimal j ++ 46 ∷ s) ≡ codes "sack-" ++ (decimal k ++ 46 ∷ t) = append_cancel_left front _ _ same in
    let numbers : decimal j ++ 46 ∷ s ≡ decimal k ++ 46 ∷ t = append_cancel_left (codes "sack-") _ _ behind in
    decimal_injective j k small low
    (sym (digits_before (decimal j) s (digits_decimal own j small)) ∙ ap before_point numbers ∙ digits_before (decimal k) t (digits_decimal own k low))

-- names of one sack with different ends differ
same_kind : (front : List ℕ) (k : ℕ) (s t : List ℕ) → sack_disk front k s ≡ sack_disk front k t → s ≡ t
same_kind front k s t same =
    append_cancel_left (decimal k) s t (append_cancel_left (codes "sack-") _ _ (append_cancel_left front _ _ same))

other_kind : (front : List ℕ) (k : ℕ) (s t : List ℕ) → bytes_eq s t ≡ false → sack_disk front k s ≢ sack_disk front k t
other_kind front k s t other same = both_ways (bytes_eq s t) other ((bytes_eq-Decides s t).1 (same_kind front k s t same))

-- an earlier sack's name is none of these
earlier : (front : List ℕ) (k : ℕ) (s : List ℕ) (sack count : ℕ) → k < sack → sack + count ≤ 2 ^ 64 → AllByRecursion (λ name. sack_disk front k (46 ∷ s) ≢ name) (sack_disks front sack count)
earlier front k s sack zero before small = tt
earlier front k s sack (suc count) before small =
    let other = λ (t : List ℕ) (same : sack_disk front k (46 ∷ s) ≡ sack_disk front sack (46 ∷ t)). differ (same_sack front k sack s t (omega arith) (omega arith) same) in
    (other _, (other _, (other _, (other _, (other _, earlier front k s (suc sack) count (omega arith) (omega arith))))))
  where
    differ : k ≡ sack → ⊥
    differ same = absurd (omega arith)

abbrev Differ : List ℕ → List ℕ → Type 0
Differ a b = a ≢ b

apart_from : (name : List ℕ) (names : List (List ℕ)) → AllByRecursion (λ other. name ≢ other) names → AllPairs Differ names → AllPairs Differ (name ∷ names)
apart_from name names all pairs = AllPairs-cons Differ name names (All-from_recursion (λ other. name ≢ other) names all) pairs

none_apart : AllPairs Differ []
none_apart i j d before in_range = absurd (omega arith)

distinct_sacks : (front : List ℕ) (sack count : ℕ) → sack + count ≤ 2 ^ 64 → AllPairs Differ (sack_disks front sack count)
distinct_sacks front sack zero small = none_apart
distinct_sacks front sack (suc count) small =
    let kind = λ (s t : List ℕ) (other : bytes_eq s t ≡ false). other_kind front sack s t other in
    let later = λ (s : List ℕ). earlier front sack s (suc sack) count (omega arith) (omega arith) in
    let rest = sack_disks front (suc sack) count in
    let name = sack_disk front sack in
    let b = name (codes ".in.b") in
    let s = name (codes ".shelf.a") in
    let t = name (codes ".shelf.b") in
    let k = name (codes ".blocks") in
    apart_from (name (codes ".in.a")) (b ∷ s ∷ t ∷ k ∷ rest) (kind (codes ".in.a") (codes ".in.b") refl, (kind (codes ".in.a") (codes ".shelf.a") refl, (kind (codes ".in.a") (codes ".shelf.b") refl, (kind (codes ".in.a") (codes ".blocks") refl, later (codes "in.a")))))
    (apart_from b (s ∷ t ∷ k ∷ rest) (kind (codes ".in.b") (codes ".shelf.a") refl, (kind (codes ".in.b") (codes ".shelf.b") refl, (kind (codes ".in.b") (codes ".blocks") refl, later (codes "in.b"))))
    (apart_from s (t ∷ k ∷ rest) (kind (codes ".shelf.a") (codes ".shelf.b") refl, (kind (codes ".shelf.a") (codes ".blocks") refl, later (codes "shelf.a")))
    (apart_from t (k ∷ rest) (kind (codes ".shelf.b") (codes ".blocks") refl, later (codes "shelf.b"))
    (apart_from k rest (later (codes "blocks")) (distinct_sacks front (suc sack) count (omega arith))))))

-- a disk of the index is no disk of a sack
no_sack : (front rest : List ℕ) (sack : ℕ) (kind : List ℕ) → front ++ 105 ∷ rest ≡ sack_disk front sack kind → ⊥
no_sack front rest sack kind same =
    let behind : 105 ∷ rest ≡ codes "sack-" ++ (decimal sack ++ kind) = append_cancel_left front _ _ same in
    let b : false ≡ true = ap (λ (bytes : List ℕ). get_or bytes 0 0 == 115) behind in
    cc

index_apart : (front rest : List ℕ) (sack count : ℕ) → AllByRecursion (λ name. (front ++ 105 ∷ rest) ≢ name) (sack_disks front sack count)
index_apart front rest sack zero = tt
index_apart front rest sack (suc count) =
    (no_sack front rest sack (codes ".in.a"), (no_sack front rest sack (codes ".in.b"), (no_sack front rest sack (codes ".shelf.a"), (no_sack front rest sack (codes ".shelf.b"), (no_sack front rest sack (codes ".blocks"), index_apart front rest (suc sack) count)))))

two_indices : (front : List ℕ) → front ++ codes "index.a" ≡ front ++ codes "index.b" → ⊥
two_indices front same =
    let b : true ≡ false = ap (λ bytes. bytes_eq bytes (codes "index.a")) (append_cancel_left front (codes "index.a") (codes "index.b") same) in
    cc

pub distinct : (front : List ℕ) (sacks : ℕ) → sacks < 2 ^ 64 → AllPairs (λ a b. a ≢ b) (store_disks front sacks)
distinct front sacks small =
    let rest = sack_disks front 0 sacks in
    let b = front ++ codes "index.b" in
    apart_from (front ++ codes "index.a") (b ∷ rest) (two_indices front, index_apart front (codes "ndex.a") 0 sacks)
    (apart_from b rest (index_apart front (codes "ndex.b") 0 sacks) (distinct_sacks front 0 sacks (omega arith)))

-- one sack more in front
pub one_sack : (front : List ℕ) (sack sacks : ℕ) → sack < sacks → sack_disks front sack (sacks - sack) ≡ map (λ kind. sack_disk front sack kind) sack_kinds ++ sack_disks front (sack + 1) (sacks - (sack + 1))
one_sack front sack sacks below =
    let more : sacks - sack ≡ suc (sacks - (sack + 1)) = omega arith in
    let next : suc sack ≡ sack + 1 = omega arith in
    rw (more, next) refl

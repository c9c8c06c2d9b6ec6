-- How many different values a sorted list has.
use Rattle.std.proofs.Common.{◌≡◌, ◌≤◌, Bool, true, false, cond, List, [], ◌∷◌, length, ℤ, refl, ◌∙◌, arith}
use Rattle.std.specs.List.{Contains, dedup, list_any}
use Rattle.std.specs.List.Sorted.{IsPermutation, IsSorted}
use Rattle.std.specs.Ordering.{int_cmp, int_eq}
use Rattle.std.specs.Cmp.{int_cmp_total, int_eq_equiv}
use Rattle.std.proofs.lemmas.Bool.Decides.{Decides-int_eq, Decides-like, same_from_decides}
use Rattle.std.proofs.lemmas.List.Kept.{Contains-dedup, Contains-from_dedup, IsStrictlySortedBy-dedup}
use Rattle.std.proofs.lemmas.List.Sorted.{Contains-permutation, IsPermutation-sym}
use Rattle.std.proofs.lemmas.Map.Keys.{IsDistinct-from_sorted}
use Rattle.std.proofs.lemmas.Map.Made.{IsDistinct-from_AllPairs, is_member-Decides, length-from_same_keys}
use Rattle.std.specs.Set.{is_member}
use Rattle.series_model.specs.Bucket.{distinct_count}
use Rattle.series_model.proofs.ValueLaws.{set_of}

-- sorted and without repeats, a list has the different values of the one that it came from
pub length-dedup : (values sorted : List ℤ) → IsPermutation values sorted → IsSorted int_cmp sorted → length (dedup int_eq sorted) ≡ distinct_count values
length-dedup values sorted moved in_order =
    let kept = dedup int_eq sorted in
    let set = set_of values in
    let once = IsDistinct-from_sorted int_cmp kept (IsStrictlySortedBy-dedup int_cmp_total (λ x y. refl) sorted in_order) in
    let from : (v : ℤ) → Contains set.0 v → Contains kept v =
    λ v c. Contains-dedup int_eq_equiv (λ x y. (Decides-int_eq x y).0) sorted v (Contains-permutation values sorted v moved ((set.1.same v).0 c)) in
    let to : (v : ℤ) → Contains kept v → Contains set.0 v =
    λ v c. (set.1.same v).1 (Contains-permutation sorted values v (IsPermutation-sym values sorted moved) (Contains-from_dedup int_eq sorted v c)) in
    length-from_same_keys int_eq_equiv kept set.0 once (IsDistinct-from_AllPairs Decides-int_eq set.0 set.1.once) (λ v. same_from_decides (is_member int_eq kept v) (is_member int_eq set.0 v) (is_member-Decides Decides-int_eq kept v) (Decides-like (is_member int_eq set.0 v) (from v) (to v) (is_member-Decides Decides-int_eq set.0 v)))
    ∙ set.2

at_most_one : (b : Bool) → cond b 0 1 ≤ 1
at_most_one true = omega arith
at_most_one false = omega arith

-- there aren't more different values than values
pub distinct_count-le : (values : List ℤ) → distinct_count values ≤ length values
distinct_count-le [] = omega arith
distinct_count-le (v ∷ values) =
    omega (arith, distinct_count-le values, at_most_one (list_any (λ w. int_eq w v) values))

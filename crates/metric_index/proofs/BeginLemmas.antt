-- The policy of a new metric.
use Rattle.std.proofs.Common.{◌≡◌, ℕ, ◌<◌, Bool, true, false, cond, List, [], ◌∷◌, Option, Some, None, refl, sym, ap, subst, ◌∙◌}
use Rattle.std.specs.Cmp.{ranks}
use Rattle.std.specs.Cmp.Lexicographic.{slice_cmp}
use Rattle.std.specs.Option.{is_some}
use Rattle.std.specs.Ordering.{MatchOrdering, is_eq, nat_cmp, ordering_then}
use Rattle.std.specs.declared.cmp.Ordering.{Ordering}
use Rattle.std.specs.declared.cmp.Ordering.TheVariants.{Less, Equal, Greater}
use Rattle.archive_policy.specs.Policies.{ArchivePolicy}
use Rattle.front_api.specs.declared.fault.ControlFault.{ControlFault}
use Rattle.front_api.specs.declared.fault.ControlFault.TheVariants as faults
use Rattle.front_api.specs.Maps.{Maps, policy_to}
use Rattle.front_api.specs.Replies.{GetsPolicy, IsAcceptedMetric, metric_refusal, or_else, place_refusal, unless}
use Rattle.front_api.specs.Tables.{found, has}

then_equal : (v w : Ordering) → ordering_then v w ≡ Equal → (v ≡ Equal) × (w ≡ Equal)
then_equal Less w e = absurd cc
then_equal Equal w e = (refl, e)
then_equal Greater w e = absurd cc

same_number : (x y : ℕ) → nat_cmp x y ≡ Equal → x ≡ y
same_number x y e = subst (λ (r : Ordering). MatchOrdering r (x < y) (x ≡ y) (y < x)) e (ranks x y)

-- names that compare as equal are equal
same_text : (a b : List ℕ) → slice_cmp nat_cmp a b ≡ Equal → a ≡ b
same_text [] [] e = refl
same_text [] (y ∷ ys) e = absurd cc
same_text (x ∷ xs) [] e = absurd cc
same_text (x ∷ xs) (y ∷ ys) e =
    let both = then_equal (nat_cmp x y) (slice_cmp nat_cmp xs ys) e in
    ap (λ (n : ℕ). n ∷ xs) (same_number x y both.0) ∙ ap (λ (l : List ℕ). y ∷ l) (same_text xs ys both.1)

eq_is : (v : Ordering) → is_eq v ≡ true → v ≡ Equal
eq_is Less e = absurd cc
eq_is Equal e = refl
eq_is Greater e = absurd cc

found_step : {X : Type 0} (order : X → Ordering) (b : Bool) (x y : X) (rest : Option X) → is_eq (order x) ≡ b → cond b (Some x) rest ≡ Some y → (rest ≡ Some y → is_eq (order y) ≡ true) → is_eq (order y) ≡ true
found_step order true x y rest here e then = subst (λ (z : _). is_eq (order z) ≡ true) (let same : x ≡ y = cc in same) here
found_step order false x y rest here e then = then e

-- what is found has the key
found_is : {X : Type 0} (order : X → Ordering) (xs : List X) (y : X) → found order xs ≡ Some y → is_eq (order y) ≡ true
found_is order [] y e = absurd cc
found_is order (x ∷ xs) y e = found_step order (is_eq (order x)) x y (found order xs) refl e (found_is order xs y)

named_so : (m : Maps) (name : List ℕ) (got : ArchivePolicy) → found (policy_to name) m.policies ≡ Some got → got.name ≡ name
named_so m name got e = same_text got.name name (eq_is (policy_to name got) (found_is (policy_to name) m.policies got e))

place_left : (b : Bool) (fault : ControlFault) (place : Option ControlFault) → b ≡ true → or_else (unless b fault) place ≡ None → place ≡ None
place_left true fault place is e = e
place_left false fault place is e = absurd cc

-- the policy that was found is the one that a new metric gets
pub accepted_metric : (m : Maps) (policy name : Option (List ℕ)) (resource : Option ℕ) (text : List ℕ) (got : ArchivePolicy) → GetsPolicy m.rules policy name text → metric_refusal m text resource name ≡ None → found (policy_to text) m.policies ≡ Some got
    → IsAcceptedMetric m policy name resource got
accepted_metric m policy name resource text got gets none is =
    let same = named_so m text got is in
    record {
      named = subst (GetsPolicy m.rules policy name) (sym same) gets;
      is = subst (λ (t : List ℕ). found (policy_to t) m.policies ≡ Some got) (sym same) is;
      place = place_left (has (policy_to text) m.policies) faults.PolicyUnknown (place_refusal m resource name) (ap is_some is) none;
    }

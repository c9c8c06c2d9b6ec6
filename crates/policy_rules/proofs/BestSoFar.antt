-- The best of the rules so far.
use Rattle.std.proofs.Common.{◌≡◌, ℕ, ◌+◌, ◌<◌, ◌≤◌, ◌⊎◌, List, [], ◌∷◌, zero, suc, All, get_or, length, Option, Some, None, refl, sym, ap, subst, ◌∙◌, inl, inr, arith, rules as all_rules}
use Rattle.std.proofs.Math.Logic.{⊎_elim}
use Rattle.std.specs.Cmp.Lexicographic.{slice_cmp, nat_list_cmp_total}
use Rattle.std.specs.Ordering.{nat_cmp, ordering_reverse}
use Rattle.std.specs.declared.cmp.Ordering.{Ordering}
use Rattle.std.specs.declared.cmp.Ordering.TheVariants.{Less, Equal, Greater}
use Rattle.std.specs.List.{slice_get}
use Rattle.std.specs.Option.{IfSome, IfNone}
use Rattle.std.proofs.lemmas.Bool.{cases_lt, cases_order}
use Rattle.std.proofs.lemmas.Map.Lookups.{exact_bytes}
use Rattle.std.proofs.lemmas.Option.{same_Some, none-some, slice_get-get_or}
use Rattle.std.proofs.lemmas.Cmp.{tied_itself}
use Rattle.policy_rules.specs.declared.rule.Rule.{Rule}
use Rattle.policy_rules.specs.Matching.{Matches}
use Rattle.policy_rules.specs.Choice.{IsBetter, IsChosen, IsNameBefore, IsTied}

-- ---- the order of names

before_trans : (a b c : List ℕ) → IsNameBefore a b → IsNameBefore b c → IsNameBefore a c
before_trans a b c = nat_list_cmp_total.trans a b c

before_not : (a b : List ℕ) → IsNameBefore a b → IsNameBefore b a → ⊥
before_not a b h g =
    let back : slice_cmp nat_cmp a a ≡ Less = nat_list_cmp_total.trans a b a h g in
    let own : slice_cmp nat_cmp a a ≡ Equal = tied_itself nat_list_cmp_total a in cc

before_not_same : (a b : List ℕ) → IsNameBefore a b → a ≡ b → ⊥
before_not_same a b h same =
    let P : List ℕ → Type 0 = λ x. IsNameBefore x b in
    let own : slice_cmp nat_cmp b b ≡ Equal = tied_itself nat_list_cmp_total b in
    let less : slice_cmp nat_cmp b b ≡ Less = subst P same h in cc

cases_name : (a b : List ℕ) → IsNameBefore a b ⊎ ((a ≡ b) ⊎ IsNameBefore b a)
cases_name a b = by (slice_cmp nat_cmp a b) refl
  where
    by : (o : Ordering) → slice_cmp nat_cmp a b ≡ o → IsNameBefore a b ⊎ ((a ≡ b) ⊎ IsNameBefore b a)
    by Less is = inl is
    by Equal is = inr (inl (exact_bytes a b is))
    by Greater is = inr (inr (nat_list_cmp_total.antisymm b a ∙ ap ordering_reverse is))

-- ---- the order of rules

-- one of two rules is better, or they are tied
cases_rule : (r s : Rule) → IsBetter r s ⊎ (IsTied r s ⊎ IsBetter s r)
cases_rule r s =
    ⊎_elim
    (λ same. ⊎_elim (λ less. inl (inr (sym same, less))) (λ rest. ⊎_elim (λ one. inr (inl (sym same, one))) (λ more. inr (inr (inr (same, more)))) rest) (cases_name r.name s.name))
    (λ other. ⊎_elim (λ shorter. inr (inr (inl shorter))) (λ longer. inl (inl longer)) other)
    (cases_order (length r.pattern) (length s.pattern))

-- a rule that is better than one that is at least as good is better
better_trans : (r s t : Rule) → IsBetter r s → IsBetter s t ⊎ IsTied s t → IsBetter r t
better_trans r s t h g =
    ⊎_elim
    (λ longer. ⊎_elim (λ better. ⊎_elim (λ more. inl (omega (arith, longer, more))) (λ equal. inl (omega (arith, longer, equal.0))) better) (λ tied. inl (omega (arith, longer, tied.0))) g)
    (λ same. ⊎_elim (λ better. ⊎_elim (λ more. inl (omega (arith, same.0, more))) (λ equal. inr (omega (arith, same.0, equal.0), before_trans r.name s.name t.name same.1 equal.1)) better) (λ tied. let P : List ℕ → Type 0 = λ x. IsNameBefore r.name x in inr (omega (arith, same.0, tied.0), subst P tied.1 same.1)) g)
    h

not_both : (r s : Rule) → IsBetter r s → IsBetter s r → ⊥
not_both r s h g =
    ⊎_elim
    (λ longer. ⊎_elim (λ more. omega (arith, longer, more)) (λ equal. omega (arith, longer, equal.0)) g)
    (λ same. ⊎_elim (λ more. omega (arith, same.0, more)) (λ equal. before_not r.name s.name same.1 equal.1) g)
    h

better_not_tied : (r s : Rule) → IsBetter r s → IsTied s r → ⊥
better_not_tied r s h tied =
    ⊎_elim (λ longer. omega (arith, longer, tied.0)) (λ same. before_not_same r.name s.name same.1 (sym tied.1)) h

-- ---- the best of the rules so far

-- no rule before this place matches
abbrev pub NoneBelow : List Rule → List ℕ → ℕ → Type 0
NoneBelow rules name n =
    (k : ℕ) (other : Rule) → k < n → slice_get rules k ≡ Some other → Matches other.pattern name → ⊥

-- the rule at a place is the best of those before another place
pub record IsBest (rules : List Rule) (name : List ℕ) (n i : ℕ) : Type 0 where
  pub rule : Rule
  pub below : i < n
  pub is_there : slice_get rules i ≡ Some rule
  pub matches : Matches rule.pattern name
  pub first : (k : ℕ) (other : Rule) → k < n → slice_get rules k ≡ Some other → Matches other.pattern name → IsBetter rule other ⊎ (IsTied rule other × (i ≤ k))

abbrev pub Best : List Rule → List ℕ → ℕ → Option ℕ → Type 0
Best rules name n None = NoneBelow rules name n
Best rules name n (Some i) = IsBest rules name n i

pub Best-start : (rules : List Rule) (name : List ℕ) → Best rules name 0 None
Best-start rules name k other below = absurd (omega arith)

pub Best-below : (rules : List Rule) (name : List ℕ) (n i : ℕ) → Best rules name n (Some i) → i < n
Best-below rules name n i h = h.below

-- a place before the next one is before this one, or this one
split : (P : ℕ → Type 0) (n k : ℕ) → k < n + 1 → (k < n → P k) → P n → P k
split P n k below less here =
    ⊎_elim less (λ ge. let same : n ≡ k = omega (arith, below, ge) in subst P same here) (cases_lt k n)

-- a rule that doesn't match changes nothing
pub Best-other : (rules : List Rule) (name : List ℕ) (n : ℕ) (o : Option ℕ) (rule : Rule) → slice_get rules n ≡ Some rule → (Matches rule.pattern name → ⊥) → Best rules name n o → Best rules name (n + 1) o
Best-other rules name n None rule there none h = λ k other below at matches.
    split (λ j. slice_get rules j ≡ Some other → ⊥) n k below (λ less is. h k other less is matches) (λ is. let P : Rule → Type 0 = λ r. Matches r.pattern name in none (subst P (same_Some other rule (sym is ∙ there)) matches)) at
Best-other rules name n (Some i) rule there none h = record {
  rule = h.rule;
  below = omega (arith, h.below);
  is_there = h.is_there;
  matches = h.matches;
  first = λ k other below at matches. split (λ j. slice_get rules j ≡ Some other → IsBetter h.rule other ⊎ (IsTied h.rule other × (i ≤ j))) n k below (λ less is. h.first k other less is matches) (λ is. let P : Rule → Type 0 = λ r. Matches r.pattern name in absurd (none (subst P (same_Some other rule (sym is ∙ there)) matches))) at;
}

-- the rule at this place is tied with itself
own : (rules : List Rule) (n : ℕ) (rule other : Rule) → slice_get rules n ≡ Some rule → slice_get rules n ≡ Some other → IsBetter rule other ⊎ (IsTied rule other × (n ≤ n))
own rules n rule other there is =
    let same : rule ≡ other = same_Some rule other (sym there ∙ is) in
    inr ((ap (λ (r : Rule). length r.pattern) (sym same), ap (λ (r : Rule). r.name) same), omega arith)

-- the first rule that matches
pub Best-first : (rules : List Rule) (name : List ℕ) (n : ℕ) (rule : Rule) → slice_get rules n ≡ Some rule → Matches rule.pattern name → Best rules name n None → Best rules name (n + 1) (Some n)
Best-first rules name n rule there matches h = record {
  rule = rule;
  below = omega arith;
  is_there = there;
  matches = matches;
  first = λ k other below at m. split (λ j. slice_get rules j ≡ Some other → IsBetter rule other ⊎ (IsTied rule other × (n ≤ j))) n k below (λ less is. absurd (h k other less is m)) (λ is. own rules n rule other there is) at;
}

-- a rule that matches and is better than the best so far
pub Best-better : (rules : List Rule) (name : List ℕ) (n i : ℕ) (rule best : Rule) → slice_get rules n ≡ Some rule → slice_get rules i ≡ Some best → Matches rule.pattern name → IsBetter rule best → Best rules name n (Some i) → Best rules name (n + 1) (Some n)
Best-better rules name n i rule best there is_best matches better h =
    let same : best ≡ h.rule = same_Some best h.rule (sym is_best ∙ h.is_there) in
    let B : Rule → Type 0 = λ r. IsBetter rule r in
    let better' : IsBetter rule h.rule = subst B same better in record {
      rule = rule;
      below = omega arith;
      is_there = there;
      matches = matches;
      first = λ k other below at m. split (λ j. slice_get rules j ≡ Some other → IsBetter rule other ⊎ (IsTied rule other × (n ≤ j))) n k below (λ less is. inl (⊎_elim (λ b. better_trans rule h.rule other better' (inl b)) (λ t. better_trans rule h.rule other better' (inr t.0)) (h.first k other less is m))) (λ is. own rules n rule other there is) at;
    }

-- a rule that isn't better than the best so far
pub Best-worse : (rules : List Rule) (name : List ℕ) (n i : ℕ) (rule best : Rule) → slice_get rules n ≡ Some rule → slice_get rules i ≡ Some best → (IsBetter rule best → ⊥) → Best rules name n (Some i) → Best rules name (n + 1) (Some i)
Best-worse rules name n i rule best there is_best worse h =
    let same : best ≡ h.rule = same_Some best h.rule (sym is_best ∙ h.is_there) in
    let W : Rule → Type 0 = λ r. IsBetter rule r → ⊥ in
    let worse' : W h.rule = subst W same worse in
    let at_least : IsBetter h.rule rule ⊎ (IsTied h.rule rule × (i ≤ n)) =
    ⊎_elim (λ b. inl b) (λ rest. ⊎_elim (λ t. inr (t, omega (arith, h.below))) (λ b. absurd (worse' b)) rest) (cases_rule h.rule rule) in record {
      rule = h.rule;
      below = omega (arith, h.below);
      is_there = h.is_there;
      matches = h.matches;
      first = λ k other below at m. split (λ j. slice_get rules j ≡ Some other → IsBetter h.rule other ⊎ (IsTied h.rule other × (i ≤ j))) n k below (λ less is. h.first k other less is m) (λ is. let P : Rule → Type 0 = λ r. IsBetter h.rule r ⊎ (IsTied h.rule r × (i ≤ n)) in subst P (same_Some rule other (sym there ∙ is)) at_least) at;
    }

-- the best so far is no better than this rule, or there is none
abbrev pub Gives : List Rule → Rule → Option ℕ → Type 0
Gives rules rule o = IfSome o (λ k. IfSome (slice_get rules k) (IsBetter rule))

pub Best-taken : (rules : List Rule) (name : List ℕ) (n : ℕ) (o : Option ℕ) (rule : Rule) → slice_get rules n ≡ Some rule → Matches rule.pattern name → Gives rules rule o → Best rules name n o → Best rules name (n + 1) (Some n)
Best-taken rules name n None rule there matches better h = Best-first rules name n rule there matches h
Best-taken rules name n (Some i) rule there matches better h =
    let P : Option Rule → Type 0 = λ o. IfSome o (IsBetter rule) in
    Best-better rules name n i rule h.rule there h.is_there matches (subst P h.is_there better) h

pub Best-kept : (rules : List Rule) (name : List ℕ) (n : ℕ) (o : Option ℕ) (rule : Rule) → slice_get rules n ≡ Some rule → (Gives rules rule o → ⊥) → Best rules name n o → Best rules name (n + 1) o
Best-kept rules name n None rule there worse h = absurd (worse (search all_rules))
Best-kept rules name n (Some i) rule there worse h =
    let P : Option Rule → Type 0 = λ o. IfSome o (IsBetter rule) in
    Best-worse rules name n i rule h.rule there h.is_there (λ b. worse (subst P (sym h.is_there) b)) h

-- ---- at the end

-- a place that holds a rule is inside
inside : (rules : List Rule) (k : ℕ) (other : Rule) → slice_get rules k ≡ Some other → k < length rules
inside [] k other at = absurd (none-some other at)
inside (r ∷ rules) zero other at = omega arith
inside (r ∷ rules) (suc k) other at = omega (arith, inside rules k other at)

pub chosen_of : (rules : List Rule) (name : List ℕ) (n i : ℕ) → length rules ≤ n → Best rules name n (Some i) → IsChosen rules name i
chosen_of rules name n i all h = record {
  rule = h.rule;
  is_there = h.is_there;
  matches = h.matches;
  first = λ k other at m. h.first k other (omega (arith, all, inside rules k other at)) at m;
}

pub none_of : (rules : List Rule) (name : List ℕ) (n : ℕ) → length rules ≤ n → Best rules name n None → All (λ rule. Matches rule.pattern name → ⊥) rules
none_of rules name n all h k d below m =
    h k (get_or rules k d) (omega (arith, all, below)) (slice_get-get_or rules k d below) m

-- ---- one choice

pub chosen_once : (rules : List Rule) (name : List ℕ) (i k : ℕ) → IsChosen rules name i → IsChosen rules name k → i ≡ k
chosen_once rules name i k h g =
    ⊎_elim
    (λ better. ⊎_elim (λ other. absurd (not_both h.rule g.rule better other)) (λ tied. absurd (better_not_tied h.rule g.rule better tied.0)) (g.first i h.rule h.is_there h.matches))
    (λ tied. ⊎_elim (λ other. absurd (better_not_tied g.rule h.rule other tied.0)) (λ back. omega (arith, tied.1, back.1)) (g.first i h.rule h.is_there h.matches))
    (h.first k g.rule g.is_there g.matches)

pub if_chosen : (rules : List Rule) (name : List ℕ) (n : ℕ) (o : Option ℕ) → length rules ≤ n → Best rules name n o → IfSome o (IsChosen rules name)
if_chosen rules name n None all h = search all_rules
if_chosen rules name n (Some i) all h = chosen_of rules name n i all h

pub if_none : (rules : List Rule) (name : List ℕ) (n : ℕ) (o : Option ℕ) → length rules ≤ n → Best rules name n o → IfNone o (All (λ rule. Matches rule.pattern name → ⊥) rules)
if_none rules name n None all h = none_of rules name n all h
if_none rules name n (Some i) all h = search all_rules

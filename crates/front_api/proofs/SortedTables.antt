-- Tables stay in order.
use Rattle.std.proofs.Common.{◌≡◌, ℕ, Bool, true, false, cond, List, [], ◌∷◌, ◌++◌, map, refl, sym, ap, subst, ◌∙◌}
use Rattle.std.specs.List.{filter, AllByRecursion}
use Rattle.std.specs.List.Sorted.{IsStrictlySortedBy}
use Rattle.std.specs.Ordering.{is_lt, is_gt, nat_cmp, ordering_reverse}
use Rattle.std.specs.Cmp.{IsTotalOrder, nat_cmp_total}
use Rattle.std.proofs.lemmas.Cmp.{nat_list_cmp_total}
use Rattle.std.specs.declared.cmp.Ordering.{Ordering}
use Rattle.std.specs.declared.cmp.Ordering.TheVariants.{Less, Equal, Greater}
use Rattle.archive_policy.specs.Policies.{ArchivePolicy}
use Rattle.policy_rules.specs.declared.rule.Rule.{Rule}
use Rattle.front_api.specs.declared.command.Command.{Command}
use Rattle.front_api.specs.declared.command.Command.TheVariants as commands
use Rattle.front_api.specs.declared.command.MetricDoc.{MetricDoc}
use Rattle.front_api.specs.declared.history.IndexCounted.{IndexCounted}
use Rattle.front_api.specs.declared.history.IndexCounted.TheVariants as counted
use Rattle.front_api.specs.Maps.{AreSorted, Maps, after_all, after_command, after_counted, new_maps}
use Rattle.front_api.specs.Tables.{Rises, above, below, gone, name_cmp, put}

module _ {X K : Type 0} (cmp : K → K → Ordering) (o : IsTotalOrder cmp) (key : X → K) where
  abbrev side : K → X → Ordering
  side k x = cmp (key x) k

  -- each key is below this one, or above it
  abbrev AllBelow : K → List X → Type 0
  AllBelow k xs = AllByRecursion (λ y. cmp y k ≡ Less) (map key xs)

  abbrev AllAbove : K → List X → Type 0
  AllAbove k xs = AllByRecursion (λ y. cmp k y ≡ Less) (map key xs)

  abbrev Sorted : List X → Type 0
  Sorted xs = IsStrictlySortedBy cmp (map key xs)

  sorted_cons : (x : X) (xs : List X) → AllAbove (key x) xs → Sorted xs → Sorted (x ∷ xs)
  unfolding IsStrictlySortedBy
  sorted_cons x xs all rest = (all, rest)

  sorted_head : (x : X) (xs : List X) → Sorted (x ∷ xs) → AllAbove (key x) xs
  unfolding IsStrictlySortedBy
  sorted_head x xs s = s.0

  sorted_tail : (x : X) (xs : List X) → Sorted (x ∷ xs) → Sorted xs
  unfolding IsStrictlySortedBy
  sorted_tail x xs s = s.1

  sorted_none : Sorted []
  unfolding IsStrictlySortedBy
  sorted_none = tt

  all_step : (P : K → Type 0) (b : Bool) (x : X) (xs : List X) → P (key x) → AllByRecursion P (map key xs) → AllByRecursion P (map key (cond b (x ∷ xs) xs))
  all_step P true x xs here rest = (here, rest)
  all_step P false x xs here rest = rest

  all-filter : (P : K → Type 0) (p : X → Bool) (xs : List X) → AllByRecursion P (map key xs) → AllByRecursion P (map key (filter p xs))
  all-filter P p [] all = tt
  all-filter P p (x ∷ xs) all = all_step P (p x) x (filter p xs) all.0 (all-filter P p xs all.1)

  sort_step : (b : Bool) (x : X) (xs : List X) → AllAbove (key x) xs → Sorted xs → Sorted (cond b (x ∷ xs) xs)
  sort_step true x xs all rest = sorted_cons x xs all rest
  sort_step false x xs all rest = rest

  Sorted-filter : (p : X → Bool) (xs : List X) → Sorted xs → Sorted (filter p xs)
  Sorted-filter p [] s = sorted_none
  Sorted-filter p (x ∷ xs) s = sort_step (p x) x (filter p xs) (all-filter (λ y. cmp (key x) y ≡ Less) p xs (sorted_head x xs s)) (Sorted-filter p xs (sorted_tail x xs s))

  below_step : (k : K) (v : Ordering) (x : X) (xs : List X) → side k x ≡ v → AllBelow k xs → AllBelow k (cond (is_lt v) (x ∷ xs) xs)
  below_step k Less x xs e rest = (e, rest)
  below_step k Equal x xs e rest = rest
  below_step k Greater x xs e rest = rest

  all_below : (k : K) (xs : List X) → AllBelow k (below (side k) xs)
  all_below k [] = tt
  all_below k (x ∷ xs) = below_step k (side k x) x (below (side k) xs) refl (all_below k xs)

  above_step : (k : K) (v : Ordering) (x : X) (xs : List X) → side k x ≡ v → AllAbove k xs → AllAbove k (cond (is_gt v) (x ∷ xs) xs)
  above_step k Less x xs e rest = rest
  above_step k Equal x xs e rest = rest
  above_step k Greater x xs e rest = (o.antisymm k (key x) ∙ ap ordering_reverse e, rest)

  all_above : (k : K) (xs : List X) → AllAbove k (above (side k) xs)
  all_above k [] = tt
  all_above k (x ∷ xs) = above_step k (side k x) x (above (side k) xs) refl (all_above k xs)

  -- what is above a key is above those below it
  above_lower : (k y : K) (xs : List X) → cmp y k ≡ Less → AllAbove k xs → AllAbove y xs
  above_lower k y [] lt all = tt
  above_lower k y (x ∷ xs) lt all = (o.trans y k (key x) lt all.0, above_lower k y xs lt all.1)

  all-append : (P : K → Type 0) (xs ys : List X) → AllByRecursion P (map key xs) → AllByRecursion P (map key ys) → AllByRecursion P (map key (xs ++ ys))
  all-append P [] ys all rest = rest
  all-append P (x ∷ xs) ys all rest = (all.0, all-append P xs ys all.1 rest)

  join_apart : (k : K) (xs ys : List X) → Sorted xs → Sorted ys → AllBelow k xs → AllAbove k ys → Sorted (xs ++ ys)
  join_apart k [] ys s t all rest = t
  join_apart k (x ∷ xs) ys s t all rest =
      sorted_cons x (xs ++ ys) (all-append (λ y. cmp (key x) y ≡ Less) xs ys (sorted_head x xs s) (above_lower k (key x) ys all.0 rest)) (join_apart k xs ys (sorted_tail x xs s) t all.1 rest)

  pub Rises-gone : (k : K) (xs : List X) → Rises cmp key xs → Rises cmp key (gone (side k) xs)
  Rises-gone k xs s = join_apart k (below (side k) xs) (above (side k) xs) (Sorted-filter (λ x. is_lt (side k x)) xs s) (Sorted-filter (λ x. is_gt (side k x)) xs s) (all_below k xs) (all_above k xs)

  join_at : (x : X) (xs ys : List X) → Sorted xs → Sorted ys → AllBelow (key x) xs → AllAbove (key x) ys → Sorted (xs ++ x ∷ ys)
  join_at x [] ys s t all rest = sorted_cons x ys rest t
  join_at x (z ∷ xs) ys s t all rest =
      sorted_cons z (xs ++ x ∷ ys) (all-append (λ y. cmp (key z) y ≡ Less) xs (x ∷ ys) (sorted_head z xs s) (all.0, above_lower (key x) (key z) ys all.0 rest)) (join_at x xs ys (sorted_tail z xs s) t all.1 rest)

  pub Rises-put : (k : K) (x : X) (xs : List X) → key x ≡ k → Rises cmp key xs → Rises cmp key (put (side k) x xs)
  Rises-put k x xs is s =
      let lower : AllBelow (key x) (below (side k) xs) = subst (λ j. AllBelow j (below (side k) xs)) (sym is) (all_below k xs) in
      let upper : AllAbove (key x) (above (side k) xs) = subst (λ j. AllAbove j (above (side k) xs)) (sym is) (all_above k xs) in
      join_at x (below (side k) xs) (above (side k) xs) (Sorted-filter (λ y. is_lt (side k y)) xs s) (Sorted-filter (λ y. is_gt (side k y)) xs s) lower upper

  pub Rises-none : Rises cmp key []
  Rises-none = sorted_none

-- ---- the four maps

sorted_command : (m : Maps) (command : Command) → AreSorted m → AreSorted (after_command m command)
sorted_command m (commands.AddPolicy p) s = record { policies = Rises-put name_cmp nat_list_cmp_total (λ (q : ArchivePolicy). q.name) p.name p m.policies refl s.policies; rules = s.rules; metrics = s.metrics; resources = s.resources }
sorted_command m (commands.GetPolicy name) s = s
sorted_command m commands.ListPolicies s = s
sorted_command m (commands.DropPolicy name) s = record { policies = Rises-gone name_cmp nat_list_cmp_total (λ (q : ArchivePolicy). q.name) name m.policies s.policies; rules = s.rules; metrics = s.metrics; resources = s.resources }
sorted_command m (commands.AddRule r) s = record { policies = s.policies; rules = Rises-put name_cmp nat_list_cmp_total (λ (q : Rule). q.name) r.name r m.rules refl s.rules; metrics = s.metrics; resources = s.resources }
sorted_command m (commands.GetRule name) s = s
sorted_command m commands.ListRules s = s
sorted_command m (commands.DropRule name) s = record { policies = s.policies; rules = Rises-gone name_cmp nat_list_cmp_total (λ (q : Rule). q.name) name m.rules s.rules; metrics = s.metrics; resources = s.resources }
sorted_command m (commands.AddMetric policy name unit resource) s = s
sorted_command m (commands.GetMetric id) s = s
sorted_command m commands.ListMetrics s = s
sorted_command m (commands.DropMetric id) s = record { policies = s.policies; rules = s.rules; metrics = Rises-gone nat_cmp nat_cmp_total (λ (d : MetricDoc). d.id.0) id.0 m.metrics s.metrics; resources = s.resources }
sorted_command m (commands.AddResource id) s = record { policies = s.policies; rules = s.rules; metrics = s.metrics; resources = Rises-put nat_cmp nat_cmp_total (λ (r : ℕ). r) id id m.resources refl s.resources }
sorted_command m (commands.GetResource id) s = s
sorted_command m commands.ListResources s = s
sorted_command m (commands.DropResource id) s = record { policies = s.policies; rules = s.rules; metrics = s.metrics; resources = Rises-gone nat_cmp nat_cmp_total (λ (r : ℕ). r) id m.resources s.resources }
sorted_command m (commands.FindMetric resource name) s = s

pub sorted_after : (m : Maps) (c : IndexCounted) → AreSorted m → AreSorted (after_counted m c)
sorted_after m (counted.Command command) s = sorted_command m command s
sorted_after m (counted.Draw counter) s = record { policies = s.policies; rules = s.rules; metrics = s.metrics; resources = s.resources }
sorted_after m (counted.Add doc) s = record { policies = s.policies; rules = s.rules; metrics = Rises-put nat_cmp nat_cmp_total (λ (d : MetricDoc). d.id.0) doc.id.0 doc m.metrics refl s.metrics; resources = s.resources }

pub sorted_all : (m : Maps) (cs : List IndexCounted) → AreSorted m → AreSorted (after_all m cs)
sorted_all m [] s = s
sorted_all m (c ∷ cs) s = sorted_all (after_counted m c) cs (sorted_after m c s)

pub sorted_new : (number : ℕ) → AreSorted (new_maps number)
sorted_new number = record {
  policies = Rises-none name_cmp nat_list_cmp_total (λ (p : ArchivePolicy). p.name);
  rules = Rises-none name_cmp nat_list_cmp_total (λ (r : Rule). r.name);
  metrics = Rises-none nat_cmp nat_cmp_total (λ (d : MetricDoc). d.id.0);
  resources = Rises-none nat_cmp nat_cmp_total (λ (r : ℕ). r);
}

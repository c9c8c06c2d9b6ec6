-- What is kept of the maps stays as records are taken in.
use Rattle.std.proofs.Common.{◌≡◌, Bool, true, false, cond, not, List, [], ◌∷◌, ◌++◌, Option, Some, None, refl, sym, subst, arith}
use Rattle.std.specs.Bool.{IsTrue}
use Rattle.std.specs.List.{AllByRecursion, filter}
use Rattle.std.specs.Option.{is_some}
use Rattle.std.specs.Ordering.{is_gt, is_lt}
use Rattle.std.specs.declared.cmp.Ordering.{Ordering}
use Rattle.gno_codec.specs.Index.{IsIndex}
use Rattle.gno_codec.specs.declared.item.IndexItem.{IndexItem}
use Rattle.gno_codec.specs.declared.item.IndexItem.TheVariants as items
use Rattle.front_api.specs.declared.command.Command.TheVariants as commands
use Rattle.front_api.specs.declared.command.MetricDoc.{MetricDoc}
use Rattle.front_api.specs.declared.history.IndexCounted.{IndexCounted}
use Rattle.front_api.specs.declared.history.IndexCounted.TheVariants as counted
use Rattle.front_api.specs.Maps.{Maps, after_counted, metric_to}
use Rattle.front_api.specs.Tables.{above, below, gone, put}
use Rattle.front_api.proofs.SortedTables.{sorted_after}
use Rattle.metric_index.specs.Catalog.{AreKept, IsNamed}
use Rattle.metric_index.specs.Items.{May, after_one, counted_of}

pub none_iff : {X : Type 0} (o : Option X) (b : Bool) → is_some o ≡ not b → (IsTrue b → o ≡ None) × (o ≡ None → IsTrue b)
none_iff None true e = (λ t. refl, λ h. refl)
none_iff None false e = absurd cc
none_iff (Some x) true e = absurd cc
none_iff (Some x) false e = (λ t. absurd cc, λ h. absurd cc)

-- ---- items of a table

module _ {X : Type 0} (P : X → Type 0) where
  keep_step : (b : Bool) (x : X) (xs : List X) → P x → AllByRecursion P xs → AllByRecursion P (cond b (x ∷ xs) xs)
  keep_step true x xs here rest = (here, rest)
  keep_step false x xs here rest = rest

  all-filter : (p : X → Bool) (xs : List X) → AllByRecursion P xs → AllByRecursion P (filter p xs)
  all-filter p [] all = tt
  all-filter p (x ∷ xs) all = keep_step (p x) x (filter p xs) all.0 (all-filter p xs all.1)

  all-append : (xs ys : List X) → AllByRecursion P xs → AllByRecursion P ys → AllByRecursion P (xs ++ ys)
  all-append [] ys all rest = rest
  all-append (x ∷ xs) ys all rest = (all.0, all-append xs ys all.1 rest)

  all-gone : (order : X → Ordering) (xs : List X) → AllByRecursion P xs → AllByRecursion P (gone order xs)
  all-gone order xs all = all-append (below order xs) (above order xs) (all-filter (λ x. is_lt (order x)) xs all) (all-filter (λ x. is_gt (order x)) xs all)

  all-put : (order : X → Ordering) (x : X) (xs : List X) → P x → AllByRecursion P xs → AllByRecursion P (put order x xs)
  all-put order x xs here all = all-append (below order xs) (x ∷ above order xs) (all-filter (λ x. is_lt (order x)) xs all) (here, all-filter (λ x. is_gt (order x)) xs all)

-- ---- after a record

same_metrics : (m : Maps) (c : IndexCounted) → AreKept m → (after_counted m c).number ≡ m.number → (after_counted m c).counter ≡ m.counter → (after_counted m c).metrics ≡ m.metrics → AreKept (after_counted m c)
same_metrics m c k number counter metrics = record {
  sorted = sorted_after m c k.sorted;
  named = subst (AllByRecursion IsNamed) (sym metrics) k.named;
  number = omega (arith, number, k.number);
  counter = omega (arith, counter, k.counter);
}

pub kept_item : (m : Maps) (item : IndexItem) → AreKept m → May m (counted_of item) → IsIndex item → AreKept (after_one m (counted_of item))
kept_item m (items.Store number counter) k may fits = k
kept_item m (items.AddPolicy policy) k may fits = same_metrics m (counted.Command (commands.AddPolicy policy)) k refl refl refl
kept_item m (items.DropPolicy name) k may fits = same_metrics m (counted.Command (commands.DropPolicy name)) k refl refl refl
kept_item m (items.AddRule rule) k may fits = same_metrics m (counted.Command (commands.AddRule rule)) k refl refl refl
kept_item m (items.DropRule name) k may fits = same_metrics m (counted.Command (commands.DropRule name)) k refl refl refl
kept_item m (items.Draw counter) k may fits =
    let s = sorted_after m (counted.Draw counter) k.sorted in
    record { sorted = s; named = k.named; number = k.number; counter = may.1 }
kept_item m (items.AddMetric id policy name unit resource) k may fits =
    let doc : MetricDoc = record { id = id; policy = policy; name = name; unit = unit; resource = resource } in
    record { sorted = sorted_after m (counted.Add doc) k.sorted; named = all-put IsNamed (metric_to id.0) doc m.metrics fits.named k.named; number = k.number; counter = k.counter }
kept_item m (items.DropMetric id) k may fits =
    record { sorted = sorted_after m (counted.Command (commands.DropMetric id)) k.sorted; named = all-gone IsNamed (metric_to id.0) m.metrics k.named; number = k.number; counter = k.counter }
kept_item m (items.AddResource id) k may fits = same_metrics m (counted.Command (commands.AddResource id)) k refl refl refl
kept_item m (items.DropResource id) k may fits = same_metrics m (counted.Command (commands.DropResource id)) k refl refl refl

-- What is made for each series of a metric.
use Rattle.std.proofs.Common.{◌≡◌, ℕ, ◌+◌, ◌*◌, ◌%◌, ◌<◌, ◌≤◌, List, [], ◌∷◌, ◌++◌, length, map, take, drop, slice_get, Option, Some, None, IfSome, Result, Ok, Err, IfOk, IfErr, inl, inr, length-append, refl, sym, ap, subst, ◌∙◌, arith}
use Rattle.std.specs.Option.{IsSomeAnd}
use Rattle.std.specs.List.{All, AllZip, Contains}
use Rattle.std.specs.List.Sorted.{IsStrictlyIncreasing}
use Rattle.std.proofs.lemmas.Bool.{cases_lt}
use Rattle.std.proofs.lemmas.Option.{same_Some, none-some}
use Rattle.archive_policy.specs.declared.definition.Definition.{Definition}
use Rattle.archive_policy.specs.declared.kind.Kind.{Kind}
use Rattle.archive_policy.specs.Policies.{ArchivePolicy}
use Rattle.series_model.specs.declared.point.Point.{Point}
use Rattle.series_model.specs.declared.point.Split.{Split}
use Rattle.series_model.specs.Stored.{split_span}
use Rattle.bound_series.specs.Jobs.{AreNew, IsPrepared, PreparedView, points_for}
use Rattle.split_update.specs.Update.{AreSplits, oldest_by, splits_after}
use Rattle.shelf_records.specs.declared.series.Stored.{Stored}
use Rattle.shelf_records.specs.Filed.{IsFiled}
use Rattle.shelf_records.specs.Shelved.{Kept, Shelved}
use Rattle.shelf_blocks.specs.declared.fault.BlockFault.{BlockFault}
use Rattle.shelf_blocks.specs.declared.fault.BlockFault.TheVariants.{Failed, Damaged, Memory}
use Rattle.shelf_blocks.specs.declared.turn.Made.{Made}
use Rattle.shelf_blocks.specs.BlockFaults.{MatchBlockFault}
use Rattle.shelf_blocks.specs.Blocks.{HoldsSplit}
use Rattle.shelf_blocks.specs.Turns.{AreMade, HasKeys, IsDamagedSplit, IsDamagedSplitOf, IsMade, IsMadeAt}
use Rattle.shelf_blocks.proofs.SeriesPlaces.{IsOf, all_at, contains_at, get_left, get_right, get_within, place_within, series_at}

-- what is there, and has P
pub record Found {X : Type 0} (o : Option X) (P : X → Type 0) : Type 0 where
  pub it : X
  pub is : o ≡ Some it
  pub has : P it

pub found : {X : Type 0} (o : Option X) (P : X → Type 0) → IsSomeAnd o P → Found o P
found None P some = absurd some
found (Some x) P some = record { it = x; is = refl; has = some }

-- the four facts of what was made are one
pub made_is : {E : Type 0} (result : Result Made E) (told : Option (List ℕ)) (d : Definition) (last from : Option ℕ) (points : List Point) (stored : List Stored)
    → IfOk result (λ made. (made.kept.first ≤ made.kept.until) × (made.kept.until ≤ length stored)) → IfOk result (λ made. AreSplits d.granularity made.splits.items)
    → IfOk result (λ made. IsStrictlyIncreasing (map (λ s. s.key) (drop made.kept.first (take made.kept.until stored)) ++ map (λ s. s.key) made.splits.items))
    → IfOk result (λ made. IfSome told (λ z. (old : List Split) → AllZip (HoldsSplit z d.granularity) stored old → drop made.kept.first (take made.kept.until old) ++ made.splits.items ≡ splits_after d.granularity (oldest_by d last) from points old))
    → IfOk result (IsMade told d last from points stored)
made_is (Ok made) told d last from points stored within formed rising after = record { order = within.0; within = within.1; formed = formed; rising = rising; after = after }
made_is (Err fault) told d last from points stored within formed rising after = tt

pub ok_weaker : {T E : Type 0} (result : Result T E) (P Q : T → Type 0) → ((x : T) → P x → Q x) → IfOk result P → IfOk result Q
ok_weaker (Ok x) P Q then has = then x has
ok_weaker (Err e) P Q then has = tt

-- damage of one series is that of the metric
pub fault_weaker : (e : BlockFault) {P P' : Type 0} (R : Type 0) (Q Q' : ℕ → Type 0) → (P → P') → ((at : ℕ) → Q at → Q' at) → MatchBlockFault e P Q R → MatchBlockFault e P' Q' R
fault_weaker Failed R Q Q' up over was = up was
fault_weaker (Damaged at) R Q Q' up over was = over at was
fault_weaker Memory R Q Q' up over was = was

pub err_weaker : {T : Type 0} (result : Result T BlockFault) {P P' : Type 0} (R : Type 0) (Q Q' : ℕ → Type 0) → (P → P') → ((at : ℕ) → Q at → Q' at) → IfErr result (λ e. MatchBlockFault e P Q R) → IfErr result (λ e. MatchBlockFault e P' Q' R)
err_weaker (Ok x) R Q Q' up over was = tt
err_weaker (Err e) R Q Q' up over was = fault_weaker e R Q Q' up over was

pub told_series : (told : Option (List ℕ)) (m : Shelved) (place : ℕ) (kept : Kept) (d : Definition) (at : ℕ) → slice_get m.kept place ≡ Some kept → slice_get m.policy.definitions kept.definition ≡ Some d
    → IfSome told (λ z. IsDamagedSplit z d.granularity kept.splits at) → IfSome told (λ z. IsDamagedSplitOf z m at)
told_series None m place kept d at there of damaged = tt
told_series (Some z) m place kept d at there of damaged = (kept, d, contains_at m.kept place kept there, of, damaged)

module _ (told : Option (List ℕ)) (m : Shelved) (p : PreparedView) (i k place : ℕ) (kind : Kind) (d : Definition) (filed : IsFiled m) (same : p.job.policy ≡ m.policy) (kind_is : slice_get m.policy.kinds k ≡ Some kind)
    (d_is : slice_get m.policy.definitions i ≡ Some d) (place_is : place ≡ i * length m.policy.kinds + k) where
  pub one_place : place < length m.kept
  one_place = subst (λ (n : ℕ). n < length m.kept) (sym place_is) (place_within m i k kind filed kind_is (get_within m.policy.definitions i d d_is))

  pub of_place : (kept : Kept) → slice_get m.kept place ≡ Some kept → IsOf m i kind kept
  of_place kept there = series_at m i k kind kept filed kind_is (get_within m.policy.definitions i d d_is) (ap (slice_get m.kept) (sym place_is) ∙ there)

  pub defined : (kept : Kept) → slice_get m.kept place ≡ Some kept → slice_get m.policy.definitions kept.definition ≡ Some d
  defined kept there = ap (slice_get m.policy.definitions) (of_place kept there).definition ∙ d_is

  pub new_for : IsPrepared p → AreNew d.granularity p.from (points_for p i kind)
  new_for prepared =
      prepared.new i d kind (ap (λ (q : ArchivePolicy). slice_get q.definitions i) same ∙ d_is)
      (subst (λ (q : ArchivePolicy). Contains q.kinds kind) (sym same) (contains_at m.policy.kinds k kind kind_is))

  pub keys_for : All (HasKeys m.policy) m.kept → (kept : Kept) → slice_get m.kept place ≡ Some kept → All (λ s. s.key % split_span d.granularity ≡ 0) kept.splits
  keys_for keys kept there = all_at (HasKeys m.policy) m.kept place kept keys there d (defined kept there)

  pub made_for : (kept : Kept) (made : Made) → slice_get m.kept place ≡ Some kept → IsMade told d p.raw.last p.from (points_for p i kind) kept.splits made → IsMadeAt told m p place made
  made_for kept made there is = λ other e other_there e_is.
      let one = same_Some kept other (sym there ∙ other_there) in
      let of = of_place other other_there in
      let e_same : d ≡ e = same_Some d e (sym (defined other other_there) ∙ e_is) in
      subst (λ (f : Definition). IsMade told f p.raw.last p.from (points_for p other.definition other.kind) other.splits made) e_same
      (subst (λ (o : Kept). IsMade told d p.raw.last p.from (points_for p other.definition other.kind) o.splits made) one
      (subst (λ (n : ℕ). IsMade told d p.raw.last p.from (points_for p n other.kind) kept.splits made) (sym of.definition)
      (subst (λ (x : Kind). IsMade told d p.raw.last p.from (points_for p i x) kept.splits made) (sym of.kind_is) is)))

-- nothing yet
pub none_yet : (told : Option (List ℕ)) (m : Shelved) (p : PreparedView) → AreMade told m p []
none_yet told m p place made is = absurd (none-some made is)

-- one more
pub made_more : (told : Option (List ℕ)) (m : Shelved) (p : PreparedView) (all : List Made) (made : Made) → AreMade told m p all → IsMadeAt told m p (length all) made → AreMade told m p (all ++ made ∷ [])
made_more told m p all made so_far next place one is = elim (cases_lt place (length all)) [
  | inl lt ↦ so_far place one (sym (get_left all (made ∷ []) place lt) ∙ is)
  | inr ge ↦ (let short = get_within (all ++ made ∷ []) place one is in
      let here : place ≡ length all = omega (arith, ge, short, length-append all (made ∷ [])) in
      let same : made ≡ one = same_Some made one (sym (get_right all (made ∷ []) 0) ∙ ap (slice_get (all ++ made ∷ [])) (let e : length all + 0 ≡ place = omega (arith, here) in e) ∙ is) in
      subst (λ (n : ℕ). IsMadeAt told m p n one) (sym here) (subst (IsMadeAt told m p (length all)) same next))
]

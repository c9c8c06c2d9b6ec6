-- The series of a policy, in order.
use Rattle.std.proofs.Common.{◌≡◌, ℕ, zero, suc, ◌+◌, ◌*◌, ◌<◌, ◌≤◌, Bool, true, false, cond, ltb, eqb, List, [], ◌∷◌, ◌++◌, map, length, Option, Some, None, refl, sym, ap, subst, ◌∙◌, length-append, arith}
use Rattle.std.specs.Prelude.{◌&&◌}
use Rattle.std.specs.List.{All, position, slice_get}
use Rattle.std.specs.Option.{IsSomeAnd, option_map}
use Rattle.std.specs.List.Sorted.{IsStrictlyIncreasing}
use Rattle.std.proofs.Math.Logic.{⊎_elim}
use Rattle.std.proofs.lemmas.Bool.{lt-ltb, le-ltb, eq-eqb, ne_eqb, cases_lt}
use Rattle.std.proofs.lemmas.Option.{none-some, same_Some}
use Rattle.std.proofs.lemmas.List.{length-map, map-append}
use Rattle.std.proofs.lemmas.List.Elements.{All-cons, All-nil, All-head, All-tail}
use Rattle.archive_policy.specs.declared.definition.Definition.{Definition}
use Rattle.archive_policy.specs.declared.kind.Kind.{Kind}
use Rattle.archive_policy.specs.Kinds.{kind_index}
use Rattle.archive_policy.specs.Policies.{ArchivePolicy}
use Rattle.archive_policy.proofs.KindLemmas.{place_below}
use Rattle.archive_policy.proofs.Rising.{Above, Rises, Rises_from_rising, rising_from_Rises}
use Rattle.shelf_records.specs.declared.series.Stored.{Stored}
use Rattle.shelf_records.specs.Filed.{AreRising, emptied, is_series_of, layout_of, place_in, splits_of, with_splits}
use Rattle.shelf_records.specs.Shelved.{Kept, none_kept}
use Rattle.shelf_records.proofs.First.{first-append, first_at, or_else, or_none, position_is}

abbrev pub none_of : ℕ → Kind → Kept
none_of place kind = record { definition = place; kind = kind; splits = [] }

pub length-none : (kinds : List Kind) (place : ℕ) (ds : List Definition) → length (none_kept kinds place ds) ≡ length ds * length kinds
length-none kinds place [] = omega arith
length-none kinds place (d ∷ ds) =
    length-append (map (none_of place) kinds) (none_kept kinds (place + 1) ds)
    ∙ omega (arith, length-map kinds (none_of place), length-none kinds (place + 1) ds)

emptied_map : (kinds : List Kind) (place : ℕ) → map emptied (map (none_of place) kinds) ≡ map (none_of place) kinds
emptied_map [] place = refl
emptied_map (k ∷ kinds) place = ap (λ l. none_of place k ∷ l) (emptied_map kinds place)

-- a layout has no splits
pub emptied_none : (kinds : List Kind) (place : ℕ) (ds : List Definition) → map emptied (none_kept kinds place ds) ≡ none_kept kinds place ds
emptied_none kinds place [] = refl
emptied_none kinds place (d ∷ ds) =
    map-append emptied (map (none_of place) kinds) (none_kept kinds (place + 1) ds)
    ∙ ap (λ l. l ++ map emptied (none_kept kinds (place + 1) ds)) (emptied_map kinds place)
    ∙ ap (λ l. map (none_of place) kinds ++ l) (emptied_none kinds (place + 1) ds)

pub emptied_with : (layout : List Kept) (series : List (List Stored)) → length series ≡ length layout → map emptied (with_splits layout series) ≡ map emptied layout
emptied_with [] series same = refl
emptied_with (k ∷ layout) [] same = absurd (omega (arith, same))
emptied_with (k ∷ layout) (s ∷ series) same = ap (λ l. emptied k ∷ l) (emptied_with layout series (omega (arith, same)))

pub length-with : (layout : List Kept) (series : List (List Stored)) → length series ≡ length layout → length (with_splits layout series) ≡ length series
length-with [] series same = sym same
length-with (k ∷ layout) [] same = refl
length-with (k ∷ layout) (s ∷ series) same = ap suc (length-with layout series (omega (arith, same)))

pub rising_with : (layout : List Kept) (series : List (List Stored)) → All AreRising series → All (λ (kept : Kept). AreRising kept.splits) (with_splits layout series)
rising_with [] series all = All-nil (λ (kept : Kept). AreRising kept.splits)
rising_with (k ∷ layout) [] all = All-nil (λ (kept : Kept). AreRising kept.splits)
rising_with (k ∷ layout) (s ∷ series) all =
    All-cons (λ (kept : Kept). AreRising kept.splits) (record k { splits = s }) (with_splits layout series) (All-head AreRising s series all) (rising_with layout series (All-tail AreRising s series all))

pub get_with : (layout : List Kept) (series : List (List Stored)) (place : ℕ) (s : List Stored) → length series ≡ length layout → slice_get series place ≡ Some s → IsSomeAnd (slice_get (with_splits layout series) place) (λ kept. s ≡ kept.splits)
get_with [] [] place s same there = absurd (none-some s there)
get_with [] (x ∷ series) place s same there = absurd (omega (arith, same))
get_with (k ∷ layout) [] place s same there = absurd (none-some s there)
get_with (k ∷ layout) (x ∷ series) zero s same there = sym (same_Some x s there)
get_with (k ∷ layout) (x ∷ series) (suc place) s same there = get_with layout series place s (omega (arith, same)) there

-- series without splits are the layout
pub with_none : (layout : List Kept) (series : List (List Stored)) → length series ≡ length layout → map emptied layout ≡ layout → All (λ splits. splits ≡ []) series → with_splits layout series ≡ layout
with_none layout series same none all = empty layout series same all ∙ none
  where
    empty : (layout : List Kept) (series : List (List Stored)) → length series ≡ length layout → All (λ splits. splits ≡ []) series → with_splits layout series ≡ map emptied layout
    empty [] series same all = refl
    empty (k ∷ layout) [] same all = absurd (omega (arith, same))
    empty (k ∷ layout) (s ∷ series) same all =
        let own : record k { splits = s } ≡ emptied k = ap (λ (x : List Stored). record k { splits = x }) (All-head (λ splits. splits ≡ []) s series all) in
        ap (λ (x : Kept). x ∷ with_splits layout series) own
        ∙ ap (λ l. emptied k ∷ l) (empty layout series (omega (arith, same)) (All-tail (λ splits. splits ≡ []) s series all))

-- ---- how many kinds

kinds_above : (low : ℕ) (kinds : List Kind) → low < 16 → Above low (map kind_index kinds) → Rises (map kind_index kinds) → low + 1 + length kinds ≤ 16
kinds_above low [] below above rises = omega (arith, below)
kinds_above low (k ∷ kinds) below above rises =
    omega (arith, above.0, kinds_above (kind_index k) kinds (place_below k) rises.0 rises.1)

pub few_kinds : (kinds : List Kind) → IsStrictlyIncreasing (map kind_index kinds) → length kinds ≤ 16
few_kinds [] rising = omega arith
few_kinds (k ∷ kinds) rising =
    let rises = Rises_from_rising (map kind_index (k ∷ kinds)) rising in
    omega (arith, kinds_above (kind_index k) kinds (place_below k) rises.0 rises.1)

-- ---- where a definition and kind stands

abbrev is_kind : Kind → Kind → Bool
is_kind kind k = eqb (kind_index k) (kind_index kind)

of_own : (d : ℕ) (kind : Kind) (kinds : List Kind) → first_at (is_series_of d kind) (map (none_of d) kinds) ≡ first_at (is_kind kind) kinds
of_own d kind [] = refl
of_own d kind (k ∷ kinds) =
    let own : is_series_of d kind (none_of d k) ≡ is_kind kind k = ap (λ b. b && is_kind kind k) (eq-eqb d d refl) in
    ap (λ b. cond b (Some 0) (option_map (λ i. 1 + i) (first_at (is_series_of d kind) (map (none_of d) kinds)))) own
    ∙ ap (λ o. cond (is_kind kind k) (Some 0) (option_map (λ i. 1 + i) o)) (of_own d kind kinds)

none_of_other : (d place : ℕ) (kind : Kind) (kinds : List Kind) → (place ≡ d → ⊥) → first_at (is_series_of d kind) (map (none_of place) kinds) ≡ None
none_of_other d place kind [] apart = refl
none_of_other d place kind (k ∷ kinds) apart =
    let own : is_series_of d kind (none_of place k) ≡ false = ap (λ b. b && is_kind kind k) (ne_eqb place d apart) in
    ap (λ b. cond b (Some 0) (option_map (λ i. 1 + i) (first_at (is_series_of d kind) (map (none_of place) kinds)))) own
    ∙ ap (option_map (λ i. 1 + i)) (none_of_other d place kind kinds apart)

none_later : (d place : ℕ) (kind : Kind) (kinds : List Kind) (ds : List Definition) → d < place → first_at (is_series_of d kind) (none_kept kinds place ds) ≡ None
none_later d place kind kinds [] below = refl
none_later d place kind kinds (x ∷ ds) below =
    first-append (is_series_of d kind) (map (none_of place) kinds) (none_kept kinds (place + 1) ds)
    ∙ ap (λ o. or_else o (option_map (λ i. length (map (none_of place) kinds) + i) (first_at (is_series_of d kind) (none_kept kinds (place + 1) ds)))) (none_of_other d place kind kinds (λ same. omega (arith, same, below)))
    ∙ ap (option_map (λ i. length (map (none_of place) kinds) + i)) (none_later d (place + 1) kind kinds ds (omega (arith, below)))

-- by the number of definitions in front
pub stands_at : (e place : ℕ) (kind : Kind) (kinds : List Kind) (ds : List Definition) → first_at (is_series_of (place + e) kind) (none_kept kinds place ds) ≡ cond (ltb e (length ds)) (option_map (λ i. e * length kinds + i) (first_at (is_kind kind) kinds)) None
stands_at e place kind kinds [] =
    sym (ap (λ b. cond b (option_map (λ i. e * length kinds + i) (first_at (is_kind kind) kinds)) None) (le-ltb e 0 (omega arith)))
stands_at zero place kind kinds (x ∷ ds) =
    let d = place + 0 in
    let here : d ≡ place = omega arith in
    first-append (is_series_of d kind) (map (none_of place) kinds) (none_kept kinds (place + 1) ds)
    ∙ ap (λ o. or_else (first_at (is_series_of d kind) (map (none_of place) kinds)) (option_map (λ i. length (map (none_of place) kinds) + i) o)) (none_later d (place + 1) kind kinds ds (omega (arith, here)))
    ∙ or_none (first_at (is_series_of d kind) (map (none_of place) kinds))
    ∙ ap (λ n. first_at (is_series_of n kind) (map (none_of place) kinds)) here
    ∙ of_own place kind kinds
    ∙ sym (ap (λ b. cond b (option_map (λ i. 0 * length kinds + i) (first_at (is_kind kind) kinds)) None) (lt-ltb 0 (suc (length ds)) (omega arith)) ∙ same (first_at (is_kind kind) kinds))
  where
    same : (o : Option ℕ) → option_map (λ i. 0 * length kinds + i) o ≡ o
    same None = refl
    same (Some i) = ap Some (omega arith)
stands_at (suc e) place kind kinds (x ∷ ds) =
    let d = place + suc e in
    let next : d ≡ place + 1 + e = omega arith in
    first-append (is_series_of d kind) (map (none_of place) kinds) (none_kept kinds (place + 1) ds)
    ∙ ap (λ o. or_else o (option_map (λ i. length (map (none_of place) kinds) + i) (first_at (is_series_of d kind) (none_kept kinds (place + 1) ds)))) (none_of_other d place kind kinds (λ same. omega (arith, same)))
    ∙ ap (λ n. option_map (λ i. length (map (none_of place) kinds) + i) (first_at (is_series_of n kind) (none_kept kinds (place + 1) ds))) next
    ∙ ap (option_map (λ i. length (map (none_of place) kinds) + i)) (stands_at e (place + 1) kind kinds ds)
    ∙ behind (first_at (is_kind kind) kinds)
  where
    moved : (o : Option ℕ) → option_map (λ i. length (map (none_of place) kinds) + i) (option_map (λ i. e * length kinds + i) o) ≡ option_map (λ i. suc e * length kinds + i) o
    moved None = refl
    moved (Some i) = ap Some (omega (arith, length-map kinds (none_of place)))

    behind : (o : Option ℕ) → option_map (λ i. length (map (none_of place) kinds) + i) (cond (ltb e (length ds)) (option_map (λ i. e * length kinds + i) o) None) ≡ cond (ltb (suc e) (suc (length ds))) (option_map (λ i. suc e * length kinds + i) o) None
    behind o =
        ⊎_elim
        (λ lt.
        ap (λ b. option_map (λ i. length (map (none_of place) kinds) + i) (cond b (option_map (λ i. e * length kinds + i) o) None)) (lt-ltb e (length ds) lt)
        ∙ moved o
        ∙ sym (ap (λ b. cond b (option_map (λ i. suc e * length kinds + i) o) None) (lt-ltb (suc e) (suc (length ds)) (omega (arith, lt)))))
        (λ ge.
        ap (λ b. option_map (λ i. length (map (none_of place) kinds) + i) (cond b (option_map (λ i. e * length kinds + i) o) None)) (le-ltb e (length ds) ge)
        ∙ sym (ap (λ b. cond b (option_map (λ i. suc e * length kinds + i) o) None) (le-ltb (suc e) (suc (length ds)) (omega (arith, ge)))))
        (cases_lt e (length ds))

-- with other splits it stands there too
pub first_with : (d : ℕ) (kind : Kind) (layout : List Kept) (series : List (List Stored)) → length series ≡ length layout → first_at (is_series_of d kind) (with_splits layout series) ≡ first_at (is_series_of d kind) layout
first_with d kind [] series same = refl
first_with d kind (k ∷ layout) [] same = absurd (omega (arith, same))
first_with d kind (k ∷ layout) (s ∷ series) same =
    ap (λ o. cond (is_series_of d kind k) (Some 0) (option_map (λ i. 1 + i) o)) (first_with d kind layout series (omega (arith, same)))

-- the place by a policy is the first one
pub place_first : (policy : ArchivePolicy) (d : ℕ) (kind : Kind) (series : List (List Stored)) → length series ≡ length (layout_of policy) → place_in policy d kind ≡ position (is_series_of d kind) (with_splits (layout_of policy) series)
place_first policy d kind series paired =
    let kinds = policy.kinds in
    let ds = policy.definitions in
    let none : 0 + d ≡ d = omega arith in
    ap (λ o. cond (ltb d (length ds)) (option_map (λ i. d * length kinds + i) o) None) (position_is (is_kind kind) kinds)
    ∙ sym (stands_at d 0 kind kinds ds)
    ∙ ap (λ (n : ℕ). first_at (is_series_of n kind) (layout_of policy)) none
    ∙ sym (first_with d kind (layout_of policy) series paired)
    ∙ sym (position_is (is_series_of d kind) (with_splits (layout_of policy) series))

-- what stands there
pub splits_first : (d : ℕ) (kind : Kind) (kept : List Kept) (place : ℕ) → first_at (is_series_of d kind) kept ≡ Some place → IsSomeAnd (slice_get kept place) (λ k. splits_of d kind kept ≡ k.splits)
splits_first d kind [] place is = absurd (none-some place is)
splits_first d kind (k ∷ kept) place is = by (is_series_of d kind k) (first_at (is_series_of d kind) kept) (splits_first d kind kept) place is
  where
    by : (b : Bool) (o : Option ℕ) → ((p : ℕ) → o ≡ Some p → IsSomeAnd (slice_get kept p) (λ x. splits_of d kind kept ≡ x.splits)) → (place : ℕ) → cond b (Some 0) (option_map (λ i. 1 + i) o) ≡ Some place → IsSomeAnd (slice_get (k ∷ kept) place) (λ x. cond b k.splits (splits_of d kind kept) ≡ x.splits)
    by true o rest zero is = refl
    by true o rest (suc p) is = absurd (omega (arith, same_Some 0 (suc p) is))
    by false None rest place is = absurd (none-some place is)
    by false (Some i) rest zero is = absurd (omega (arith, same_Some (1 + i) 0 is))
    by false (Some i) rest (suc p) is = let here : i ≡ p = omega (arith, same_Some (1 + i) (suc p) is) in rest p (ap Some here)

pub splits_none : (d : ℕ) (kind : Kind) (kept : List Kept) → first_at (is_series_of d kind) kept ≡ None → splits_of d kind kept ≡ []
splits_none d kind [] is = refl
splits_none d kind (k ∷ kept) is = by (is_series_of d kind k) (first_at (is_series_of d kind) kept) (splits_none d kind kept) is
  where
    by : (b : Bool) (o : Option ℕ) → (o ≡ None → splits_of d kind kept ≡ []) → cond b (Some 0) (option_map (λ i. 1 + i) o) ≡ None → cond b k.splits (splits_of d kind kept) ≡ []
    by true o rest is = absurd (none-some 0 (sym is))
    by false None rest is = rest refl
    by false (Some i) rest is = absurd (none-some (1 + i) (sym is))

pub splits_position : (d : ℕ) (kind : Kind) (kept : List Kept) (place : ℕ) → position (is_series_of d kind) kept ≡ Some place → IsSomeAnd (slice_get kept place) (λ k. splits_of d kind kept ≡ k.splits)
splits_position d kind kept place is = splits_first d kind kept place (sym (position_is (is_series_of d kind) kept) ∙ is)

pub splits_nowhere : (d : ℕ) (kind : Kind) (kept : List Kept) → position (is_series_of d kind) kept ≡ None → splits_of d kind kept ≡ []
splits_nowhere d kind kept is = splits_none d kind kept (sym (position_is (is_series_of d kind) kept) ∙ is)

pub same_at : (kept : List Kept) (place : ℕ) (a b : List Stored) → IsSomeAnd (slice_get kept place) (λ k. a ≡ k.splits) → IsSomeAnd (slice_get kept place) (λ k. b ≡ k.splits) → a ≡ b
same_at kept place a b one two = by (slice_get kept place) one two
  where
    by : (o : Option Kept) → IsSomeAnd o (λ k. a ≡ k.splits) → IsSomeAnd o (λ k. b ≡ k.splits) → a ≡ b
    by None one two = absurd one
    by (Some k) one two = one ∙ sym two

pub none_rises : (splits : List Stored) → splits ≡ [] → AreRising splits
none_rises splits none = subst AreRising (sym none) (rising_from_Rises [] tt)

-- The series of a metric by their places.
use Rattle.std.proofs.Common.{◌≡◌, ℕ, zero, suc, ◌+◌, ◌*◌, ◌<◌, List, [], ◌∷◌, ◌++◌, length, map, slice_get, Some, refl, sym, ap, subst, ◌∙◌, arith}
use Rattle.std.specs.List.{All, Contains}
use Rattle.std.proofs.lemmas.Option.{same_Some, none-some}
use Rattle.std.proofs.lemmas.List.{length-map}
use Rattle.std.proofs.Math.Nat.{suc-mul}
use Rattle.series_model.proofs.Members.{Contains-here, Contains-there}
use Rattle.archive_policy.specs.declared.definition.Definition.{Definition}
use Rattle.archive_policy.specs.declared.kind.Kind.{Kind}
use Rattle.shelf_records.specs.Filed.{IsFiled, emptied, layout_of}
use Rattle.shelf_records.specs.Shelved.{Kept, Shelved, none_kept}

-- one without splits
abbrev pub none_of : ℕ → Kind → Kept
none_of definition kind = record { definition = definition; kind = kind; splits = [] }

pub get_left : {X : Type 0} (xs ys : List X) (k : ℕ) → k < length xs → slice_get (xs ++ ys) k ≡ slice_get xs k
get_left [] ys k lt = absurd (omega (arith, lt))
get_left (x ∷ xs) ys zero lt = refl
get_left (x ∷ xs) ys (suc k) lt = get_left xs ys k (omega (arith, lt))

pub get_right : {X : Type 0} (xs ys : List X) (k : ℕ) → slice_get (xs ++ ys) (length xs + k) ≡ slice_get ys k
get_right [] ys k = (let e : 0 + k ≡ k = omega arith in ap (slice_get ys) e)
get_right (x ∷ xs) ys k = (let e : length (x ∷ xs) + k ≡ suc (length xs + k) = omega arith in ap (slice_get (x ∷ xs ++ ys)) e) ∙ get_right xs ys k

pub get_mapped : {X Y : Type 0} (f : X → Y) (xs : List X) (k : ℕ) (x : X) → slice_get xs k ≡ Some x → slice_get (map f xs) k ≡ Some (f x)
get_mapped f [] k x is = absurd (none-some x is)
get_mapped f (y ∷ xs) zero x is = ap Some (ap f (same_Some y x is))
get_mapped f (y ∷ xs) (suc k) x is = get_mapped f xs k x is

pub get_within : {X : Type 0} (xs : List X) (k : ℕ) (x : X) → slice_get xs k ≡ Some x → k < length xs
get_within [] k x is = absurd (none-some x is)
get_within (y ∷ xs) zero x is = omega arith
get_within (y ∷ xs) (suc k) x is = (let lt = get_within xs k x is in omega (arith, lt))

layout_from : (kinds : List Kind) (e : ℕ) (ds : List Definition) (i k : ℕ) (kind : Kind) → slice_get kinds k ≡ Some kind → i < length ds → slice_get (none_kept kinds e ds) (i * length kinds + k) ≡ Some (none_of (e + i) kind)
layout_from kinds e [] i k kind is lt = absurd (omega (arith, lt))
layout_from kinds e (d ∷ ds) zero k kind is lt =
    let here : zero * length kinds + k ≡ k = omega arith in
    let short = get_within kinds k kind is in
    ap (slice_get (none_kept kinds e (d ∷ ds))) here
    ∙ get_left (map (none_of e) kinds) (none_kept kinds (e + 1) ds) k (omega (arith, short, length-map kinds (none_of e)))
    ∙ get_mapped (none_of e) kinds k kind is
    ∙ ap (λ (n : ℕ). Some (none_of n kind)) (let z : e ≡ e + zero = omega arith in z)
layout_from kinds e (d ∷ ds) (suc i) k kind is lt =
    let there : suc i * length kinds + k ≡ length (map (none_of e) kinds) + (i * length kinds + k) = omega (arith, length-map kinds (none_of e), suc-mul i (length kinds)) in
    ap (slice_get (none_kept kinds e (d ∷ ds))) there
    ∙ get_right (map (none_of e) kinds) (none_kept kinds (e + 1) ds) (i * length kinds + k)
    ∙ layout_from kinds (e + 1) ds i k kind is (omega (arith, lt))
    ∙ ap (λ (n : ℕ). Some (none_of n kind)) (let z : (e + 1) + i ≡ e + suc i = omega arith in z)

-- the definition and the kind of the series at a place
pub record IsOf (m : Shelved) (i : ℕ) (kind : Kind) (kept : Kept) : Type 0 where
  pub definition : kept.definition ≡ i
  pub kind_is : kept.kind ≡ kind

pub series_at : (m : Shelved) (i k : ℕ) (kind : Kind) (kept : Kept) → IsFiled m → slice_get m.policy.kinds k ≡ Some kind → i < length m.policy.definitions → slice_get m.kept (i * length m.policy.kinds + k) ≡ Some kept → IsOf m i kind kept
series_at m i k kind kept filed is lt there =
    let place = i * length m.policy.kinds + k in
    let same : emptied kept ≡ none_of i kind =
    same_Some (emptied kept) (none_of i kind) (sym (get_mapped emptied m.kept place kept there) ∙ ap (λ (l : List Kept). slice_get l place) filed.layout ∙ layout_from m.policy.kinds 0 m.policy.definitions i k kind is lt ∙ ap (λ (n : ℕ). Some (none_of n kind)) (let z : 0 + i ≡ i = omega arith in z)) in
    record { definition = ap (λ (x : Kept). x.definition) same; kind_is = ap (λ (x : Kept). x.kind) same }

-- there is one at each place
pub place_within : (m : Shelved) (i k : ℕ) (kind : Kind) → IsFiled m → slice_get m.policy.kinds k ≡ Some kind → i < length m.policy.definitions → i * length m.policy.kinds + k < length m.kept
place_within m i k kind filed is lt =
    let found = layout_from m.policy.kinds 0 m.policy.definitions i k kind is lt in
    let within = get_within (layout_of m.policy) (i * length m.policy.kinds + k) (none_of (0 + i) kind) found in
    omega (arith, within, ap length filed.layout, length-map m.kept emptied)

pub all_at : {X : Type 0} (P : X → Type 0) (xs : List X) (k : ℕ) (x : X) → All P xs → slice_get xs k ≡ Some x → P x
all_at P [] k x all is = absurd (none-some x is)
all_at P (y ∷ xs) zero x all is = subst P (same_Some y x is) (all 0 y (omega arith))
all_at P (y ∷ xs) (suc k) x all is = all_at P xs k x (λ j d lt. all (suc j) d (omega (arith, lt))) is

pub contains_at : {X : Type 0} (xs : List X) (k : ℕ) (x : X) → slice_get xs k ≡ Some x → Contains xs x
contains_at [] k x is = absurd (none-some x is)
contains_at (y ∷ xs) zero x is = Contains-here y xs x (same_Some y x is)
contains_at (y ∷ xs) (suc k) x is = Contains-there y xs x (contains_at xs k x is)

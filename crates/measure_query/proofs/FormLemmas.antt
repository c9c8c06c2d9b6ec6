-- Kinds by their names.
use Rattle.std.proofs.Common.{◌≡◌, ◌↔◌, ℕ, Bool, true, false, cond, List, [], ◌∷◌, Option, Some, None, refl, sym, ap, ◌∙◌}
use Rattle.std.specs.List.{find}
use Rattle.std.specs.Str.{bytes_eq}
use Rattle.std.proofs.lemmas.Option.{none-some}
use Rattle.std.proofs.lemmas.Slice.Eq.{bytes_eq-Decides}
use Rattle.archive_policy.specs.declared.kind.Kind.{Kind}
use Rattle.archive_policy.specs.declared.kind.Kind.TheVariants.{Mean, Min, Max, Sum, Count, First, Last, Nunique, RateMean, RateMin, RateMax, RateSum, RateCount, RateFirst, RateLast, RateNunique}
use Rattle.archive_policy.specs.Kinds.{all_kinds, kind_name}
use Rattle.measure_query.specs.Form.{kind_of}

own_kind : (kind : Kind) → kind_of (kind_name kind) ≡ Some kind
own_kind Mean = refl
own_kind Min = refl
own_kind Max = refl
own_kind Sum = refl
own_kind Count = refl
own_kind First = refl
own_kind Last = refl
own_kind Nunique = refl
own_kind RateMean = refl
own_kind RateMin = refl
own_kind RateMax = refl
own_kind RateSum = refl
own_kind RateCount = refl
own_kind RateFirst = refl
own_kind RateLast = refl
own_kind RateNunique = refl

find_none : {X : Type 0} (p : X → Bool) (xs : List X) → ((x : X) → p x ≡ false) → find p xs ≡ None
find_none p [] none = refl
find_none p (x ∷ xs) none = ap (λ b. cond b (Some x) (find p xs)) (none x) ∙ find_none p xs none

-- a kind that is found exactly by its name is the one with the name
pub kind_found : (name : List ℕ) (found : Option Kind) → ((kind : Kind) → (found ≡ Some kind) ↔ (name ≡ kind_name kind)) → found ≡ kind_of name
kind_found name (Some kind) exact = sym (ap kind_of ((exact kind).0 refl) ∙ own_kind kind)
kind_found name None exact =
    sym (find_none (λ kind. bytes_eq name (kind_name kind)) all_kinds (λ kind. other kind (bytes_eq name (kind_name kind)) refl))
  where
    other : (kind : Kind) (b : Bool) → bytes_eq name (kind_name kind) ≡ b → b ≡ false
    other kind false is = refl
    other kind true is = absurd (none-some kind ((exact kind).1 ((bytes_eq-Decides name (kind_name kind)).0 is)))

-- What a log that was mounted has behind its header.
use Rattle.std.proofs.Common.{◌≡◌, ℕ, ◌≤◌, ◌^◌, List, ◌∷◌, length, take, drop, suc, Option, Some, None, sym, ap, subst, ◌∙◌, arith}
use Rattle.std.specs.Option.{IfSome, is_some}
use Rattle.gate_log.specs.Records.{Holds, log_bytes}
use Rattle.log_pair.specs.declared.place.Place.{Place}
use Rattle.log_pair.specs.Choice.{TwoTold}
use Rattle.log_pair.specs.Header.{HasHeader, log_header}
use Rattle.log_pair.specs.Inside.{BeginsWithHeader, behind_header}
use Rattle.log_pair.specs.Pair.{place_behind}
use Rattle.log_pair.proofs.Headers.{begins_with_header}

module _ (place : Place) (epoch : ℕ) where
  -- records are told, and there is one
  pub mounted_header : (told : Option (List ℕ)) (records : Option (List (List ℕ))) (count : ℕ) → is_some records ≡ is_some told → IfSome told (λ x. IfSome records (Holds x)) → IfSome told (HasHeader place epoch)
      → IfSome told (λ x. length x ≤ 2 ^ 60) → IfSome records (λ rs. length rs ≡ count) → (count ≡ 0 → ⊥) → IfSome records (BeginsWithHeader place epoch)
  mounted_header told None count same held has short long some = tt
  mounted_header None (Some records) count same held has short long some = cc
  mounted_header (Some x) (Some records) count same held has short long some =
      begins_with_header place epoch records x short (omega (arith, long, some)) has held

  held_behind : (x : List ℕ) (records : List (List ℕ)) → BeginsWithHeader place epoch records → Holds x records → Holds x (log_header place epoch ∷ drop 1 records)
  held_behind x records begins held =
      let are = begins.records_are in
      subst (Holds x) (are ∙ ap (λ (rs : List (List ℕ)). log_header place epoch ∷ rs) (sym (ap (drop 1) are))) held

  pub mounted_held : (told other : Option (List ℕ)) (records : Option (List (List ℕ))) → IfSome told (λ x. IfSome records (Holds x)) → IfSome records (BeginsWithHeader place epoch)
      → TwoTold told other (λ x _. IfSome (behind_header other records) (λ rs. Holds x (log_header place epoch ∷ rs)))
  mounted_held None other records held begins = tt
  mounted_held (Some x) None records held begins = tt
  mounted_held (Some x) (Some y) None held begins = tt
  mounted_held (Some x) (Some y) (Some records) held begins = held_behind x records begins held

  pub mounted_exact : (told other : Option (List ℕ)) (records : Option (List (List ℕ))) → IfSome told (λ x. (rs : List (List ℕ)) → Holds x rs → records ≡ Some rs)
      → TwoTold told other (λ x _. (rs : List (List ℕ)) → Holds x (log_header place epoch ∷ rs) → behind_header other records ≡ Some rs)
  mounted_exact None other records exact = tt
  mounted_exact (Some x) None records exact = tt
  mounted_exact (Some x) (Some y) records exact = λ rs held. ap (behind_header (Some y)) (exact (log_header place epoch ∷ rs) held)

-- where a record stands, by its place in the log
pub placed_behind : (place : Place) (epoch : ℕ) (other : Option (List ℕ)) (records : Option (List (List ℕ))) (index at : ℕ) → IfSome records (BeginsWithHeader place epoch) → IfSome records (λ rs. at ≡ length (log_bytes (take (suc index) rs)))
    → IfSome (behind_header other records) (λ rs. at ≡ place_behind place epoch (take index rs))
placed_behind place epoch None records index at begins is = tt
placed_behind place epoch (Some x) None index at begins is = tt
placed_behind place epoch (Some x) (Some records) index at begins is =
    let are = begins.records_are in
    subst (λ (rs : List (List ℕ)). at ≡ length (log_bytes (log_header place epoch ∷ take index (drop 1 rs)))) (sym are)
    (subst (λ (rs : List (List ℕ)). at ≡ length (log_bytes (take (suc index) rs))) are is)

-- a disk's length bounds the bytes that it tells
pub told_short : (told : Option (List ℕ)) (size : ℕ) → IfSome told (λ x. length x ≡ size) → size ≤ 2 ^ 60 → IfSome told (λ x. length x ≤ 2 ^ 60)
told_short None size whole le = tt
told_short (Some x) size whole le = omega (arith, whole, le)

-- Records of the index's log: what is read is spelled so, and what is spelled so is read.
use Rattle.std.proofs.Common.{◌≡◌, ℕ, ◌-◌, ◌^◌, ◌<◌, Bool, true, cond, eqb, ◌||◌, inl, inr, List, [], ◌++◌, Option, Some, None, refl, append_assoc, arith, lit<, rules}
use Rattle.std.specs.Prelude.{IfSome, IsSome, is_some, is_none}
use Rattle.std.proofs.lemmas.List.{append-nil}
use Rattle.byteorder.specs.Endian.{big_bytes}
use Rattle.gno_codec.specs.declared.item.IndexItem.{IndexItem}
use Rattle.gno_codec.specs.declared.item.IndexItem.TheVariants as items
use Rattle.gno_codec.specs.Policy.{name_bytes, optional_name_bytes, policy_bytes}
use Rattle.gno_codec.specs.Shelf.{optional_bytes}
use Rattle.gno_codec.specs.Index.{index_bytes, IsIndex}
use Rattle.gno_codec.specs.Reading.{Reading, by_kind}
use Rattle.gno_codec.specs.IndexReading.{store_at, add_policy_at, drop_policy_at, add_rule_at, drop_rule_at, draw_at, resource_where, add_metric_at, drop_metric_at, add_resource_at, drop_resource_at, index_kinds}
use Rattle.gno_codec.proofs.Steps.{IsField, Goes, Again, goes_then, goes_done, again_then, again_done, again_text, made_of, tested_field}
use Rattle.gno_codec.proofs.Fields.{number_field}
use Rattle.gno_codec.proofs.Records.{numbered, limited, kind_goes, kind_again, chosen, goes_as}
use Rattle.gno_codec.proofs.Policies.{name_field, optional_name_field, policy_field}
use Rattle.gno_codec.proofs.ShelfRecords.{optional_field}

-- ---- what follows each first byte

store_goes : Goes store_at (big_bytes 1 1) index_bytes IsIndex
unfolding store_at
store_goes =
    goes_then (number_field 4) (λ number fits. goes_then (limited 8 (2 ^ 56 - 1) (lit< tt)) (λ counter most. goes_done (items.Store number counter) refl (record { number = fits; counter = most })))

add_policy_goes : Goes add_policy_at (big_bytes 1 2) index_bytes IsIndex
unfolding add_policy_at
add_policy_goes = goes_then policy_field (λ policy is. goes_done (items.AddPolicy policy) refl is)

drop_policy_goes : Goes drop_policy_at (big_bytes 1 3) index_bytes IsIndex
unfolding drop_policy_at
drop_policy_goes = goes_then name_field (λ name is. goes_done (items.DropPolicy name) refl is)

after_kind : (kind a b c : List ℕ) → kind ++ (a ++ b ++ c) ≡ kind ++ a ++ b ++ c
after_kind kind a b c = simp append_assoc

add_rule_goes : Goes add_rule_at (big_bytes 1 4) index_bytes IsIndex
unfolding add_rule_at
add_rule_goes =
    goes_then name_field (λ name n. goes_then name_field (λ pattern p. goes_then name_field (λ policy o.
    goes_done (items.AddRule (record { name = name; pattern = pattern; policy = policy })) (after_kind (big_bytes 1 4) (name_bytes name) (name_bytes pattern) (name_bytes policy)) (record { name = n; pattern = p; policy = o }))))

drop_rule_goes : Goes drop_rule_at (big_bytes 1 5) index_bytes IsIndex
unfolding drop_rule_at
drop_rule_goes = goes_then name_field (λ name is. goes_done (items.DropRule name) refl is)

draw_goes : Goes draw_at (big_bytes 1 6) index_bytes IsIndex
unfolding draw_at
draw_goes =
    goes_then (numbered 8 1 (2 ^ 56 - 1) (lit< tt)) (λ counter range. goes_done (items.Draw counter) refl (record { first = range.0; last = range.1 }))

-- a resource stands only where there is a name
abbrev IsResource : Bool → Option ℕ → Type 0
IsResource has_name resource = IfSome resource (λ id. id < 2 ^ 128) × ((is_none resource || has_name) ≡ true)

resource_field : (has_name : Bool) → IsField (resource_where has_name) (optional_bytes (big_bytes 16)) (IsResource has_name)
unfolding resource_where
resource_field has_name =
    tested_field (λ r. is_none r || has_name) (optional_field (number_field 16)) (IsResource has_name)
    (λ r has e. (there r has, e))
    (λ r is. (back r is.0, is.1))
  where
    there : (r : Option ℕ) → IfSome r (λ id. id < 256 ^ 16) → IfSome r (λ id. id < 2 ^ 128)
    there None h = tt
    there (Some id) h = omega (arith, h)

    back : (r : Option ℕ) → IfSome r (λ id. id < 2 ^ 128) → IfSome r (λ id. id < 256 ^ 16)
    back None h = tt
    back (Some id) h = omega (arith, h)

named : {A : Type 0} (name : Option A) (r : Option ℕ) → (is_none r || is_some name) ≡ true → IsSome r → IsSome name
named (Some x) r e some = search rules
named None (Some id) e some = absurd cc
named None None e some = some

is_named : {A : Type 0} (name : Option A) (r : Option ℕ) → (IsSome r → IsSome name) → (is_none r || is_some name) ≡ true
is_named name None h = refl
is_named (Some x) (Some id) h = refl
is_named None (Some id) h = h refl

metric_parts : (kind a b c d e : List ℕ) → kind ++ (a ++ b ++ c ++ d ++ e) ≡ kind ++ a ++ b ++ c ++ d ++ e
metric_parts kind a b c d e = simp append_assoc

add_metric_goes : Goes add_metric_at (big_bytes 1 7) index_bytes IsIndex
unfolding add_metric_at
add_metric_goes =
    goes_then (number_field 16) (λ id fits. goes_then name_field (λ policy p. goes_then optional_name_field (λ name n. goes_then optional_name_field (λ unit u. goes_then (resource_field (is_some name)) (λ resource r.
    goes_done (items.AddMetric (record { 0 = id }) policy name unit resource) (metric_parts (big_bytes 1 7) (big_bytes 16 id) (name_bytes policy) (optional_name_bytes name) (optional_name_bytes unit) (optional_bytes (big_bytes 16) resource))
    (record { id = omega (arith, fits); policy = p; name = n; unit = u; resource = r.0; named = named name resource r.1 }))))))

drop_metric_goes : Goes drop_metric_at (big_bytes 1 8) index_bytes IsIndex
unfolding drop_metric_at
drop_metric_goes = goes_then (number_field 16) (λ id fits. goes_done (items.DropMetric (record { 0 = id })) refl fits)

add_resource_goes : Goes add_resource_at (big_bytes 1 9) index_bytes IsIndex
unfolding add_resource_at
add_resource_goes = goes_then (number_field 16) (λ id fits. goes_done (items.AddResource id) refl fits)

drop_resource_goes : Goes drop_resource_at (big_bytes 1 10) index_bytes IsIndex
unfolding drop_resource_at
drop_resource_goes = goes_then (number_field 16) (λ id fits. goes_done (items.DropResource id) refl fits)

-- what is left of the choice from a first byte on
abbrev from_11 : ℕ → Option (Reading IndexItem)
from_11 kind = None

abbrev from_10 : ℕ → Option (Reading IndexItem)
from_10 kind = cond (eqb kind 10) (Some drop_resource_at) (from_11 kind)

abbrev from_9 : ℕ → Option (Reading IndexItem)
from_9 kind = cond (eqb kind 9) (Some add_resource_at) (from_10 kind)

abbrev from_8 : ℕ → Option (Reading IndexItem)
from_8 kind = cond (eqb kind 8) (Some drop_metric_at) (from_9 kind)

abbrev from_7 : ℕ → Option (Reading IndexItem)
from_7 kind = cond (eqb kind 7) (Some add_metric_at) (from_8 kind)

abbrev from_6 : ℕ → Option (Reading IndexItem)
from_6 kind = cond (eqb kind 6) (Some draw_at) (from_7 kind)

abbrev from_5 : ℕ → Option (Reading IndexItem)
from_5 kind = cond (eqb kind 5) (Some drop_rule_at) (from_6 kind)

abbrev from_4 : ℕ → Option (Reading IndexItem)
from_4 kind = cond (eqb kind 4) (Some add_rule_at) (from_5 kind)

abbrev from_3 : ℕ → Option (Reading IndexItem)
from_3 kind = cond (eqb kind 3) (Some drop_policy_at) (from_4 kind)

abbrev from_2 : ℕ → Option (Reading IndexItem)
from_2 kind = cond (eqb kind 2) (Some add_policy_at) (from_3 kind)

abbrev from_1 : ℕ → Option (Reading IndexItem)
from_1 kind = cond (eqb kind 1) (Some store_at) (from_2 kind)

abbrev Chosen : ℕ → Reading IndexItem → Type 0
Chosen kind r = Goes r (big_bytes 1 kind) index_bytes IsIndex

goes_11 : (kind : ℕ) (r : Reading IndexItem) → from_11 kind ≡ Some r → Chosen kind r
goes_11 kind r e = absurd cc

goes_10 : (kind : ℕ) (r : Reading IndexItem) → from_10 kind ≡ Some r → Chosen kind r
goes_10 kind r e = elim (chosen (eqb kind 10) drop_resource_at r (from_11 kind) e) [
  | inl own ↦ goes_as kind 10 drop_resource_at r own.0 own.1 drop_resource_goes
  | inr others ↦ goes_11 kind r others
]

goes_9 : (kind : ℕ) (r : Reading IndexItem) → from_9 kind ≡ Some r → Chosen kind r
goes_9 kind r e = elim (chosen (eqb kind 9) add_resource_at r (from_10 kind) e) [
  | inl own ↦ goes_as kind 9 add_resource_at r own.0 own.1 add_resource_goes
  | inr others ↦ goes_10 kind r others
]

goes_8 : (kind : ℕ) (r : Reading IndexItem) → from_8 kind ≡ Some r → Chosen kind r
goes_8 kind r e = elim (chosen (eqb kind 8) drop_metric_at r (from_9 kind) e) [
  | inl own ↦ goes_as kind 8 drop_metric_at r own.0 own.1 drop_metric_goes
  | inr others ↦ goes_9 kind r others
]

goes_7 : (kind : ℕ) (r : Reading IndexItem) → from_7 kind ≡ Some r → Chosen kind r
goes_7 kind r e = elim (chosen (eqb kind 7) add_metric_at r (from_8 kind) e) [
  | inl own ↦ goes_as kind 7 add_metric_at r own.0 own.1 add_metric_goes
  | inr others ↦ goes_8 kind r others
]

goes_6 : (kind : ℕ) (r : Reading IndexItem) → from_6 kind ≡ Some r → Chosen kind r
goes_6 kind r e = elim (chosen (eqb kind 6) draw_at r (from_7 kind) e) [
  | inl own ↦ goes_as kind 6 draw_at r own.0 own.1 draw_goes
  | inr others ↦ goes_7 kind r others
]

goes_5 : (kind : ℕ) (r : Reading IndexItem) → from_5 kind ≡ Some r → Chosen kind r
goes_5 kind r e = elim (chosen (eqb kind 5) drop_rule_at r (from_6 kind) e) [
  | inl own ↦ goes_as kind 5 drop_rule_at r own.0 own.1 drop_rule_goes
  | inr others ↦ goes_6 kind r others
]

goes_4 : (kind : ℕ) (r : Reading IndexItem) → from_4 kind ≡ Some r → Chosen kind r
goes_4 kind r e = elim (chosen (eqb kind 4) add_rule_at r (from_5 kind) e) [
  | inl own ↦ goes_as kind 4 add_rule_at r own.0 own.1 add_rule_goes
  | inr others ↦ goes_5 kind r others
]

goes_3 : (kind : ℕ) (r : Reading IndexItem) → from_3 kind ≡ Some r → Chosen kind r
goes_3 kind r e = elim (chosen (eqb kind 3) drop_policy_at r (from_4 kind) e) [
  | inl own ↦ goes_as kind 3 drop_policy_at r own.0 own.1 drop_policy_goes
  | inr others ↦ goes_4 kind r others
]

goes_2 : (kind : ℕ) (r : Reading IndexItem) → from_2 kind ≡ Some r → Chosen kind r
goes_2 kind r e = elim (chosen (eqb kind 2) add_policy_at r (from_3 kind) e) [
  | inl own ↦ goes_as kind 2 add_policy_at r own.0 own.1 add_policy_goes
  | inr others ↦ goes_3 kind r others
]

goes_1 : (kind : ℕ) (r : Reading IndexItem) → from_1 kind ≡ Some r → Chosen kind r
goes_1 kind r e = elim (chosen (eqb kind 1) store_at r (from_2 kind) e) [
  | inl own ↦ goes_as kind 1 store_at r own.0 own.1 store_goes
  | inr others ↦ goes_2 kind r others
]

index_goes : (kind : ℕ) (r : Reading IndexItem) → index_kinds kind ≡ Some r → Chosen kind r
unfolding index_kinds
index_goes kind r e = goes_1 kind r e

-- ---- what is spelled so is read

two : (kind a : List ℕ) → kind ++ (a ++ []) ≡ kind ++ a
two kind a = simp append-nil

three : (kind a b : List ℕ) → kind ++ (a ++ (b ++ [])) ≡ kind ++ a ++ b
three kind a b = simp (append_assoc, append-nil)

rule_parts : (kind a b c : List ℕ) → kind ++ (a ++ (b ++ (c ++ []))) ≡ kind ++ (a ++ b ++ c)
rule_parts kind a b c = simp (append_assoc, append-nil)

all_parts : (kind a b c d e : List ℕ) → kind ++ (a ++ (b ++ (c ++ (d ++ (e ++ []))))) ≡ kind ++ (a ++ b ++ c ++ d ++ e)
all_parts kind a b c d e = simp (append_assoc, append-nil)

again_of : (item : IndexItem) (kind : ℕ) (r : Reading IndexItem) (tail : List ℕ) → kind < 256 → index_kinds kind ≡ Some r → big_bytes 1 kind ++ tail ≡ index_bytes item → Again r tail item → Again (by_kind index_kinds) (index_bytes item) item
again_of item kind r tail fits is same again =
    again_text (index_bytes item) same (kind_again index_kinds kind r tail item fits is again)

index_again : (item : IndexItem) → IsIndex item → Again (by_kind index_kinds) (index_bytes item) item
unfolding index_kinds store_at add_policy_at drop_policy_at add_rule_at drop_rule_at draw_at add_metric_at drop_metric_at add_resource_at drop_resource_at
index_again (items.Store number counter) is =
    again_of (items.Store number counter) 1 store_at _ (lit< tt) refl (three (big_bytes 1 1) (big_bytes 4 number) (big_bytes 8 counter))
    (again_then _ (number_field 4) number is.number (again_then _ (limited 8 (2 ^ 56 - 1) (lit< tt)) counter is.counter (again_done (items.Store number counter))))
index_again (items.AddPolicy policy) is =
    again_of (items.AddPolicy policy) 2 add_policy_at _ (lit< tt) refl (two (big_bytes 1 2) (policy_bytes policy)) (again_then _ policy_field policy is (again_done (items.AddPolicy policy)))
index_again (items.DropPolicy name) is =
    again_of (items.DropPolicy name) 3 drop_policy_at _ (lit< tt) refl (two (big_bytes 1 3) (name_bytes name)) (again_then _ name_field name is (again_done (items.DropPolicy name)))
index_again (items.AddRule rule) is =
    again_of (items.AddRule rule) 4 add_rule_at _ (lit< tt) refl (rule_parts (big_bytes 1 4) (name_bytes rule.name) (name_bytes rule.pattern) (name_bytes rule.policy))
    (again_then _ name_field rule.name is.name (again_then _ name_field rule.pattern is.pattern (again_then _ name_field rule.policy is.policy (again_done (items.AddRule rule)))))
index_again (items.DropRule name) is =
    again_of (items.DropRule name) 5 drop_rule_at _ (lit< tt) refl (two (big_bytes 1 5) (name_bytes name)) (again_then _ name_field name is (again_done (items.DropRule name)))
index_again (items.Draw counter) is =
    again_of (items.Draw counter) 6 draw_at _ (lit< tt) refl (two (big_bytes 1 6) (big_bytes 8 counter)) (again_then _ (numbered 8 1 (2 ^ 56 - 1) (lit< tt)) counter (is.first, is.last) (again_done (items.Draw counter)))
index_again (items.AddMetric id policy name unit resource) is =
    again_of (items.AddMetric id policy name unit resource) 7 add_metric_at _ (lit< tt) refl
    (all_parts (big_bytes 1 7) (big_bytes 16 id.0) (name_bytes policy) (optional_name_bytes name) (optional_name_bytes unit) (optional_bytes (big_bytes 16) resource))
    (again_then _ (number_field 16) id.0 (omega (arith, is.id)) (again_then _ name_field policy is.policy (again_then _ optional_name_field name is.name (again_then _ optional_name_field unit is.unit
    (again_then _ (resource_field (is_some name)) resource (is.resource, is_named name resource is.named) (again_done (items.AddMetric id policy name unit resource)))))))
index_again (items.DropMetric id) is =
    again_of (items.DropMetric id) 8 drop_metric_at _ (lit< tt) refl (two (big_bytes 1 8) (big_bytes 16 id.0)) (again_then _ (number_field 16) id.0 is (again_done (items.DropMetric id)))
index_again (items.AddResource id) is =
    again_of (items.AddResource id) 9 add_resource_at _ (lit< tt) refl (two (big_bytes 1 9) (big_bytes 16 id)) (again_then _ (number_field 16) id is (again_done (items.AddResource id)))
index_again (items.DropResource id) is =
    again_of (items.DropResource id) 10 drop_resource_at _ (lit< tt) refl (two (big_bytes 1 10) (big_bytes 16 id)) (again_then _ (number_field 16) id is (again_done (items.DropResource id)))

pub index_field : IsField (by_kind index_kinds) index_bytes IsIndex
index_field = made_of index_bytes IsIndex (kind_goes index_kinds index_goes) index_again

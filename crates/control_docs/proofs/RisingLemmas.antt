-- The metrics of a resource come by rising name.
use Rattle.std.proofs.Common.{◌≡◌, ℕ, List, [], ◌∷◌, map, Option, Some, None, Result, Ok, Err, Bool, true, false, cond, Ordering, Less, Equal, Greater, nat_cmp, option_map, option_and_then, codes, IfOk, refl, sym, ap, ◌∙◌, subst}
use Rattle.std.proofs.lemmas.Cmp.{nat_list_cmp_total}
use Rattle.std.specs.Cmp.Lexicographic.{slice_cmp}
use Rattle.std.specs.List.{AllByRecursion}
use Rattle.std.specs.List.Sorted.{IsStrictlySortedBy}
use Rattle.std.specs.Ordering.{match_ordering, ordering_reverse}
use Rattle.std.specs.Str.{is_utf8}
use Rattle.json.specs.Json as json
use Rattle.json.specs.Json.{Json, document}
use Rattle.json.specs.Lex.{tokens}
use Rattle.serde_json.specs.Data.{Num, Data, null, boolean, number, string, array, object, Items, Members, no_members, member, put}
use Rattle.serde_json.specs.Find.{get}
use Rattle.serde_json.specs.Read.{number_of, of_items, of_json, of_members, max_depth, read}
use Rattle.control_docs.specs.declared.fault.ControlBodyFault.{ControlBodyFault}
use Rattle.control_docs.specs.declared.fault.ControlBodyFault.TheVariants.{BadBody, BadName}
use Rattle.control_docs.specs.declared.shape.Shape.TheVariants.{NamedMetrics}
use Rattle.control_docs.specs.Body.{shaped, body_value}
use Rattle.control_docs.specs.Fault.{◌>>=◌, found_or}
use Rattle.control_docs.specs.Member.{may_be_name, name_or_none, with_first}
use Rattle.control_docs.specs.Resource.{HaveRisingNames, NamedPolicy, metrics_asked, metrics_read, named_policies, named_policy}
use Rattle.control_docs.specs.Shape.{is_body}

-- the keys of members, in their order
abbrev keys_in : Members → List (List ℕ)
keys_in no_members = []
keys_in (member k d ms) = k ∷ keys_in ms

abbrev IsBelow : List ℕ → List ℕ → Type 0
IsBelow x y = slice_cmp nat_cmp x y ≡ Less

abbrev AreAbove : List ℕ → Members → Type 0
AreAbove x ms = AllByRecursion (IsBelow x) (keys_in ms)

abbrev HaveRisingKeys : Members → Type 0
HaveRisingKeys ms = IsStrictlySortedBy (slice_cmp nat_cmp) (keys_in ms)

-- ---- an object has its keys in order

above_put : (x k : List ℕ) (d : Data) (ms : Members) → IsBelow x k → AreAbove x ms → AreAbove x (put k d ms)
above_put x k d no_members low h = (low, tt)
above_put x k d (member l e ms) low h =
    by (slice_cmp nat_cmp k l) (above_put x k d ms low h.1)
  where
    by : (o : Ordering) → AreAbove x (put k d ms) → AreAbove x (match_ordering o (member k d (member l e ms)) (member l d ms) (member l e (put k d ms)))
    by Less later = (low, h)
    by Equal later = h
    by Greater later = (h.0, later)

above_more : (x y : List ℕ) (ms : Members) → IsBelow x y → AreAbove y ms → AreAbove x ms
above_more x y no_members low h = tt
above_more x y (member k d ms) low h =
    (nat_list_cmp_total.trans x y k low h.0, above_more x y ms low h.1)

put_rising : (k : List ℕ) (d : Data) (ms : Members) → HaveRisingKeys ms → HaveRisingKeys (put k d ms)
unfolding IsStrictlySortedBy
put_rising k d no_members h = (tt, tt)
put_rising k d (member l e ms) h =
    by (slice_cmp nat_cmp k l) refl (put_rising k d ms h.1)
  where
    by : (o : Ordering) → slice_cmp nat_cmp k l ≡ o → HaveRisingKeys (put k d ms) → HaveRisingKeys (match_ordering o (member k d (member l e ms)) (member l d ms) (member l e (put k d ms)))
    by Less is later = ((is, above_more k l ms is h.0), h)
    by Equal is later = h
    by Greater is later =
        (above_put l k d ms (nat_list_cmp_total.antisymm l k ∙ ap ordering_reverse is) h.0, later)

some_same : {A : Type 0} (x y : A) → Some x ≡ Some y → x ≡ y
some_same x y e = cc

members_rise : (js : json.Members) (found ms : Members) → HaveRisingKeys found → of_members js found ≡ Some ms → HaveRisingKeys ms
members_rise json.no_members found ms h e = subst HaveRisingKeys (some_same found ms e) h
members_rise (json.member k j js) found ms h e = by (of_json j) e (λ d. members_rise js (put k d found) ms (put_rising k d found h))
  where
    by : (o : Option Data) → option_and_then (λ d. of_members js (put k d found)) o ≡ Some ms → ((d : Data) → of_members js (put k d found) ≡ Some ms → HaveRisingKeys ms) → HaveRisingKeys ms
    by None e later = absurd cc
    by (Some d) e later = later d e

object_rises : (j : Json) (ms : Members) → of_json j ≡ Some (object ms) → HaveRisingKeys ms
unfolding IsStrictlySortedBy
object_rises json.null ms e = absurd cc
object_rises (json.boolean b) ms e = absurd cc
object_rises (json.number s) ms e = by (number_of s) e
  where
    by : (o : Option Num) → option_map number o ≡ Some (object ms) → HaveRisingKeys ms
    by None e = absurd cc
    by (Some n) e = absurd cc
object_rises (json.string s) ms e = absurd cc
object_rises (json.array js) ms e = by (of_items js) e
  where
    by : (o : Option Items) → option_map array o ≡ Some (object ms) → HaveRisingKeys ms
    by None e = absurd cc
    by (Some ds) e = absurd cc
object_rises (json.object js) ms e = by (of_members js no_members) refl e
  where
    by : (o : Option Members) → of_members js no_members ≡ o → option_map object o ≡ Some (object ms) → HaveRisingKeys ms
    by None is e = absurd cc
    by (Some found) is e =
        let same : found ≡ ms = cc in members_rise js no_members ms tt (is ∙ ap Some same)

value_rises : (body : List ℕ) (ms : Members) → body_value body ≡ Some (object ms) → HaveRisingKeys ms
unfolding body_value
value_rises body ms e = by (is_utf8 body) e
  where
    read_rises : (o : Option Json) → option_and_then of_json o ≡ Some (object ms) → HaveRisingKeys ms
    read_rises None e = absurd cc
    read_rises (Some j) e = object_rises j ms e

    by : (v : Bool) → cond v (read body) None ≡ Some (object ms) → HaveRisingKeys ms
    by true e = read_rises (option_and_then (λ p. json.if_last p.0 p.1) (json.value max_depth (tokens body))) e
    by false e = absurd cc

-- ---- the names that are read are the keys, in their order

abbrev ok_of : {A : Type 0} → A → Result A ControlBodyFault
ok_of x = Ok x

ok_same : {A : Type 0} (x y : A) → ok_of x ≡ ok_of y → x ≡ y
ok_same x y e = cc

own_name : (key : List ℕ) (d : Data) (metric : NamedPolicy) → named_policy key d ≡ Ok metric → metric.0 ≡ key
own_name key d metric e = by (may_be_name key) (name_or_none (get (codes "archive_policy_name") d)) e
  where
    by : (v : Bool) (policy : Result (Option (List ℕ)) ControlBodyFault) → (cond v (Ok key) (Err BadName) >>= λ name. policy >>= λ p. Ok (name, p)) ≡ Ok metric → metric.0 ≡ key
    by true (Ok p) e = sym (ap (λ (m : NamedPolicy). m.0) (ok_same (key, p) metric e))
    by true (Err fault) e = absurd cc
    by false policy e = absurd cc

names_are_keys : (ms : Members) (metrics : List NamedPolicy) → named_policies ms ≡ Ok metrics → map (λ (metric : NamedPolicy). metric.0) metrics ≡ keys_in ms
names_are_keys no_members metrics e = ap (map (λ (metric : NamedPolicy). metric.0)) (sym (ok_same [] metrics e))
names_are_keys (member k d ms) metrics e = by (named_policy k d) refl (named_policies ms) refl e (names_are_keys ms)
  where
    by : (first : Result NamedPolicy ControlBodyFault) → named_policy k d ≡ first → (rest : Result (List NamedPolicy) ControlBodyFault) → named_policies ms ≡ rest
        → (first >>= λ metric. rest >>= with_first metric) ≡ Ok metrics → ((later : List NamedPolicy) → named_policies ms ≡ Ok later → map (λ (metric : NamedPolicy). metric.0) later ≡ keys_in ms)
        → map (λ (metric : NamedPolicy). metric.0) metrics ≡ k ∷ keys_in ms
    by (Ok metric) is (Ok later) more e below =
        ap (map (λ (m : NamedPolicy). m.0)) (sym (ok_same (metric ∷ later) metrics e)) ∙ ap (λ name. name ∷ map (λ (m : NamedPolicy). m.0) later) (own_name k d metric is) ∙ ap (λ names. k ∷ names) (below later more)
    by (Ok metric) is (Err fault) more e below = absurd cc
    by (Err fault) is rest more e below = absurd cc

pub metrics_rise : (body : List ℕ) (metrics : List NamedPolicy) → metrics_read body ≡ Ok metrics → HaveRisingNames metrics
unfolding metrics_read
metrics_rise body metrics e = by (body_value body) refl e
  where
    of_value : (d : Data) → body_value body ≡ Some d → metrics_asked d ≡ Ok metrics → HaveRisingNames metrics
    of_value null is e = absurd cc
    of_value (boolean b) is e = absurd cc
    of_value (number n) is e = absurd cc
    of_value (string s) is e = absurd cc
    of_value (array ds) is e = absurd cc
    of_value (object ms) is e =
        subst (IsStrictlySortedBy (slice_cmp nat_cmp)) (sym (names_are_keys ms metrics e)) (value_rises body ms is)

    shape : (v : Bool) (d : Data) → body_value body ≡ Some d → (cond v (Ok d) (Err BadBody) >>= metrics_asked) ≡ Ok metrics → HaveRisingNames metrics
    shape true d is e = of_value d is e
    shape false d is e = absurd cc

    by : (o : Option Data) → body_value body ≡ o → (found_or BadBody o >>= shaped NamedMetrics >>= metrics_asked) ≡ Ok metrics → HaveRisingNames metrics
    by None is e = absurd cc
    by (Some d) is e = shape (is_body NamedMetrics d) d is e

pub metrics_found : {V : Type 0} (items : V → List NamedPolicy) (body : List ℕ) (r : Result V ControlBodyFault) → IfOk r (λ v. metrics_read body ≡ Ok (items v)) → IfOk r (λ v. HaveRisingNames (items v))
metrics_found items body (Ok v) e = metrics_rise body (items v) e
metrics_found items body (Err fault) e = tt

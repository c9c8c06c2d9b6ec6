-- The documents of metrics and resources as JSON.
use Rattle.std.proofs.Common.{◌≡◌, ℕ, ◌≤◌, List, [], ◌∷◌, map, Option, Some, None, Less, Greater, nat_cmp, refl, sym, ap, ◌∙◌, arith}
use Rattle.std.proofs.lemmas.Cmp.{nat_list_cmp_total}
use Rattle.std.specs.Cmp.Lexicographic.{slice_cmp}
use Rattle.std.specs.List.{AllByRecursion}
use Rattle.std.specs.List.Sorted.{IsStrictlySortedBy}
use Rattle.std.specs.Ordering.{ordering_reverse}
use Rattle.json.specs.Tree as tree
use Rattle.serde_json.specs.Data.{Data, string, Members, no_members, member, put}
use Rattle.serde_json.specs.Read.{of_json, of_members, read}
use Rattle.serde_json.specs.Written.{compact_text, members_outline, outline}
use Rattle.series_model.specs.declared.metric.MetricId.{MetricId}
use Rattle.control_docs.specs.Documents.{id_text, id_value, metric_value, named_ids, resource_value, text_value}
use Rattle.control_docs.proofs.AgainLemmas.{text_read}

-- what is true of a value that is a text or nothing
record IsTextOrNull (d : Data) : Type 0 where
  numbers : tree.HasNumbers (outline d)
  shallow : tree.depth (outline d) ≤ 0
  same : of_json (outline d) ≡ Some d

text_or_null : (text : Option (List ℕ)) → IsTextOrNull (text_value text)
text_or_null None = record { numbers = tt; shallow = omega arith; same = refl }
text_or_null (Some text) = record { numbers = tt; shallow = omega arith; same = refl }

id_or_null : (id : Option ℕ) → IsTextOrNull (id_value id)
id_or_null None = record { numbers = tt; shallow = omega arith; same = refl }
id_or_null (Some id) = record { numbers = tt; shallow = omega arith; same = refl }

pub metric_json : (id : MetricId) (policy : List ℕ) (name unit : Option (List ℕ)) (resource : Option ℕ) → read (compact_text (metric_value id policy name unit resource)) ≡ Some (metric_value id policy name unit resource)
metric_json id policy name unit resource =
    let n = text_or_null name in
    let u = text_or_null unit in
    let r = id_or_null resource in
    text_read (metric_value id policy name unit resource) (tt, (tt, (n.numbers, (r.numbers, (u.numbers, tt))))) (omega (arith, n.shallow, u.shallow, r.shallow)) (rw (n.same, r.same, u.same) refl)

-- members behind others
abbrev joined : Members → Members → Members
joined no_members more = more
joined (member k d ms) more = member k d (joined ms more)

joined_one : (front : Members) (k : List ℕ) (d : Data) (rest : Members) → joined (joined front (member k d no_members)) rest ≡ joined front (member k d rest)
joined_one no_members k d rest = refl
joined_one (member l e front) k d rest = ap (member l e) (joined_one front k d rest)

joined_none : (front : Members) → joined front no_members ≡ front
joined_none no_members = refl
joined_none (member l e front) = ap (member l e) (joined_none front)

-- each key of these members is below a key
abbrev AreBelow : Members → List ℕ → Type 0
AreBelow no_members k = Unit {0}
AreBelow (member l e front) k = (slice_cmp nat_cmp l k ≡ Less) × AreBelow front k

put_last : (front : Members) (k : List ℕ) (d : Data) → AreBelow front k → put k d front ≡ joined front (member k d no_members)
put_last no_members k d h = refl
put_last (member l e front) k d h =
    let above : slice_cmp nat_cmp k l ≡ Greater = nat_list_cmp_total.antisymm k l ∙ ap ordering_reverse h.0 in
    rw above (ap (member l e) (put_last front k d h.1))

below_more : (front : Members) (k l : List ℕ) → AreBelow front k → slice_cmp nat_cmp k l ≡ Less → AreBelow front l
below_more no_members k l h low = tt
below_more (member m e front) k l h low = (nat_list_cmp_total.trans m k l h.0 low, below_more front k l h.1 low)

below_joined : (front : Members) (k : List ℕ) (d : Data) (l : List ℕ) → AreBelow front l → slice_cmp nat_cmp k l ≡ Less → AreBelow (joined front (member k d no_members)) l
below_joined no_members k d l h low = (low, tt)
below_joined (member m e front) k d l h low = (h.0, below_joined front k d l h.1 low)

ids_joined : (front : Members) (metrics : List (List ℕ × MetricId)) → AllByRecursion (λ (m : List ℕ × MetricId). AreBelow front m.0) metrics → IsStrictlySortedBy (slice_cmp nat_cmp) (map (λ (m : List ℕ × MetricId). m.0) metrics)
    → of_members (members_outline (named_ids metrics)) front ≡ Some (joined front (named_ids metrics))
unfolding IsStrictlySortedBy
ids_joined front [] below rising = ap Some (sym (joined_none front))
ids_joined front (m ∷ ms) below rising =
    let last : put m.0 (string (id_text m.1.0)) front ≡ joined front (member m.0 (string (id_text m.1.0)) no_members) = put_last front m.0 (string (id_text m.1.0)) below.0 in
    ap (of_members (members_outline (named_ids ms))) last
    ∙ ids_joined (joined front (member m.0 (string (id_text m.1.0)) no_members)) ms (each ms below.1 rising.0) rising.1
    ∙ ap Some (joined_one front m.0 (string (id_text m.1.0)) (named_ids ms))
  where
    each : (ms : List (List ℕ × MetricId)) → AllByRecursion (λ (n : List ℕ × MetricId). AreBelow front n.0) ms → AllByRecursion (λ name. slice_cmp nat_cmp m.0 name ≡ Less) (map (λ (n : List ℕ × MetricId). n.0) ms)
        → AllByRecursion (λ (n : List ℕ × MetricId). AreBelow (joined front (member m.0 (string (id_text m.1.0)) no_members)) n.0) ms
    each [] h low = tt
    each (n ∷ ns) h low = (below_joined front m.0 (string (id_text m.1.0)) n.0 h.0 low.0, each ns h.1 low.1)

none_before : (metrics : List (List ℕ × MetricId)) → AllByRecursion (λ (m : List ℕ × MetricId). AreBelow no_members m.0) metrics
none_before [] = tt
none_before (m ∷ ms) = (tt, none_before ms)

ids_numbers : (metrics : List (List ℕ × MetricId)) → tree.MembersHaveNumbers (members_outline (named_ids metrics))
ids_numbers [] = tt
ids_numbers (m ∷ ms) = (tt, ids_numbers ms)

ids_shallow : (metrics : List (List ℕ × MetricId)) → tree.members_depth (members_outline (named_ids metrics)) ≤ 0
ids_shallow [] = omega arith
ids_shallow (m ∷ ms) = omega (arith, ids_shallow ms)

pub resource_json : (id : ℕ) (metrics : List (List ℕ × MetricId)) → IsStrictlySortedBy (slice_cmp nat_cmp) (map (λ (m : List ℕ × MetricId). m.0) metrics) → read (compact_text (resource_value id metrics)) ≡ Some (resource_value id metrics)
resource_json id metrics rising =
    text_read (resource_value id metrics) (tt, (ids_numbers metrics, (tt, tt))) (omega (arith, ids_shallow metrics)) (rw (ids_joined no_members metrics (none_before metrics) rising) refl)

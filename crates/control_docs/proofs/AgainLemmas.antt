-- Documents that are read as bodies.
use Rattle.std.proofs.Common.{◌≡◌, ℕ, ◌*◌, ◌^◌, ◌<◌, ◌≤◌, List, [], ◌∷◌, ◌++◌, map, All, Some, None, Ok, Bool, true, false, not, ◌==◌, nat_lt, option_and_then, refl, sym, ap, ◌∙◌, arith, append-nil, codes, decimal, IsUtf8}
use Rattle.std.specs.List.{fold, list_all, list_any}
use Rattle.std.proofs.lemmas.Bool.Decides.{nat_tests}
use Rattle.std.proofs.lemmas.Fmt.{IsAscii-decimal}
use Rattle.std.proofs.lemmas.List.{length-map}
use Rattle.std.proofs.lemmas.Nat.{mul-le}
use Rattle.std.proofs.lemmas.List.Elements.{All-head, All-tail}
use Rattle.std.proofs.lemmas.Str.{IsUtf8-append, IsUtf8-from_ascii}
use Rattle.json.proofs.Printed.Decimals.{IsNumber-decimal}
use Rattle.json.proofs.Printed.Tokens.{tokens-print}
use Rattle.json.proofs.Printed.Trees.{ArePrintable-json_tokens, value-json_tokens}
use Rattle.json.proofs.Printed.Utf8.{are_ascii, IsUtf8-are_ascii, IsUtf8-boolean, IsUtf8-quoted}
use Rattle.json.specs.Json as json
use Rattle.json.specs.Lex.{tokens}
use Rattle.json.specs.Print.{quoted}
use Rattle.json.specs.Tree as tree
use Rattle.serde_json.specs.Data.{Data, null, boolean, number, string, array, object, Items, no_items, item, Members, no_members, member}
use Rattle.serde_json.specs.Read.{max_depth, of_items, of_json, read}
use Rattle.serde_json.specs.View.{items_of}
use Rattle.serde_json.specs.Written.{comma_if, compact_text, items_outline, items_text, members_text, number_text, outline}
use Rattle.serde_json.proofs.Numbers.{number_of-decimal}
use Rattle.serde_json.proofs.Texts.{print-outline}
use Rattle.policy_rules.specs.declared.rule.Rule.{Rule}
use Rattle.archive_policy.specs.declared.definition.Definition.{Definition}
use Rattle.archive_policy.specs.declared.kind.Kind.{Kind}
use Rattle.archive_policy.specs.declared.kind.Kind.TheVariants.{Mean, Min, Max, Sum, Count, First, Last, Nunique, RateMean, RateMin, RateMax, RateSum, RateCount, RateFirst, RateLast, RateNunique}
use Rattle.archive_policy.specs.declared.wanted.Wanted.{Wanted}
use Rattle.archive_policy.specs.Asked.{definition_of, granularity_of, has_many_points, has_mismatch, has_no_points, has_odd_granularity, has_too_few}
use Rattle.archive_policy.specs.Faults.{first_fault}
use Rattle.archive_policy.specs.Kinds.{kind_name, kinds_of}
use Rattle.archive_policy.specs.Names.{IsName}
use Rattle.archive_policy.specs.Policies.{ArchivePolicy, IsArchivePolicy, IsDefinition, policy_of, put}
use Rattle.archive_policy.specs.PolicyLaws.{as_kept}
use Rattle.archive_policy.proofs.PolicyAgain.{again_none, again_same}
use Rattle.gno_num.specs.Span.{IsSpan}
use Rattle.gno_time.specs.Text.{span_text_of}
use Rattle.gno_time.proofs.SpanPrinted.{read-span_text}
use Rattle.control_docs.specs.declared.shape.Shape.TheVariants as Shape
use Rattle.control_docs.specs.Documents.{definition_value, kind_value, policy_value, rule_value}
use Rattle.control_docs.specs.Member.{all_of, value_kind, may_be_named}
use Rattle.control_docs.specs.Policy.{policy_read, wanted_of}
use Rattle.control_docs.specs.Rule.{rule_read}
use Rattle.control_docs.specs.Shape.{items_fit}
use Rattle.control_docs.proofs.BodyLemmas.{value_there}
use Rattle.control_docs.proofs.MemberLemmas.{both, may_be_name-IsName, name-there, own_kind}
use Rattle.control_docs.proofs.PlainLemmas.{ascii-plain, plain-span_text}

-- ---- from the text of a value back to the value

pub text_read : (d : Data) → tree.HasNumbers (outline d) → tree.depth (outline d) ≤ max_depth → of_json (outline d) ≡ Some d → read (compact_text d) ≡ Some d
text_read d numbers shallow same =
    let spelled : tokens (compact_text d) ≡ tree.json_tokens (outline d) =
    ap tokens (sym (print-outline d)) ∙ tokens-print (tree.json_tokens (outline d)) (ArePrintable-json_tokens (outline d) numbers) in
    ap (λ o. option_and_then of_json (option_and_then (λ p. json.if_last p.0 p.1) o))
    (ap (json.value max_depth) (spelled ∙ sym (append-nil (tree.json_tokens (outline d)))) ∙ value-json_tokens (outline d) max_depth [] shallow)
    ∙ same

-- the texts of a value are UTF-8, those of its numbers too
abbrev mutual
  HasTexts : Data → Type 0
  HasTexts null = Unit {0}
  HasTexts (boolean b) = Unit {0}
  HasTexts (number n) = IsUtf8 (number_text n)
  HasTexts (string s) = IsUtf8 s
  HasTexts (array ds) = ItemsHaveTexts ds
  HasTexts (object ms) = MembersHaveTexts ms

  ItemsHaveTexts : Items → Type 0
  ItemsHaveTexts no_items = Unit {0}
  ItemsHaveTexts (item d ds) = HasTexts d × ItemsHaveTexts ds

  MembersHaveTexts : Members → Type 0
  MembersHaveTexts no_members = Unit {0}
  MembersHaveTexts (member k d ms) = IsUtf8 k × (HasTexts d × MembersHaveTexts ms)

comma_utf8 : (later : Bool) → IsUtf8 (comma_if later)
comma_utf8 true = IsUtf8-are_ascii (44 ∷ []) refl
comma_utf8 false = IsUtf8-are_ascii [] refl

mutual
  text_utf8 : (d : Data) → HasTexts d → IsUtf8 (compact_text d)
  text_utf8 null h = IsUtf8-are_ascii (compact_text null) refl
  text_utf8 (boolean b) h = IsUtf8-boolean b
  text_utf8 (number n) h = h
  text_utf8 (string s) h = IsUtf8-quoted s h
  text_utf8 (array ds) h = IsUtf8-append (91 ∷ []) (items_text false ds) (IsUtf8-are_ascii (91 ∷ []) refl) (items_utf8 false ds h)
  text_utf8 (object ms) h = IsUtf8-append (123 ∷ []) (members_text false ms) (IsUtf8-are_ascii (123 ∷ []) refl) (members_utf8 false ms h)

  items_utf8 : (later : Bool) (ds : Items) → ItemsHaveTexts ds → IsUtf8 (items_text later ds)
  items_utf8 later no_items h = IsUtf8-are_ascii (93 ∷ []) refl
  items_utf8 later (item d ds) h =
      IsUtf8-append (comma_if later) (compact_text d ++ items_text true ds) (comma_utf8 later) (IsUtf8-append (compact_text d) (items_text true ds) (text_utf8 d h.0) (items_utf8 true ds h.1))

  members_utf8 : (later : Bool) (ms : Members) → MembersHaveTexts ms → IsUtf8 (members_text later ms)
  members_utf8 later no_members h = IsUtf8-are_ascii (125 ∷ []) refl
  members_utf8 later (member k d ms) h =
      IsUtf8-append (comma_if later) (quoted k ++ 58 ∷ (compact_text d ++ members_text true ms)) (comma_utf8 later)
      (IsUtf8-append (quoted k) (58 ∷ (compact_text d ++ members_text true ms)) (IsUtf8-quoted k h.0)
      (IsUtf8-append (58 ∷ []) (compact_text d ++ members_text true ms) (IsUtf8-are_ascii (58 ∷ []) refl)
      (IsUtf8-append (compact_text d) (members_text true ms) (text_utf8 d h.1.0) (members_utf8 true ms h.1.1))))

ascii-named : (text : List ℕ) → list_all may_be_named text ≡ true → are_ascii text ≡ true
ascii-named [] e = refl
ascii-named (b ∷ bs) e =
    let p = both (may_be_named b) (list_all may_be_named bs) e in
    let small : nat_lt b 128 ≡ true = below b p.0 in
    rw (small, ascii-named bs p.1) refl
  where
    below : (b : ℕ) → may_be_named b ≡ true → nat_lt b 128 ≡ true
    below b h = grind (arith, nat_tests)

name_utf8 : (name : List ℕ) → IsName name → IsUtf8 name
name_utf8 name h =
    IsUtf8-are_ascii name (ascii-named name (both _ _ (both _ _ (may_be_name-IsName name h)).1).1)

key_utf8 : (key : List ℕ) → are_ascii key ≡ true → IsUtf8 key
key_utf8 = IsUtf8-are_ascii

-- ---- rules

pub rule_back : (r : Rule) → IsName r.name → IsName r.pattern → IsName r.policy → rule_read (compact_text (rule_value r)) ≡ Ok r
unfolding rule_read
rule_back r name pattern policy =
    let texts : HasTexts (rule_value r) = (key_utf8 (codes "archive_policy_name") refl, (name_utf8 r.policy policy, (key_utf8 (codes "metric_pattern") refl, (name_utf8 r.pattern pattern, (key_utf8 (codes "name") refl, (name_utf8 r.name name, tt)))))) in
    let back = value_there (compact_text (rule_value r)) (rule_value r) (text_utf8 (rule_value r) texts) (text_read (rule_value r) (tt, (tt, (tt, tt))) (omega arith) refl) in
    rw (back, name-there r.name name, name-there r.pattern pattern, name-there r.policy policy) refl

-- ---- policies

span_utf8 : (nanos : ℕ) → IsUtf8 (span_text_of nanos)
span_utf8 nanos = IsUtf8-are_ascii (span_text_of nanos) (ascii-plain (span_text_of nanos) (plain-span_text nanos))

kind_utf8 : (kind : Kind) → IsUtf8 (kind_name kind)
kind_utf8 Mean = IsUtf8-are_ascii (kind_name Mean) refl
kind_utf8 Min = IsUtf8-are_ascii (kind_name Min) refl
kind_utf8 Max = IsUtf8-are_ascii (kind_name Max) refl
kind_utf8 Sum = IsUtf8-are_ascii (kind_name Sum) refl
kind_utf8 Count = IsUtf8-are_ascii (kind_name Count) refl
kind_utf8 First = IsUtf8-are_ascii (kind_name First) refl
kind_utf8 Last = IsUtf8-are_ascii (kind_name Last) refl
kind_utf8 Nunique = IsUtf8-are_ascii (kind_name Nunique) refl
kind_utf8 RateMean = IsUtf8-are_ascii (kind_name RateMean) refl
kind_utf8 RateMin = IsUtf8-are_ascii (kind_name RateMin) refl
kind_utf8 RateMax = IsUtf8-are_ascii (kind_name RateMax) refl
kind_utf8 RateSum = IsUtf8-are_ascii (kind_name RateSum) refl
kind_utf8 RateCount = IsUtf8-are_ascii (kind_name RateCount) refl
kind_utf8 RateFirst = IsUtf8-are_ascii (kind_name RateFirst) refl
kind_utf8 RateLast = IsUtf8-are_ascii (kind_name RateLast) refl
kind_utf8 RateNunique = IsUtf8-are_ascii (kind_name RateNunique) refl

decimal_utf8 : (n : ℕ) → n < 2 ^ 64 → IsUtf8 (decimal n)
decimal_utf8 n small = IsUtf8-from_ascii (decimal n) (IsAscii-decimal n small)

-- what is true of the values of a list of kinds, and of one of definitions
record ReadsBack (ds : Items) (deep : ℕ) : Type 0 where
  texts : ItemsHaveTexts ds
  numbers : tree.ItemsHaveNumbers (items_outline ds)
  shallow : tree.items_depth (items_outline ds) ≤ deep
  same : of_items (items_outline ds) ≡ Some ds

kinds_back : (kinds : List Kind) → ReadsBack (items_of (map kind_value kinds)) 0
kinds_back [] = record { texts = tt; numbers = tt; shallow = omega arith; same = refl }
kinds_back (kind ∷ kinds) =
    let rest = kinds_back kinds in record {
      texts = (kind_utf8 kind, rest.texts);
      numbers = (tt, rest.numbers);
      shallow = omega (arith, rest.shallow);
      same = rw rest.same refl;
    }

definitions_back : (ds : List Definition) → All IsDefinition ds → ReadsBack (items_of (map definition_value ds)) 1
definitions_back [] h = record { texts = tt; numbers = tt; shallow = omega arith; same = refl }
definitions_back (d ∷ ds) h =
    let own = All-head IsDefinition d ds h in
    let rest = definitions_back ds (All-tail IsDefinition d ds h) in
    let small : d.points < 2 ^ 64 = omega (arith, own.few) in record {
      texts = ((key_utf8 (codes "granularity") refl, (span_utf8 d.granularity, (key_utf8 (codes "points") refl, (decimal_utf8 d.points small, (key_utf8 (codes "timespan") refl, (span_utf8 (d.granularity * d.points), tt)))))), rest.texts);
      numbers = ((tt, (IsNumber-decimal d.points small, (tt, tt))), rest.numbers);
      shallow = omega (arith, rest.shallow);
      same = rw (number_of-decimal d.points small, rest.same) refl;
    }

policy_value_back : (p : ArchivePolicy) → IsArchivePolicy p → read (compact_text (policy_value p)) ≡ Some (policy_value p)
policy_value_back p h =
    let kinds = kinds_back p.kinds in
    let definitions = definitions_back p.definitions h.definitions.each in
    let small : p.back_window < 2 ^ 64 = omega (arith, h.back_window) in
    text_read (policy_value p) (kinds.numbers, (IsNumber-decimal p.back_window small, (definitions.numbers, (tt, tt)))) (omega (arith, kinds.shallow, definitions.shallow)) (rw (kinds.same, number_of-decimal p.back_window small, definitions.same) refl)

policy_utf8 : (p : ArchivePolicy) → IsArchivePolicy p → IsUtf8 (compact_text (policy_value p))
policy_utf8 p h =
    let small : p.back_window < 2 ^ 64 = omega (arith, h.back_window) in
    text_utf8 (policy_value p) (key_utf8 (codes "aggregation_methods") refl, ((kinds_back p.kinds).texts, (key_utf8 (codes "back_window") refl, (decimal_utf8 p.back_window small, (key_utf8 (codes "definition") refl, ((definitions_back p.definitions h.definitions.each).texts, (key_utf8 (codes "name") refl, (name_utf8 p.name h.name, tt))))))))

kinds_fit : (kinds : List Kind) → items_fit Shape.Plain (items_of (map kind_value kinds)) ≡ true
kinds_fit [] = refl
kinds_fit (kind ∷ kinds) = kinds_fit kinds

definitions_fit : (ds : List Definition) → items_fit Shape.Definition (items_of (map definition_value ds)) ≡ true
definitions_fit [] = refl
definitions_fit (d ∷ ds) = definitions_fit ds

-- a definition, asked for as its document shows it
abbrev as_shown : Definition → Wanted
as_shown d = record { granularity = Some d.granularity; points = Some d.points; timespan = Some (d.granularity * d.points) }

kinds_read : (kinds : List Kind) → all_of value_kind (items_of (map kind_value kinds)) ≡ Ok kinds
kinds_read [] = refl
kinds_read (kind ∷ kinds) = rw (own_kind kind, kinds_read kinds) refl

definitions_read : (ds : List Definition) → All IsDefinition ds → all_of wanted_of (items_of (map definition_value ds)) ≡ Ok (map as_shown ds)
definitions_read [] h = refl
definitions_read (d ∷ ds) h =
    let own = All-head IsDefinition d ds h in
    let more : d.granularity * 1 ≤ d.granularity * d.points = mul-le d.granularity 1 d.granularity d.points (omega arith) own.some in
    let fine : IsSpan d.granularity =
    record { shortest = own.granularity.shortest; longest = omega (arith, own.granularity.longest) } in
    let whole : IsSpan (d.granularity * d.points) =
    record { shortest = omega (arith, more, own.granularity.shortest); longest = own.fits } in
    rw (read-span_text d.granularity fine, read-span_text (d.granularity * d.points) whole, definitions_read ds (All-tail IsDefinition d ds h)) refl

-- ---- the timespan that is shown changes nothing

any_same : (f : Wanted → Bool) → ((d : Definition) → f (as_shown d) ≡ f (as_kept d)) → (ds : List Definition) → list_any f (map as_shown ds) ≡ list_any f (map as_kept ds)
any_same f same [] = refl
any_same f same (d ∷ ds) = rw (same d, any_same f same ds) refl

map_same : {A : Type 0} (f : Wanted → A) → ((d : Definition) → f (as_shown d) ≡ f (as_kept d)) → (ds : List Definition) → map f (map as_shown ds) ≡ map f (map as_kept ds)
map_same f same [] = refl
map_same f same (d ∷ ds) = ap (λ x. x ∷ map f (map as_shown ds)) (same d) ∙ ap (λ xs. f (as_kept d) ∷ xs) (map_same f same ds)

agrees : (d : Definition) → has_mismatch (as_shown d) ≡ has_mismatch (as_kept d)
agrees d = whole (d.granularity * d.points)
  where
    whole : (n : ℕ) → not (n == n) ≡ false
    whole n = grind (arith, nat_tests)

shown_fault : (back : ℕ) (ds : List Definition) (kinds : List Kind) → first_fault back (map as_shown ds) kinds ≡ first_fault back (map as_kept ds) kinds
unfolding first_fault
shown_fault back ds kinds =
    rw (length-map ds as_shown, length-map ds as_kept, any_same has_too_few (λ d. refl) ds, any_same has_no_points (λ d. refl) ds, any_same has_mismatch agrees ds, any_same has_odd_granularity (λ d. refl) ds, any_same has_many_points (λ d. refl) ds, map_same granularity_of (λ d. refl) ds) refl

shown_none : (p : ArchivePolicy) → IsArchivePolicy p → first_fault p.back_window (map as_shown p.definitions) p.kinds ≡ None
shown_none p h = shown_fault p.back_window p.definitions p.kinds ∙ again_none p h

shown_same : (p : ArchivePolicy) → IsArchivePolicy p → policy_of p.name p.back_window (map as_shown p.definitions) p.kinds ≡ p
shown_same p h =
    ap (λ ds. record { name = p.name; back_window = p.back_window; definitions = fold put [] ds; kinds = kinds_of p.kinds }) (map_same definition_of (λ d. refl) p.definitions) ∙ again_same p h

pub policy_back : (p : ArchivePolicy) → IsArchivePolicy p → policy_read (compact_text (policy_value p)) ≡ Ok p
unfolding policy_read
policy_back p h =
    let back = value_there (compact_text (policy_value p)) (policy_value p) (policy_utf8 p h) (policy_value_back p h) in
    rw (back, kinds_fit p.kinds, definitions_fit p.definitions, name-there p.name h.name, definitions_read p.definitions h.definitions.each, kinds_read p.kinds, shown_none p h, shown_same p h) refl

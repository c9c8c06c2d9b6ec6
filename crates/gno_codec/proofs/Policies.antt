-- Names and policies: what is read is spelled so, and what is spelled so is read.
use Rattle.std.proofs.Common.{◌≡◌, ℕ, ◌*◌, ◌^◌, ◌<◌, ◌≤◌, Bool, true, false, cond, eqb, leb, not, ◌&&◌, inl, inr, List, [], ◌∷◌, ◌++◌, length, map, Option, Some, None, Result, Ok, Err, refl, sym, ap, subst, ◌∙◌, append_assoc, arith, lit<}
use Rattle.std.specs.Prelude.{IfSome, is_none}
use Rattle.gno_num.specs.Span.{IsSpan}
use Rattle.std.specs.List.{flat_map, list_all, AllByRecursion}
use Rattle.std.specs.List.Sorted.{IsStrictlyIncreasing, IsPermutation}
use Rattle.std.specs.Cmp.Derive.{both_true}
use Rattle.std.proofs.lemmas.Bool.{cases_lt, eqb-true, leb-true, le-leb}
use Rattle.std.proofs.lemmas.List.{append-nil, get_or_past}
use Rattle.std.proofs.lemmas.Bool.Decides.{nat_tests}
use Rattle.std.proofs.lemmas.List.Elements.{All-weaker, recursion_from_All}
use Rattle.std.proofs.lemmas.List.Sorted.{IsPermutation-sym, Contains-permutation}
use Rattle.std.proofs.lemmas.List.Sums.{AllPass-from_list_all, list_all-from_AllPass}
use Rattle.byteorder.specs.Endian.{big_bytes}
use Rattle.archive_policy.specs.declared.definition.Definition.{Definition}
use Rattle.archive_policy.specs.declared.kind.Kind.{Kind}
use Rattle.archive_policy.specs.Asked.{definition_of}
use Rattle.archive_policy.specs.Faults.{first_fault}
use Rattle.archive_policy.specs.Kinds.{kind_index}
use Rattle.archive_policy.specs.Names.{IsName, IsNameByte}
use Rattle.archive_policy.specs.Policies.{ArchivePolicy, IsArchivePolicy, IsDefinition, granularities}
use Rattle.archive_policy.specs.PolicyLaws.{IsAsked, as_kept}
use Rattle.archive_policy.proofs.KindLemmas.{kept_in_order}
use Rattle.archive_policy.proofs.PolicyAgain.{same_policy, again_none}
use Rattle.archive_policy.proofs.PolicyProofs.{is_asked}
use Rattle.archive_policy.proofs.Rising.{same_rising, Rises_from_rising}
use Rattle.gno_codec.specs.Policy.{name_bytes, optional_name_bytes, definition_bytes, kind_bits, policy_bytes}
use Rattle.gno_codec.specs.Reading.{Unread, or_fault, is_above, then_at, done, number_at, bytes_at, tested}
use Rattle.gno_codec.specs.PolicyReading.{is_name_byte, text_at, name_at, optional_name_at, granularity_after, definition_after, has_bit, kinds_with, can_be_made, policy_fields_at, policy_at}
use Rattle.gno_codec.proofs.Steps.{IsField, IsBytes, Again, IsChain, goes_then, goes_done, goes_last, goes_if, again_then, again_done, again_else, again_field, again_text, made_of, tested_field, items_field, read_ok, ok_is, there_is, some_if}
use Rattle.gno_codec.proofs.Fields.{number_field, bytes_field}
use Rattle.gno_codec.proofs.KindBits.{bits_again, kinds_again, bits_fit}
use Rattle.gno_codec.proofs.Lists.{increases, from_increasing}
use Rattle.gno_codec.proofs.Records.{both_passed, at_least}

-- ---- names

name_byte : (byte : ℕ) → is_name_byte byte ≡ true → IsNameByte byte
name_byte byte e =
    let a = both_passed (leb 32 byte) (leb byte 126 && not (eqb byte 47)) e in
    let b = both_passed (leb byte 126) (not (eqb byte 47)) a.1 in
    record { from = leb-true _ _ a.0; upto = leb-true _ _ b.0; no_slash = other_than byte 47 b.1 }
  where
    other_than : (x y : ℕ) → not (eqb x y) ≡ true → x ≡ y → ⊥
    other_than x y e same = grind (arith, nat_tests)

byte_passes : (byte : ℕ) → IsNameByte byte → is_name_byte byte ≡ true
byte_passes byte h =
    both_true (le-leb _ _ h.from) (both_true (le-leb _ _ h.upto) (differs byte 47 h.no_slash))
  where
    differs : (x y : ℕ) → (x ≡ y → ⊥) → not (eqb x y) ≡ true
    differs x y ne = grind (arith, nat_tests)

pub text_passes : (text : List ℕ) → IsName text → list_all is_name_byte text ≡ true
text_passes text h =
    list_all-from_AllPass is_name_byte text (All-weaker IsNameByte (λ b. is_name_byte b ≡ true) byte_passes text h.bytes)

pub text_is : (text : List ℕ) → 1 ≤ length text → length text ≤ 255 → list_all is_name_byte text ≡ true → IsName text
text_is text some few e = record {
  some = some;
  few = few;
  bytes = All-weaker (λ b. is_name_byte b ≡ true) IsNameByte name_byte text (AllPass-from_list_all is_name_byte text e);
}

name_fits : (text : List ℕ) → IsName text → IsBytes text
name_fits text h i =
    elim (cases_lt i (length text)) [
      | inl lt ↦ let b = h.bytes i 0 lt in omega (arith, b.upto)
      | inr le ↦ rw (get_or_past text i 0 le) (omega arith)
    ]

-- a text of as many bytes as a byte counts
text_field : (n : ℕ) → 1 ≤ n → n < 256 → IsField (text_at n) (λ text. text) (λ text. (length text ≡ n) × IsName text)
unfolding text_at
text_field n some few =
    tested_field (list_all is_name_byte) (bytes_field n) (λ text. (length text ≡ n) × IsName text)
    (λ text has e. (has.0, text_is text (omega (arith, has.0)) (omega (arith, has.0)) e))
    (λ text is. ((is.0, name_fits text is.1), text_passes text is.1))

pub name_field : IsField name_at name_bytes IsName
unfolding name_at
name_field = made_of name_bytes IsName
    (goes_then (at_least 1 1) (λ n range. goes_last (text_field n range.0 range.1) (λ text has. (ap (λ (k : ℕ). big_bytes 1 k ++ text) has.0, has.1))))
    (λ text is. again_text (name_bytes text) refl (again_then _ (at_least 1 1) (length text) (is.some, omega (arith, is.few)) (again_field (text_field (length text) is.some (omega (arith, is.few))) text (refl, is))))

pub positive : (n : ℕ) → eqb n 0 ≡ false → 1 ≤ n
positive n e = grind (arith, nat_tests)

pub not_zero : (n : ℕ) → 1 ≤ n → eqb n 0 ≡ false
not_zero n h = grind (arith, nat_tests)

optional_again : (name : Option (List ℕ)) → IfSome name IsName → Again optional_name_at (optional_name_bytes name) name
unfolding optional_name_at
optional_again None is = again_then _ (number_field 1) 0 (lit< tt) (again_done None)
optional_again (Some text) is =
    let n = length text in
    let few : n < 256 = omega (arith, is.few) in
    again_text (name_bytes text) (ap (λ (t : List ℕ). big_bytes 1 n ++ t) (append-nil text)) (again_then _ (number_field 1) n few
    (again_else (eqb n 0) (done None) _ (not_zero n is.some) (again_then _ (text_field n is.some few) text (refl, is) (again_done (Some text)))))

pub optional_name_field : IsField optional_name_at optional_name_bytes (λ name. IfSome name IsName)
unfolding optional_name_at
optional_name_field = made_of optional_name_bytes (λ name. IfSome name IsName)
    (goes_then (number_field 1) (λ n fits. goes_if (eqb n 0) (done None) _
    (λ zero. goes_done None (ap (big_bytes 1) (sym (eqb-true _ _ zero))) tt)
    (λ some. goes_then (text_field n (positive n some) fits) (λ text has. goes_done (Some text) (ap (λ (k : ℕ). big_bytes 1 k ++ text) has.0) has.1))))
    optional_again

-- ---- definitions

above_passes : (before : Option Definition) (n : ℕ) → (leb (10 ^ 6) n && (leb n (9 * 10 ^ 18) && is_above (λ d. d.granularity) before n)) ≡ true → IsSpan n × (is_above (λ d. d.granularity) before n ≡ true)
above_passes before n e =
    let a = both_passed (leb (10 ^ 6) n) (leb n (9 * 10 ^ 18) && is_above (λ d. d.granularity) before n) e in
    let b = both_passed (leb n (9 * 10 ^ 18)) (is_above (λ d. d.granularity) before n) a.1 in
    (record { shortest = leb-true _ _ a.0; longest = leb-true _ _ b.0 }, b.1)

granularity_field : (before : Option Definition) → IsField (granularity_after before) (big_bytes 8) (λ n. IsSpan n × (is_above (λ d. d.granularity) before n ≡ true))
unfolding granularity_after
granularity_field before =
    tested_field _ (number_field 8) (λ n. IsSpan n × (is_above (λ d. d.granularity) before n ≡ true))
    (λ n has e. above_passes before n e)
    (λ n is. (omega (arith, is.0.longest), both_true (le-leb _ _ is.0.shortest) (both_true (le-leb _ _ is.0.longest) is.1)))

-- a definition that may stand behind another
pub record IsBehind (before : Option Definition) (d : Definition) : Type 0 where
  pub span : IsSpan d.granularity
  pub above : is_above (λ e. e.granularity) before d.granularity ≡ true
  pub points : d.points < 256 ^ 4

definition_field : (before : Option Definition) → IsField (definition_after before) definition_bytes (IsBehind before)
unfolding definition_after
definition_field before = made_of definition_bytes (IsBehind before)
    (goes_then (granularity_field before) (λ n is. goes_then (number_field 4) (λ points fits. goes_done (record { granularity = n; points = points }) refl (record { span = is.0; above = is.1; points = fits }))))
    (λ d is. again_text (definition_bytes d) (ap (λ (t : List ℕ). big_bytes 8 d.granularity ++ t) (append-nil (big_bytes 4 d.points)))
    (again_then _ (granularity_field before) d.granularity (is.span, is.above) (again_then _ (number_field 4) d.points is.points (again_done d))))

-- ---- policies

-- what the fields of a policy are before they are looked at together
pub record IsUnmade (p : ArchivePolicy) : Type 0 where
  pub name : IsName p.name
  pub back_window : p.back_window < 256 ^ 2
  pub count : length p.definitions < 256
  pub definitions : IsChain IsBehind None p.definitions
  pub bits : kind_bits p.kinds < 256 ^ 2
  pub kinds : kinds_with (kind_bits p.kinds) ≡ p.kinds

fields_field : IsField policy_fields_at policy_bytes IsUnmade
unfolding policy_fields_at
fields_field = made_of policy_bytes IsUnmade
    (goes_then name_field (λ name is. goes_then (number_field 2) (λ window small. goes_then (number_field 1) (λ count few. goes_then (items_field definition_after definition_bytes IsBehind definition_field None count) (λ ds have. goes_then (number_field 2) (λ bits fits.
    let same = bits_again bits fits in
    goes_done (record { name = name; back_window = window; definitions = ds; kinds = kinds_with bits })
    (ap (λ (k : ℕ). name_bytes name ++ big_bytes 2 window ++ big_bytes 1 k ++ flat_map definition_bytes ds ++ big_bytes 2 (kind_bits (kinds_with bits))) have.0
    ∙ ap (λ (k : ℕ). name_bytes name ++ big_bytes 2 window ++ big_bytes 1 count ++ flat_map definition_bytes ds ++ big_bytes 2 k) same)
    (record {
      name = is;
      back_window = small;
      count = omega (arith, have.0, few);
      definitions = have.1;
      bits = omega (arith, same, fits);
      kinds = ap kinds_with same;
    })))))))
    (λ p is. again_text (policy_bytes p) (simp (append_assoc, append-nil)) (again_then _ name_field p.name is.name (again_then _ (number_field 2) p.back_window is.back_window (again_then _ (number_field 1) (length p.definitions) is.count
    (again_then _ (items_field definition_after definition_bytes IsBehind definition_field None (length p.definitions)) p.definitions (refl, is.definitions) (again_then _ (number_field 2) (kind_bits p.kinds) is.bits
    (subst (λ (q : ArchivePolicy). Again (done (record { name = p.name; back_window = p.back_window; definitions = p.definitions; kinds = kinds_with (kind_bits p.kinds) })) [] q) (ap (λ (ks : List Kind). record { name = p.name; back_window = p.back_window; definitions = p.definitions; kinds = ks }) is.kinds)
    (again_done (record { name = p.name; back_window = p.back_window; definitions = p.definitions; kinds = kinds_with (kind_bits p.kinds) })))))))))

-- ---- a policy that can be made

no_fault : {A : Type 0} (o : Option A) → is_none o ≡ true → o ≡ None
no_fault None e = refl
no_fault (Some x) e = absurd cc

chain_weaker : {A : Type 0} (P Q : Option A → A → Type 0) → ((b : Option A) (x : A) → P b x → Q b x) → (b : Option A) (xs : List A) → IsChain P b xs → IsChain Q b xs
chain_weaker P Q there b [] h = tt
chain_weaker P Q there b (x ∷ xs) h = (there b x h.0, chain_weaker P Q there (Some x) xs h.1)

-- What is asked for as it is kept, in order, is made as it is kept.
pub made_again : (p q : ArchivePolicy) → IsStrictlyIncreasing (granularities p.definitions) → IsStrictlyIncreasing (map kind_index p.kinds) → IsAsked p.name p.back_window (map as_kept p.definitions) p.kinds q → p ≡ q
made_again p q rising in_order h =
    let P : List Definition → Type 0 = λ ds. IsPermutation ds q.definitions in
    let moved : IsPermutation p.definitions q.definitions = subst P (kept_definitions p.definitions) h.definitions in
    let ds : p.definitions ≡ q.definitions =
    same_rising (λ (d : Definition). d.granularity) p.definitions q.definitions (Rises_from_rising (granularities p.definitions) rising) (Rises_from_rising (granularities q.definitions) h.valid.definitions.rising)
    (λ d c. Contains-permutation p.definitions q.definitions d moved c)
    (λ d c. Contains-permutation q.definitions p.definitions d (IsPermutation-sym p.definitions q.definitions moved) c) in
    let ks : p.kinds ≡ q.kinds =
    same_rising kind_index p.kinds q.kinds (Rises_from_rising (map kind_index p.kinds) in_order) (Rises_from_rising (map kind_index q.kinds) h.valid.kinds.in_table_order)
    (λ k c. (h.kinds k).1 c) (λ k c. (h.kinds k).0 c) in
    same_policy p q (sym h.name) (sym h.back_window) ds ks
  where
    kept_definitions : (ds : List Definition) → map definition_of (map as_kept ds) ≡ ds
    kept_definitions [] = refl
    kept_definitions (d ∷ ds) = ap (λ (rest : List Definition). d ∷ rest) (kept_definitions ds)

unmade_made : (p : ArchivePolicy) → IsUnmade p → can_be_made p ≡ true → IsArchivePolicy p
unmade_made p is e =
    let none = no_fault (first_fault p.back_window (map as_kept p.definitions) p.kinds) e in
    let asked = is_asked p.name p.back_window (map as_kept p.definitions) p.kinds is.name none in
    let rising = increases (λ (d : Definition). d.granularity) p.definitions (chain_weaker IsBehind (λ b d. is_above (λ e. e.granularity) b d.granularity ≡ true) (λ b d h. h.above) None p.definitions is.definitions) in
    let in_order = subst (λ (ks : List Kind). IsStrictlyIncreasing (map kind_index ks)) is.kinds (kept_in_order (λ kind. has_bit (kind_bits p.kinds) (kind_index kind))) in
    subst IsArchivePolicy (sym (made_again p _ rising in_order asked)) asked.valid

made_unmade : (p : ArchivePolicy) → IsArchivePolicy p → IsUnmade p × (can_be_made p ≡ true)
made_unmade p is = (
  record {
    name = is.name;
    back_window = omega (arith, is.back_window);
    count = omega (arith, is.definitions.few);
    definitions = behind None p.definitions (from_increasing (λ (d : Definition). d.granularity) p.definitions is.definitions.rising) (recursion_from_All IsDefinition p.definitions is.definitions.each);
    bits = omega (arith, bits_fit p.kinds is.kinds.in_table_order);
    kinds = kinds_again p.kinds is.kinds.in_table_order;
  },
  ap is_none (again_none p is),
)
  where
    behind : (b : Option Definition) (ds : List Definition) → IsChain (λ b d. is_above (λ e. e.granularity) b d.granularity ≡ true) b ds → AllByRecursion IsDefinition ds → IsChain IsBehind b ds
    behind b [] r v = tt
    behind b (d ∷ ds) r v = (
      record {
        span = record { shortest = v.0.granularity.shortest; longest = omega (arith, v.0.granularity.longest) };
        above = r.0;
        points = omega (arith, v.0.few);
      },
      behind (Some d) ds r.1 v.1,
    )

pub policy_field : IsField policy_at policy_bytes IsArchivePolicy
unfolding policy_at
policy_field =
    tested_field can_be_made fields_field IsArchivePolicy (λ p is e. unmade_made p is e) (λ p is. made_unmade p is)

abbrev pub made_or_fault : ArchivePolicy → ℕ → Result ArchivePolicy ℕ
made_or_fault p at = cond (can_be_made p) (Ok p) (Err at)

-- what `make` answers for fields in order
pub makes : (p q : ArchivePolicy) (at : ℕ) → IsStrictlyIncreasing (granularities p.definitions) → IsStrictlyIncreasing (map kind_index p.kinds) → first_fault p.back_window (map as_kept p.definitions) p.kinds ≡ None
    → IsAsked p.name p.back_window (map as_kept p.definitions) p.kinds q → made_or_fault p at ≡ Ok q
makes p q at rising in_order none asked =
    ap (λ (b : Bool). cond b (Ok p) (Err at)) (ap is_none none) ∙ ap (λ (x : ArchivePolicy). Ok x) (made_again p q rising in_order asked)

-- a definition that was read is above the one before it
pub definition_rises : (before : Option Definition) (from : Unread) (d : Definition) (to : Unread) → definition_after before from ≡ Ok (d, to) → is_above (λ e. e.granularity) before d.granularity ≡ true
unfolding definition_after granularity_after then_at done tested
definition_rises before from d to e =
    let test : ℕ → Bool = λ n. leb (10 ^ 6) n && (leb n (9 * 10 ^ 18) && is_above (λ (c : Definition). c.granularity) before n) in
    let a = read_ok (granularity_after before from) (λ granularity. then_at (number_at 4) (λ points. done (record { granularity = granularity; points = points }))) (d, to) e in
    let b = read_ok (number_at 4 a.0.1) (λ points. done (record { granularity = a.0.0; points = points })) (d, to) a.2 in
    let n = read_ok (number_at 8 from) (λ x. or_fault from.at (cond (test x) (Some x) None)) a.0 a.1 in
    let o = there_is (cond (test n.0.0) (Some n.0.0) None) from.at n.0.1 a.0 n.2 in
    let s = some_if (test n.0.0) n.0.0 a.0.0 o.0 in
    let above : is_above (λ (c : Definition). c.granularity) before a.0.0 ≡ true = (above_passes before a.0.0 (subst (λ (x : ℕ). test x ≡ true) s.1 s.0)).1 in
    let same = ok_is {A = Definition × Unread} (record { granularity = a.0.0; points = b.0.0 }, b.0.1) (d, to) b.2 in
    let Q : Definition × Unread → Type 0 = λ z. is_above (λ (c : Definition). c.granularity) before z.0.granularity ≡ true in
    subst Q same above

pub text_read : (n len : ℕ) (from : Unread) (text name : List ℕ) (to : Unread) → n ≡ len → bytes_at n from ≡ Ok (text, to) → name ≡ text → IsName text → text_at len from ≡ Ok (name, to)
unfolding text_at tested
text_read n len from text name to same read named is =
    let bytes : bytes_at len from ≡ Ok (text, to) = ap (λ (k : ℕ). bytes_at k from) (sym same) ∙ read in
    rw (bytes, text_passes text is) (ap (λ (t : List ℕ). Ok (t, to)) (sym named))

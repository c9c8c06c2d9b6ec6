-- Records of the shelf's log: what is read is spelled so, and what is spelled so is read.
use Rattle.std.proofs.Common.{◌≡◌, ℕ, suc, ◌-◌, ◌*◌, ◌^◌, ◌<◌, ◌≤◌, Bool, true, false, cond, eqb, ltb, ◌&&◌, ◌||◌, ◌⊎◌, inl, inr, List, [], ◌∷◌, ◌++◌, length, Option, Some, None, Ok, Err, refl, sym, ap, subst, ◌∙◌, append_assoc, arith, lit<}
use Rattle.std.specs.Prelude.{All, IfSome, slice_get}
use Rattle.std.specs.List.{flat_map, AllPairs, AllByRecursion}
use Rattle.std.proofs.lemmas.Bool.{eqb-true, ltb-true, lt-ltb}
use Rattle.std.proofs.lemmas.Bool.Decides.{nat_tests}
use Rattle.std.proofs.lemmas.List.{append-nil}
use Rattle.std.proofs.lemmas.List.Elements.{All-from_recursion, recursion_from_All}
use Rattle.std.proofs.lemmas.List.Kept.{AllPairs-cons}
use Rattle.byteorder.specs.Endian.{big_bytes}
use Rattle.archive_policy.specs.declared.kind.Kind.{Kind}
use Rattle.archive_policy.specs.Kinds.{all_kinds, kind_index}
use Rattle.archive_policy.proofs.KindLemmas.{at_place, place_below}
use Rattle.gno_codec.specs.declared.item.Block.{Block}
use Rattle.gno_codec.specs.declared.item.Change.{Change}
use Rattle.gno_codec.specs.declared.item.ShelfItem.{ShelfItem}
use Rattle.gno_codec.specs.declared.item.ShelfItem.TheVariants as items
use Rattle.gno_codec.specs.Incoming.{measure_bytes}
use Rattle.gno_codec.specs.Policy.{policy_bytes}
use Rattle.gno_codec.specs.Shelf.{optional_bytes, last_bytes, block_bytes, blocks_bytes, stored_bytes, change_bytes, changes_bytes, register_bytes, commit_bytes, drop_bytes, shelf_bytes, IsBlock, IsChange, ComesBefore, IsShelf}
use Rattle.gno_codec.specs.Reading.{Unread, Reading, done, number_at, standing_for, optional_at, by_kind}
use Rattle.gno_codec.specs.ShelfReading.{last_for, last_at, block_at, stored_at, kind_at, change_at, comes_behind_by_kind, comes_behind, is_behind, change_after, blocks_at, changes_at, register_at, commit_at, drop_at, shelf_kinds}
use Rattle.gno_codec.proofs.Steps.{IsField, Goes, Again, IsChain, goes_then, goes_done, goes_last, goes_if, again_then, again_done, again_field, again_text, made_of, standing_field, tested_field, items_field, goes_choice, flat_4, flat_7}
use Rattle.gno_codec.proofs.Fields.{number_field}
use Rattle.gno_codec.proofs.Records.{both_passed, at_least, limited, stamp_field, measure_field, each_field, kind_goes, kind_again, chosen, goes_as}
use Rattle.gno_codec.proofs.KindBits.{kind_of_place}
use Rattle.gno_codec.proofs.Policies.{policy_field, not_zero, positive}

is_eqb : (a b : ℕ) → a ≡ b → eqb a b ≡ true
is_eqb a b e = grind (arith, nat_tests)

-- ---- what there is behind a byte 1

optional_again : {A : Type 0} {field : Reading A} {spelled : A → List ℕ} {Has : A → Type 0} → IsField field spelled Has → (o : Option A) → IfSome o Has → Again (optional_at field) (optional_bytes spelled o) o
unfolding optional_at
optional_again {A} {field} {spelled} {Has} is None has = again_then _ (limited 1 1 (lit< tt)) 0 (omega arith) (again_done None)
optional_again {A} {field} {spelled} {Has} is (Some x) has =
    again_text (1 ∷ spelled x) (ap (λ (t : List ℕ). 1 ∷ t) (append-nil (spelled x))) (again_then _ (limited 1 1 (lit< tt)) 1 (omega arith) (again_then _ is x has (again_done (Some x))))

pub optional_field : {A : Type 0} {field : Reading A} {spelled : A → List ℕ} {Has : A → Type 0} → IsField field spelled Has → IsField (optional_at field) (optional_bytes spelled) (λ o. IfSome o Has)
unfolding optional_at
optional_field {A} {field} {spelled} {Has} is = made_of (optional_bytes spelled) (λ o. IfSome o Has)
    (goes_then (limited 1 1 (lit< tt)) (λ n most. goes_if (eqb n 0) (done None) _
    (λ zero. goes_done None (ap (big_bytes 1) (sym (eqb-true _ _ zero))) tt)
    (λ some. goes_then is (λ x has. goes_done (Some x) (ap (λ (k : ℕ). big_bytes 1 k ++ spelled x) (one n most some)) has))))
    (optional_again is)
  where
    one : (n : ℕ) → n ≤ 1 → eqb n 0 ≡ false → 1 ≡ n
    one n le e = omega (arith, positive n e)

-- ---- last timestamps

last_there : (n : ℕ) (last : Option ℕ) → n < 256 ^ 8 → last_for n ≡ Some last → (last_bytes last ≡ big_bytes 8 n) × IfSome last (λ at. at < 9 * 10 ^ 18)
last_there n last fits e =
    let Q : Option ℕ → Type 0 = λ l. (last_bytes l ≡ big_bytes 8 n) × IfSome l (λ at. at < 9 * 10 ^ 18) in
    elim (chosen (ltb n (9 * 10 ^ 18)) (Some n) last (cond (eqb n (2 ^ 64 - 1)) (Some None) None) e) [
      | inl stamp ↦ subst Q stamp.1 (refl, ltb-true _ _ stamp.0)
      | inr others ↦ elim (chosen (eqb n (2 ^ 64 - 1)) None last None others) [
        | inl none ↦ subst Q none.1 (ap (big_bytes 8) (sym (eqb-true _ _ none.0)), tt)
        | inr nothing ↦ absurd cc
      ]
    ]

last_back : (last : Option ℕ) → IfSome last (λ at. at < 9 * 10 ^ 18) → (n : ℕ) × (n < 256 ^ 8) × (last_for n ≡ Some last) × (last_bytes last ≡ big_bytes 8 n)
last_back None is = (2 ^ 64 - 1, lit< tt, refl, refl)
last_back (Some at) is = (at, omega (arith, is), ap (λ (b : Bool). cond b (Some (Some at)) (cond (eqb at (2 ^ 64 - 1)) (Some None) None)) (lt-ltb _ _ is), refl)

last_field : IsField last_at last_bytes (λ last. IfSome last (λ at. at < 9 * 10 ^ 18))
unfolding last_at
last_field = standing_field last_for (number_field 8) last_bytes (λ last. IfSome last (λ at. at < 9 * 10 ^ 18)) last_there last_back

-- ---- blocks

pub block_field : IsField block_at block_bytes IsBlock
unfolding block_at
block_field = made_of block_bytes IsBlock
    (goes_then (number_field 8) (λ at place. goes_then (at_least 4 1) (λ len range. goes_done (record { at = at; len = len }) refl (record { place = place; some = range.0; length = range.1 }))))
    (λ b is. again_text (block_bytes b) (ap (λ (t : List ℕ). big_bytes 8 b.at ++ t) (append-nil (big_bytes 4 b.len)))
    (again_then _ (number_field 8) b.at is.place (again_then _ (at_least 4 1) b.len (is.some, is.length) (again_done b))))

no_place : (at len : ℕ) → cond (eqb at 0) 0 1 ≤ len → eqb len 0 ≡ true → at ≡ 0
no_place at len le e = grind (arith, nat_tests)

long_enough : (at len : ℕ) → 1 ≤ len → cond (eqb at 0) 0 1 ≤ len
long_enough at len le = grind (arith, nat_tests)

stored_again : (o : Option Block) → IfSome o IsBlock → Again stored_at (stored_bytes o) o
unfolding stored_at
stored_again None is = again_text (stored_bytes None) refl (again_then _ (number_field 8) 0 (lit< tt) (again_then _ (at_least 4 0) 0 (omega arith, lit< tt) (again_done None)))
stored_again (Some b) is =
    again_text (block_bytes b) (ap (λ (t : List ℕ). big_bytes 8 b.at ++ t) (append-nil (big_bytes 4 b.len)))
    (again_then _ (number_field 8) b.at is.place (again_then _ (at_least 4 (cond (eqb b.at 0) 0 1)) b.len (long_enough b.at b.len is.some, is.length)
    (subst (λ (t : Bool). Again (done (cond t None (Some b))) [] (Some b)) (sym (not_zero b.len is.some)) (again_done (Some b)))))

stored_field : IsField stored_at stored_bytes (λ o. IfSome o IsBlock)
unfolding stored_at
stored_field = made_of stored_bytes (λ o. IfSome o IsBlock)
    (goes_then (number_field 8) (λ at place. goes_then (at_least 4 (cond (eqb at 0) 0 1)) (λ len range. goes_choice (eqb len 0) None (Some (record { at = at; len = len }))
    (λ gone. goes_done None (ap (λ (n : ℕ). big_bytes 8 n ++ big_bytes 4 0) (sym (no_place at len range.0 gone)) ∙ ap (λ (n : ℕ). big_bytes 8 at ++ big_bytes 4 n) (sym (eqb-true _ _ gone))) tt)
    (λ some. goes_done (Some (record { at = at; len = len })) refl (record { place = place; some = positive len some; length = range.1 })))))
    stored_again

-- ---- changes

kind_field : IsField kind_at (λ kind. big_bytes 1 (kind_index kind)) (λ kind. Unit {0})
unfolding kind_at
kind_field = standing_field (λ n. slice_get all_kinds n) (number_field 1) (λ kind. big_bytes 1 (kind_index kind)) (λ kind. Unit {0})
    (λ n kind fits e. (ap (big_bytes 1) (sym (kind_of_place n kind e)), tt))
    (λ kind is. (kind_index kind, below kind, at_place kind, refl))
  where
    below : (kind : Kind) → kind_index kind < 256
    below kind = omega (arith, place_below kind)

change_fields : IsField change_at change_bytes IsChange
unfolding change_at
change_fields = made_of change_bytes IsChange
    (goes_then (number_field 1) (λ definition fits. goes_then kind_field (λ kind any. goes_then stamp_field (λ key time. goes_then stored_field (λ block is.
    goes_done (record { definition = definition; kind = kind; key = key; block = block }) refl (record { definition = fits; key = time; block = is }))))))
    (λ c is. again_text (change_bytes c) (simp (append_assoc, append-nil)) (again_then _ (number_field 1) c.definition is.definition (again_then _ kind_field c.kind tt (again_then _ stamp_field c.key is.key (again_then _ stored_field c.block is.block (again_done c))))))

change_field : (before : Option Change) → IsField (change_after before) change_bytes (λ c. IsChange c × (is_behind before c ≡ true))
unfolding change_after
change_field before =
    tested_field (is_behind before) change_fields (λ c. IsChange c × (is_behind before c ≡ true)) (λ c is e. (is, e)) (λ c is. is)

-- ---- the order of changes

either : (a b : Bool) → (a || b) ≡ true → (a ≡ true) ⊎ (b ≡ true)
either true b e = inl refl
either false b e = inr e

left_or : (a b : Bool) → a ≡ true → (a || b) ≡ true
left_or true b e = refl
left_or false b e = absurd cc

right_or : (a b : Bool) → b ≡ true → (a || b) ≡ true
right_or true b e = refl
right_or false b e = e

both_and : (a b : Bool) → a ≡ true → b ≡ true → (a && b) ≡ true
both_and true b p q = q
both_and false b p q = absurd cc

comes_before : (c d : Change) → comes_behind c d ≡ true → ComesBefore c d
comes_before c d e =
    elim (either (ltb c.definition d.definition) _ e) [
      | inl lt ↦ inl (ltb-true _ _ lt)
      | inr same ↦
          let a = both_passed (eqb c.definition d.definition) (comes_behind_by_kind c d) same in
          let k = kind_index c.kind in
          let j = kind_index d.kind in
          inr (
            eqb-true _ _ a.0,
            elim (either (ltb k j) (eqb k j && ltb c.key d.key) a.1) [
              | inl lt ↦ inl (ltb-true _ _ lt)
              | inr key ↦ let b = both_passed (eqb k j) (ltb c.key d.key) key in inr (eqb-true _ _ b.0, ltb-true _ _ b.1)
            ],
          )
    ]

is_before : (c d : Change) → ComesBefore c d → comes_behind c d ≡ true
is_before c d (inl lt) = left_or _ _ (lt-ltb _ _ lt)
is_before c d (inr (same, inl lt)) =
    right_or (ltb c.definition d.definition) _ (both_and (eqb c.definition d.definition) (comes_behind_by_kind c d) (is_eqb _ _ same) (left_or _ _ (lt-ltb _ _ lt)))
is_before c d (inr (same, inr (kind, key))) =
    right_or (ltb c.definition d.definition) _ (both_and (eqb c.definition d.definition) (comes_behind_by_kind c d) (is_eqb _ _ same)
    (right_or (ltb (kind_index c.kind) (kind_index d.kind)) _ (both_and (eqb (kind_index c.kind) (kind_index d.kind)) (ltb c.key d.key) (is_eqb _ _ kind) (lt-ltb _ _ key))))

then_before : (c d e : Change) → ComesBefore c d → ComesBefore d e → ComesBefore c e
then_before c d e (inl p) (inl q) = inl (omega (arith, p, q))
then_before c d e (inl p) (inr q) = inl (omega (arith, p, q.0))
then_before c d e (inr p) (inl q) = inl (omega (arith, p.0, q))
then_before c d e (inr (p, inl a)) (inr (q, inl b)) = inr (p ∙ q, inl (omega (arith, a, b)))
then_before c d e (inr (p, inl a)) (inr (q, inr b)) = inr (p ∙ q, inl (omega (arith, a, b.0)))
then_before c d e (inr (p, inr a)) (inr (q, inl b)) = inr (p ∙ q, inl (omega (arith, a.0, b)))
then_before c d e (inr (p, inr a)) (inr (q, inr b)) = inr (p ∙ q, inr (a.0 ∙ b.0, omega (arith, a.1, b.1)))

abbrev IsNext : Option Change → Change → Type 0
IsNext before c = IsChange c × (is_behind before c ≡ true)

weaker : (c d : Change) (cs : List Change) → ComesBefore c d → AllByRecursion (ComesBefore d) cs → AllByRecursion (ComesBefore c) cs
weaker c d [] p h = tt
weaker c d (e ∷ cs) p h = (then_before c d e p h.0, weaker c d cs p h.1)

later : (c : Change) (cs : List Change) → IsChain IsNext (Some c) cs → AllByRecursion (ComesBefore c) cs × AllPairs ComesBefore cs × AllByRecursion IsChange cs
later c [] h = (tt, λ i j d lt inside. absurd (omega (arith, inside)), tt)
later c (d ∷ ds) h =
    let p = comes_before c d h.0.1 in
    let r = later d ds h.1 in
    ((p, weaker c d ds p r.0), AllPairs-cons ComesBefore d ds (All-from_recursion (ComesBefore d) ds r.0) r.1, (h.0.0, r.2))

in_order : (cs : List Change) → IsChain IsNext None cs → AllPairs ComesBefore cs × AllByRecursion IsChange cs
in_order [] h = (λ i j d lt inside. absurd (omega (arith, inside)), tt)
in_order (c ∷ cs) h =
    let r = later c cs h.1 in
    (AllPairs-cons ComesBefore c cs (All-from_recursion (ComesBefore c) cs r.0) r.1, (h.0.0, r.2))

rest_pairs : (c : Change) (cs : List Change) → AllPairs ComesBefore (c ∷ cs) → AllPairs ComesBefore cs
rest_pairs c cs h i j d lt inside = h (suc i) (suc j) d (omega (arith, lt)) (omega (arith, inside))

chain_from : (c : Change) (cs : List Change) → AllPairs ComesBefore (c ∷ cs) → AllByRecursion IsChange cs → IsChain IsNext (Some c) cs
chain_from c [] h is = tt
chain_from c (d ∷ ds) h is =
    ((is.0, is_before c d (h 0 1 c (lit< tt) (omega arith))), chain_from d ds (rest_pairs c (d ∷ ds) h) is.1)

chain_of : (cs : List Change) → AllPairs ComesBefore cs → AllByRecursion IsChange cs → IsChain IsNext None cs
chain_of [] h is = tt
chain_of (c ∷ cs) h is = ((is.0, refl), chain_from c cs h is.1)

-- ---- counted blocks and changes

pub blocks_field : IsField blocks_at blocks_bytes (λ bs. (length bs < 2 ^ 64) × All IsBlock bs)
unfolding blocks_at
blocks_field = made_of blocks_bytes (λ bs. (length bs < 2 ^ 64) × All IsBlock bs)
    (goes_then (number_field 8) (λ n fits. goes_last (each_field block_field n) (λ bs have. (ap (λ (k : ℕ). big_bytes 8 k ++ flat_map block_bytes bs) have.0, (omega (arith, have.0, fits), have.1)))))
    (λ bs is. again_then _ (number_field 8) (length bs) (omega (arith, is.0)) (again_field (each_field block_field (length bs)) bs (refl, is.1)))

changes_field : IsField changes_at changes_bytes (λ cs. (length cs < 2 ^ 64) × All IsChange cs × AllPairs ComesBefore cs)
unfolding changes_at
changes_field = made_of changes_bytes (λ cs. (length cs < 2 ^ 64) × All IsChange cs × AllPairs ComesBefore cs)
    (goes_then (number_field 8) (λ n fits. goes_last (items_field change_after change_bytes IsNext change_field None n) (λ cs have. let o = in_order cs have.1 in (ap (λ (k : ℕ). big_bytes 8 k ++ flat_map change_bytes cs) have.0, (omega (arith, have.0, fits), All-from_recursion IsChange cs o.1, o.0)))))
    (λ cs is. again_then _ (number_field 8) (length cs) (omega (arith, is.0)) (again_field (items_field change_after change_bytes IsNext change_field None (length cs)) cs (refl, chain_of cs is.2 (recursion_from_All IsChange cs is.1))))

-- ---- records

register_goes : Goes register_at (big_bytes 1 1) shelf_bytes IsShelf
unfolding register_at
register_goes =
    goes_then (number_field 16) (λ metric id. goes_then (number_field 8) (λ number fits. goes_then policy_field (λ policy is.
    goes_done (items.Register (record { 0 = metric }) number policy) refl (record { id = id; done = fits; policy = is }))))

commit_goes : Goes commit_at (big_bytes 1 2) shelf_bytes IsShelf
unfolding commit_at
commit_goes =
    goes_then (number_field 16) (λ metric id. goes_then (number_field 8) (λ number fits. goes_then last_field (λ last l. goes_then (optional_field measure_field) (λ anchor a. goes_then blocks_field (λ chunks b. goes_then changes_field (λ changes c.
    goes_done (items.Commit (record { metric = record { 0 = metric }; done = number; last = last; anchor = anchor; chunks = chunks; changes = changes })) refl
    (record { id = id; done = fits; last = l; anchor = a; chunk_count = b.0; chunks = b.1; change_count = c.0; changes = c.1; in_order = c.2 })))))))

drop_goes : Goes drop_at (big_bytes 1 3) shelf_bytes IsShelf
unfolding drop_at
drop_goes = goes_then (number_field 16) (λ metric id. goes_done (items.Drop (record { 0 = metric })) refl id)

shelf_goes : (kind : ℕ) (r : Reading ShelfItem) → shelf_kinds kind ≡ Some r → Goes r (big_bytes 1 kind) shelf_bytes IsShelf
unfolding shelf_kinds
shelf_goes kind r e =
    elim (chosen (eqb kind 1) register_at r (cond (eqb kind 2) (Some commit_at) (cond (eqb kind 3) (Some drop_at) None)) e) [
      | inl one ↦ goes_as kind 1 register_at r one.0 one.1 register_goes
      | inr others ↦ elim (chosen (eqb kind 2) commit_at r (cond (eqb kind 3) (Some drop_at) None) others) [
        | inl two ↦ goes_as kind 2 commit_at r two.0 two.1 commit_goes
        | inr others ↦ elim (chosen (eqb kind 3) drop_at r None others) [
          | inl three ↦ goes_as kind 3 drop_at r three.0 three.1 drop_goes
          | inr none ↦ absurd cc
        ]
      ]
    ]

shelf_again : (item : ShelfItem) → IsShelf item → Again (by_kind shelf_kinds) (shelf_bytes item) item
unfolding shelf_kinds register_at commit_at drop_at
shelf_again (items.Register metric number policy) is =
    again_text (register_bytes metric.0 number policy) (flat_4 (big_bytes 1 1) (big_bytes 16 metric.0) (big_bytes 8 number) (policy_bytes policy)) (kind_again shelf_kinds 1 register_at _ _ (lit< tt) refl
    (again_then _ (number_field 16) metric.0 is.id (again_then _ (number_field 8) number is.done (again_then _ policy_field policy is.policy (again_done (items.Register metric number policy))))))
shelf_again (items.Commit c) is =
    again_text (commit_bytes c) (flat_7 (big_bytes 1 2) (big_bytes 16 c.metric.0) (big_bytes 8 c.done) (last_bytes c.last) (optional_bytes measure_bytes c.anchor) (blocks_bytes c.chunks) (changes_bytes c.changes)) (kind_again shelf_kinds 2 commit_at _ _ (lit< tt) refl
    (again_then _ (number_field 16) c.metric.0 is.id (again_then _ (number_field 8) c.done is.done (again_then _ last_field c.last is.last (again_then _ (optional_field measure_field) c.anchor is.anchor
    (again_then _ blocks_field c.chunks (is.chunk_count, is.chunks) (again_then _ changes_field c.changes (is.change_count, is.changes, is.in_order) (again_done (items.Commit c)))))))))
shelf_again (items.Drop metric) is =
    again_text (drop_bytes metric.0) (simp append-nil) (kind_again shelf_kinds 3 drop_at _ _ (lit< tt) refl (again_then _ (number_field 16) metric.0 is (again_done (items.Drop metric))))

pub shelf_field : IsField (by_kind shelf_kinds) shelf_bytes IsShelf
shelf_field = made_of shelf_bytes IsShelf (kind_goes shelf_kinds shelf_goes) shelf_again

pub kind_read : (from to : Unread) (place : ℕ) (kind : Kind) → number_at 1 from ≡ Ok (place, to) → slice_get all_kinds place ≡ Some kind → kind_at from ≡ Ok (kind, to)
unfolding kind_at standing_for
kind_read from to place kind read is = rw (read, is) refl

pub kind_refused : (from to : Unread) (place : ℕ) → number_at 1 from ≡ Ok (place, to) → slice_get all_kinds place ≡ None → kind_at from ≡ Err from.at
unfolding kind_at standing_for
kind_refused from to place read none = rw (read, none) refl

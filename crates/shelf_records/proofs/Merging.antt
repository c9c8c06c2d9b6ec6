-- The moves that go through keys that are gone and splits that are made.
use Rattle.std.proofs.Common.{◌≡◌, ℕ, zero, suc, ◌+◌, ◌-◌, ◌<◌, ◌≤◌, Bool, true, false, not, cond, eqb, List, [], ◌∷◌, ◌++◌, map, length, take, drop, Option, Some, None, refl, sym, ap, subst, ◌∙◌, append_assoc, append-nil, arith}
use Rattle.std.specs.List.{All, filter, slice_get}
use Rattle.std.specs.Option.{option_to_list}
use Rattle.std.specs.List.Sorted.{IsStrictlyIncreasing}
use Rattle.std.proofs.Math.Logic.{⊎_elim}
use Rattle.std.proofs.lemmas.Bool.{lt-ltb, le-ltb, eq-eqb, ne_eqb, cases_eq, cases_lt}
use Rattle.std.proofs.lemmas.Option.{none-some, same_Some}
use Rattle.std.proofs.lemmas.List.{drop-drop, drop-map, length-append, length-drop, length-take-le, map-append, take-append-drop, take-map, take-take}
use Rattle.std.proofs.lemmas.List.Elements.{All-cons, All-nil, All-head, All-tail, All-weaker}
use Rattle.series_model.proofs.ByKey.{filter-keep, filter-skip}
use Rattle.series_model.proofs.Rising.{Above, Above-lower, Rises, Rises_from_rising, rising_from_Rises}
use Rattle.gno_codec.specs.declared.item.Block.{Block}
use Rattle.shelf_records.specs.declared.moves.Move.{Move}
use Rattle.shelf_records.specs.declared.moves.Step.{Step}
use Rattle.shelf_records.specs.declared.series.Stored.{Stored}
use Rattle.shelf_records.specs.Moves.{Leads, blocks_of_moves, gone_of, is_block, is_made, is_put, merged, merged_with, put_of}
use Rattle.shelf_records.specs.Series.{after_moves, changed, stored_at, stored_or_gone}
use Rattle.shelf_records.proofs.Keys.{above_all, change_between, change_in_place, key_of, stored_again}

abbrev pub move_key : Move → ℕ
move_key m = m.key

-- ---- one step

-- what holds of each of the three steps holds of the step that is taken
pub merged_cases : (P : List Move → Type 0) (rest : List Stored → List Move) (key : ℕ) (s : Stored) (made : List Stored) → (key < s.key → P (gone_of key ∷ rest (s ∷ made))) → (key ≡ s.key → P (put_of s ∷ rest made)) → (s.key < key → P (put_of s ∷ merged_with rest key made)) → P (merged_with rest key (s ∷ made))
merged_cases P rest key s made lower same higher =
    ⊎_elim
    (λ lt. subst P (sym (ap (λ b. cond b (gone_of key ∷ rest (s ∷ made)) (cond (eqb key s.key) (put_of s ∷ rest made) (put_of s ∷ merged_with rest key made))) (lt-ltb key s.key lt))) (lower lt))
    (λ ge. subst P (sym (ap (λ b. cond b (gone_of key ∷ rest (s ∷ made)) (cond (eqb key s.key) (put_of s ∷ rest made) (put_of s ∷ merged_with rest key made))) (le-ltb key s.key ge)))
    (⊎_elim
    (λ is. subst P (sym (ap (λ b. cond b (put_of s ∷ rest made) (put_of s ∷ merged_with rest key made)) (eq-eqb key s.key is))) (same is))
    (λ apart. subst P (sym (ap (λ b. cond b (put_of s ∷ rest made) (put_of s ∷ merged_with rest key made)) (ne_eqb key s.key apart))) (higher (omega (arith, ge, apart))))
    (cases_eq key s.key)))
    (cases_lt key s.key)

abbrev gone_step : ℕ → Step
gone_step key = record { moved = gone_of key; passed = 1; reached = 0 }

abbrev put_step : Stored → ℕ → Step
put_step s passed = record { moved = put_of s; passed = passed; reached = 1 }

-- the step between a key and a split
pub leads_between : (step : Step) (key : ℕ) (split : Stored) → (key < split.key → step ≡ gone_step key) → (key ≡ split.key → step ≡ put_step split 1) → (split.key < key → step ≡ put_step split 0) → (keys : List ℕ) (splits : List Stored) → slice_get keys 0 ≡ Some key → slice_get splits 0 ≡ Some split → Leads step keys splits
leads_between step key split gone same put [] splits here there = absurd (none-some key here)
leads_between step key split gone same put (k ∷ keys) [] here there = absurd (none-some split there)
leads_between step key split gone same put (k ∷ keys) (s ∷ splits) here there =
    let a : k ≡ key = same_Some k key here in
    let b : s ≡ split = same_Some s split there in
    let at : s.key ≡ split.key = ap key_of b in
    ⊎_elim
    (λ lt. subst (λ (x : Step). Leads x (k ∷ keys) (s ∷ splits)) (sym (gone lt)) (record {
      passed = omega arith;
      reached = omega arith;
      further = omega arith;
      leads = ap (λ (x : ℕ). gone_of x ∷ merged keys (s ∷ splits)) (sym a)
          ∙ merged_cases (λ ms. gone_of k ∷ merged keys (s ∷ splits) ≡ ms) (merged keys) k s splits (λ _. refl) (λ is. absurd (omega (arith, is, lt, a, at))) (λ gt. absurd (omega (arith, gt, lt, a, at)));
    }))
    (λ ge. ⊎_elim
    (λ is. subst (λ (x : Step). Leads x (k ∷ keys) (s ∷ splits)) (sym (same is)) (record {
      passed = omega arith;
      reached = omega arith;
      further = omega arith;
      leads = ap (λ (x : Stored). put_of x ∷ merged keys splits) (sym b)
          ∙ merged_cases (λ ms. put_of s ∷ merged keys splits ≡ ms) (merged keys) k s splits (λ lt. absurd (omega (arith, is, lt, a, at))) (λ _. refl) (λ gt. absurd (omega (arith, gt, is, a, at)));
    }))
    (λ apart.
    let more : split.key < key = omega (arith, ge, apart) in
    subst (λ (x : Step). Leads x (k ∷ keys) (s ∷ splits)) (sym (put more)) (record {
      passed = omega arith;
      reached = omega arith;
      further = omega arith;
      leads = ap (λ (x : Stored). put_of x ∷ merged (k ∷ keys) splits) (sym b)
          ∙ merged_cases (λ ms. put_of s ∷ merged_with (merged keys) k splits ≡ ms) (merged keys) k s splits (λ lt. absurd (omega (arith, more, lt, a, at))) (λ is. absurd (omega (arith, more, is, a, at))) (λ _. refl);
    }))
    (cases_eq key split.key))
    (cases_lt key split.key)

-- where nothing is left to be made
pub leads_gone : (key : ℕ) (keys : List ℕ) (splits : List Stored) → slice_get keys 0 ≡ Some key → slice_get splits 0 ≡ None → Leads (gone_step key) keys splits
leads_gone key [] splits here there = absurd (none-some key here)
leads_gone key (k ∷ keys) (s ∷ splits) here there = absurd (none-some s (sym there))
leads_gone key (k ∷ keys) [] here there =
    record {
      passed = omega arith;
      reached = omega arith;
      further = omega arith;
      leads = ap (λ (x : ℕ). gone_of x ∷ merged keys []) (sym (same_Some k key here));
    }

-- where nothing goes any more
pub leads_put : (split : Stored) (keys : List ℕ) (splits : List Stored) → slice_get keys 0 ≡ None → slice_get splits 0 ≡ Some split → Leads (put_step split 0) keys splits
leads_put split (k ∷ keys) splits here there = absurd (none-some k (sym here))
leads_put split [] [] here there = absurd (none-some split there)
leads_put split [] (s ∷ splits) here there =
    record {
      passed = omega arith;
      reached = omega arith;
      further = omega arith;
      leads = ap (λ (x : Stored). put_of x ∷ map put_of splits) (sym (same_Some s split there));
    }

-- ---- the keys rise

above_made : (k : ℕ) (made : List Stored) → Above k (map key_of made) → Above k (map move_key (map put_of made))
above_made k [] above = tt
above_made k (s ∷ made) above = (above.0, above_made k made above.1)

mutual_above : (k key : ℕ) (rest : List Stored → List Move) → k < key → ((made : List Stored) → Above k (map key_of made) → Above k (map move_key (rest made))) → (made : List Stored) → Above k (map key_of made) → Above k (map move_key (merged_with rest key made))
mutual_above k key rest lt others [] above = (lt, others [] tt)
mutual_above k key rest lt others (s ∷ made) above =
    merged_cases (λ ms. Above k (map move_key ms)) rest key s made (λ _. (lt, others (s ∷ made) above)) (λ _. (above.0, others made above.1)) (λ _. (above.0, mutual_above k key rest lt others made above.1))

above_merged : (k : ℕ) (gone : List ℕ) (made : List Stored) → Above k gone → Above k (map key_of made) → Above k (map move_key (merged gone made))
above_merged k [] made low above = above_made k made above
above_merged k (key ∷ gone) made low above = mutual_above k key (merged gone) low.0 (λ ms h. above_merged k gone ms low.1 h) made above

rises_made : (made : List Stored) → Rises (map key_of made) → Rises (map move_key (map put_of made))
rises_made [] rises = tt
rises_made (s ∷ made) rises = (above_made s.key made rises.0, rises_made made rises.1)

pub rises_merged : (gone : List ℕ) (made : List Stored) → Rises gone → Rises (map key_of made) → Rises (map move_key (merged gone made))
rises_merged [] made low rises = rises_made made rises
rises_merged (key ∷ gone) made low rises = inner (λ ms h. rises_merged gone ms low.1 h) made rises
  where
    inner : ((ms : List Stored) → Rises (map key_of ms) → Rises (map move_key (merged gone ms))) → (made : List Stored) → Rises (map key_of made) → Rises (map move_key (merged (key ∷ gone) made))
    inner rest [] rises = (above_merged key gone [] low.0 tt, rest [] tt)
    inner rest (s ∷ made) rises =
        merged_cases (λ ms. Rises (map move_key ms)) (merged gone) key s made
        (λ lt. (above_merged key gone (s ∷ made) low.0 (lt, Above-lower key s.key (map key_of made) (omega (arith, lt)) rises.0), rest (s ∷ made) rises))
        (λ same. (above_merged s.key gone made (Above-lower s.key key gone (omega (arith, same)) low.0) rises.0, rest made rises.1))
        (λ gt. (above_merged s.key (key ∷ gone) made (gt, Above-lower s.key key gone (omega (arith, gt)) low.0) rises.0, inner rest made rises.1))

-- ---- which moves there are

put_only : (made : List Stored) → filter is_put (map put_of made) ≡ map put_of made
put_only [] = refl
put_only (s ∷ made) = ap (λ ms. put_of s ∷ ms) (put_only made)

pub put_merged : (gone : List ℕ) (made : List Stored) → filter is_put (merged gone made) ≡ map put_of made
put_merged [] made = put_only made
put_merged (key ∷ gone) made = inner (put_merged gone) made
  where
    inner : ((ms : List Stored) → filter is_put (merged gone ms) ≡ map put_of ms) → (made : List Stored) → filter is_put (merged (key ∷ gone) made) ≡ map put_of made
    inner rest [] = rest []
    inner rest (s ∷ made) =
        merged_cases (λ ms. filter is_put ms ≡ put_of s ∷ map put_of made) (merged gone) key s made
        (λ _. rest (s ∷ made))
        (λ _. ap (λ ms. put_of s ∷ ms) (rest made))
        (λ _. ap (λ ms. put_of s ∷ ms) (inner rest made))

abbrev is_gone : Move → Bool
is_gone m = not (is_put m)

none_gone : (made : List Stored) → filter is_gone (map put_of made) ≡ []
none_gone [] = refl
none_gone (s ∷ made) = none_gone made

abbrev left : List Stored → List ℕ → List ℕ
left made keys = filter (λ key. not (is_made made key)) keys

-- an earlier split is none of later keys
left_first : (s : Stored) (made : List Stored) (keys : List ℕ) → Above s.key keys → left (s ∷ made) keys ≡ left made keys
left_first s made [] above = refl
left_first s made (k ∷ keys) above =
    let apart : eqb s.key k ≡ false = ne_eqb s.key k (λ same. absurd (omega (arith, same, above.0))) in
    let one : is_made (s ∷ made) k ≡ is_made made k = rw apart refl in
    ap (λ b. cond (not b) (k ∷ left (s ∷ made) keys) (left (s ∷ made) keys)) one
    ∙ ap (λ l. cond (not (is_made made k)) (k ∷ l) l) (left_first s made keys above.1)

-- a key before all splits is none of them
not_made : (key : ℕ) (made : List Stored) → Above key (map key_of made) → is_made made key ≡ false
not_made key [] above = refl
not_made key (s ∷ made) above =
    let apart : eqb s.key key ≡ false = ne_eqb s.key key (λ same. absurd (omega (arith, same, above.0))) in
    rw apart (not_made key made above.1)

left_own : (key : ℕ) (s : Stored) (made : List Stored) (keys : List ℕ) → s.key ≡ key → left (s ∷ made) (key ∷ keys) ≡ left (s ∷ made) keys
left_own key s made keys same =
    let own : eqb s.key key ≡ true = eq-eqb s.key key same in
    let is : is_made (s ∷ made) key ≡ true = rw own refl in
    filter-skip (λ k. not (is_made (s ∷ made) k)) key keys (ap not is)

pub gone_merged : (gone : List ℕ) (made : List Stored) → Rises gone → Rises (map key_of made) → filter is_gone (merged gone made) ≡ map gone_of (left made gone)
gone_merged [] made low rises = none_gone made
gone_merged (key ∷ gone) made low rises = inner (λ ms h. gone_merged gone ms low.1 h) made rises
  where
    inner : ((ms : List Stored) → Rises (map key_of ms) → filter is_gone (merged gone ms) ≡ map gone_of (left ms gone)) → (made : List Stored) → Rises (map key_of made) → filter is_gone (merged (key ∷ gone) made) ≡ map gone_of (left made (key ∷ gone))
    inner rest [] rises = ap (λ ms. gone_of key ∷ ms) (rest [] tt)
    inner rest (s ∷ made) rises =
        merged_cases (λ ms. filter is_gone ms ≡ map gone_of (left (s ∷ made) (key ∷ gone))) (merged gone) key s made
        (λ lt.
        let none = not_made key (s ∷ made) (lt, Above-lower key s.key (map key_of made) (omega (arith, lt)) rises.0) in
        ap (λ ms. gone_of key ∷ ms) (rest (s ∷ made) rises)
        ∙ sym (ap (map gone_of) (filter-keep (λ k. not (is_made (s ∷ made) k)) key gone (ap not none))))
        (λ same.
        rest made rises.1
        ∙ sym (ap (map gone_of) (left_own key s made gone (sym same) ∙ left_first s made gone (Above-lower s.key key gone (omega (arith, same)) low.0))))
        (λ gt.
        inner rest made rises.1
        ∙ sym (ap (map gone_of) (left_first s made (key ∷ gone) (gt, Above-lower s.key key gone (omega (arith, gt)) low.0))))

-- ---- where the moves lead

abbrev blocks_of : List Stored → List Block
blocks_of splits = map (λ (s : Stored). s.block) splits

-- a change of splits of which some are before its key, and the others behind it
pub change_apart : (k : ℕ) (block : Option Block) (xs ys : List Stored) → All (λ x. x < k) (map key_of xs) → All (λ y. k < y) (map key_of ys) → changed k block (xs ++ ys) ≡ xs ++ (stored_or_gone k block ++ ys)
change_apart k block xs ys before behind =
    ap (λ l. changed k block (l ++ ys)) (sym (stored_again xs))
    ∙ ap (λ l. changed k block (stored_at (map key_of xs) (blocks_of xs) ++ l)) (sym (stored_again ys))
    ∙ change_between k block (map key_of xs) (map key_of ys) (blocks_of xs) (blocks_of ys) before behind
    ∙ ap (λ l. l ++ (stored_or_gone k block ++ stored_at (map key_of ys) (blocks_of ys))) (stored_again xs)
    ∙ ap (λ l. xs ++ (stored_or_gone k block ++ l)) (stored_again ys)

-- the same where a split with this key stands between them
pub change_own : (s : Stored) (block : Option Block) (xs ys : List Stored) → All (λ x. x < s.key) (map key_of xs) → All (λ y. s.key < y) (map key_of ys) → changed s.key block (xs ++ s ∷ ys) ≡ xs ++ (stored_or_gone s.key block ++ ys)
change_own s block xs ys before behind =
    ap (λ l. changed s.key block (l ++ s ∷ ys)) (sym (stored_again xs))
    ∙ ap (λ l. changed s.key block (stored_at (map key_of xs) (blocks_of xs) ++ s ∷ l)) (sym (stored_again ys))
    ∙ change_in_place s.key s.block block (map key_of xs) (map key_of ys) (blocks_of xs) (blocks_of ys) before behind
    ∙ ap (λ l. l ++ (stored_or_gone s.key block ++ stored_at (map key_of ys) (blocks_of ys))) (stored_again xs)
    ∙ ap (λ l. xs ++ (stored_or_gone s.key block ++ l)) (stored_again ys)

-- what rises, around one key
pub around : (xs : List ℕ) (k : ℕ) (ys : List ℕ) → Rises (xs ++ k ∷ ys) → All (λ x. x < k) xs × All (λ y. k < y) ys × Rises (xs ++ ys) × Rises ((xs ++ k ∷ []) ++ ys)
around [] k ys rises = (All-nil (λ x. x < k), above_all k ys rises.0, rises.1, rises)
around (x ∷ xs) k ys rises =
    let rest = around xs k ys rises.1 in
    let low = apart xs rises.0 in (
      All-cons (λ y. y < k) x xs low.0 rest.0,
      rest.1,
      (low.1, rest.2),
      (low.2, rest.3),
    )
  where
    apart : (xs : List ℕ) → Above x (xs ++ k ∷ ys) → (x < k) × Above x (xs ++ ys) × Above x ((xs ++ k ∷ []) ++ ys)
    apart [] above = (above.0, above.1, above)
    apart (y ∷ xs) above = let r = apart xs above.1 in (r.0, (above.0, r.1), (above.0, r.2))

pub Rises-front : (xs ys : List ℕ) → Rises (xs ++ ys) → Rises xs
Rises-front [] ys rises = tt
Rises-front (x ∷ xs) ys rises = (front xs rises.0, Rises-front xs ys rises.1)
  where
    front : (xs : List ℕ) → Above x (xs ++ ys) → Above x xs
    front [] above = tt
    front (y ∷ xs) above = (above.0, front xs above.1)

pub Rises-behind : (xs ys : List ℕ) → Rises (xs ++ ys) → Rises ys
Rises-behind [] ys rises = rises
Rises-behind (x ∷ xs) ys rises = Rises-behind xs ys rises.1

Above-behind : (k : ℕ) (xs ys : List ℕ) → Above k (xs ++ ys) → Above k ys
Above-behind k [] ys above = above
Above-behind k (x ∷ xs) ys above = Above-behind k xs ys above.1

abbrev pub keys_of : List Stored → List ℕ
keys_of splits = map key_of splits

pub keys-append : (xs ys : List Stored) → keys_of (xs ++ ys) ≡ keys_of xs ++ keys_of ys
keys-append xs ys = map-append key_of xs ys

-- one key more between others
pub between : (xs : List ℕ) (k : ℕ) (ys : List ℕ) → Rises (xs ++ ys) → All (λ x. x < k) xs → Above k ys → Rises ((xs ++ k ∷ []) ++ ys)
between [] k ys rises before behind = (behind, rises)
between (x ∷ xs) k ys rises before behind =
    (low xs rises.0, between xs k ys rises.1 (All-tail (λ y. y < k) x xs before) behind)
  where
    low : (xs : List ℕ) → Above x (xs ++ ys) → Above x ((xs ++ k ∷ []) ++ ys)
    low [] above = (All-head (λ y. y < k) x xs before, above)
    low (y ∷ xs) above = (above.0, low xs above.1)

-- the same list with a split at the end of its front
pushed : (a : List Stored) (s : Stored) (ys : List ℕ) → Rises ((keys_of a ++ s.key ∷ []) ++ ys) → Rises (keys_of (a ++ s ∷ []) ++ ys)
pushed a s ys rises = subst (λ (xs : List ℕ). Rises (xs ++ ys)) (sym (keys-append a (s ∷ []))) rises

put_change : (a : List Stored) (s : Stored) (ys : List Stored) → All (λ x. x < s.key) (keys_of a) → All (λ y. s.key < y) (keys_of ys) → changed s.key (Some s.block) (a ++ ys) ≡ (a ++ s ∷ []) ++ ys
put_change a s ys before behind =
    change_apart s.key (Some s.block) a ys before behind ∙ sym (append_assoc a (s ∷ []) ys)

puts_lead : (a made : List Stored) → Rises (keys_of a ++ keys_of made) → after_moves (map put_of made) a ≡ a ++ made
puts_lead a [] rises = sym (append-nil a)
puts_lead a (s ∷ made) rises =
    let parts = around (keys_of a) s.key (keys_of made) rises in
    let here : changed s.key (Some s.block) a ≡ a ++ s ∷ [] =
    ap (changed s.key (Some s.block)) (sym (append-nil a)) ∙ put_change a s [] parts.0 (All-nil (λ y. s.key < y)) ∙ append-nil (a ++ s ∷ []) in
    ap (after_moves (map put_of made)) here
    ∙ puts_lead (a ++ s ∷ []) made (pushed a s (keys_of made) parts.3)
    ∙ append_assoc a (s ∷ []) made

-- behind splits that stay, the moves lead from those that go to those that are made
pub merged_leads : (a gone made : List Stored) → Rises (keys_of a ++ keys_of gone) → Rises (keys_of a ++ keys_of made) → after_moves (merged (keys_of gone) made) (a ++ gone) ≡ a ++ made
merged_leads a [] made low rises = ap (after_moves (map put_of made)) (append-nil a) ∙ puts_lead a made rises
merged_leads a (g ∷ gone) made low rises = inner (λ b ms k h. merged_leads b gone ms k h) a made low rises
  where
    dropped : (a : List Stored) → Rises (keys_of a ++ g.key ∷ keys_of gone) → changed g.key None (a ++ g ∷ gone) ≡ a ++ gone
    dropped a low = let parts = around (keys_of a) g.key (keys_of gone) low in change_own g None a gone parts.0 parts.1

    inner : ((b ms : List Stored) → Rises (keys_of b ++ keys_of gone) → Rises (keys_of b ++ keys_of ms) → after_moves (merged (keys_of gone) ms) (b ++ gone) ≡ b ++ ms) → (a made : List Stored) → Rises (keys_of a ++ g.key ∷ keys_of gone) → Rises (keys_of a ++ keys_of made) → after_moves (merged_with (merged (keys_of gone)) g.key made) (a ++ g ∷ gone) ≡ a ++ made
    inner rest a [] low rises =
        let parts = around (keys_of a) g.key (keys_of gone) low in
        ap (after_moves (merged (keys_of gone) [])) (dropped a low) ∙ rest a [] parts.2 rises
    inner rest a (s ∷ made) low rises =
        let parts = around (keys_of a) g.key (keys_of gone) low in
        let own = around (keys_of a) s.key (keys_of made) rises in
        let more : Rises (keys_of (a ++ s ∷ []) ++ keys_of made) = pushed a s (keys_of made) own.3 in
        merged_cases (λ moves. after_moves moves (a ++ g ∷ gone) ≡ a ++ s ∷ made) (merged (keys_of gone)) g.key s made
        (λ lt. ap (after_moves (merged (keys_of gone) (s ∷ made))) (dropped a low) ∙ rest a (s ∷ made) parts.2 rises)
        (λ same.
        let here : changed s.key (Some s.block) (a ++ g ∷ gone) ≡ (a ++ s ∷ []) ++ gone =
        ap (λ (k : ℕ). changed k (Some s.block) (a ++ g ∷ gone)) (sym same)
        ∙ change_own g (Some s.block) a gone parts.0 parts.1
        ∙ ap (λ (k : ℕ). a ++ ((record { key = k; block = s.block }) ∷ gone)) same
        ∙ sym (append_assoc a (s ∷ []) gone) in
        ap (after_moves (merged (keys_of gone) made)) here
        ∙ rest (a ++ s ∷ []) made (pushed a s (keys_of gone) (subst (λ (k : ℕ). Rises ((keys_of a ++ k ∷ []) ++ keys_of gone)) same parts.3)) more
        ∙ append_assoc a (s ∷ []) made)
        (λ gt.
        let behind : Above s.key (g.key ∷ keys_of gone) = (gt, Above-lower s.key g.key (keys_of gone) (omega (arith, gt)) (Rises-behind (keys_of a) (g.key ∷ keys_of gone) low).0) in
        let here = put_change a s (g ∷ gone) own.0 (above_all s.key (g.key ∷ keys_of gone) behind) in
        ap (after_moves (merged_with (merged (keys_of gone)) g.key made)) here
        ∙ inner rest (a ++ s ∷ []) made (pushed a s (g.key ∷ keys_of gone) (between (keys_of a) s.key (g.key ∷ keys_of gone) low own.0 behind)) more
        ∙ append_assoc a (s ∷ []) made)

fold-append : (xs ys : List Move) (splits : List Stored) → after_moves (xs ++ ys) splits ≡ after_moves ys (after_moves xs splits)
fold-append [] ys splits = refl
fold-append (m ∷ xs) ys splits = fold-append xs ys (changed m.key m.block splits)

-- the first splits go
front_gone : (front rest : List Stored) → Rises (keys_of front ++ keys_of rest) → after_moves (map gone_of (keys_of front)) (front ++ rest) ≡ rest
front_gone [] rest rises = refl
front_gone (s ∷ front) rest rises =
    let all : Rises (s.key ∷ keys_of (front ++ rest)) = subst (λ (xs : List ℕ). Rises (s.key ∷ xs)) (sym (keys-append front rest)) rises in
    ap (after_moves (map gone_of (keys_of front))) (change_own s None [] (front ++ rest) (All-nil (λ x. x < s.key)) (above_all s.key (keys_of (front ++ rest)) all.0))
    ∙ front_gone front rest rises.1

-- keys before all splits come first
merged_front : (front rest : List ℕ) (made : List Stored) → All (λ k. Above k (keys_of made)) front → merged (front ++ rest) made ≡ map gone_of front ++ merged rest made
merged_front [] rest made all = refl
merged_front (k ∷ front) rest [] all =
    ap (λ ms. gone_of k ∷ ms) (merged_front front rest [] (All-tail (λ x. Above x (keys_of [])) k front all))
merged_front (k ∷ front) rest (s ∷ made) all =
    let low = All-head (λ x. Above x (keys_of (s ∷ made))) k front all in
    merged_cases (λ ms. ms ≡ gone_of k ∷ (map gone_of front ++ merged rest (s ∷ made))) (merged (front ++ rest)) k s made
    (λ _. ap (λ ms. gone_of k ∷ ms) (merged_front front rest (s ∷ made) (All-tail (λ x. Above x (keys_of (s ∷ made))) k front all)))
    (λ same. absurd (omega (arith, same, low.0)))
    (λ gt. absurd (omega (arith, gt, low.0)))

-- the moves lead from splits to those of them that stay, with others behind them
pub turn_leads : (pre kept post made : List Stored) → Rises (keys_of pre ++ (keys_of kept ++ keys_of post)) → Rises (keys_of kept ++ keys_of made) → after_moves (merged (keys_of pre ++ keys_of post) made) (pre ++ (kept ++ post)) ≡ kept ++ made
turn_leads pre [] post made low rises =
    ap (λ (ks : List ℕ). after_moves (merged ks made) (pre ++ post)) (sym (keys-append pre post))
    ∙ merged_leads [] (pre ++ post) made (subst Rises (sym (keys-append pre post)) low) rises
turn_leads pre (k ∷ kept) post made low rises =
    let first : All (λ x. Above x (keys_of made)) (keys_of pre) =
    All-weaker (λ x. x < k.key) (λ x. Above x (keys_of made)) (λ x lt. Above-lower x k.key (keys_of made) (omega (arith, lt)) (Above-behind k.key (keys_of kept) (keys_of made) rises.0)) (keys_of pre) (around (keys_of pre) k.key (keys_of kept ++ keys_of post) low).0 in
    let all : Rises (keys_of pre ++ keys_of ((k ∷ kept) ++ post)) = subst (λ (xs : List ℕ). Rises (keys_of pre ++ xs)) (sym (keys-append (k ∷ kept) post)) low in
    ap (λ (ms : List Move). after_moves ms (pre ++ ((k ∷ kept) ++ post))) (merged_front (keys_of pre) (keys_of post) made first)
    ∙ fold-append (map gone_of (keys_of pre)) (merged (keys_of post) made) (pre ++ ((k ∷ kept) ++ post))
    ∙ ap (after_moves (merged (keys_of post) made)) (front_gone pre ((k ∷ kept) ++ post) all)
    ∙ merged_leads (k ∷ kept) post made (Rises-behind (keys_of pre) (keys_of (k ∷ kept) ++ keys_of post) low) rises

-- ---- the loop

pub get_drop : {X : Type 0} (n : ℕ) (xs : List X) → slice_get (drop n xs) 0 ≡ slice_get xs n
get_drop zero xs = refl
get_drop (suc n) [] = refl
get_drop (suc n) (x ∷ xs) = get_drop n xs

pub next_step : (step : Step) (moves new : List Move) (gone : List ℕ) (made : List Stored) (from upto : ℕ) → Leads step (drop from gone) (drop upto made) → new ≡ moves ++ step.moved ∷ [] → moves ++ merged (drop from gone) (drop upto made) ≡ merged gone made → new ++ merged (drop (from + step.passed) gone) (drop (upto + step.reached) made) ≡ merged gone made
next_step step moves new gone made from upto leads is so =
    ap (λ ms. ms ++ merged (drop (from + step.passed) gone) (drop (upto + step.reached) made)) is
    ∙ append_assoc moves (step.moved ∷ []) (merged (drop (from + step.passed) gone) (drop (upto + step.reached) made))
    ∙ ap (λ (ks : List ℕ). moves ++ step.moved ∷ merged ks (drop (upto + step.reached) made)) (sym (drop-drop step.passed from gone))
    ∙ ap (λ (ss : List Stored). moves ++ step.moved ∷ merged (drop step.passed (drop from gone)) ss) (sym (drop-drop step.reached upto made))
    ∙ ap (λ ms. moves ++ ms) leads.leads
    ∙ so

pub length-gone : (first until : ℕ) (keys : List ℕ) → first ≤ until → until ≤ length keys → length (take first keys ++ drop until keys) ≡ first + (length keys - until)
length-gone first until keys le within =
    length-append (take first keys) (drop until keys)
    ∙ omega (arith, length-take-le first keys (omega (arith, le, within)), length-drop until keys)

-- ---- a turn

three_parts : (first until : ℕ) (old : List Stored) → first ≤ until → take first old ++ (drop first (take until old) ++ drop until old) ≡ old
three_parts first until old le =
    sym (append_assoc (take first old) (drop first (take until old)) (drop until old))
    ∙ ap (λ l. (l ++ drop first (take until old)) ++ drop until old) (sym (take-take first until old le))
    ∙ ap (λ l. l ++ drop until old) (take-append-drop first (take until old))
    ∙ take-append-drop until old

without_middle : (xs ys zs : List ℕ) → Rises (xs ++ (ys ++ zs)) → Rises (xs ++ zs)
without_middle [] ys zs rises = Rises-behind ys zs rises
without_middle (x ∷ xs) ys zs rises = (low xs rises.0, without_middle xs ys zs rises.1)
  where
    low : (xs : List ℕ) → Above x (xs ++ (ys ++ zs)) → Above x (xs ++ zs)
    low [] above = Above-behind x ys zs above
    low (w ∷ xs) above = (above.0, low xs above.1)

blocks_made : (made : List Stored) → blocks_of_moves (map put_of made) ≡ map (λ (s : Stored). s.block) made
blocks_made [] = refl
blocks_made (s ∷ made) = ap (λ l. s.block ∷ l) (blocks_made made)

blocks_put : (moves : List Move) → blocks_of_moves moves ≡ blocks_of_moves (filter is_put moves)
blocks_put [] = refl
blocks_put (m ∷ moves) = by m.block refl (blocks_put moves)
  where
    by : (b : Option Block) → m.block ≡ b → blocks_of_moves moves ≡ blocks_of_moves (filter is_put moves) → blocks_of_moves (m ∷ moves) ≡ blocks_of_moves (filter is_put (m ∷ moves))
    by None is rest =
        ap (λ (o : Option Block). option_to_list o ++ blocks_of_moves moves) is
        ∙ rest
        ∙ sym (ap blocks_of_moves (filter-skip is_put m moves (ap is_block is)))
    by (Some b) is rest =
        ap (λ l. option_to_list m.block ++ l) rest
        ∙ sym (ap blocks_of_moves (filter-keep is_put m moves (ap is_block is)))

-- what the moves of a turn are
pub record IsTurn (first until : ℕ) (old made : List Stored) (moves : List Move) : Type 0 where
  pub leads : after_moves moves old ≡ drop first (take until old) ++ made
  pub rising : IsStrictlyIncreasing (map move_key moves)
  pub put : filter is_put moves ≡ map put_of made
  pub gone : filter is_gone moves ≡ map gone_of (left made (keys_of (take first old ++ drop until old)))
  pub blocks : blocks_of_moves moves ≡ map (λ (s : Stored). s.block) made

pub turn : (first until : ℕ) (keys : List ℕ) (old made : List Stored) (moves : List Move) → first ≤ until → keys ≡ keys_of old → IsStrictlyIncreasing keys → IsStrictlyIncreasing (keys_of (drop first (take until old) ++ made)) → moves ≡ merged (take first keys ++ drop until keys) made → IsTurn first until old made moves
turn first until keys old made moves le keys_are rising made_rising is =
    let pre = take first old in
    let kept = drop first (take until old) in
    let post = drop until old in
    let old_rises : Rises (keys_of pre ++ (keys_of kept ++ keys_of post)) =
    subst Rises (keys_are ∙ ap keys_of (sym (three_parts first until old le)) ∙ keys-append pre (kept ++ post) ∙ ap (λ l. keys_of pre ++ l) (keys-append kept post)) (Rises_from_rising keys rising) in
    let made_rises : Rises (keys_of kept ++ keys_of made) = subst Rises (keys-append kept made) (Rises_from_rising (keys_of (kept ++ made)) made_rising) in
    let gone_are : take first keys ++ drop until keys ≡ keys_of pre ++ keys_of post =
    ap (λ (ks : List ℕ). take first ks ++ drop until ks) keys_are
    ∙ ap (λ l. l ++ drop until (keys_of old)) (take-map key_of first old)
    ∙ ap (λ l. keys_of pre ++ l) (drop-map key_of until old) in
    let all : moves ≡ merged (keys_of pre ++ keys_of post) made = is ∙ ap (λ (ks : List ℕ). merged ks made) gone_are in
    let gone_rises : Rises (keys_of pre ++ keys_of post) = without_middle (keys_of pre) (keys_of kept) (keys_of post) old_rises in
    let only_made : Rises (keys_of made) = Rises-behind (keys_of kept) (keys_of made) made_rises in
    let puts : filter is_put moves ≡ map put_of made = ap (filter is_put) all ∙ put_merged (keys_of pre ++ keys_of post) made in
    record {
      leads = ap (λ (ms : List Move). after_moves ms old) all
          ∙ ap (after_moves (merged (keys_of pre ++ keys_of post) made)) (sym (three_parts first until old le))
          ∙ turn_leads pre kept post made old_rises made_rises;
      rising = subst (λ (ms : List Move). IsStrictlyIncreasing (map move_key ms)) (sym all) (rising_from_Rises (map move_key (merged (keys_of pre ++ keys_of post) made)) (rises_merged (keys_of pre ++ keys_of post) made gone_rises only_made));
      put = puts;
      gone = ap (filter is_gone) all ∙ gone_merged (keys_of pre ++ keys_of post) made gone_rises only_made
          ∙ ap (λ (ks : List ℕ). map gone_of (left made ks)) (sym (keys-append pre post));
      blocks = blocks_put moves ∙ ap blocks_of_moves puts ∙ blocks_made made;
    }

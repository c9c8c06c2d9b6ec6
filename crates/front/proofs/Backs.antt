-- Disks that are put back, sack by sack, in the opposite order.
use Rattle.std.proofs.Common.{◌≡◌, ℕ, ◌+◌, ◌*◌, ◌≤◌, List, [], ◌∷◌, ◌++◌, reverse, length, Option, Some, None, refl, sym, ap, ◌∙◌, append-nil, append_assoc, arith, suc}
use Rattle.std.specs.Option.{MatchOption}
use Rattle.std.proofs.lemmas.List.{length-append, length-reverse, reverse-append, reverse-reverse}
use Rattle.sack_state.specs.declared.disks.SackDisks.{SackDisks}
use Rattle.sack_state.specs.SackView.{Of, SackState, SackView}
use Rattle.front.specs.Plan.{five}
use Rattle.front.specs.SoloView.{disks_of_sack, disks_of_sacks}

disks_of_last : {D : Type 0} (rest : List (SackView D)) (v : SackView D) → disks_of_sacks (rest ++ v ∷ []) ≡ disks_of_sacks rest ++ disks_of_sack v
disks_of_last [] v = append-nil (disks_of_sack v)
disks_of_last (w ∷ rest) v = ap (λ l. disks_of_sack w ++ l) (disks_of_last rest v) ∙ sym (append_assoc (disks_of_sack w) (disks_of_sacks rest) (disks_of_sack v))

disks_are : {D : Type 0} (v : SackView D) (d : SackDisks D) → Of v (λ s. d ≡ s.disks) → disks_of_sack v ≡ five d
disks_are {D} v d is = by v.state refl is
  where
    by : (o : Option (SackState D)) → v.state ≡ o → MatchOption o ⊥ (λ s. d ≡ s.disks) → disks_of_sack v ≡ five d
    by None e is = absurd is
    by (Some s) e is = ap (λ (o : Option (SackState D)). elim o as (λ x. List D) [ None ↦ [] | Some s ↦ five s.disks ]) e ∙ ap (λ (x : SackDisks D). five x) (sym is)

-- the last sack's disks are put back
pub put_more : {D : Type 0} (olds : List D) (sacks rest : List (SackView D)) (v : SackView D) (d : SackDisks D) → sacks ≡ rest ++ v ∷ [] → Of v (λ s. d ≡ s.disks)
    → (olds ++ reverse (five d)) ++ reverse (disks_of_sacks rest) ≡ olds ++ reverse (disks_of_sacks sacks)
put_more olds sacks rest v d is of =
    append_assoc olds (reverse (five d)) (reverse (disks_of_sacks rest))
    ∙ ap (λ l. olds ++ l) (sym (ap (λ l. reverse (disks_of_sacks l)) is ∙ ap (λ l. reverse l) (disks_of_last rest v ∙ ap (λ l. disks_of_sacks rest ++ l) (disks_are v d of)) ∙ reverse-append (disks_of_sacks rest) (five d)))

pub many_more : (now before left all total : ℕ) → now ≡ before + 5 → before + 5 * all ≡ total → left + 1 ≡ all → now + 5 * left ≡ total
many_more now before left all total put many fewer = omega (arith, put, many, fewer)

pub wide_still : (a b c : ℕ) → a ≤ b → b ≤ c → a ≤ c
wide_still a b c first second = omega (arith, first, second)

-- no sack is left
pub all_put : {D : Type 0} (disks all : List D) (sacks : List (SackView D)) → disks ++ reverse (disks_of_sacks sacks) ≡ all → length sacks ≡ 0 → disks ≡ all
all_put disks all [] is none = sym (append-nil disks) ∙ is
all_put disks all (v ∷ sacks) is none = absurd (let e : suc (length sacks) ≡ 0 = none in omega (arith, e))

-- the disks of the index come last, and all are turned
pub all_turned : {D : Type 0} (a b : D) (disks put with_b with_a back : List D) (sacks : List (SackView D)) → put ≡ disks ++ reverse (disks_of_sacks sacks) → with_b ≡ put ++ b ∷ [] → with_a ≡ with_b ++ a ∷ [] → back ≡ reverse with_a
    → back ≡ a ∷ b ∷ (disks_of_sacks sacks ++ reverse disks)
all_turned a b disks put with_b with_a back sacks put_is b_is a_is turned =
    turned ∙ ap (λ l. reverse l) a_is ∙ reverse-append with_b (a ∷ [])
    ∙ ap (λ l. a ∷ l) (ap (λ l. reverse l) b_is ∙ reverse-append put (b ∷ []))
    ∙ ap (λ l. a ∷ b ∷ l) (ap (λ l. reverse l) put_is ∙ reverse-append disks (reverse (disks_of_sacks sacks)) ∙ ap (λ l. l ++ reverse disks) (reverse-reverse (disks_of_sacks sacks)))

-- how many they are
pub all_counted : {D S : Type 0} (disks put with_b with_a back : List D) (a b : D) (sacks : List S) → length put ≡ length disks + 5 * length sacks → with_b ≡ put ++ b ∷ [] → with_a ≡ with_b ++ a ∷ [] → back ≡ reverse with_a
    → length back ≡ length disks + 5 * length sacks + 2
all_counted disks put with_b with_a back a b sacks count b_is a_is turned =
    let one = ap (λ l. length l) turned ∙ length-reverse with_a in
    let two = ap (λ l. length l) a_is ∙ length-append with_b (a ∷ []) in
    let three = ap (λ l. length l) b_is ∙ length-append put (b ∷ []) in
    omega (arith, one, two, three, count)

-- the disks of a front, once none is left in the vector in which they came
pub all_back : {D : Type 0} (back of_index emptied : List D) (a b : D) (sacks : List (SackView D)) → back ≡ a ∷ b ∷ (disks_of_sacks sacks ++ reverse emptied) → of_index ≡ a ∷ b ∷ [] → length emptied ≡ 0 → back ≡ of_index ++ disks_of_sacks sacks
all_back back of_index [] a b sacks is of none = is ∙ ap (λ l. a ∷ b ∷ l) (append-nil (disks_of_sacks sacks)) ∙ sym (ap (λ l. l ++ disks_of_sacks sacks) of)
all_back back of_index (x ∷ emptied) a b sacks is of none = absurd (let e : suc (length emptied) ≡ 0 = none in omega (arith, e))

-- A change moves one split alone.
use Rattle.std.proofs.Common.{◌≡◌, ℕ, Bool, true, false, cond, ltb, eqb, List, [], ◌∷◌, ◌++◌, Option, Some, None, refl, sym, ap, ◌∙◌, arith}
use Rattle.std.specs.List.{filter}
use Rattle.std.proofs.Math.Logic.{⊎_elim}
use Rattle.std.proofs.lemmas.Bool.{lt-ltb, le-ltb, eq-eqb, ne_eqb, cases_eq, cases_lt, both_ways}
use Rattle.series_model.proofs.ByKey.{filter-keep, filter-skip}
use Rattle.gno_codec.specs.declared.item.Block.{Block}
use Rattle.shelf_records.specs.declared.series.Stored.{Stored}
use Rattle.shelf_records.specs.Series.{block_of, changed, stored_or_gone}

abbrev first_of : Option Block → Option Block → Option Block
first_of None other = other
first_of (Some b) other = Some b

-- the first of two lists that has the key
block_of-append : (k : ℕ) (xs ys : List Stored) → block_of k (xs ++ ys) ≡ first_of (block_of k xs) (block_of k ys)
block_of-append k [] ys = refl
block_of-append k (s ∷ xs) ys = by (eqb s.key k) (block_of-append k xs ys)
  where
    by : (same : Bool) → block_of k (xs ++ ys) ≡ first_of (block_of k xs) (block_of k ys) → cond same (Some s.block) (block_of k (xs ++ ys)) ≡ first_of (cond same (Some s.block) (block_of k xs)) (block_of k ys)
    by true rest = refl
    by false rest = rest

-- a filter that keeps the key, and one that drops it
kept : (test : Stored → Bool) (k : ℕ) (splits : List Stored) → ((s : Stored) → s.key ≡ k → test s ≡ true) → block_of k (filter test splits) ≡ block_of k splits
kept test k [] keeps = refl
kept test k (s ∷ splits) keeps =
    ⊎_elim
    (λ same.
    ap (block_of k) (filter-keep test s splits (keeps s same))
    ∙ ap (λ b. cond b (Some s.block) (block_of k (filter test splits))) (eq-eqb s.key k same)
    ∙ sym (ap (λ b. cond b (Some s.block) (block_of k splits)) (eq-eqb s.key k same)))
    (λ apart. by (test s) refl apart (kept test k splits keeps))
    (cases_eq s.key k)
  where
    by : (b : Bool) → test s ≡ b → (s.key ≡ k → ⊥) → block_of k (filter test splits) ≡ block_of k splits → block_of k (filter test (s ∷ splits)) ≡ block_of k (s ∷ splits)
    by true is apart rest =
        ap (block_of k) (filter-keep test s splits is)
        ∙ ap (λ b. cond b (Some s.block) (block_of k (filter test splits))) (ne_eqb s.key k apart)
        ∙ rest
        ∙ sym (ap (λ b. cond b (Some s.block) (block_of k splits)) (ne_eqb s.key k apart))
    by false is apart rest =
        ap (block_of k) (filter-skip test s splits is) ∙ rest
        ∙ sym (ap (λ b. cond b (Some s.block) (block_of k splits)) (ne_eqb s.key k apart))

dropped : (test : Stored → Bool) (k : ℕ) (splits : List Stored) → ((s : Stored) → s.key ≡ k → test s ≡ false) → block_of k (filter test splits) ≡ None
dropped test k [] drops = refl
dropped test k (s ∷ splits) drops = by (test s) refl (dropped test k splits drops)
  where
    by : (b : Bool) → test s ≡ b → block_of k (filter test splits) ≡ None → block_of k (filter test (s ∷ splits)) ≡ None
    by true is rest =
        ap (block_of k) (filter-keep test s splits is)
        ∙ ap (λ b. cond b (Some s.block) (block_of k (filter test splits))) (ne_eqb s.key k (λ same. both_ways (test s) (drops s same) is))
        ∙ rest
    by false is rest = ap (block_of k) (filter-skip test s splits is) ∙ rest

own : (k : ℕ) (block : Option Block) → block_of k (stored_or_gone k block) ≡ block
own k None = refl
own k (Some b) = ap (λ t. cond t (Some b) None) (eq-eqb k k refl)

not_own : (k other : ℕ) (block : Option Block) → (other ≡ k → ⊥) → block_of other (stored_or_gone k block) ≡ None
not_own k other None apart = refl
not_own k other (Some b) apart = ap (λ t. cond t (Some b) None) (ne_eqb k other (λ same. apart (sym same)))

first-none : (o : Option Block) → first_of o None ≡ o
first-none None = refl
first-none (Some b) = refl

pub moved : (k other : ℕ) (block : Option Block) (splits : List Stored) → block_of other (changed k block splits) ≡ cond (eqb other k) block (block_of other splits)
moved k other block splits =
    let early : Stored → Bool = λ s. ltb s.key k in
    let late : Stored → Bool = λ s. ltb k s.key in
    let middle = stored_or_gone k block in
    let parts : block_of other (changed k block splits) ≡ first_of (block_of other (filter early splits)) (first_of (block_of other middle) (block_of other (filter late splits))) =
    block_of-append other (filter early splits) (middle ++ filter late splits) ∙ ap (first_of (block_of other (filter early splits))) (block_of-append other middle (filter late splits)) in
    ⊎_elim
    (λ same.
    let none : block_of other (filter early splits) ≡ None = dropped early other splits (λ s is. le-ltb s.key k (omega (arith, is, same))) in
    let none_too : block_of other (filter late splits) ≡ None = dropped late other splits (λ s is. le-ltb k s.key (omega (arith, is, same))) in
    let mine : block_of other middle ≡ block = ap (λ n. block_of n middle) same ∙ own k block in
    parts ∙ ap (λ o. first_of o (first_of (block_of other middle) (block_of other (filter late splits)))) none
    ∙ ap (first_of (block_of other middle)) none_too ∙ first-none (block_of other middle) ∙ mine
    ∙ sym (ap (λ b. cond b block (block_of other splits)) (eq-eqb other k same)))
    (λ apart.
    let not_mine = not_own k other block apart in
    let rest : block_of other (changed k block splits) ≡ first_of (block_of other (filter early splits)) (block_of other (filter late splits)) =
    parts ∙ ap (λ o. first_of (block_of other (filter early splits)) (first_of o (block_of other (filter late splits)))) not_mine in
    rest
    ∙ ⊎_elim
    (λ lt.
    ap (λ o. first_of o (block_of other (filter late splits))) (kept early other splits (λ s is. lt-ltb s.key k (omega (arith, is, lt))))
    ∙ ap (first_of (block_of other splits)) (dropped late other splits (λ s is. le-ltb k s.key (omega (arith, is, lt))))
    ∙ first-none (block_of other splits))
    (λ ge.
    ap (λ o. first_of o (block_of other (filter late splits))) (dropped early other splits (λ s is. le-ltb s.key k (omega (arith, is, ge))))
    ∙ kept late other splits (λ s is. lt-ltb k s.key (omega (arith, is, ge, apart))))
    (cases_lt other k)
    ∙ sym (ap (λ b. cond b block (block_of other splits)) (ne_eqb other k apart)))
    (cases_eq other k)

-- The sacks of a front are drained in turn.
use Rattle.std.proofs.Common.{◌≡◌, ℕ, ◌+◌, List, [], ◌∷◌, ◌++◌, Option, None, Some, length, refl, sym, ap, subst, ◌∙◌, append_assoc, arith}
use Rattle.std.specs.List.{slice_get, slice_set}
use Rattle.std.specs.declared.result.Result.{Result}
use Rattle.std.specs.declared.result.Result.TheVariants.{Ok, Err}
use Rattle.sack_history.specs.Calls.{IsDraining}
use Rattle.sack_history.specs.declared.fault.SackFault.{SackFault}
use Rattle.front_api.specs.FaultWords.{sack_words}
use Rattle.front_api.specs.Front.{Drains, DrainsFrom, all, one, refused}
use Rattle.gno_disk.specs.declared.disk.Disk.{Ghosts}
use Rattle.front_api.specs.Seen.{EntersSack, LeadsTo, SackBook, SeenBooks, capped}
use Rattle.front.specs.SoloView.{SoloView, StandsForBooks, as_many_books}

-- the book of this number stands behind so many, and another one takes its place
split_at : (front rest : List SackBook) (book after : SackBook) → slice_get (front ++ rest) (length front) ≡ Some book
    → (later : List SackBook) × (rest ≡ book ∷ later) × (slice_set (front ++ rest) (length front) after ≡ front ++ after ∷ later)
split_at [] [] book after there = absurd (no_some book there)
  where
    no_some : {X : Type 0} (x : X) → (let o : Option X = None in o) ≡ Some x → ⊥
    no_some x e = cc
split_at [] (x ∷ rest) book after there = (rest, ap (λ y. y ∷ rest) (some_one x book there), refl)
  where
    some_one : {X : Type 0} (x y : X) → Some x ≡ Some y → x ≡ y
    some_one x y e = cc
split_at (x ∷ front) rest book after there =
    let at = split_at front rest book after there in
    (at.0, at.1, ap (λ l. x ∷ l) at.2)

-- The sacks below this number have been drained, with so many turns: what the others come to from here, all come to.
pub record AreDrained (sack turns : ℕ) (old now : SeenBooks) : Type 0 where
  pub front : List SackBook
  pub rest : List SackBook
  pub as_many : length front ≡ sack
  pub now_is : now.sacks ≡ front ++ rest
  pub index : now.index ≡ old.index
  pub goes_on : (news : List SackBook) (result : Result ℕ SackFault) → DrainsFrom sack turns rest news result → DrainsFrom 0 0 old.sacks (front ++ news) result

pub none_drained : (books : SeenBooks) → AreDrained 0 0 books books
none_drained books = record { front = []; rest = books.sacks; as_many = refl; now_is = refl; index = refl; goes_on = λ news result drains. drains }

-- one more
pub one_drained : (sack turns more : ℕ) (old mid new : SeenBooks) → AreDrained sack turns old mid → EntersSack sack sack_words IsDraining (Ok more) mid new → AreDrained (sack + 1) (capped (turns + more)) old new
one_drained sack turns more old mid new are call =
    let found = subst (λ (n : ℕ). slice_get (are.front ++ are.rest) n ≡ Some call.before) (sym are.as_many) (subst (λ (l : List SackBook). slice_get l sack ≡ Some call.before) are.now_is call.found) in
    let at = split_at are.front are.rest call.before call.after found in
    record {
      front = are.front ++ call.after ∷ [];
      rest = at.0;
      as_many = one_longer are.front call.after ∙ ap (λ n. n + 1) are.as_many;
      now_is = ap (λ b. b.sacks) call.new_is ∙ ap (λ l. slice_set l sack call.after) are.now_is ∙ ap (λ n. slice_set (are.front ++ are.rest) n call.after) (sym are.as_many) ∙ at.2 ∙ sym (append_assoc are.front (call.after ∷ []) at.0);
      index = ap (λ b. b.index) call.new_is ∙ are.index;
      goes_on = λ news result drains.
          subst (λ (l : List SackBook). DrainsFrom 0 0 old.sacks l result) (sym (append_assoc are.front (call.after ∷ []) news))
          (are.goes_on (call.after ∷ news) result
          (subst (λ (l : List SackBook). DrainsFrom sack turns l (call.after ∷ news) result) (sym at.1) (one sack turns more call.before call.after at.0 news result call.book drains)));
    }
  where
    one_longer : (l : List SackBook) (x : SackBook) → length (l ++ x ∷ []) ≡ length l + 1
    one_longer [] x = refl
    one_longer (y ∷ l) x = let e = one_longer l x in omega (arith, e)

-- the first that is refused ends it
pub drain_refused : (sack turns : ℕ) (fault : SackFault) (old mid new : SeenBooks) → AreDrained sack turns old mid → EntersSack sack sack_words IsDraining (Err fault) mid new → Drains (Err fault) old new
drain_refused sack turns fault old mid new are call =
    let found = subst (λ (n : ℕ). slice_get (are.front ++ are.rest) n ≡ Some call.before) (sym are.as_many) (subst (λ (l : List SackBook). slice_get l sack ≡ Some call.before) are.now_is call.found) in
    let at = split_at are.front are.rest call.before call.after found in
    let now = ap (λ b. b.sacks) call.new_is ∙ ap (λ l. slice_set l sack call.after) are.now_is ∙ ap (λ n. slice_set (are.front ++ are.rest) n call.after) (sym are.as_many) ∙ at.2 in
    record {
      sacks = subst (λ (l : List SackBook). DrainsFrom 0 0 old.sacks l (Err fault)) (sym now)
          (are.goes_on (call.after ∷ at.0) (Err fault)
          (subst (λ (l : List SackBook). DrainsFrom sack turns l (call.after ∷ at.0) (Err fault)) (sym at.1) (refused sack turns call.before call.after at.0 fault call.book)));
      index = ap (λ b. b.index) call.new_is ∙ are.index;
    }

-- and where none is, all are drained
pub all_drained : (sack turns : ℕ) (old new : SeenBooks) → AreDrained sack turns old new → length new.sacks ≡ sack → Drains (Ok turns) old new
all_drained sack turns old new are as_many =
    let empty = none_left are.front are.rest (sym (ap (λ l. length l) are.now_is) ∙ as_many ∙ sym are.as_many) in
    record {
      sacks = subst (λ (l : List SackBook). DrainsFrom 0 0 old.sacks l (Ok turns)) (ap (λ l. are.front ++ l) (sym empty) ∙ sym are.now_is)
          (are.goes_on [] (Ok turns) (subst (λ (l : List SackBook). DrainsFrom sack turns l [] (Ok turns)) (sym empty) (all sack turns)));
      index = are.index;
    }
  where
    none_left : (front rest : List SackBook) → length (front ++ rest) ≡ length front → rest ≡ []
    none_left [] [] e = refl
    none_left [] (x ∷ rest) e = absurd (omega (arith, e))
    none_left (x ∷ front) rest e = none_left front rest (omega (arith, e))

-- ---- what they lead to

module _ {X : Type 0} (stands : X → SeenBooks → Type 0) where
  pub drained_none : (a : X) → LeadsTo stands a a (AreDrained 0 0)
  drained_none a old is = (old, is, none_drained old)

  module _ (a b d : X) (sack turns : ℕ) (result : Result ℕ SackFault) (so_far : LeadsTo stands a b (AreDrained sack turns)) (call : LeadsTo stands b d (EntersSack sack sack_words IsDraining result)) where
    pub drained_more : (more next total : ℕ) → result ≡ Ok more → next ≡ sack + 1 → total ≡ capped (turns + more) → LeadsTo stands a d (AreDrained next total)
    drained_more more next total is next_is total_is old known =
        let mid = so_far old known in
        let new = call mid.0 mid.1 in
        let one = one_drained sack turns more old mid.0 new.0 mid.2 (subst (λ (r : Result ℕ SackFault). EntersSack sack sack_words IsDraining r mid.0 new.0) is new.2) in
        (new.0, new.1, subst (λ (n : ℕ). AreDrained n total old new.0) (sym next_is) (subst (λ (n : ℕ). AreDrained (sack + 1) n old new.0) (sym total_is) one))

    pub drained_refused : (fault : SackFault) → result ≡ Err fault → LeadsTo stands a d (Drains (Err fault))
    drained_refused fault is old known =
        let mid = so_far old known in
        let new = call mid.0 mid.1 in
        (new.0, new.1, drain_refused sack turns fault old mid.0 new.0 mid.2 (subst (λ (r : Result ℕ SackFault). EntersSack sack sack_words IsDraining r mid.0 new.0) is new.2))

module _ {D : Type 0} (g : Ghosts D) where
  pub drained_all : (a b : SoloView D) (sack turns : ℕ) → LeadsTo (StandsForBooks g) a b (AreDrained sack turns) → length b.sacks ≡ sack → LeadsTo (StandsForBooks g) a b (Drains (Ok turns))
  drained_all a b sack turns so_far as_many old known =
      let new = so_far old known in
      (new.0, new.1, all_drained sack turns old new.0 new.2 (as_many_books g 0 b.sacks new.0.sacks new.1.sacks ∙ as_many))

  -- nothing but the sacks has changed, also after one call more
  pub sacks_alone : (a b d : SoloView D) → b ≡ record a { sacks = b.sacks } → d ≡ record b { sacks = d.sacks } → d ≡ record a { sacks = d.sacks }
  sacks_alone a b d first then = then ∙ ap (λ (x : SoloView D). record x { sacks = d.sacks }) first

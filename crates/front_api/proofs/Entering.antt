-- What entering a book leaves of what was seen of it.
use Rattle.std.proofs.Common.{◌≡◌, ℕ, ◌<◌, true, false, cond, eqb, List, [], ◌∷◌, ◌++◌, length, Some, refl, sym, ap, subst, ◌∙◌, append-nil, append_assoc, arith}
use Rattle.std.specs.Bool.{MatchBool}
use Rattle.std.specs.List.{slice_get, slice_set}
use Rattle.std.specs.declared.result.Result.{Result}
use Rattle.std.specs.declared.result.Result.TheVariants.{Ok, Err}
use Rattle.std.proofs.lemmas.Bool.{eq-eqb}
use Rattle.std.proofs.lemmas.List.{get_or-set_same, length-set, map-append}
use Rattle.std.proofs.lemmas.Option.{slice_get-get_or, slice_get_within}
use Rattle.sack_history.specs.declared.entry.Counted.{Counted}
use Rattle.sack_history.specs.declared.entry.Entry.{Entry}
use Rattle.sack_history.specs.Entries.{all_counted}
use Rattle.sack_history.specs.Legal.{IsLegal, MayComeNext}
use Rattle.sack_history.proofs.Following.{FollowOn-front}
use Rattle.front_api.specs.FaultWords.{FaultWords}
use Rattle.front_api.specs.Seen.{EntersSack, EntersSackBook, OpensWith, SackBook, SaysOfSack, SeenBook, SeesAndAdds, SeenBooks, entries_by, entries_in, marked}
use Rattle.front_api.specs.SeenLaws.{OfSackHistory}

-- ---- entries and their callers

pub entries_in-marked : {E : Type 0} (caller : ℕ) (es : List E) → entries_in (marked caller es) ≡ es
entries_in-marked caller [] = refl
entries_in-marked caller (e ∷ es) = ap (λ l. e ∷ l) (entries_in-marked caller es)

pub entries_by-append : {E : Type 0} (caller : ℕ) (xs ys : List (ℕ × E)) → entries_by caller (xs ++ ys) ≡ entries_by caller xs ++ entries_by caller ys
entries_by-append caller [] ys = refl
entries_by-append {E} caller (x ∷ xs) ys = by (eqb x.0 caller) (entries_by-append caller xs ys)
  where
    by : (b : _) → entries_by caller (xs ++ ys) ≡ entries_by caller xs ++ entries_by caller ys
        → cond b (x.1 ∷ entries_by caller (xs ++ ys)) (entries_by caller (xs ++ ys)) ≡ cond b (x.1 ∷ entries_by caller xs) (entries_by caller xs) ++ entries_by caller ys
    by true is = ap (λ l. x.1 ∷ l) is
    by false is = is

pub entries_by-marked : {E : Type 0} (caller : ℕ) (es : List E) → entries_by caller (marked caller es) ≡ es
entries_by-marked caller [] = refl
entries_by-marked caller (e ∷ es) =
    ap (λ b. cond b (e ∷ entries_by caller (marked caller es)) (entries_by caller (marked caller es))) (eq-eqb caller caller refl)
    ∙ ap (λ l. e ∷ l) (entries_by-marked caller es)

-- the caller's own entries, once more of them have come
pub own_entries : {O E : Type 0} (others : List (ℕ × E)) (own : List E) (old new : SeenBook O E) → SeesAndAdds others own old new
    → entries_by new.caller new.seen ≡ entries_by old.caller old.seen ++ own
own_entries others own old new e =
    ap (λ b. entries_by b.caller b.seen) e.new_is ∙ entries_by-append old.caller (old.seen ++ others) (marked old.caller own)
    ∙ ap (λ l. l ++ entries_by old.caller (marked old.caller own)) (entries_by-append old.caller old.seen others ∙ ap (λ l. entries_by old.caller old.seen ++ l) e.not_mine ∙ append-nil (entries_by old.caller old.seen))
    ∙ ap (λ l. entries_by old.caller old.seen ++ l) (entries_by-marked old.caller own)

-- without a lock these are all
pub sees_alone : {O E : Type 0} (others : List (ℕ × E)) (own : List E) (old new : SeenBook O E) → old.is_shared ≡ false → SeesAndAdds others own old new
    → new.seen ≡ old.seen ++ marked old.caller own
sees_alone others own old new alone e =
    ap (λ b. b.seen) e.new_is ∙ ap (λ l. (old.seen ++ l) ++ marked old.caller own) (e.alone alone) ∙ ap (λ l. l ++ marked old.caller own) (append-nil old.seen)

-- ---- a turn that isn't refused

pub ok_err : {T F : Type 0} (t : T) (f : F) → (let r : Result T F = Ok t in r) ≡ Err f → ⊥
ok_err t f is = cc

pub ok_turn : {T F E : Type 0} (lacks : _) (value : T) (f : F) (own : List E) (Call : Type 0)
    → MatchBool lacks (((let r : Result T F = Ok value in r) ≡ Err f) × (own ≡ [])) Call → Call
ok_turn true value f own Call h = absurd (ok_err value f h.0)
ok_turn false value f own Call h = h

-- what is said of a call that answers Ok, by the entries that the sack was opened with
pub record SaidOk {T F : Type 0} (sack : ℕ) (Call : Result T F → List Entry → List Entry → Type 0) (value : T) (history : List Entry) : Type 0 where
  pub before : List Entry
  pub own : List Entry
  pub is : history ≡ before ++ own
  pub whole : IsLegal sack (before ++ own)
  pub legal : IsLegal sack before
  pub call : Call (Ok value) before own

pub said_ok : {T F : Type 0} (sack : ℕ) (words : FaultWords F) (Call : Result T F → List Entry → List Entry → Type 0) (value : T) (old new : SackBook)
    → EntersSackBook sack words Call (Ok value) old new → (counts : List Counted) → OpensWith new.origin counts
    → SaidOk sack Call value (all_counted counts ++ entries_in new.seen)
said_ok sack words Call value old new e counts opening =
    let n = e.enters.adds.new_is in
    let since = entries_in (old.seen ++ e.enters.others) in
    let own = e.enters.own in
    let s : SaysOfSack sack old.is_shared words Call (Ok value) (all_counted counts) since own = e.enters.says counts (subst (λ o. OpensWith o counts) (ap (λ b. b.origin) n) opening) in
    let seen : entries_in new.seen ≡ since ++ own = ap (λ b. entries_in b.seen) n ∙ map-append (λ x. x.1) (old.seen ++ e.enters.others) (marked old.caller own) ∙ ap (λ l. since ++ l) (entries_in-marked old.caller own) in
    record {
      before = all_counted counts ++ since;
      own = own;
      is = ap (λ l. all_counted counts ++ l) seen ∙ sym (append_assoc (all_counted counts) since own);
      whole = s.legal;
      legal = FollowOn-front (MayComeNext sack) [] (all_counted counts ++ since) own s.legal;
      call = ok_turn _ value _ own _ s.turn;
    }

-- ---- the place of a book

pub slice_get-set : {X : Type 0} (xs : List X) (k : ℕ) (x y : X) → slice_get xs k ≡ Some x → slice_get (slice_set xs k y) k ≡ Some y
slice_get-set xs k x y there =
    let within : k < length xs = slice_get_within xs k x there in
    slice_get-get_or (slice_set xs k y) k y (omega (arith, length-set xs k y, within)) ∙ ap Some (get_or-set_same xs k y y within)

-- what holds of the history of a sack that was entered with the answer Ok
pub holds_after : {T F : Type 0} (sack : ℕ) (words : FaultWords F) (Call : Result T F → List Entry → List Entry → Type 0) (value : T) (old new : SeenBooks) (P : List Entry → Type 0)
    → ((history : List Entry) → SaidOk sack Call value history → P history) → EntersSack sack words Call (Ok value) old new → OfSackHistory sack P new
holds_after sack words Call value old new P holds e = (
  e.after,
  ap (λ b. slice_get b.sacks sack) e.new_is ∙ slice_get-set old.sacks sack e.before e.after e.found,
  λ counts opening. holds (all_counted counts ++ entries_in e.after.seen) (said_ok sack words Call value e.before e.after e.book counts opening),
)

-- entering a sack leaves as many
pub as_many : {T F : Type 0} (sack : ℕ) (words : FaultWords F) (Call : Result T F → List Entry → List Entry → Type 0) (result : Result T F) (old new : SeenBooks)
    → EntersSack sack words Call result old new → length new.sacks ≡ length old.sacks
as_many sack words Call result old new e = ap (λ b. length b.sacks) e.new_is ∙ length-set old.sacks sack e.after

-- A call enters one book of a front that no one else calls.
use Rattle.std.proofs.Common.{◌≡◌, ℕ, ◌+◌, Bool, false, List, [], ◌∷◌, ◌++◌, Option, Some, None, refl, sym, ap, subst, ◌∙◌, append-nil, append_assoc, arith, zero, suc}
use Rattle.std.specs.List.{slice_get, slice_set}
use Rattle.std.specs.Option.{IsSome, MatchOption}
use Rattle.std.specs.declared.result.Result.{Result}
use Rattle.std.proofs.lemmas.List.{map-append}
use Rattle.gno_disk.specs.declared.disk.Disk.{Ghosts}
use Rattle.log_pair.specs.declared.place.Place.{Place}
use Rattle.sack_history.specs.declared.entry.Counted.{Counted}
use Rattle.sack_history.specs.declared.entry.Entry.{Entry}
use Rattle.sack_history.specs.Entries.{all_counted}
use Rattle.sack_history.specs.Legal.{IsLegal}
use Rattle.sack_history.specs.Scratch.{Durable, durable}
use Rattle.front_api.specs.FaultWords.{FaultWords, control_words}
use Rattle.front_api.specs.Maps.{Maps}
use Rattle.front_api.specs.Seen.{Enters, EntersIndex, EntersSack, HasRisenIn, LeadsTo, OpensWith, SackBook, SaysOfIndex, SeenBook, SeenBooks, TakesTurn, TellsNoDamage, entries_in, marked}
use Rattle.front_api.specs.declared.fault.ControlFault.{ControlFault}
use Rattle.front_api.specs.declared.history.IndexEntry.{IndexEntry}
use Rattle.front_api.proofs.Entering.{entries_in-marked}
use Rattle.metric_index.specs.IndexView.{StandsFor as IndexStandsFor}
use Rattle.sack_state.specs.declared.disks.Opening.{Opening}
use Rattle.sack_state.specs.Disks.{AreTold, sack_faults}
use Rattle.sack_state.specs.SackHolding.{HoldsSack}
use Rattle.sack_state.specs.SackView.{IsEarlier, SackView, Stands, StandsFor as SackStandsFor, as_found, as_made}
use Rattle.front.specs.SoloView.{AreRealFaults, AreSackBooks, IsSackBook, IsSackOrigin, SoloView, StandsForBooks, found, index_faults, made, none_held, untold}
use Rattle.front.proofs.RealFaults.{real_then}

-- ---- a book

-- what is seen of a book once the caller has added these
abbrev pub seen_with : {O E : Type 0} → SeenBook O E → List E → SeenBook O E
seen_with book own = record book { seen = (book.seen ++ []) ++ marked book.caller own }

pub entered : {O E : Type 0} (Says : List E → List E → Type 0) (book : SeenBook O E) (own : List E) → Says (entries_in book.seen) own → Enters Says book (seen_with book own)
entered Says book own says = record {
  others = [];
  own = own;
  adds = record { not_mine = refl; alone = λ alone. refl; new_is = refl };
  says = subst (λ seen. Says (entries_in seen) own) (sym (append-nil book.seen)) says;
}

pub entries_with : {O E : Type 0} (book : SeenBook O E) (own : List E) → entries_in (seen_with book own).seen ≡ entries_in book.seen ++ own
entries_with book own =
    ap (λ seen. entries_in (seen ++ marked book.caller own)) (append-nil book.seen)
    ∙ map-append (λ x. x.1) book.seen (marked book.caller own)
    ∙ ap (λ l. entries_in book.seen ++ l) (entries_in-marked book.caller own)

-- what is seen is the caller's own, and still is
pub own_still : {O E : Type 0} (book : SeenBook O E) (own : List E) → book.seen ≡ marked book.caller (entries_in book.seen) → (seen_with book own).seen ≡ marked book.caller (entries_in (seen_with book own).seen)
own_still book own is =
    ap (λ seen. seen ++ marked book.caller own) (append-nil book.seen ∙ is)
    ∙ sym (map-append (λ e. (book.caller, e)) (entries_in book.seen) own)
    ∙ ap (λ es. marked book.caller es) (sym (entries_with book own))

-- a book that isn't shared has room
pub takes_turn : {T F E : Type 0} (is_shared : Bool) (entries room : ℕ) (words : FaultWords F) (result : Result T F) (own : List E) (Call : Type 0)
    → is_shared ≡ false → Call → TakesTurn is_shared entries room words result own Call
takes_turn {E} is_shared entries room words result own Call alone call =
    subst (λ (b : Bool). TakesTurn {E = E} b entries room words result own Call) (sym alone) call

-- ---- the index

module _ {D : Type 0} (g : Ghosts D) where
  some_is : {X : Type 0} (o : Option X) (x y : X) → o ≡ Some x → o ≡ Some y → x ≡ y
  some_is o x y a b = cc

  module _ {T : Type 0} (Call : Maps → List IndexEntry → List IndexEntry → Result T ControlFault → Type 0) (result : Result T ControlFault) (old new : SoloView D) (new_is : new ≡ record old { index = new.index })
      (stands : (first : Maps) (h : List IndexEntry) → IndexStandsFor g first h old.index → (own : List IndexEntry) × IndexStandsFor g first (h ++ own) new.index × Call first h own result)
      (sound : (first : Maps) (h : List IndexEntry) → IndexStandsFor g first h old.index → TellsNoDamage control_words result) (risen : HasRisenIn control_words result)
      (real : (first : Maps) (h own : List IndexEntry) → IndexStandsFor g first h old.index → Call first h own result → AreRealFaults (index_faults g old.index) own (index_faults g new.index)) where
    -- where the origin is told, the call's own entries are those that the index tells
    index_told : (books : SeenBooks) (first : Maps) → StandsForBooks g old books → books.index.origin ≡ Some first
        → (later : SeenBooks) × StandsForBooks g new later × EntersIndex Call result books later
    index_told books first is told =
        let book = books.index in
        let h = entries_in book.seen in
        let known = is.index.stands first told in
        let call = stands first h known in
        let own = call.0 in
        let after = seen_with book own in (
          record books { index = after },
          subst (λ (v : SoloView D). StandsForBooks g v (record books { index = after })) (sym new_is) (record {
            index = record {
              alone = is.index.alone;
              own = own_still book own is.index.own;
              origin = is.index.origin;
              failed = is.index.failed;
              real = λ other other_is. subst (λ (l : List IndexEntry). AreRealFaults book.failed l (index_faults g new.index)) (sym (entries_with book own))
                  (real_then (entries_in book.seen) own book.failed (index_faults g old.index) (index_faults g new.index) (is.index.real first told) (real first h own known call.2));
              stands = λ other other_is. subst (λ (m : Maps). IndexStandsFor g m (entries_in after.seen) new.index) (some_is book.origin first other told other_is)
                  (subst (λ (l : List IndexEntry). IndexStandsFor g first l new.index) (sym (entries_with book own)) call.1);
            };
            sacks = is.sacks;
          }),
          record {
            after = after;
            enters = entered _ book own (λ other other_is. subst (λ (m : Maps). SaysOfIndex book.is_shared Call result m h own) (some_is book.origin first other told other_is) (record {
              legal = call.1.legal;
              turn = takes_turn book.is_shared _ _ control_words result own (Call first h own result) is.index.alone call.2;
              sound = sound first h known;
            }));
            risen = risen;
            new_is = refl;
          },
        )

    -- where it isn't, there is nothing to say of entries
    index_untold : (books : SeenBooks) → StandsForBooks g old books → books.index.origin ≡ None
        → (later : SeenBooks) × StandsForBooks g new later × EntersIndex Call result books later
    index_untold books is none =
        let book = books.index in
        let after = seen_with book [] in (
          record books { index = after },
          subst (λ (v : SoloView D). StandsForBooks g v (record books { index = after })) (sym new_is) (record {
            index = record {
              alone = is.index.alone;
              own = own_still book [] is.index.own;
              origin = is.index.origin;
              failed = is.index.failed;
              real = λ first told. absurd (no_some book.origin first none told);
              stands = λ first told. absurd (no_some book.origin first none told);
            };
            sacks = is.sacks;
          }),
          record {
            after = after;
            enters = entered _ book [] (λ first told. absurd (no_some book.origin first none told));
            risen = risen;
            new_is = refl;
          },
        )
      where
        no_some : {X : Type 0} (o : Option X) (x : X) → o ≡ None → o ≡ Some x → ⊥
        no_some o x a b = cc

    pub index_leads : LeadsTo (StandsForBooks g) old new (EntersIndex Call result)
    index_leads books is = by books.index.origin refl
      where
        by : (o : Option Maps) → books.index.origin ≡ o → (later : SeenBooks) × StandsForBooks g new later × EntersIndex Call result books later
        by (Some first) told = index_told books first is told
        by None none = index_untold books is none

-- ---- a sack

module _ {D : Type 0} (g : Ghosts D) where
  -- a list of the origin's state is one that the sack may have been opened with
  pub opens_earlier : (place : Place) (opening : Opening D) (origin : Option Durable) (counts : List Counted) → IsSackOrigin g place opening origin → OpensWith origin counts → IsEarlier g place opening counts
  opens_earlier place opening origin counts (made is_new tell is) opens = as_made is_new opens.legal (some_same origin (durable counts) (durable []) opens.amounts is)
    where
      some_same : (o : Option Durable) (x y : Durable) → o ≡ Some x → o ≡ Some y → x ≡ y
      some_same o x y a b = cc
  opens_earlier place opening origin counts (found d is_old held is) opens =
      as_found is_old opens.legal (subst (λ (s : Durable). AreTold g opening.disks (HoldsSack place s)) (some_same origin d (durable counts) is opens.amounts) held)
    where
      some_same : (o : Option Durable) (x y : Durable) → o ≡ Some x → o ≡ Some y → x ≡ y
      some_same o x y a b = cc
  opens_earlier place opening origin counts (untold not is) opens = absurd (none_some origin (durable counts) is opens.amounts)
    where
      none_some : (o : Option Durable) (x : Durable) → o ≡ None → o ≡ Some x → ⊥
      none_some o x a b = cc
  opens_earlier place opening origin counts (none_held is_old none is) opens = absurd (none_some origin (durable counts) is opens.amounts)
    where
      none_some : (o : Option Durable) (x : Durable) → o ≡ None → o ≡ Some x → ⊥
      none_some o x a b = cc

  -- the history of a sack that stands for one is legal
  pub stands_legal : (v : SackView D) (counts : List Counted) (h : List Entry) → SackStandsFor g h v → IsEarlier g v.place v.opening counts → IsLegal v.place.sack (all_counted counts ++ h)
  stands_legal v counts h stands earlier = by v.state stands
    where
      by : (s : _) → MatchOption s ⊥ (Stands g h v) → IsLegal v.place.sack (all_counted counts ++ h)
      by None is = absurd is
      by (Some state) is = (is.behind counts earlier).legal

  -- ---- the sacks one by one

  -- the book of a sack
  pub book_of : (k sack : ℕ) (sacks : List (SackView D)) (books : List SackBook) (v : SackView D) → AreSackBooks g k sacks books → slice_get sacks sack ≡ Some v
      → (book : SackBook) × (slice_get books sack ≡ Some book) × IsSackBook g (k + sack) v book
  book_of k sack [] books v are there = absurd (none_some v there)
    where
      none_some : {X : Type 0} (x : X) → (let o : Option X = None in o) ≡ Some x → ⊥
      none_some x e = cc
  book_of k sack (w ∷ sacks) [] v are there = absurd are
  book_of k zero (w ∷ sacks) (book ∷ books) v are there =
      (book, refl, subst (λ (n : ℕ). IsSackBook g n v book) (omega arith) (subst (λ (x : SackView D). IsSackBook g k x book) (some_one w v there) are.0))
    where
      some_one : {X : Type 0} (x y : X) → Some x ≡ Some y → x ≡ y
      some_one x y e = cc
  book_of k (suc sack) (w ∷ sacks) (book ∷ books) v are there =
      let rest = book_of (k + 1) sack sacks books v are.1 there in
      (rest.0, rest.1, subst (λ (n : ℕ). IsSackBook g n v rest.0) (let e : (k + 1) + sack ≡ k + suc sack = omega arith in e) rest.2)

  -- another view and another book in its place
  pub books_with : (k sack : ℕ) (sacks : List (SackView D)) (books : List SackBook) (v w : SackView D) (before after : SackBook) → AreSackBooks g k sacks books → slice_get sacks sack ≡ Some v
      → slice_get books sack ≡ Some before → IsSackBook g (k + sack) w after → AreSackBooks g k (slice_set sacks sack w) (slice_set books sack after)
  books_with k sack [] books v w before after are there found_too new = absurd (none_some v there)
    where
      none_some : {X : Type 0} (x : X) → (let o : Option X = None in o) ≡ Some x → ⊥
      none_some x e = cc
  books_with k sack (x ∷ sacks) [] v w before after are there found_too new = absurd are
  books_with k zero (x ∷ sacks) (book ∷ books) v w before after are there found_too new =
      (subst (λ (n : ℕ). IsSackBook g n w after) (let e : k + 0 ≡ k = omega arith in e) new, are.1)
  books_with k (suc sack) (x ∷ sacks) (book ∷ books) v w before after are there found_too new =
      (are.0, books_with (k + 1) sack sacks books v w before after are.1 there found_too (subst (λ (n : ℕ). IsSackBook g n w after) (let e : k + suc sack ≡ (k + 1) + sack = omega arith in e) new))

  module _ {T F : Type 0} (sack : ℕ) (words : FaultWords F) (Call : Result T F → List Entry → List Entry → Type 0) (result : Result T F) (old new : SoloView D) (v w : SackView D)
      (there : slice_get old.sacks sack ≡ Some v) (new_is : new ≡ record old { sacks = slice_set old.sacks sack w }) (same_place : w.place ≡ v.place) (same_opening : w.opening ≡ v.opening)
      (stands : (h : List Entry) → SackStandsFor g h v → (own : List Entry) × SackStandsFor g (h ++ own) w × ((counts : List Counted) → IsEarlier g v.place v.opening counts → Call result (all_counted counts ++ h) own))
      (sound : (counts : List Counted) (h : List Entry) → SackStandsFor g h v → IsEarlier g v.place v.opening counts → TellsNoDamage words result) (risen : HasRisenIn words result) where
    -- what stands once the book of the sack is another one
    stand_with : (books : SeenBooks) (before after : SackBook) → StandsForBooks g old books → slice_get books.sacks sack ≡ Some before → IsSackBook g sack w after
        → StandsForBooks g new (record books { sacks = slice_set books.sacks sack after })
    stand_with books before after is found_it book = subst (λ (x : SoloView D). StandsForBooks g x (record books { sacks = slice_set books.sacks sack after })) (sym new_is) (record {
      index = is.index;
      sacks = books_with 0 sack old.sacks books.sacks v w before after is.sacks there found_it (subst (λ (n : ℕ). IsSackBook g n w after) (let e : sack ≡ 0 + sack = omega arith in e) book);
    })

    origin_still : (origin : Option Durable) → IsSackOrigin g v.place v.opening origin → IsSackOrigin g w.place w.opening origin
    origin_still origin is = subst (λ (p : Place). IsSackOrigin g p w.opening origin) (sym same_place) (subst (λ (o : Opening D). IsSackOrigin g v.place o origin) (sym same_opening) is)

    sack_told : (books : SeenBooks) (before : SackBook) → StandsForBooks g old books → slice_get books.sacks sack ≡ Some before → IsSackBook g sack v before → IsSome before.origin
        → (later : SeenBooks) × StandsForBooks g new later × EntersSack sack words Call result books later
    sack_told books before is found_it book told =
        let h = entries_in before.seen in
        let known = book.stands told in
        let call = stands h known in
        let own = call.0 in
        let after = seen_with before own in (
          record books { sacks = slice_set books.sacks sack after },
          stand_with books before after is found_it (record {
            alone = book.alone;
            own = own_still before own book.own;
            number = ap (λ p. p.sack) same_place ∙ book.number;
            origin = origin_still before.origin book.origin;
            failed = book.failed ∙ ap (λ (o : Opening D). sack_faults g o.disks) (sym same_opening);
            stands = λ some. subst (λ (l : List Entry). SackStandsFor g l w) (sym (entries_with before own)) call.1;
          }),
          record {
            before = before;
            after = after;
            found = found_it;
            book = record {
              enters = entered _ before own (λ counts opens.
                  let earlier = opens_earlier v.place v.opening before.origin counts book.origin opens in
                  let earlier_too = subst (λ (p : Place). IsEarlier g p w.opening counts) (sym same_place) (subst (λ (o : Opening D). IsEarlier g v.place o counts) (sym same_opening) earlier) in
                  record {
                    legal = subst (λ (n : ℕ). IsLegal n ((all_counted counts ++ h) ++ own)) (ap (λ p. p.sack) same_place ∙ book.number)
                        (subst (λ (l : List Entry). IsLegal w.place.sack l) (sym (append_assoc (all_counted counts) h own)) (stands_legal w counts (h ++ own) call.1 earlier_too));
                    turn = takes_turn before.is_shared _ _ words result own (Call result (all_counted counts ++ h) own) book.alone (call.2 counts earlier);
                    sound = sound counts h known earlier;
                  });
              risen = risen;
            };
            new_is = refl;
          },
        )

    sack_untold : (books : SeenBooks) (before : SackBook) → StandsForBooks g old books → slice_get books.sacks sack ≡ Some before → IsSackBook g sack v before → before.origin ≡ None
        → (later : SeenBooks) × StandsForBooks g new later × EntersSack sack words Call result books later
    sack_untold books before is found_it book none =
        let after = seen_with before [] in (
          record books { sacks = slice_set books.sacks sack after },
          stand_with books before after is found_it (record {
            alone = book.alone;
            own = own_still before [] book.own;
            number = ap (λ p. p.sack) same_place ∙ book.number;
            origin = origin_still before.origin book.origin;
            failed = book.failed ∙ ap (λ (o : Opening D). sack_faults g o.disks) (sym same_opening);
            stands = λ some. absurd (no_some before.origin none some);
          }),
          record {
            before = before;
            after = after;
            found = found_it;
            book = record {
              enters = entered _ before [] (λ counts opens. absurd (none_some before.origin (durable counts) none opens.amounts));
              risen = risen;
            };
            new_is = refl;
          },
        )
      where
        no_some : (o : Option Durable) → o ≡ None → IsSome o → ⊥
        no_some None e some = cc
        no_some (Some x) e some = cc

        none_some : (o : Option Durable) (x : Durable) → o ≡ None → o ≡ Some x → ⊥
        none_some o x a b = cc

    some_there : (o : Option Durable) (d : Durable) → o ≡ Some d → IsSome o
    some_there o d told = subst (λ (x : Option Durable). IsSome x) (sym told) refl

    sack_either : (books : SeenBooks) (before : SackBook) → StandsForBooks g old books → slice_get books.sacks sack ≡ Some before → IsSackBook g sack v before → (o : Option Durable) → before.origin ≡ o
        → (later : SeenBooks) × StandsForBooks g new later × EntersSack sack words Call result books later
    sack_either books before is found_it book (Some d) told = sack_told books before is found_it book (some_there before.origin d told)
    sack_either books before is found_it book None none = sack_untold books before is found_it book none

    pub sack_leads : LeadsTo (StandsForBooks g) old new (EntersSack sack words Call result)
    sack_leads books is =
        let it = book_of 0 sack old.sacks books.sacks v is.sacks there in
        sack_either books it.0 is it.1 (subst (λ (n : ℕ). IsSackBook g n v it.0) (let e : 0 + sack ≡ sack = omega arith in e) it.2) it.0.origin refl

-- What each sack counts for a store.
use Rattle.std.proofs.Common.{◌≡◌, ℕ, ◌+◌, List, [], ◌∷◌, ◌++◌, Option, Some, None, length, take, refl, sym, ap, subst, ◌∙◌, arith, zero, suc}
use Rattle.std.specs.List.{slice_get, sum_by}
use Rattle.std.specs.Option.{IsSome}
use Rattle.std.proofs.Math.Seq.{take-length}
use Rattle.std.proofs.lemmas.List.Sums.{sum_by_more}
use Rattle.std.proofs.lemmas.Option.{get_or_from_slice_get, slice_get_within}
use Rattle.gno_disk.specs.declared.disk.Disk.{Ghosts}
use Rattle.sack_history.specs.declared.entry.Counted.{Counted}
use Rattle.sack_history.specs.declared.entry.Entry.{Entry}
use Rattle.sack_history.specs.Entries.{all_counted, kept}
use Rattle.sack_history.specs.Scratch.{Durable}
use Rattle.sack_state.specs.SackView.{IsEarlier, SackView, StandsFor as SackStandsFor}
use Rattle.front_api.specs.Seen.{SackBook, capped, entries_in}
use Rattle.front.specs.Counting.{AreCountedIn, no_sack, one_more}
use Rattle.front.specs.SoloView.{AreSackBooks}
use Rattle.front.proofs.Entered.{opens_earlier}

module _ {D : Type 0} (g : Ghosts D) where
  some_there : (o : Option Durable) (d : Durable) → o ≡ Some d → IsSome o
  some_there o d told = subst (λ (x : Option Durable). IsSome x) (sym told) refl

  -- the list of a sack is that of its history, behind one that it may have been opened with
  pub record IsListOf (v : SackView D) (list : List Counted) : Type 0 where
    pub earlier : List Counted
    pub since : List Entry
    pub stands : SackStandsFor g since v
    pub opened : IsEarlier g v.place v.opening earlier
    pub list_is : list ≡ kept (all_counted earlier ++ since)

  pub record IsCountedAt (i : ℕ) (lists : List (List Counted)) (v : SackView D) : Type 0 where
    pub list : List Counted
    pub there : slice_get lists i ≡ Some list
    pub is : IsListOf v list

  pub counted_at : (k i : ℕ) (sacks : List (SackView D)) (books : List SackBook) (lists : List (List Counted)) (v : SackView D)
      → AreSackBooks g k sacks books → AreCountedIn books lists → slice_get sacks i ≡ Some v → IsCountedAt i lists v
  counted_at k i [] books lists v are counted there = absurd (none_some v there)
    where
      none_some : {X : Type 0} (x : X) → (let o : Option X = None in o) ≡ Some x → ⊥
      none_some x e = cc
  counted_at k i (w ∷ sacks) [] lists v are counted there = absurd are
  counted_at k zero (w ∷ sacks) (book ∷ books) lists v are (one_more b bs opened rest opens counted) there = record {
    list = kept (all_counted opened ++ entries_in book.seen);
    there = refl;
    is = subst (λ (x : SackView D). IsListOf x (kept (all_counted opened ++ entries_in book.seen))) (some_one w v there) (record {
      earlier = opened;
      since = entries_in book.seen;
      stands = are.0.stands (some_there book.origin _ opens.amounts);
      opened = opens_earlier g w.place w.opening book.origin opened are.0.origin opens;
      list_is = refl;
    });
  }
    where
      some_one : {X : Type 0} (x y : X) → Some x ≡ Some y → x ≡ y
      some_one x y e = cc
  counted_at k (suc i) (w ∷ sacks) (book ∷ books) lists v are (one_more b bs opened rest opens counted) there =
      let later = counted_at (k + 1) i sacks books rest v are.1 counted there in
      record { list = later.list; there = later.there; is = later.is }

  -- there are as many lists as sacks
  pub as_many_lists : (k : ℕ) (sacks : List (SackView D)) (books : List SackBook) (lists : List (List Counted)) → AreSackBooks g k sacks books → AreCountedIn books lists → length lists ≡ length sacks
  as_many_lists k [] [] lists are no_sack = refl
  as_many_lists k [] (b ∷ books) lists are counted = absurd are
  as_many_lists k (v ∷ sacks) [] lists are counted = absurd are
  as_many_lists k (v ∷ sacks) (b ∷ books) lists are (one_more x xs opened rest opens counted) = ap suc (as_many_lists (k + 1) sacks books rest are.1 counted)

  module _ (f : List Counted → ℕ) where
    -- one sack more
    pub sum_counted : (i total n more : ℕ) (sacks : List (SackView D)) (books : List SackBook) (lists : List (List Counted)) (v : SackView D)
        → AreSackBooks g 0 sacks books → AreCountedIn books lists → slice_get sacks i ≡ Some v
        → ((earlier : List Counted) (h : List Entry) → SackStandsFor g h v → IsEarlier g v.place v.opening earlier → n ≡ f (kept (all_counted earlier ++ h)))
        → total ≡ capped (sum_by f (take i lists)) → more ≡ capped (total + n) → more ≡ capped (sum_by f (take (i + 1) lists))
    sum_counted i total n more sacks books lists v are counted there by_history before is =
        let at = counted_at 0 i sacks books lists v are counted there in
        let within = slice_get_within lists i at.list at.there in
        let step = sum_by_more f lists i at.list within in
        let here = ap f (get_or_from_slice_get lists i at.list at.list at.there) in
        let n_is = by_history at.is.earlier at.is.since at.is.stands at.is.opened ∙ ap f (sym at.is.list_is) in
        omega (arith, step, here, n_is, before, is)

    -- all of them
    pub sum_whole : (i total : ℕ) (sacks : List (SackView D)) (books : List SackBook) (lists : List (List Counted))
        → AreSackBooks g 0 sacks books → AreCountedIn books lists → i ≡ length sacks
        → total ≡ capped (sum_by f (take i lists)) → total ≡ capped (sum_by f lists)
    sum_whole i total sacks books lists are counted end is =
        is ∙ ap (λ n. capped (sum_by f (take n lists))) (end ∙ sym (as_many_lists 0 sacks books lists are counted)) ∙ ap (λ l. capped (sum_by f l)) (take-length lists)

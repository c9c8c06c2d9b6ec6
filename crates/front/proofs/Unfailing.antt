-- Where no disk failed, no fault is seen.
use Rattle.std.proofs.Common.{◌≡◌, ℕ, ◌+◌, ◌-◌, ◌<◌, ◌≤◌, ◌^◌, List, [], ◌∷◌, ◌++◌, Option, Some, None, refl, sym, ap, subst, inl, inr, arith}
use Rattle.std.specs.List.{filter}
use Rattle.std.specs.Option.{IsSome, MatchOption}
use Rattle.gno_disk.specs.declared.disk.Disk.{Ghosts}
use Rattle.sack_history.specs.declared.entry.Counted.{Counted}
use Rattle.sack_history.specs.declared.entry.Entry.{Entry}
use Rattle.sack_history.specs.declared.entry.Entry.TheVariants as entries
use Rattle.sack_history.specs.Scratch.{Durable, durable}
use Rattle.front_api.specs.Seen.{OpensWith, SackBook, SeenBooks, entries_in}
use Rattle.front_api.specs.SeenLaws.{EachSeesNoFault, SeeNoFault, WereAllOpened, WereOpened, is_fault, is_index_fault}
use Rattle.front_api.specs.declared.history.IndexEntry.{IndexEntry}
use Rattle.front_api.specs.declared.history.IndexEntry.TheVariants as index_entries
use Rattle.metric_index.specs.IndexView.{sum_of_faults}
use Rattle.sack_state.specs.Disks.{sack_faults}
use Rattle.sack_state.specs.SackView.{AreReal, HasNoEarlier, SackState, SackView, Stands}
use Rattle.front.specs.Failing.{failed_at_first, failed_sacks}
use Rattle.front.specs.SoloView.{AreRealFaults, AreSackBooks, IsSackBook, SoloView, StandsForBooks, disks_of_sack, disks_of_sacks, disks_of_solo, index_faults}
use Rattle.front.proofs.Entered.{opens_earlier}

-- ---- counts of a history

index_rises : (h : List IndexEntry) (low now : ℕ) → now < 2 ^ 64 - 1 → AreRealFaults low h now → low ≤ now
index_rises [] low now below is = is
index_rises (index_entries.Counted c ∷ h) low now below is = index_rises h low now below is
index_rises (index_entries.Look ∷ h) low now below is = index_rises h low now below is
index_rises (index_entries.Fault tried before after ∷ h) low now below is =
    let rest = index_rises h after now below is.2 in
    omega (arith, is.0, is.1.rose, rest, below)
index_rises (index_entries.Reopened kept ∷ h) low now below is = index_rises h low now below is

index_clean : (h : List IndexEntry) (low now : ℕ) → now < 2 ^ 64 - 1 → now ≤ low → AreRealFaults low h now → filter is_index_fault h ≡ []
index_clean [] low now below le is = refl
index_clean (index_entries.Counted c ∷ h) low now below le is = index_clean h low now below le is
index_clean (index_entries.Look ∷ h) low now below le is = index_clean h low now below le is
index_clean (index_entries.Fault tried before after ∷ h) low now below le is =
    let rest = index_rises h after now below is.2 in
    absurd (omega (arith, is.0, is.1.rose, rest, below, le))
index_clean (index_entries.Reopened kept ∷ h) low now below le is = index_clean h low now below le is

module _ (None_held : Type 0) (some_held : None_held → ⊥) where
  sack_rises : (h : List Entry) (low now : ℕ) → now < 2 ^ 64 - 1 → AreReal None_held low h now → low ≤ now
  sack_rises [] low now below is = is
  sack_rises (entries.Fault tried before after ∷ h) low now below (inl rose, le, rest) = let later = sack_rises h after now below rest in omega (arith, rose, le, later)
  sack_rises (entries.Fault tried before after ∷ h) low now below (inr (inl last), le, rest) = let later = sack_rises h after now below rest in omega (arith, last.0, last.1, le, later)
  sack_rises (entries.Fault tried before after ∷ h) low now below (inr (inr none), le, rest) = absurd (some_held none.2)
  sack_rises (entries.Counted c ∷ h) low now below is = sack_rises h low now below is
  sack_rises (entries.Claim ticket metric upto ∷ h) low now below is = sack_rises h low now below is
  sack_rises (entries.Release ticket ∷ h) low now below is = sack_rises h low now below is
  sack_rises (entries.Look metric ∷ h) low now below is = sack_rises h low now below is
  sack_rises (entries.Reopened kept ∷ h) low now below is = sack_rises h low now below is

  sack_clean : (h : List Entry) (low now : ℕ) → now < 2 ^ 64 - 1 → now ≤ low → AreReal None_held low h now → filter is_fault h ≡ []
  sack_clean [] low now below at is = refl
  sack_clean (entries.Fault tried before after ∷ h) low now below at (inl rose, le, rest) = let later = sack_rises h after now below rest in absurd (omega (arith, rose, le, later, at))
  sack_clean (entries.Fault tried before after ∷ h) low now below at (inr (inl last), le, rest) = let later = sack_rises h after now below rest in absurd (omega (arith, last.1, later, below))
  sack_clean (entries.Fault tried before after ∷ h) low now below at (inr (inr none), le, rest) = absurd (some_held none.2)
  sack_clean (entries.Counted c ∷ h) low now below at is = sack_clean h low now below at is
  sack_clean (entries.Claim ticket metric upto ∷ h) low now below at is = sack_clean h low now below at is
  sack_clean (entries.Release ticket ∷ h) low now below at is = sack_clean h low now below at is
  sack_clean (entries.Look metric ∷ h) low now below at is = sack_clean h low now below at is
  sack_clean (entries.Reopened kept ∷ h) low now below at is = sack_clean h low now below at is

-- ---- the books

module _ {D : Type 0} (g : Ghosts D) where
  pub sum_both : (xs ys : List D) → sum_of_faults g (xs ++ ys) ≡ sum_of_faults g xs + sum_of_faults g ys
  sum_both [] ys = omega arith
  sum_both (x ∷ xs) ys = let e = sum_both xs ys in omega (arith, e)

  -- where the sack was opened with a history, it was opened with a state
  was_held : (v : SackView D) (sack : ℕ) (book : SackBook) → IsSackBook g sack v book → (counts : List Counted) → OpensWith book.origin counts → HasNoEarlier g v.place v.opening → ⊥
  was_held v sack book is counts opens none = none counts (opens_earlier g v.place v.opening book.origin counts is.origin opens)

  some_origin : (origin : Option Durable) (d : Durable) → origin ≡ Some d → IsSome origin
  some_origin origin d is = subst (λ (o : Option Durable). IsSome o) (sym is) refl

  -- the state of a sack, and how often its disks have failed since
  record FailsSince (v : SackView D) (book : SackBook) : Type 0 where
    state : SackState D
    is_state : v.state ≡ Some state
    held : HasNoEarlier g v.place v.opening → ⊥
    real : AreReal (HasNoEarlier g v.place v.opening) book.failed (entries_in book.seen) (sack_faults g state.disks)

  fails_since : (v : SackView D) (sack : ℕ) (book : SackBook) → IsSackBook g sack v book → (counts : List Counted) → OpensWith book.origin counts → FailsSince v book
  fails_since v sack book is counts opens = by v.state refl (is.stands (some_origin book.origin (durable counts) opens.amounts))
    where
      by : (o : Option (SackState D)) → v.state ≡ o → MatchOption o ⊥ (Stands g (entries_in book.seen) v) → FailsSince v book
      by None e stands = absurd stands
      by (Some s) e stands = record {
        state = s;
        is_state = e;
        held = was_held v sack book is counts opens;
        real = subst (λ n. AreReal (HasNoEarlier g v.place v.opening) n (entries_in book.seen) (sack_faults g s.disks)) (sym is.failed) stands.real;
      }

  -- its disks are five
  sum_of_sack : (v : SackView D) (s : SackState D) → v.state ≡ Some s
      → sum_of_faults g (disks_of_sack v) ≡ g.faults s.disks.incoming_a + (g.faults s.disks.incoming_b + (g.faults s.disks.shelf_a + (g.faults s.disks.shelf_b + (g.faults s.disks.blocks + 0))))
  sum_of_sack v s e = ap (λ (o : Option (SackState D)). sum_of_faults g (disks_of_sack (record v { state = o }))) e

  sack_count : (v : SackView D) (s : SackState D) → v.state ≡ Some s → sum_of_faults g (disks_of_sack v) < 2 ^ 64 - 1 → sack_faults g s.disks ≡ sum_of_faults g (disks_of_sack v)
  sack_count v s e below = let sum = sum_of_sack v s e in omega (arith, sum, below)

  -- the counts of the sacks together don't fall
  sacks_rise : (k : ℕ) (sacks : List (SackView D)) (books : List SackBook) → AreSackBooks g k sacks books → WereOpened books → sum_of_faults g (disks_of_sacks sacks) < 2 ^ 64 - 1
      → failed_sacks books ≤ sum_of_faults g (disks_of_sacks sacks)
  sacks_rise k [] [] are opened below = omega arith
  sacks_rise k [] (b ∷ books) are opened below = absurd are
  sacks_rise k (v ∷ sacks) [] are opened below = absurd are
  sacks_rise k (v ∷ sacks) (b ∷ books) are opened below =
      let one = fails_since v k b are.0 opened.0.0 opened.0.1 in
      let both = sum_both (disks_of_sack v) (disks_of_sacks sacks) in
      let first : sum_of_faults g (disks_of_sack v) < 2 ^ 64 - 1 = omega (arith, both, below) in
      let count = sack_count v one.state one.is_state first in
      let here = sack_rises (HasNoEarlier g v.place v.opening) one.held (entries_in b.seen) b.failed (sack_faults g one.state.disks) (omega (arith, count, first)) one.real in
      let rest = sacks_rise (k + 1) sacks books are.1 opened.1 (omega (arith, both, below)) in
      omega (arith, both, count, here, rest)

  sacks_clean : (k : ℕ) (sacks : List (SackView D)) (books : List SackBook) → AreSackBooks g k sacks books → WereOpened books → sum_of_faults g (disks_of_sacks sacks) < 2 ^ 64 - 1
      → sum_of_faults g (disks_of_sacks sacks) ≤ failed_sacks books → EachSeesNoFault books
  sacks_clean k [] [] are opened below le = tt
  sacks_clean k [] (b ∷ books) are opened below le = absurd are
  sacks_clean k (v ∷ sacks) [] are opened below le = absurd are
  sacks_clean k (v ∷ sacks) (b ∷ books) are opened below le =
      let one = fails_since v k b are.0 opened.0.0 opened.0.1 in
      let both = sum_both (disks_of_sack v) (disks_of_sacks sacks) in
      let first : sum_of_faults g (disks_of_sack v) < 2 ^ 64 - 1 = omega (arith, both, below) in
      let count = sack_count v one.state one.is_state first in
      let here = sack_rises (HasNoEarlier g v.place v.opening) one.held (entries_in b.seen) b.failed (sack_faults g one.state.disks) (omega (arith, count, first)) one.real in
      let rest = sacks_rise (k + 1) sacks books are.1 opened.1 (omega (arith, both, below)) in (
        sack_clean (HasNoEarlier g v.place v.opening) one.held (entries_in b.seen) b.failed (sack_faults g one.state.disks) (omega (arith, count, first)) (omega (arith, both, count, here, rest, le)) one.real,
        sacks_clean (k + 1) sacks books are.1 opened.1 (omega (arith, both, below)) (omega (arith, both, count, here, rest, le)),
      )

  pub failed_before : (v : SoloView D) (books : SeenBooks) → StandsForBooks g v books → WereAllOpened books
      → sum_of_faults g (disks_of_solo v) < 2 ^ 64 - 1 → failed_at_first books ≤ sum_of_faults g (disks_of_solo v)
  failed_before v books stands opened below =
      let both = sum_both v.index.disks (disks_of_sacks v.sacks) in
      let index_below : index_faults g v.index < 2 ^ 64 - 1 = omega (arith, both, below) in
      let count : index_faults g v.index ≡ sum_of_faults g v.index.disks = omega (arith, both, below) in
      let here = index_rises (entries_in books.index.seen) books.index.failed (index_faults g v.index) index_below (stands.index.real opened.first opened.index) in
      let rest = sacks_rise 0 v.sacks books.sacks stands.sacks opened.sacks (omega (arith, both, below)) in
      omega (arith, both, count, here, rest)

  pub no_fault_seen : (v : SoloView D) (books : SeenBooks) → StandsForBooks g v books → WereAllOpened books
      → sum_of_faults g (disks_of_solo v) ≤ failed_at_first books → sum_of_faults g (disks_of_solo v) < 2 ^ 64 - 1 → SeeNoFault books
  no_fault_seen v books stands opened le below =
      let both = sum_both v.index.disks (disks_of_sacks v.sacks) in
      let index_below : index_faults g v.index < 2 ^ 64 - 1 = omega (arith, both, below) in
      let count : index_faults g v.index ≡ sum_of_faults g v.index.disks = omega (arith, both, below) in
      let real = stands.index.real opened.first opened.index in
      let here = index_rises (entries_in books.index.seen) books.index.failed (index_faults g v.index) index_below real in
      let rest = sacks_rise 0 v.sacks books.sacks stands.sacks opened.sacks (omega (arith, both, below)) in
      record {
        index = index_clean (entries_in books.index.seen) books.index.failed (index_faults g v.index) index_below (omega (arith, both, count, here, rest, le)) real;
        sacks = sacks_clean 0 v.sacks books.sacks stands.sacks opened.sacks (omega (arith, both, below)) (omega (arith, both, count, here, rest, le));
      }

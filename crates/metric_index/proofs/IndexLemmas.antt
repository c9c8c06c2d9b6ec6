-- Calls of the index, which mounts its book first where it is broken.
use Rattle.std.proofs.Common.{◌≡◌, inl, inr, ℕ, ◌+◌, Bool, true, false, cond, List, [], ◌∷◌, ◌++◌, Option, Some, None, Result, Err, refl, sym, ap, subst, ◌∙◌, append_assoc}
use Rattle.std.specs.Option.{IfSome, is_some}
use Rattle.std.specs.Result.{IfErr, OnOk}
use Rattle.gno_disk.specs.declared.disk.Disk.{Ghosts}
use Rattle.gno_num.specs.declared.faults.DiskFault.{DiskFault as Fault}
use Rattle.gate_log.specs.LogView.{MatchMountFault}
use Rattle.gate_log.specs.declared.fault.MountFault.{MountFault}
use Rattle.gate_log.specs.declared.fault.MountFault.TheVariants.{DiskFault as MountDisk, Damaged as MountDamaged, Memory as MountMemory}
use Rattle.gno_disk.specs.Phases.{AreUnwritten, EachMoment, IsUnwritten, Mounts, MountsOrStill, phase}
use Rattle.gno_disk.proofs.PhaseLemmas.{EachMoment-weaker}
use Rattle.log_pair.specs.PairView.{OfTwo, both_faults}
use Rattle.front_api.specs.Calls.{IsCall, damaged, disk, mounted, starved, unmounted, whole}
use Rattle.front_api.specs.declared.fault.ControlFault.{ControlFault}
use Rattle.front_api.specs.declared.fault.ControlFault.TheVariants as faults
use Rattle.front_api.specs.declared.history.IndexCounted.{IndexCounted}
use Rattle.front_api.specs.declared.history.IndexEntry.{IndexEntry}
use Rattle.front_api.specs.declared.history.IndexEntry.TheVariants as entries
use Rattle.front_api.specs.FaultWords.{is_control_damage}
use Rattle.front_api.specs.IndexHistory.{IndexState, MayAllFollow, at_rest, state_of}
use Rattle.front_api.specs.Maps.{Maps}
use Rattle.metric_index.specs.BookCalls.{AreOldOrWritten, IsAt, LeavesBook, MatchDisk, entry_by, state_by}
use Rattle.metric_index.specs.BookView.{BookView, IsLastingBook}
use Rattle.metric_index.specs.declared.holding.Held.{Held}
use Rattle.metric_index.specs.declared.holding.Held.TheVariants.{Mounted, Apart}
use Rattle.metric_index.specs.Holding.{StaysApart, TakesBook, as_it_was, disks_in, is_told_in, maps_known, mounted_anew}
use Rattle.metric_index.specs.IndexView.{AreOldOrWith, IndexView, StandsAfter, index_phases, StandsFor, capped, entries_of}
use Rattle.metric_index.proofs.StandLemmas.{apart_fault, apart_look, is_open, never_damaged, reopened_stands, rest_of, whole_stands}

-- what contracts see of the index's fields
abbrev pub view_of : {D : Type 0} → Option (Held D) → ℕ → ℕ → IndexView D
view_of held sacks n = record { disks = disks_in held; sacks = sacks; maps = maps_known held; is_told = is_told_in held; entries = n }

-- where a book of so many sacks is held
book_view_is : {D : Type 0} (held : Option (Held D)) (book : BookView D) (sacks n : ℕ) → held ≡ Some (Mounted book) → book.sacks ≡ sacks → view_of held sacks n ≡ view_of (Some (Mounted book)) book.sacks n
book_view_is held book sacks n is of_sacks = ap (λ h. view_of h sacks n) is ∙ ap (λ (s : ℕ). view_of (Some (Mounted book)) s n) (sym of_sacks)

two_weaker : (P Q : List ℕ → List ℕ → Type 0) → ((a b : List ℕ) → P a b → Q a b) → (images : List (List ℕ)) → OfTwo P images → OfTwo Q images
two_weaker P Q has [] p = p
two_weaker P Q has (a ∷ []) p = p
two_weaker P Q has (a ∷ b ∷ []) p = has a b p
two_weaker P Q has (a ∷ b ∷ x ∷ images) p = p

module _ {D : Type 0} (g : Ghosts D) (tells : (n : ℕ) (old new : D) → g.came n old new → is_some (g.told new) ≡ is_some (g.told old)) (reads : (disk : D) → IfSome (g.told disk) (g.may_leave disk))
    (only_now : (disk : D) (image : List ℕ) → g.left_since disk (g.moment disk) image → g.may_leave disk image) (held : Option (Held D)) (sacks n : ℕ) where
  module _ {R : Type 0} (onto : Maps → List IndexEntry → Result R ControlFault → Type 0) (may : (s : IndexState) (own : List IndexEntry) (result : Result R ControlFault) → s.is_open ≡ false → onto s.maps own result → MayAllFollow s own)
      (writes : Maps → Option IndexCounted) (book new : BookView D) (result : Result R ControlFault) (F : Fault → Type 0)
      (does : onto book.maps (entry_by (writes book.maps) result ∷ []) result) (state : IsAt new (state_by book.maps (entry_by (writes book.maps) result)))
      (leaves : LeavesBook g (writes book.maps) book new) (durable : OnOk result (IsLastingBook g new)) (cause : IfErr result (λ e. MatchDisk e F (new ≡ book)))
      (of_sacks : book.sacks ≡ sacks) (then : Option (Held D)) (then_is : then ≡ Some (Mounted new)) (k : ℕ) where
    abbrev written : Option IndexCounted
    written = writes book.maps

    abbrev e : IndexEntry
    e = entry_by written result

    still_unwritten : (d : D) → IsUnwritten g (phase d d)
    still_unwritten d = record { within = only_now d; no_more = λ image left. left }

    -- the moments of the writing
    writing : book.is_told ≡ true → EachMoment g (phase book.first new.first ∷ phase book.second new.second ∷ []) (OfTwo (AreOldOrWith sacks book.maps written))
    writing told = EachMoment-weaker g (phase book.first new.first ∷ phase book.second new.second ∷ []) (OfTwo (AreOldOrWritten book written)) (OfTwo (AreOldOrWith sacks book.maps written))
        (two_weaker (AreOldOrWritten book written) (AreOldOrWith sacks book.maps written) (λ a b either. subst (λ (s : ℕ). AreOldOrWith s book.maps written a b) of_sacks (either told))) leaves.any_moment

    moments_to : (olds : List D) → Mounts g (index_phases olds (new.first ∷ new.second ∷ [])) (OfTwo (AreOldOrWith sacks book.maps written)) → (m : Maps) → m ≡ book.maps
        → MountsOrStill g (index_phases olds (disks_in then)) (OfTwo (AreOldOrWith sacks m (writes m)))
    moments_to olds mounts m is =
        subst (λ (n : Maps). MountsOrStill g (index_phases olds (disks_in then)) (OfTwo (AreOldOrWith sacks n (writes n)))) (sym is)
        (subst (λ (o : Option (Held D)). MountsOrStill g (index_phases olds (disks_in o)) (OfTwo (AreOldOrWith sacks book.maps written))) (sym then_is) (inr mounts))

    new_view : view_of (Some (Mounted new)) new.sacks k ≡ view_of then sacks k
    new_view = sym (book_view_is then new sacks k then_is (leaves.sacks ∙ of_sacks))

    -- what the state's maps are, where the book is mounted
    known : (first : Maps) (h : List IndexEntry) (m : ℕ) → book.broken ≡ false → StandsFor g first h (view_of (Some (Mounted book)) book.sacks m) → state_of first h ≡ at_rest book.maps
    known first h m unbroken stands = rest_of first h book.maps stands.legal (ap (λ b. cond b None (Some book.maps)) (sym unbroken) ∙ stands.maps)

    onto_state : (first : Maps) (h : List IndexEntry) (m : ℕ) → book.broken ≡ false → StandsFor g first h (view_of (Some (Mounted book)) book.sacks m) → onto (state_of first h).maps (e ∷ []) result
    onto_state first h m unbroken stands = subst (λ (s : IndexState). onto s.maps (e ∷ []) result) (sym (known first h m unbroken stands)) does

    pub call_after : (anew : Bool) → TakesBook g sacks held book anew → k ≡ capped (n + entries_of anew) → (first : Maps) (h : List IndexEntry) → StandsFor g first h (view_of held sacks n)
        → StandsAfter g first h writes (view_of held sacks n) (view_of then sacks k) (λ own. IsCall onto first h own result)
    call_after anew (as_it_was is unbroken not_anew) count first h stands =
        let here = subst (StandsFor g first h) (book_view_is held book sacks n is of_sacks) stands in
        let state_is = known first h n unbroken here in
        record {
          own = e ∷ [];
          does = whole (ap (λ (s : IndexState). s.is_open) state_is) (onto_state first h n unbroken here);
          stands = subst (StandsFor g first (h ++ e ∷ [])) new_view (whole_stands g tells onto may written book new result F does state leaves durable cause first h n k unbroken here);
          counted = count ∙ ap (λ (b : Bool). capped (n + entries_of b)) not_anew;
          mid = h;
          mid_is = inl refl;
          moments = moments_to (disks_in held) (subst (λ (o : Option (Held D)). Mounts g (index_phases (disks_in o) (new.first ∷ new.second ∷ [])) (OfTwo (AreOldOrWith sacks book.maps written))) (sym is) (record {
            mids = book.first ∷ book.second ∷ [];
            mounting = (still_unwritten book.first, (still_unwritten book.second, tt));
            then = writing here.is_told;
          })) (state_of first h).maps (ap (λ (s : IndexState). s.maps) state_is);
        }
    call_after anew (mounted_anew a b disks broken from is_anew) count first h stands =
        let r = reopened_stands g tells reads first h (view_of held sacks n) a b disks broken stands book from n in
        let mid = h ++ entries.Reopened r.0 ∷ [] in
        let two : mid ++ e ∷ [] ≡ h ++ (entries.Reopened r.0 ∷ e ∷ []) = append_assoc h (entries.Reopened r.0 ∷ []) (e ∷ []) in
        record {
          own = entries.Reopened r.0 ∷ e ∷ [];
          does = mounted r.0 (e ∷ []) r.1 refl (onto_state first mid n from.whole r.2);
          stands = subst (λ (l : List IndexEntry). StandsFor g first l (view_of then sacks k)) two
              (subst (StandsFor g first (mid ++ e ∷ [])) new_view (whole_stands g tells onto may written book new result F does state leaves durable cause first mid n k from.whole r.2));
          counted = count ∙ ap (λ (b : Bool). capped (n + entries_of b)) is_anew;
          mid = mid;
          mid_is = inr (r.0, refl);
          moments = moments_to (disks_in held) (subst (λ (ds : List D). Mounts g (index_phases ds (new.first ∷ new.second ∷ [])) (OfTwo (AreOldOrWith sacks book.maps written))) (sym disks) (record {
            mids = book.first ∷ book.second ∷ [];
            mounting = from.unwritten;
            then = writing r.2.is_told;
          })) (state_of first mid).maps (ap (λ (s : IndexState). s.maps) (known first mid n from.whole r.2));
        }

  -- where mounting fails
  pub failed_after : {R : Type 0} (writes : Maps → Option IndexCounted) (onto : Maps → List IndexEntry → Result R ControlFault → Type 0) (then : Option (Held D)) (fault : MountFault) (r : ControlFault) (k : ℕ) → StaysApart g sacks held then fault
      → MatchMountFault fault (λ f. r ≡ faults.DiskFault f) (λ d. r ≡ faults.Damaged d) (r ≡ faults.Memory) → k ≡ capped (n + 1) → (first : Maps) (h : List IndexEntry) → StandsFor g first h (view_of held sacks n)
      → StandsAfter g first h writes (view_of held sacks n) (view_of then sacks k) (λ own. IsCall onto first h own (Err r))
  failed_after {R} writes onto then fault r k stays is count first h stands = by fault is
    where
      opened : (state_of first h).is_open ≡ true
      opened = is_open g tells reads first h (view_of held sacks n) stays.a stays.b stays.disks_are stays.broken stands

      there : view_of (Some (Apart stays.first stays.second)) sacks k ≡ view_of then sacks k
      there = ap (λ (o : Option (Held D)). view_of o sacks k) (sym stays.new_is)

      still : MountsOrStill g (index_phases (disks_in held) (disks_in then)) (OfTwo (AreOldOrWith sacks (state_of first h).maps (writes (state_of first h).maps)))
      still = inl (subst (λ (o : Option (Held D)). AreUnwritten g (index_phases (disks_in held) (disks_in o))) (sym stays.new_is)
          (subst (λ (ds : List D). AreUnwritten g (index_phases ds (stays.first ∷ stays.second ∷ []))) (sym stays.disks_are) stays.unwritten))

      by : (f : MountFault) → MatchMountFault f (λ f. r ≡ faults.DiskFault f) (λ d. r ≡ faults.Damaged d) (r ≡ faults.Memory) → StandsAfter g first h writes (view_of held sacks n) (view_of then sacks k) (λ own. IsCall onto first h own (Err r))
      by (MountDisk f) is = record {
        own = entries.Fault None f.before f.after ∷ [];
        does = unmounted (faults.DiskFault f) opened (ap (λ (x : ControlFault). Err x) is) (disk f.before f.after);
        stands = subst (StandsFor g first (h ++ entries.Fault None f.before f.after ∷ [])) there
            (apart_fault g tells reads first h (view_of held sacks n) stays.a stays.b stays.disks_are stays.broken stands stays.first stays.second k stays.unwritten.0.no_more stays.unwritten.1.0.no_more stays.tells_first stays.tells_second f.before f.after);
        counted = count;
        mid = h;
        mid_is = inl refl;
        moments = still;
      }
      by (MountDamaged d) is = record {
        own = entries.Fault None (both_faults g stays.a stays.b) (both_faults g stays.first stays.second) ∷ [];
        does = unmounted (faults.Damaged d) opened (ap (λ (x : ControlFault). Err x) is) (damaged d.disk d.at (both_faults g stays.a stays.b) (both_faults g stays.first stays.second));
        stands = subst (StandsFor g first (h ++ entries.Fault None (both_faults g stays.a stays.b) (both_faults g stays.first stays.second) ∷ [])) there
            (apart_fault g tells reads first h (view_of held sacks n) stays.a stays.b stays.disks_are stays.broken stands stays.first stays.second k stays.unwritten.0.no_more stays.unwritten.1.0.no_more stays.tells_first stays.tells_second (both_faults g stays.a stays.b) (both_faults g stays.first stays.second));
        counted = count;
        mid = h;
        mid_is = inl refl;
        moments = still;
      }
      by MountMemory is = record {
        own = entries.Look ∷ [];
        does = unmounted faults.Memory opened (ap (λ (x : ControlFault). Err x) is) starved;
        stands = subst (StandsFor g first (h ++ entries.Look ∷ [])) there
            (apart_look g tells reads first h (view_of held sacks n) stays.a stays.b stays.disks_are stays.broken stands stays.first stays.second k stays.unwritten.0.no_more stays.unwritten.1.0.no_more stays.tells_first stays.tells_second);
        counted = count;
        mid = h;
        mid_is = inl refl;
        moments = still;
      }

  -- and it isn't for damage
  pub failed_sound : (then : Option (Held D)) (fault : MountFault) (r : ControlFault) → StaysApart g sacks held then fault
      → MatchMountFault fault (λ f. r ≡ faults.DiskFault f) (λ d. r ≡ faults.Damaged d) (r ≡ faults.Memory) → (first : Maps) (h : List IndexEntry) → StandsFor g first h (view_of held sacks n) → is_control_damage r ≡ false
  failed_sound then (MountDisk f) r stays is first h stands = ap is_control_damage is
  failed_sound then (MountDamaged d) r stays is first h stands = absurd (never_damaged g tells reads first h (view_of held sacks n) stays.a stays.b stays.disks_are stays.broken stands stays.never)
  failed_sound then MountMemory r stays is first h stands = ap is_control_damage is

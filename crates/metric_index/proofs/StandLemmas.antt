-- The index stands for its history.
use Rattle.std.proofs.Common.{◌≡◌, ◌⊎◌, inl, inr, ℕ, Bool, true, false, cond, ◌&&◌, List, [], ◌∷◌, ◌++◌, Option, Some, None, Result, Ok, Err, refl, sym, ap, subst, ◌∙◌}
use Rattle.std.proofs.lemmas.List.{append-nil}
use Rattle.std.specs.Option.{IfSome, is_some}
use Rattle.std.specs.Result.{IfErr, OnOk}
use Rattle.gno_disk.specs.declared.disk.Disk.{Ghosts}
use Rattle.gno_num.specs.declared.faults.DiskFault.{DiskFault as Fault}
use Rattle.log_pair.specs.Choice.{TwoTold}
use Rattle.log_pair.specs.PairView.{OfTwo}
use Rattle.front_api.specs.declared.fault.ControlFault.{ControlFault}
use Rattle.front_api.specs.declared.fault.ControlFault.TheVariants as faults
use Rattle.front_api.specs.declared.history.IndexCounted.{IndexCounted}
use Rattle.front_api.specs.declared.history.IndexEntry.{IndexEntry}
use Rattle.front_api.specs.declared.history.IndexEntry.TheVariants as entries
use Rattle.front_api.specs.IndexHistory.{IndexState, IsLegalIndex, MayAllFollow, MayFollow, after_entries, after_entry, at_rest, state_of}
use Rattle.front_api.specs.Maps.{Maps, after_all, after_counted}
use Rattle.front_api.proofs.HistoryLemmas.{MayAllFollow-append, after_entries-append}
use Rattle.metric_index.specs.BookCalls.{IsAt, LeavesBook, MatchDisk, entry_by, refusal_entry, state_by}
use Rattle.metric_index.specs.BookView.{BookView, IsLastingBook}
use Rattle.metric_index.specs.Holding.{IsMountedFrom}
use Rattle.metric_index.specs.IndexDamage.{HoldsNoIndex}
use Rattle.metric_index.specs.IndexLog.{HoldsIndex}
use Rattle.metric_index.specs.IndexView.{AllTell, AreOfState, IndexView, LeavesNow, StandsFor, maps_at}
use Rattle.metric_index.specs.Items.{after_one}

-- ---- states

-- where no fault is open, nothing was tried
rest_kept : (s : IndexState) (h : List IndexEntry) → (s.is_open ≡ false → s.tried ≡ []) → MayAllFollow s h → (after_entries s h).is_open ≡ false → (after_entries s h).tried ≡ []
rest_kept s [] rest legal = rest
rest_kept s (entries.Counted c ∷ h) rest legal = rest_kept (after_entry s (entries.Counted c)) h rest legal.1
rest_kept s (entries.Look ∷ h) rest legal = rest_kept s h rest legal.1
rest_kept s (entries.Fault attempt before after ∷ h) rest legal = rest_kept (after_entry s (entries.Fault attempt before after)) h (λ e. absurd cc) legal.1
rest_kept s (entries.Reopened true ∷ h) rest legal = rest_kept (after_entry s (entries.Reopened true)) h (λ e. refl) legal.1
rest_kept s (entries.Reopened false ∷ h) rest legal = rest_kept (after_entry s (entries.Reopened false)) h (λ e. refl) legal.1

same_state : (s : IndexState) (m : Maps) → s.maps ≡ m → s.tried ≡ [] → s.is_open ≡ false → s ≡ at_rest m
same_state s m maps tried closed =
    ap (λ (n : Maps). record { maps = n; tried = s.tried; is_open = s.is_open }) maps
    ∙ ap (λ (t : List IndexCounted). record { maps = m; tried = t; is_open = s.is_open }) tried
    ∙ ap (λ (b : Bool). record { maps = m; tried = []; is_open = b }) closed

known_parts : (s : IndexState) (m : Maps) → Some m ≡ maps_at s → (s.is_open ≡ false) × (s.maps ≡ m)
known_parts s m e = by s.is_open refl e
  where
    by : (b : Bool) → s.is_open ≡ b → Some m ≡ cond b None (Some s.maps) → (s.is_open ≡ false) × (s.maps ≡ m)
    by true is e = absurd cc
    by false is e = (is, cc)

unknown_open : (s : IndexState) → None ≡ maps_at s → s.is_open ≡ true
unknown_open s e = by s.is_open refl e
  where
    by : (b : Bool) → s.is_open ≡ b → None ≡ cond b None (Some s.maps) → s.is_open ≡ true
    by true is e = is
    by false is e = absurd cc

pub rest_of : (first : Maps) (h : List IndexEntry) (m : Maps) → IsLegalIndex first h → Some m ≡ maps_at (state_of first h) → state_of first h ≡ at_rest m
rest_of first h m legal e =
    let parts = known_parts (state_of first h) m e in
    same_state (state_of first h) m parts.1 (rest_kept (at_rest first) h (λ c. refl) legal parts.0) parts.0

two_weaker : (P Q : List ℕ → List ℕ → Type 0) → ((a b : List ℕ) → P a b → Q a b) → (images : List (List ℕ)) → OfTwo P images → OfTwo Q images
two_weaker P Q has [] p = p
two_weaker P Q has (a ∷ []) p = p
two_weaker P Q has (a ∷ b ∷ []) p = has a b p
two_weaker P Q has (a ∷ b ∷ x ∷ images) p = p

-- ---- a call on a book that isn't broken

module _ {D : Type 0} (g : Ghosts D) (tells : (n : ℕ) (old new : D) → g.came n old new → is_some (g.told new) ≡ is_some (g.told old)) where
  -- what contracts see where this book is held
  abbrev of_book : BookView D → ℕ → IndexView D
  of_book b entries = record { disks = b.first ∷ b.second ∷ []; sacks = b.sacks; maps = cond b.broken None (Some b.maps); is_told = b.is_told; entries = entries }

  two_images : (b : BookView D) (P : List ℕ → List ℕ → Type 0) → ((x y : List ℕ) → g.may_leave b.first x → g.may_leave b.second y → P x y) → (images : List (List ℕ)) → LeavesNow g (b.first ∷ b.second ∷ []) images → OfTwo P images
  two_images b P has [] leaves = absurd leaves
  two_images b P has (x ∷ []) leaves = absurd leaves.1
  two_images b P has (x ∷ y ∷ []) leaves = has x y leaves.0 leaves.1.0
  two_images b P has (x ∷ y ∷ z ∷ images) leaves = absurd leaves.1.1

  -- what a refused call leaves
  refused_held : (written : Option IndexCounted) (old new : BookView D) (fault : ControlFault) (F : Fault → Type 0) (x y : List ℕ) → new.sacks ≡ old.sacks → MatchDisk fault F (new ≡ old)
      → (HoldsIndex old.sacks old.maps x y ⊎ HoldsIndex old.sacks (after_one old.maps written) x y) → (new ≡ old → HoldsIndex old.sacks old.maps x y)
      → AreOfState new.sacks (state_by old.maps (refusal_entry written fault)) x y
  refused_held None old new (faults.DiskFault f) F x y sacks cause (inl held) still = inl (subst (λ (n : ℕ). HoldsIndex n old.maps x y) (sym sacks) held)
  refused_held None old new (faults.DiskFault f) F x y sacks cause (inr held) still = inl (subst (λ (n : ℕ). HoldsIndex n old.maps x y) (sym sacks) held)
  refused_held (Some c) old new (faults.DiskFault f) F x y sacks cause (inl held) still = inl (subst (λ (n : ℕ). HoldsIndex n old.maps x y) (sym sacks) held)
  refused_held (Some c) old new (faults.DiskFault f) F x y sacks cause (inr held) still = inr (c, refl, subst (λ (n : ℕ). HoldsIndex n (after_counted old.maps c) x y) (sym sacks) held)
  refused_held written old new faults.Memory F x y sacks cause both still = inl (subst (λ (n : ℕ). HoldsIndex n old.maps x y) (sym sacks) (still cause))
  refused_held written old new (faults.Spent s) F x y sacks cause both still = inl (subst (λ (n : ℕ). HoldsIndex n old.maps x y) (sym sacks) (still cause))
  refused_held written old new (faults.Damaged d) F x y sacks cause both still = inl (subst (λ (n : ℕ). HoldsIndex n old.maps x y) (sym sacks) (still cause))
  refused_held written old new faults.PolicyExists F x y sacks cause both still = inl (subst (λ (n : ℕ). HoldsIndex n old.maps x y) (sym sacks) (still cause))
  refused_held written old new faults.PolicyUnknown F x y sacks cause both still = inl (subst (λ (n : ℕ). HoldsIndex n old.maps x y) (sym sacks) (still cause))
  refused_held written old new faults.PolicyInUse F x y sacks cause both still = inl (subst (λ (n : ℕ). HoldsIndex n old.maps x y) (sym sacks) (still cause))
  refused_held written old new faults.RuleExists F x y sacks cause both still = inl (subst (λ (n : ℕ). HoldsIndex n old.maps x y) (sym sacks) (still cause))
  refused_held written old new faults.RuleUnknown F x y sacks cause both still = inl (subst (λ (n : ℕ). HoldsIndex n old.maps x y) (sym sacks) (still cause))
  refused_held written old new faults.NoRule F x y sacks cause both still = inl (subst (λ (n : ℕ). HoldsIndex n old.maps x y) (sym sacks) (still cause))
  refused_held written old new faults.NameTaken F x y sacks cause both still = inl (subst (λ (n : ℕ). HoldsIndex n old.maps x y) (sym sacks) (still cause))
  refused_held written old new faults.MetricUnknown F x y sacks cause both still = inl (subst (λ (n : ℕ). HoldsIndex n old.maps x y) (sym sacks) (still cause))
  refused_held written old new faults.ResourceExists F x y sacks cause both still = inl (subst (λ (n : ℕ). HoldsIndex n old.maps x y) (sym sacks) (still cause))
  refused_held written old new faults.ResourceUnknown F x y sacks cause both still = inl (subst (λ (n : ℕ). HoldsIndex n old.maps x y) (sym sacks) (still cause))
  refused_held written old new faults.ResourceInUse F x y sacks cause both still = inl (subst (λ (n : ℕ). HoldsIndex n old.maps x y) (sym sacks) (still cause))
  refused_held written old new (faults.IdTaken id) F x y sacks cause both still = inl (subst (λ (n : ℕ). HoldsIndex n old.maps x y) (sym sacks) (still cause))

  module _ {R : Type 0} (onto : Maps → List IndexEntry → Result R ControlFault → Type 0) (may : (s : IndexState) (own : List IndexEntry) (result : Result R ControlFault) → s.is_open ≡ false → onto s.maps own result → MayAllFollow s own)
      (written : Option IndexCounted) (old new : BookView D) (result : Result R ControlFault) (F : Fault → Type 0)
      (does : onto old.maps (entry_by written result ∷ []) result) (state : IsAt new (state_by old.maps (entry_by written result)))
      (leaves : LeavesBook g written old new) (durable : OnOk result (IsLastingBook g new)) (cause : IfErr result (λ e. MatchDisk e F (new ≡ old))) where
    held_by : (x y : List ℕ) → old.is_told ≡ true → g.may_leave new.first x → g.may_leave new.second y → ((a b : List ℕ) → g.may_leave old.first a → g.may_leave old.second b → HoldsIndex old.sacks old.maps a b)
        → AreOfState new.sacks (state_by old.maps (entry_by written result)) x y
    held_by x y told left left_too before = by result state durable cause
      where
        by : (r : Result R ControlFault) → IsAt new (state_by old.maps (entry_by written r)) → OnOk r (IsLastingBook g new) → IfErr r (λ e. MatchDisk e F (new ≡ old)) → AreOfState new.sacks (state_by old.maps (entry_by written r)) x y
        by (Ok reply) at lasting c = inl (subst (λ (m : Maps). HoldsIndex new.sacks m x y) at.maps (lasting x y left left_too (leaves.told ∙ told)))
        by (Err fault) at lasting c = refused_held written old new fault F x y leaves.sacks c (leaves.left (x ∷ y ∷ []) (left, (left_too, tt)) told)
            (λ same. before x y (subst (λ (b : BookView D). g.may_leave b.first x) same left) (subst (λ (b : BookView D). g.may_leave b.second y) same left_too))

    pub whole_stands : (first : Maps) (h : List IndexEntry) (n k : ℕ) → old.broken ≡ false → StandsFor g first h (of_book old n) → StandsFor g first (h ++ entry_by written result ∷ []) (of_book new k)
    whole_stands first h n k whole stands =
        let e = entry_by written result in
        let known : Some old.maps ≡ maps_at (state_of first h) = ap (λ b. cond b None (Some old.maps)) (sym whole) ∙ stands.maps in
        let rest : state_of first h ≡ at_rest old.maps = rest_of first h old.maps stands.legal known in
        let there : state_of first (h ++ e ∷ []) ≡ state_by old.maps e = after_entries-append (at_rest first) h (e ∷ []) ∙ ap (λ (s : IndexState). after_entries s (e ∷ [])) rest in
        let follows : MayAllFollow (state_of first h) (e ∷ []) = subst (λ (s : IndexState). MayAllFollow s (e ∷ [])) (sym rest) (may (at_rest old.maps) (e ∷ []) result refl does) in
        let before = λ (a b : List ℕ) (left : g.may_leave old.first a) (left_too : g.may_leave old.second b). rested a b (subst (λ (s : IndexState). AreOfState old.sacks s a b) rest (stands.held (a ∷ b ∷ []) (left, (left_too, tt)))) in
        record {
          legal = MayAllFollow-append (at_rest first) h (e ∷ []) stands.legal follows;
          is_told = leaves.told ∙ stands.is_told;
          tell = (tells 4 old.first new.first leaves.came_first ∙ stands.tell.0, (tells 4 old.second new.second leaves.came_second ∙ stands.tell.1.0, tt));
          maps = ap (λ b. cond b None (Some new.maps)) state.broken ∙ ap (λ (m : Maps). cond (state_by old.maps e).is_open None (Some m)) state.maps ∙ ap maps_at (sym there);
          held = λ images now. subst (λ (s : IndexState). OfTwo (AreOfState new.sacks s) images) (sym there)
              (two_images new (AreOfState new.sacks (state_by old.maps e)) (λ x y left left_too. held_by x y stands.is_told left left_too before) images now);
        }
      where
        rested : (a b : List ℕ) → AreOfState old.sacks (at_rest old.maps) a b → HoldsIndex old.sacks old.maps a b
        rested a b (inl held) = held
        rested a b (inr tried) = absurd (let e = tried.1 in cc)

  -- ---- a mounting

  -- a fact of one image of each of two disks
  images_of_two : (a b : D) (P : List ℕ → List ℕ → Type 0) → ((x y : List ℕ) → g.may_leave a x → g.may_leave b y → P x y) → (images : List (List ℕ)) → LeavesNow g (a ∷ b ∷ []) images → OfTwo P images
  images_of_two a b P has [] leaves = absurd leaves
  images_of_two a b P has (x ∷ []) leaves = absurd leaves.1
  images_of_two a b P has (x ∷ y ∷ []) leaves = has x y leaves.0 leaves.1.0
  images_of_two a b P has (x ∷ y ∷ z ∷ images) leaves = absurd leaves.1.1

  told_is : (o : Option (List ℕ)) → is_some o ≡ true → (bytes : List ℕ) × (o ≡ Some bytes)
  told_is None e = absurd cc
  told_is (Some bytes) e = (bytes, refl)

  module _ (reads : (disk : D) → IfSome (g.told disk) (g.may_leave disk)) (first : Maps) (h : List IndexEntry) (v : IndexView D) (a b : D) (disks : v.disks ≡ a ∷ b ∷ []) (broken : v.maps ≡ None) (stands : StandsFor g first h v) where
    abbrev now : IndexState
    now = state_of first h

    pub is_open : (state_of first h).is_open ≡ true
    is_open = unknown_open now (sym broken ∙ stands.maps)

    tell : AllTell g (a ∷ b ∷ [])
    tell = subst (AllTell g) disks stands.tell

    held : (x y : List ℕ) → g.may_leave a x → g.may_leave b y → AreOfState v.sacks now x y
    held x y left left_too = stands.held (x ∷ y ∷ []) (subst (λ (ds : List D). LeavesNow g ds (x ∷ y ∷ [])) (sym disks) (left, (left_too, tt)))

    as_read : (disk : D) (bytes : List ℕ) → g.told disk ≡ Some bytes → g.may_leave disk bytes
    as_read disk bytes e = subst (λ o. IfSome o (g.may_leave disk)) e (reads disk)

    -- as they read they hold an index
    pub never_damaged : TwoTold (g.told a) (g.told b) (HoldsNoIndex v.sacks) → ⊥
    never_damaged none =
        let x = told_is (g.told a) tell.0 in
        let y = told_is (g.told b) tell.1.0 in
        let here : HoldsNoIndex v.sacks x.0 y.0 = subst (λ tb. TwoTold (Some x.0) tb (HoldsNoIndex v.sacks)) y.1 (subst (λ ta. TwoTold ta (g.told b) (HoldsNoIndex v.sacks)) x.1 none) in
        elim (held x.0 y.0 (as_read a x.0 x.1) (as_read b y.0 y.1)) [
          | inl holds ↦ here now.maps holds
          | inr tried ↦ here (after_counted now.maps tried.0) tried.2
        ]

    module _ (book : BookView D) (from : IsMountedFrom g v.sacks a b book) where
      told_book : book.is_told ≡ true
      told_book = from.is_told ∙ ap (λ t. t && is_some (g.told b)) tell.0 ∙ tell.1.0

      found_maps : (m : Maps) (x y : List ℕ) → g.told a ≡ Some x → g.told b ≡ Some y → HoldsIndex v.sacks m x y → book.maps ≡ m
      found_maps m x y e f holds =
          let exact = subst (λ tb. TwoTold (Some x) tb (λ p q. (n : Maps) → HoldsIndex v.sacks n p q → book.maps ≡ n)) f
          (subst (λ ta. TwoTold ta (g.told b) (λ p q. (n : Maps) → HoldsIndex v.sacks n p q → book.maps ≡ n)) e from.exact) in
          exact m holds

      pub record Reopens : Type 0 where
        pub kept : Bool
        pub follows : MayFollow now (entries.Reopened kept)
        pub then : after_entry now (entries.Reopened kept) ≡ at_rest book.maps

      pub which : Reopens
      which =
          let x = told_is (g.told a) tell.0 in
          let y = told_is (g.told b) tell.1.0 in
          by x.0 y.0 x.1 y.1 (held x.0 y.0 (as_read a x.0 x.1) (as_read b y.0 y.1))
        where
          by : (x y : List ℕ) → g.told a ≡ Some x → g.told b ≡ Some y → AreOfState v.sacks now x y → Reopens
          by x y e f (inl holds) = record { kept = false; follows = is_open; then = ap at_rest (sym (found_maps now.maps x y e f holds)) }
          by x y e f (inr tried) = record {
            kept = true;
            follows = (is_open, (tried.0, tried.1));
            then = ap (λ (t : List IndexCounted). at_rest (after_all now.maps t)) tried.1 ∙ ap at_rest (sym (found_maps (after_counted now.maps tried.0) x y e f tried.2));
          }

      pub reopened_stands : (k : ℕ) → (kept : Bool) × MayFollow now (entries.Reopened kept) × StandsFor g first (h ++ entries.Reopened kept ∷ []) (of_book book k)
      reopened_stands k =
          let w = which in
          let e = entries.Reopened w.kept in
          let there : state_of first (h ++ e ∷ []) ≡ at_rest book.maps = after_entries-append (at_rest first) h (e ∷ []) ∙ w.then in (
            w.kept,
            w.follows,
            record {
              legal = MayAllFollow-append (at_rest first) h (e ∷ []) stands.legal (w.follows, tt);
              is_told = told_book;
              tell = (tells 2 a book.first from.came_first ∙ tell.0, (tells 2 b book.second from.came_second ∙ tell.1.0, tt));
              maps = ap (λ c. cond c None (Some book.maps)) from.whole ∙ ap maps_at (sym there);
              held = λ images leaves. subst (λ (s : IndexState). OfTwo (AreOfState book.sacks s) images) (sym there)
                  (images_of_two book.first book.second (AreOfState book.sacks (at_rest book.maps)) (λ x y left left_too. inl (from.durable x y left left_too told_book)) images leaves);
            },
          )

    -- where mounting failed: an entry that leaves the state as it is
    module _ (c d : D) (k : ℕ) (unwritten_first : (image : List ℕ) → g.may_leave c image → g.may_leave a image) (unwritten_second : (image : List ℕ) → g.may_leave d image → g.may_leave b image)
        (tells_first : is_some (g.told c) ≡ is_some (g.told a)) (tells_second : is_some (g.told d) ≡ is_some (g.told b)) where
      abbrev apart : IndexView D
      apart = record { disks = c ∷ d ∷ []; sacks = v.sacks; maps = None; is_told = true; entries = k }

      still_apart : (e : IndexEntry) → MayFollow now e → after_entry now e ≡ now → StandsFor g first (h ++ e ∷ []) (record { disks = c ∷ d ∷ []; sacks = v.sacks; maps = None; is_told = true; entries = k })
      still_apart e follows same =
          let there : state_of first (h ++ e ∷ []) ≡ now = after_entries-append (at_rest first) h (e ∷ []) ∙ same in
          record {
            legal = MayAllFollow-append (at_rest first) h (e ∷ []) stands.legal (follows, tt);
            is_told = refl;
            tell = (tells_first ∙ tell.0, (tells_second ∙ tell.1.0, tt));
            maps = sym broken ∙ stands.maps ∙ ap maps_at (sym there);
            held = λ images leaves. subst (λ (s : IndexState). OfTwo (AreOfState v.sacks s) images) (sym there)
                (images_of_two c d (AreOfState v.sacks now) (λ x y left left_too. held x y (unwritten_first x left) (unwritten_second y left_too)) images leaves);
          }

      pub apart_look : StandsFor g first (h ++ entries.Look ∷ []) (record { disks = c ∷ d ∷ []; sacks = v.sacks; maps = None; is_told = true; entries = k })
      apart_look = still_apart entries.Look tt refl

      pub apart_fault : (before after : ℕ) → StandsFor g first (h ++ entries.Fault None before after ∷ []) (record { disks = c ∷ d ∷ []; sacks = v.sacks; maps = None; is_told = true; entries = k })
      apart_fault before after = still_apart (entries.Fault None before after) tt
          (ap (λ (t : List IndexCounted). record { maps = now.maps; tried = t; is_open = true }) (append-nil now.tried) ∙ ap (λ (o : Bool). record { maps = now.maps; tried = now.tried; is_open = o }) (sym is_open))

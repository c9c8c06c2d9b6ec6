-- Turns on the books of a sack, one after another, by its history.
use Rattle.std.proofs.Common.{◌≡◌, ℕ, zero, suc, ◌+◌, ◌<◌, ◌≤◌, false, List, [], ◌∷◌, ◌++◌, length, take, Option, Some, None, Result, Ok, refl, sym, ap, subst, ◌∙◌, append-nil, append_assoc, arith}
use Rattle.std.specs.List.{slice_get}
use Rattle.std.specs.Option.{is_some}
use Rattle.std.proofs.lemmas.List.{length-append, map-append}
use Rattle.gno_disk.specs.Disk.{TimeGoesOn}
use Rattle.gno_disk.specs.Phases.{EachMoment}
use Rattle.gno_disk.specs.declared.disk.Disk.{Ghosts}
use Rattle.log_pair.specs.declared.place.Place.{Place}
use Rattle.series_model.specs.declared.metric.MetricId.{MetricId}
use Rattle.bound_series.specs.Jobs.{JobView, PreparedView}
use Rattle.sack_history.specs.declared.entry.Counted.{Counted}
use Rattle.sack_history.specs.declared.entry.Counted.TheVariants as counted
use Rattle.sack_history.specs.declared.entry.Entry.{Entry}
use Rattle.sack_history.specs.declared.entry.Entry.TheVariants as entries
use Rattle.sack_history.specs.declared.fault.SackFault.{SackFault}
use Rattle.sack_history.specs.declared.holding.HeldClaim.{HeldClaim}
use Rattle.sack_history.specs.Calls.{IsJobOf}
use Rattle.sack_history.specs.Entries.{all_counted, kept}
use Rattle.sack_history.specs.Holding.{held_after, held_claim}
use Rattle.sack_history.specs.Legal.{IsLegalCount, MayProcess}
use Rattle.sack_history.specs.Lives.{Posted, pending_of}
use Rattle.sack_history.specs.Scratch.{durable}
use Rattle.sack_history.specs.Turns.{next_turn, turn_end, turns_by}
use Rattle.sack_history.proofs.Committed.{TurnIsFromScratch}
use Rattle.sack_history.proofs.Keeping.{kept-all_counted, kept_legal}
use Rattle.sack_history.proofs.Turning.{turn_may}
use Rattle.sack_state.specs.declared.books.Books.{Books}
use Rattle.sack_state.specs.declared.disks.SackDisks.{SackDisks}
use Rattle.sack_state.specs.Books.{AreLasting, AreOfPlace, AreWhole, disks_of}
use Rattle.sack_state.specs.Claiming.{IsJobFrom}
use Rattle.sack_state.specs.Committing.{TakesTurn, TurnsTaken, broke, claim_past, more, no_ticket, none, took, turn_due, unread, unwritten, written}
use Rattle.sack_state.specs.Disks.{OfFive, sack_faults, sack_phases}
use Rattle.sack_state.specs.SackHolding.{AreOldOrWritten}
use Rattle.sack_state.specs.SackTurns.{AreWithTurns, AtTurns, more as more_turns, none as no_turns}
use Rattle.sack_state.specs.SackView.{HasDurable, IsScratch, SackView}
use Rattle.sack_state.proofs.CommitDone.{done_of_work, written_rises, wrote_moments, wrote_scratch}
use Rattle.sack_state.proofs.DoneLemmas.{whole_books}
use Rattle.sack_state.proofs.DueLemmas.{due_known, next_left, whose}
use Rattle.incoming.specs.declared.mark.Mark.{Mark}
use Rattle.incoming.specs.IncomingView.{IncomingView}
use Rattle.sack_state.specs.SackView.{marks_waiting}
use Rattle.sack_state.proofs.ClaimEntry.{some_pending}
use Rattle.sack_state.proofs.JobLemmas.{job_of}
use Rattle.sack_state.proofs.TurnLemmas.{from_some}

-- ---- what turns add

abbrev pub turn_of : {D : Type 0} (g : Ghosts D) (metric : MetricId) (old new : Books D) (result : Result (Unit {0}) SackFault) → TakesTurn g metric old new result → Counted
turn_of g metric old new result (took p wrote) = done_of_work p
turn_of g metric old new result (unread e only fails is) = counted.Done metric 0

abbrev pub taken_by : {D : Type 0} (g : Ghosts D) (only : Option MetricId) (held : Option HeldClaim) (old new : Books D) (turns : ℕ) (left : Option HeldClaim) → TurnsTaken g only held old new turns left → List Counted
taken_by g only held old new turns left (none _ _ _ same zero_turns same_claim) = []
taken_by g only held old new turns left (more _ mid _ before _ between metric t due take one past) = taken_by g only held old mid before between t ++ turn_of g metric mid new (Ok tt) take ∷ []

past_same : (o : Option HeldClaim) (metric : MetricId) (m n : ℕ) → held_after o (entries.Counted (counted.Done metric m)) ≡ held_after o (entries.Counted (counted.Done metric n))
past_same None metric m n = refl
past_same (Some claim) metric m n = refl

one_more : (n : ℕ) → n + 1 ≡ suc n
one_more n = omega arith

zero_and : (n : ℕ) → 0 + n ≡ n
zero_and n = omega arith

no_later : {a b c : ℕ} → a ≤ b → b ≤ c → a ≤ c
no_later h k = omega (arith, h, k)

no_later_same : (a : ℕ) → a ≤ a
no_later_same a = omega arith

-- lists in front of others
take_front : {X : Type 0} (xs ys : List X) → take (length xs) (xs ++ ys) ≡ xs
take_front [] ys = refl
take_front (x ∷ xs) ys = ap (λ l. x ∷ l) (take_front xs ys)

get_behind : {X : Type 0} (xs : List X) (y : X) (ys : List X) → slice_get (xs ++ (y ∷ ys)) (length xs) ≡ Some y
get_behind [] y ys = refl
get_behind (x ∷ xs) y ys = get_behind xs y ys

module _ {D : Type 0} (g : Ghosts D) (turn : TurnIsFromScratch) (tells : (n : ℕ) (old new : D) → g.came n old new → is_some (g.told new) ≡ is_some (g.told old)) (came_none : (disk : D) → g.came 0 disk disk)
    (came_more : (m n : ℕ) (old new : D) → m ≤ n → g.came m old new → g.came n old new) (came_then : (m n : ℕ) (old mid new : D) → g.came m old mid → g.came n mid new → g.came (m + n) old new)
    (came_later : (n : ℕ) (old new : D) → g.came n old new → g.faults old ≤ g.faults new)
    (goes_on : (n : ℕ) (old new : D) → g.came n old new → TimeGoesOn (g.moment old) (g.moment new) (g.left_since old) (g.left_since new))
    (only_now : (disk : D) (image : List ℕ) → g.left_since disk (g.moment disk) image → g.may_leave disk image)
    (place : Place) (view : Option HeldClaim → SackView D) (view_place : (o : Option HeldClaim) → (view o).place ≡ place) (view_held : (o : Option HeldClaim) → (view o).held ≡ o) (view_tickets : (o p : Option HeldClaim) → (view o).tickets ≡ (view p).tickets)
    (only : Option MetricId) (most : ℕ) (held : Option HeldClaim) (old : Books D) (start : List Entry) where
  abbrev counts : List Counted
  counts = kept start

  abbrev turns : List Counted
  turns = turns_by (whose only) most counts

  -- So many turns were taken, which are the first of those that are due; the sack is as the history with them says.
  pub record Walked (mid : Books D) (k : ℕ) (between : Option HeldClaim) (taken : List Counted) : Type 0 where
    pub left : ℕ
    pub number : length taken ≡ k
    pub sum : k + left ≡ most
    pub path : turns_by (whose only) most (kept start) ≡ taken ++ turns_by (whose only) left (kept start ++ taken)
    pub scratch : IsScratch g (view between) (record { disks = disks_of mid; books = mid; broken = false }) (start ++ all_counted taken)
    pub whole : AreWhole mid
    pub lasting : AreLasting g mid
    pub of_place : AreOfPlace place mid
    pub at : AtTurns g (AreWithTurns place (kept start) (turns_by (whose only) most (kept start))) (disks_of old) (disks_of mid) k
    pub rises : sack_faults g (disks_of old) ≤ sack_faults g (disks_of mid)

  -- ---- a turn that is due

  pub record IsNext (taken : List Counted) (metric : MetricId) (left : ℕ) : Type 0 where
    pub rest : ℕ
    pub left_is : left ≡ suc rest
    pub path : turns_by (whose only) most (kept start) ≡ taken ++ (next_turn metric (kept start ++ taken) ∷ turns_by (whose only) rest ((kept start ++ taken) ++ next_turn metric (kept start ++ taken) ∷ []))
    pub first : take (length taken) (turns_by (whose only) most (kept start)) ≡ taken
    pub then : slice_get (turns_by (whose only) most (kept start)) (length taken) ≡ Some (next_turn metric (kept start ++ taken))

  module _ (mid : Books D) (k : ℕ) (between : Option HeldClaim) (taken : List Counted) (w : Walked mid k between taken) where
    abbrev pub history : List Entry
    history = start ++ all_counted taken

    pub kept_is : kept (start ++ all_counted taken) ≡ kept start ++ taken
    kept_is = kept-all_counted start taken

    has_now : HasDurable g mid (durable (kept history))
    has_now = w.scratch.has refl

    legal_now : IsLegalCount (kept history)
    legal_now = kept_legal (view between).place.sack history w.scratch.legal

    pub due_then : turn_due only mid ≡ whose only (kept start ++ taken)
    due_then = due_known g mid (kept history) has_now w.scratch.remembers legal_now only ∙ ap (whose only) kept_is

    module _ (less : k < most) (metric : MetricId) (due : turn_due only mid ≡ Some metric) where
      pub next : IsNext taken metric w.left
      next = by w.left refl
        where
          by : (left : ℕ) → w.left ≡ left → IsNext taken metric w.left
          by zero is = absurd (omega (arith, w.sum, is, less))
          by (suc rest) is =
              let path = w.path ∙ ap (λ n. taken ++ turns_by (whose only) n (counts ++ taken)) is ∙ ap (λ l. taken ++ l) (next_left only rest (counts ++ taken) metric (sym due_then ∙ due)) in
              record {
                rest = rest;
                left_is = is;
                path = path;
                first = ap (take (length taken)) path ∙ take_front taken _;
                then = ap (λ l. slice_get l (length taken)) path ∙ get_behind taken (next_turn metric (counts ++ taken)) _;
              }

      -- a post of its metric waits
      pub record HasPost : Type 0 where
        pub post : Posted
        pub rest : List Posted
        pub is : pending_of metric (kept history) ≡ post ∷ rest

      pub has_post : HasPost
      has_post = by only due
        where
          by : (one : Option MetricId) → turn_due one mid ≡ Some metric → HasPost
          by None is =
              let first = from_some (λ (mark : Mark). mark.metric) (slice_get (marks_waiting mid) 0) metric is in
              let some = some_pending mid (kept history) w.scratch.remembers first.from first.is legal_now in
              record { post = some.post; rest = some.rest; is = subst (λ (m : MetricId). pending_of m (kept history) ≡ some.post ∷ some.rest) first.gives some.is }
          by (Some m) is =
              let known = sym (due_known g mid (kept history) has_now w.scratch.remembers legal_now (Some m)) ∙ is in
              let first = from_some (λ (p : Posted). m) (slice_get (pending_of m (kept history)) 0) metric known in
              from (pending_of m (kept history)) refl first.is first.gives
            where
              from : (l : List Posted) → pending_of m (kept history) ≡ l → {p : Posted} → slice_get (pending_of m (kept history)) 0 ≡ Some p → m ≡ metric → HasPost
              from [] there first same = let x = sym (ap (λ q. slice_get q 0) there) ∙ first in absurd cc
              from (p ∷ rest) there first same = record { post = p; rest = rest; is = subst (λ (k : MetricId). pending_of k (kept history) ≡ p ∷ rest) same there }

      pub may : MayProcess (kept history) metric (turn_end metric (kept history))
      may = turn_may metric (kept history) has_post.post has_post.rest has_post.is

      abbrev pub claim : HeldClaim
      claim = record { ticket = no_ticket; metric = metric; upto = turn_end metric (kept history) }

      pub job_now : (job : JobView) → IsJobFrom g mid metric no_ticket job → IsJobOf claim (kept history) job
      job_now job from = job_of g mid (kept history) has_now legal_now metric no_ticket job from has_post.post has_post.rest has_post.is claim refl refl

      -- the entry of the turn, and the claim that it leaves
      pub next_is : (p : PreparedView) → IsJobOf claim (kept history) p.job → done_of_work p ≡ next_turn metric (kept start ++ taken)
      next_is p job = ap (λ (m : MetricId). counted.Done m p.job.upto) job.metric ∙ ap (λ n. counted.Done metric n) job.upto ∙ ap (λ cs. next_turn metric cs) kept_is

      pub entry_joined : (c : Counted) → (start ++ all_counted taken) ++ entries.Counted c ∷ [] ≡ start ++ all_counted (taken ++ c ∷ [])
      entry_joined c = append_assoc start (all_counted taken) (entries.Counted c ∷ []) ∙ ap (λ l. start ++ l) (sym (map-append entries.Counted taken (c ∷ [])))

      pub counted_joined : (e : Entry) → (start ++ all_counted taken) ++ e ∷ [] ≡ start ++ (all_counted taken ++ e ∷ [])
      counted_joined e = append_assoc start (all_counted taken) (e ∷ [])

      held_next : (upto : ℕ) → (view (claim_past metric between)).held ≡ held_after (held_claim history) (entries.Counted (counted.Done metric upto))
      held_next upto =
          view_held (claim_past metric between) ∙ past_same between metric 0 upto
          ∙ ap (λ o. held_after o (entries.Counted (counted.Done metric upto))) (sym (view_held between) ∙ w.scratch.held)

      -- what is written at its moments is the next of the turns, behind those that were taken
      pub piece : (p : PreparedView) → IsJobOf claim (kept history) p.job → (new : SackDisks D) → EachMoment g (sack_phases (disks_of mid) new) (OfFive (AreOldOrWritten place (kept history) (Some (done_of_work p))))
          → EachMoment g (sack_phases (disks_of mid) new) (OfFive (AreWithTurns place (kept start) (turns_by (whose only) most (kept start)) k))
      piece p job new moments =
          subst (λ (n : ℕ). EachMoment g (sack_phases (disks_of mid) new) (OfFive (AreOldOrWritten place (counts ++ take n turns) (slice_get turns n)))) w.number
          (subst (λ (o : Option Counted). EachMoment g (sack_phases (disks_of mid) new) (OfFive (AreOldOrWritten place (counts ++ take (length taken) turns) o))) (sym next.then)
          (subst (λ (l : List Counted). EachMoment g (sack_phases (disks_of mid) new) (OfFive (AreOldOrWritten place (counts ++ l) (Some (next_turn metric (counts ++ taken)))))) (sym next.first)
          (subst (λ (c : Counted). EachMoment g (sack_phases (disks_of mid) new) (OfFive (AreOldOrWritten place (counts ++ taken) (Some c)))) (next_is p job)
          (subst (λ (cs : List Counted). EachMoment g (sack_phases (disks_of mid) new) (OfFive (AreOldOrWritten place cs (Some (done_of_work p))))) kept_is moments))))

      -- a turn that was taken
      pub step : (new : Books D) (take : TakesTurn g metric mid new (Ok tt)) → Walked new (suc k) (claim_past metric between) (taken ++ turn_of g metric mid new (Ok tt) take ∷ [])
      step new (took p (written mid_read ready same writes has whole_new lasting_new is)) =
          let job = job_now p.job ready.job in
          let to = claim_past metric between in
          let n = next in
          let c : done_of_work p ≡ next_turn metric (counts ++ taken) = next_is p job in
          record {
            left = n.rest;
            number = length-append taken (done_of_work p ∷ []) ∙ ap (λ m. m + 1) w.number ∙ one_more k;
            sum = omega (arith, w.sum, n.left_is);
            path = n.path ∙ ap (λ d. taken ++ (d ∷ turns_by (whose only) n.rest ((counts ++ taken) ++ d ∷ []))) (sym c)
                ∙ sym (append_assoc taken (done_of_work p ∷ []) (turns_by (whose only) n.rest ((counts ++ taken) ++ done_of_work p ∷ [])))
                ∙ ap (λ l. (taken ++ done_of_work p ∷ []) ++ turns_by (whose only) n.rest l) (append_assoc counts taken (done_of_work p ∷ []));
            scratch = subst (IsScratch g (view to) (record { disks = disks_of new; books = new; broken = false })) (entry_joined (done_of_work p))
                (subst (λ b. IsScratch g (view to) (record { disks = disks_of new; books = new; broken = b }) (history ++ entries.Counted (done_of_work p) ∷ [])) (whole_books new whole_new)
                (wrote_scratch g turn tells came_none came_more came_then came_later goes_on only_now place mid new w.whole w.lasting w.of_place p (view between) (view to) (view_place between) (view_place to) history w.scratch
                claim may mid_read ready.read (ready.lasting w.lasting) same writes job ready.prepared has whole_new
                (held_next p.job.upto ∙ ap (λ (m : MetricId). held_after (held_claim history) (entries.Counted (counted.Done m p.job.upto))) (sym job.metric)) (view_tickets to between ∙ w.scratch.tickets)));
            whole = whole_new;
            lasting = lasting_new w.lasting;
            of_place = record {
              incoming = ap (λ (i : IncomingView D). i.place) same ∙ ready.read.place ∙ w.of_place.incoming;
              shelf = writes.place ∙ ready.read.shelf.place ∙ w.of_place.shelf;
            };
            at = more_turns (disks_of new) (disks_of mid) (suc k) k w.at (piece p job (disks_of new)
                (wrote_moments g turn tells came_none came_more came_then came_later goes_on only_now place mid new w.whole w.lasting w.of_place p (view between) (view to) (view_place between) (view_place to) history w.scratch
                claim may mid_read ready.read (ready.lasting w.lasting) same writes job ready.prepared)) refl;
            rises = no_later w.rises (written_rises g came_none came_more came_then came_later only_now mid new p mid_read ready.read same writes);
          }
      step new (took p (broke mid_read f ready same writes has fault is)) = absurd cc
      step new (took p (unwritten e read fails is)) = absurd cc
      step new (unread e read fails is) = absurd cc

  -- all turns that were taken
  module _ (start_scratch : IsScratch g (view held) (record { disks = disks_of old; books = old; broken = false }) start) (start_whole : AreWhole old) (start_lasting : AreLasting g old) (start_place : AreOfPlace place old) where
    begun : Walked old 0 held []
    begun = record {
      left = most;
      number = refl;
      sum = zero_and most;
      path = ap (turns_by (whose only) most) (sym (append-nil (kept start)));
      scratch = subst (IsScratch g (view held) (record { disks = disks_of old; books = old; broken = false })) (sym (append-nil start)) start_scratch;
      whole = start_whole;
      lasting = start_lasting;
      of_place = start_place;
      at = no_turns (disks_of old) 0 refl refl;
      rises = no_later_same (sack_faults g (disks_of old));
    }

    pub walked : (mid : Books D) (k : ℕ) (between : Option HeldClaim) (t : TurnsTaken g only held old mid k between) → k ≤ most → Walked mid k between (taken_by g only held old mid k between t)
    walked mid k between (none _ _ _ same zero_turns same_claim) le =
        subst (λ (b : Books D). Walked b k between []) (sym same) (subst (λ n. Walked old n between []) (sym zero_turns) (subst (λ o. Walked old 0 o []) (sym same_claim) begun))
    walked new k left (more _ mid _ before _ between metric t due take one past) le =
        let less : before < most = omega (arith, one, le) in
        subst (λ n. Walked new n left (taken_by g only held old mid before between t ++ turn_of g metric mid new (Ok tt) take ∷ [])) (sym one)
        (subst (λ o. Walked new (suc before) o (taken_by g only held old mid before between t ++ turn_of g metric mid new (Ok tt) take ∷ [])) (sym past)
        (step mid before between (taken_by g only held old mid before between t) (walked mid before between t (omega (arith, less))) less metric due new take))

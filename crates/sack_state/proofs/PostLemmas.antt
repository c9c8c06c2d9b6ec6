-- A sack after a post on its books.
use Rattle.std.proofs.Common.{◌≡◌, ◌≢◌, ◌↔◌, ◌⊎◌, inl, inr, ℕ, ◌+◌, ◌-◌, ◌^◌, ◌≤◌, Bool, true, false, cond, eqb, List, [], ◌∷◌, ◌++◌, map, length, Option, Some, None, Result, Ok, Err, refl, sym, ap, subst, ◌∙◌}
use Rattle.std.specs.Option.{IfSome, is_some}
use Rattle.std.proofs.lemmas.Bool.{eq-eqb, false≢true, ne_eqb, or_from, or_left}
use Rattle.std.proofs.lemmas.List.{map-append}
use Rattle.gno_num.specs.Faults.{Rose}
use Rattle.gno_num.specs.declared.faults.Counter.{Counter}
use Rattle.gno_num.specs.declared.faults.Counter.TheVariants as counter
use Rattle.gno_num.specs.declared.faults.Spent.{Spent as SpentCounter}
use Rattle.gno_num.specs.declared.faults.DiskFault.{DiskFault as Fault}
use Rattle.gno_disk.specs.Phases.{EachMoment}
use Rattle.gno_disk.specs.declared.disk.Disk.{Ghosts}
use Rattle.gate_log.specs.LogView.{IsFault}
use Rattle.log_pair.specs.PairView.{both_faults}
use Rattle.log_pair.specs.declared.place.Place.{Place}
use Rattle.series_model.specs.declared.measure.Measure.{Measure}
use Rattle.series_model.specs.declared.metric.MetricId.{MetricId}
use Rattle.incoming.specs.declared.fault.PostFault.{PostFault}
use Rattle.incoming.specs.declared.fault.PostFault.TheVariants.{DiskFault, Memory, Spent}
use Rattle.incoming.specs.IncomingView.{AddsPost, AreOldOrPosted, IncomingView, MatchPostFault}
use Rattle.incoming.specs.Posts.{HoldsIncoming, Post, mark_of}
use Rattle.split_store.specs.Shelf.{HoldsShelf}
use Rattle.split_store.specs.ShelfView.{IsLastingShelf, Keeps, ShelfView}
use Rattle.sack_history.specs.declared.entry.Counted.{Counted}
use Rattle.sack_history.specs.declared.entry.Counted.TheVariants as counted
use Rattle.sack_history.specs.declared.entry.Entry.{Entry}
use Rattle.sack_history.specs.declared.entry.Entry.TheVariants as entries
use Rattle.sack_history.specs.declared.fault.SackFault.{SackFault}
use Rattle.sack_history.specs.declared.fault.SackFault.TheVariants as sack_fault
use Rattle.sack_history.specs.declared.holding.HeldClaim.{HeldClaim}
use Rattle.sack_history.specs.Calls.{PostsNow, post_refusal, spent_at}
use Rattle.sack_history.specs.Entries.{kept}
use Rattle.sack_history.specs.Failing.{HasRisen, failed as call_failed, given as call_given, no_memory, on_disk, refused as call_refused}
use Rattle.sack_history.specs.Holding.{held_after, held_claim, is_broken}
use Rattle.sack_history.specs.Legal.{IsLegal, IsLegalCount, MayComeNext, MayPost}
use Rattle.sack_history.specs.Lives.{is_live, next_post}
use Rattle.sack_history.specs.Scratch.{durable, metrics_from_scratch}
use Rattle.sack_history.proofs.Following.{FollowOn-more}
use Rattle.sack_history.proofs.Held.{held-more, ticket-more}
use Rattle.sack_history.proofs.Keeping.{broken-more, kept-counted, kept-noted, kept_legal, tried-more, whole_tried}
use Rattle.sack_state.specs.declared.books.Books.{Books}
use Rattle.sack_state.specs.Books.{AreLasting, AreOfPlace, AreWhole, disks_of}
use Rattle.sack_state.specs.Disks.{OfFive, OnIncoming, sack_faults, sack_phases}
use Rattle.sack_state.specs.Holding.{are_broken}
use Rattle.sack_state.specs.Posting.{HasBroken, HasPosted, PostsTo, WritesPost, failed, knows, next_of, posted, spent, starved, unknown}
use Rattle.sack_state.specs.SackHolding.{AreOfHistory, AreOldOrWritten, HoldsSack}
use Rattle.sack_state.specs.SackView.{AreReal, HasDurable, IsScratch, Remembers, SackView, standing_by}
use Rattle.sack_state.proofs.DoneLemmas.{IsDone, settled, state_with, whole_books}
use Rattle.sack_state.proofs.DiskLemmas.{capped_least, came_still, faults_later, no_less, on_incoming, tell_later}
use Rattle.sack_state.proofs.KnowLemmas.{knows_live, later_metrics, later_next, later_pending, same_waiting}
use Rattle.sack_state.proofs.MomentLemmas.{incoming_moments, still_moments}
use Rattle.sack_state.proofs.MountLemmas.{books_leave, incoming_moved, shelf_moved}
use Rattle.sack_state.proofs.RealLemmas.{has_risen, real_of, rose_among}

-- ---- why a post is refused

spent_is : (s : SpentCounter) → s.counter ≡ counter.PostNumber → s.at ≡ 2 ^ 63 → s ≡ record { counter = counter.PostNumber; at = 2 ^ 63 }
spent_is s first second =
    ap (λ (i : Counter). let x : SpentCounter = record { counter = i; at = s.at } in x) first ∙ ap (λ (i : ℕ). let x : SpentCounter = record { counter = counter.PostNumber; at = i } in x) second

post_free : (b : Bool) (next : ℕ) (s u : Option SackFault) → b ≡ true → next ≢ spent_at → cond b (cond (eqb next spent_at) s None) u ≡ None
post_free b next s u live free = ap (λ c. cond c (cond (eqb next spent_at) s None) u) live ∙ ap (λ c. cond c s None) (ne_eqb next spent_at free)

post_unknown : (b : Bool) (s u : Option SackFault) → b ≡ false → cond b s u ≡ u
post_unknown b s u dead = ap (λ c. cond c s u) dead

post_spent : (b : Bool) (next : ℕ) (s u : Option SackFault) → b ≡ true → next ≡ spent_at → cond b (cond (eqb next spent_at) s None) u ≡ s
post_spent b next s u live is = ap (λ c. cond c (cond (eqb next spent_at) s None) u) live ∙ ap (λ c. cond c s None) (eq-eqb next spent_at is)

-- ---- the claim

held_post : (o : Option HeldClaim) (n : ℕ) (m : MetricId) (measures : List Measure) → held_after o (entries.Counted (counted.Post n m measures)) ≡ o
held_post None n m measures = refl
held_post (Some claim) n m measures = refl

held_look : (o : Option HeldClaim) (m : Option MetricId) → held_after o (entries.Look m) ≡ o
held_look None m = refl
held_look (Some claim) m = refl

held_fault : (o : Option HeldClaim) (tried : Option Counted) (before after : ℕ) → held_after o (entries.Fault tried before after) ≡ None
held_fault None tried before after = refl
held_fault (Some claim) tried before after = refl

-- ---- the posts

adds_is : (o n : Option (List Post)) (p : Post) (posts : List Post) → AddsPost o n p → o ≡ Some posts → n ≡ Some (posts ++ p ∷ [])
adds_is None n p posts adds is = absurd cc
adds_is (Some old) None p posts adds is = absurd adds
adds_is (Some old) (Some new) p posts adds is = ap (λ l. Some l) adds ∙ ap (λ l. Some (l ++ p ∷ [])) (let same : old ≡ posts = cc in same)

module _ {D : Type 0} (g : Ghosts D) (tells : (n : ℕ) (old new : D) → g.came n old new → is_some (g.told new) ≡ is_some (g.told old)) (came_none : (disk : D) → g.came 0 disk disk)
    (came_more : (m n : ℕ) (old new : D) → m ≤ n → g.came m old new → g.came n old new)
    (counts_now : (disk : D) (since : ℕ) (image : List ℕ) → since ≤ g.moment disk → g.may_leave disk image → g.left_since disk since image)
    (only_now : (disk : D) (image : List ℕ) → g.left_since disk (g.moment disk) image → g.may_leave disk image)
    (m : MetricId) (measures : List Measure) (few : length measures ≤ 50000) (old new : Books D) (result : Result ℕ SackFault) (whole : AreWhole old) (lasting : AreLasting g old) (shelf : new.shelf ≡ old.shelf)
    (place : Place) (of_place : AreOfPlace place old) (new_place : new.incoming.place ≡ old.incoming.place) where
  abbrev pub n : ℕ
  n = old.incoming.next

  abbrev pub more : Counted
  more = counted.Post n m measures

  abbrev pub post : Post
  post = next_of m measures old.incoming

  -- what it adds
  abbrev pub post_entry : PostsTo g m measures old new result → Entry
  post_entry (posted known free writes has is) = entries.Counted more
  post_entry (failed f known free writes has is) = entries.Fault (Some more) f.before f.after
  post_entry (unknown none same is) = entries.Look (Some m)
  post_entry (spent known last same is) = entries.Look (Some m)
  post_entry (starved same is) = entries.Look (Some m)

  whole_old : are_broken old ≡ false
  whole_old = or_from old.incoming.broken old.shelf.broken whole.incoming whole.shelf

  pub new_of_place : AreOfPlace place new
  new_of_place = record { incoming = new_place ∙ of_place.incoming; shelf = ap (λ (s : ShelfView D). s.place) shelf ∙ of_place.shelf }

  broken_risen : (f : Fault) → HasBroken g old new f → HasRisen f
  broken_risen f done = has_risen f
      (subst (λ k. Rose k f.after) (sym done.fault.before_is) (subst (λ k. Rose (sack_faults g (disks_of old)) k) (sym done.fault.after_is) done.fault.rose))
      (subst (λ k. k ≤ 2 ^ 64 - 1) (sym done.fault.before_is) (capped_least _)) (subst (λ k. k ≤ 2 ^ 64 - 1) (sym done.fault.after_is) (capped_least _))

  came_on : WritesPost g post old.incoming new.incoming → OnIncoming g 4 (disks_of old) (disks_of new)
  came_on writes = record {
    incoming_a = writes.came_first;
    incoming_b = writes.came_second;
    shelf_a = ap (λ (s : ShelfView D). s.first) shelf;
    shelf_b = ap (λ (s : ShelfView D). s.second) shelf;
    blocks = ap (λ (s : ShelfView D). s.blocks) shelf;
  }

  same_on : new ≡ old → OnIncoming g 4 (disks_of old) (disks_of new)
  same_on same = subst (λ (b : Books D). OnIncoming g 4 (disks_of old) (disks_of b)) (sym same) (record {
    incoming_a = came_still g came_none came_more 4 old.incoming.first;
    incoming_b = came_still g came_none came_more 4 old.incoming.second;
    shelf_a = refl;
    shelf_b = refl;
    blocks = refl;
  })

  rises : ((n : ℕ) (a b : D) → g.came n a b → g.faults a ≤ g.faults b) → OnIncoming g 4 (disks_of old) (disks_of new) → sack_faults g (disks_of old) ≤ sack_faults g (disks_of new)
  rises later on = faults_later g later 4 0 0 (disks_of old) (disks_of new) (on_incoming g came_none came_more 4 0 0 (disks_of old) (disks_of new) on)

  -- how it came on the disks
  pub post_on : PostsTo g m measures old new result → OnIncoming g 4 (disks_of old) (disks_of new)
  post_on (posted known free writes has is) = came_on writes
  post_on (failed f known free writes has is) = came_on writes
  post_on (unknown none same is) = same_on same
  post_on (spent known last same is) = same_on same
  post_on (starved same is) = same_on same

  -- its fault is real
  pub post_real : ((n : ℕ) (a b : D) → g.came n a b → g.faults a ≤ g.faults b) → (p : PostsTo g m measures old new result) (N : Type 0) → AreReal N (sack_faults g (disks_of old)) (post_entry p ∷ []) (sack_faults g (disks_of new))
  post_real later (posted known free writes has is) N = rises later (came_on writes)
  post_real later (failed f known free writes has is) N = (
    real_of N (Some more) f (broken_risen f has),
    subst (λ k. sack_faults g (disks_of old) ≤ k) (sym has.fault.before_is) (no_less _),
    subst (λ k. k ≤ sack_faults g (disks_of new)) (sym has.fault.after_is) (no_less _),
  )
  post_real later (unknown none same is) N = rises later (same_on same)
  post_real later (spent known last same is) N = rises later (same_on same)
  post_real later (starved same is) N = rises later (same_on same)

  -- ---- by a history

  module _ (v w : SackView D) (v_place : v.place ≡ place) (w_place : w.place ≡ place) (held : w.held ≡ cond (are_broken new) None v.held) (tickets : w.tickets ≡ v.tickets)
      (history : List Entry) (scratch : IsScratch g v (record { disks = disks_of old; books = old; broken = false }) history) where
    abbrev counts : List Counted
    counts = kept history

    abbrev later : List Counted
    later = kept history ++ more ∷ []

    legal : IsLegal place.sack history
    legal = subst (λ (p : Place). IsLegal p.sack history) v_place scratch.legal

    has : HasDurable g old (durable counts)
    has = scratch.has refl

    live_is : knows m old ≡ is_live m counts
    live_is = knows_live old counts m scratch.remembers

    unbroken : is_broken history ≡ false
    unbroken = sym scratch.broken

    may_post : knows m old ≡ true → MayPost counts n m measures
    may_post known = record { number_is = has.next; live = sym live_is ∙ known; few = few }

    -- the shelf holds the metrics
    shelf_holds : (z c e : List ℕ) → g.may_leave old.shelf.blocks z → g.may_leave old.shelf.first c → g.may_leave old.shelf.second e → HoldsShelf place (metrics_from_scratch counts) c e z
    shelf_holds z c e left_z left_c left_e = shelf_moved old.shelf.place place (metrics_from_scratch counts) c e z of_place.shelf (lasting.shelf (metrics_from_scratch counts) c e z has.keeps left_c left_e left_z)

    module _ (known : knows m old ≡ true) where
      abbrev may : MayPost counts n m measures
      may = may_post known

      -- images of the incoming disks, with those of the shelf
      either : (a b z c e : List ℕ) → AreOldOrPosted old.incoming post a b → HoldsShelf place (metrics_from_scratch counts) c e z
          → HoldsSack place (durable counts) a b z c e ⊎ HoldsSack place (durable later) a b z c e
      either a b z c e of holds =
          by (subst (λ o. IfSome o (λ posts. HoldsIncoming old.incoming.place posts n a b ⊎ HoldsIncoming old.incoming.place (posts ++ post ∷ []) (n + 1) a b)) has.told of)
        where
          counts_legal : IsLegalCount counts
          counts_legal = kept_legal place.sack history legal

          by : HoldsIncoming old.incoming.place has.posts n a b ⊎ HoldsIncoming old.incoming.place (has.posts ++ post ∷ []) (n + 1) a b → HoldsSack place (durable counts) a b z c e ⊎ HoldsSack place (durable later) a b z c e
          by (inl there) = inl (record {
            posts = has.posts;
            incoming = incoming_moved old.incoming.place place has.posts n (next_post counts) a b of_place.incoming has.next there;
            shelf = holds;
            pending = has.pending;
          })
          by (inr there) = inr (record {
            posts = has.posts ++ post ∷ [];
            incoming = incoming_moved old.incoming.place place (has.posts ++ post ∷ []) (n + 1) (next_post later) a b of_place.incoming
                (ap (λ k. k + 1) has.next ∙ sym (later_next m n measures counts counts_legal may)) there;
            shelf = subst (λ ms. HoldsShelf place ms c e z) (sym (later_metrics m n measures counts counts_legal may)) holds;
            pending = later_pending m n measures counts counts_legal may has.posts has.pending;
          })

      -- the moments of the writing
      write_moments : WritesPost g post old.incoming new.incoming → EachMoment g (sack_phases (disks_of old) (disks_of new)) (OfFive (λ a b z c e. HoldsSack place (durable counts) a b z c e ⊎ HoldsSack place (durable later) a b z c e))
      write_moments writes = incoming_moments g counts_now only_now (disks_of old) (disks_of new)
          (ap (λ (s : ShelfView D). s.blocks) shelf) (ap (λ (s : ShelfView D). s.first) shelf) (ap (λ (s : ShelfView D). s.second) shelf)
          (AreOldOrPosted old.incoming post) (λ a b z c e. HoldsSack place (durable counts) a b z c e ⊎ HoldsSack place (durable later) a b z c e)
          (λ a b z c e of left_z left_c left_e. either a b z c e of (shelf_holds z c e left_z left_c left_e)) writes.moments

    -- ---- what the sack is then

    -- nothing has changed
    looked : IsScratch g w (state_with old) (history ++ entries.Look (Some m) ∷ []) → new ≡ old → IsScratch g w (state_with new) (history ++ entries.Look (Some m) ∷ [])
    looked there same = subst (λ (b : Books D). IsScratch g w (state_with b) (history ++ entries.Look (Some m) ∷ [])) (sym same) there

    look_scratch : new ≡ old → IsScratch g w (state_with new) (history ++ entries.Look (Some m) ∷ [])
    look_scratch same = looked (settled g w old (history ++ entries.Look (Some m) ∷ [])
        (subst (λ (p : Place). IsLegal p.sack (history ++ entries.Look (Some m) ∷ [])) (sym w_place) (FollowOn-more (MayComeNext place.sack) history (entries.Look (Some m)) legal tt))
        (broken-more history (entries.Look (Some m)) ∙ unbroken)
        (held ∙ ap (λ (b : Books D). cond (are_broken b) None v.held) same ∙ ap (λ c. cond c None v.held) whole_old ∙ scratch.held
        ∙ sym (held-more history (entries.Look (Some m)) ∙ held_look (held_claim history) (Some m)))
        (tickets ∙ scratch.tickets ∙ sym (ticket-more history (entries.Look (Some m))))
        (subst (λ c. HasDurable g old (durable c)) (sym (kept-noted history (entries.Look (Some m)) refl refl)) has)
        whole lasting (subst (λ (p : Place). AreOfPlace p old) (sym w_place) of_place) scratch.tell) same

    look_moments : new ≡ old → EachMoment g (sack_phases (disks_of old) (disks_of new)) (OfFive (AreOldOrWritten place counts (Some (counted.Post (next_post counts) m measures))))
    look_moments same = subst (λ (b : Books D). EachMoment g (sack_phases (disks_of old) (disks_of b)) (OfFive (AreOldOrWritten place counts (Some (counted.Post (next_post counts) m measures))))) (sym same)
        (still_moments g only_now (disks_of old) (AreOldOrWritten place counts (Some (counted.Post (next_post counts) m measures)))
        (λ x y z c e left_x left_y left_z left_c left_e. inl (books_leave g place old (durable counts) of_place lasting has x y z c e left_x left_y left_z left_c left_e)))

    next_is : n ≡ next_post counts
    next_is = has.next

    written_moments : knows m old ≡ true → WritesPost g post old.incoming new.incoming → EachMoment g (sack_phases (disks_of old) (disks_of new)) (OfFive (AreOldOrWritten place counts (Some (counted.Post (next_post counts) m measures))))
    written_moments known writes =
        subst (λ k. EachMoment g (sack_phases (disks_of old) (disks_of new)) (OfFive (λ a b z c e. HoldsSack place (durable counts) a b z c e ⊎ HoldsSack place (durable (counts ++ counted.Post k m measures ∷ [])) a b z c e))) next_is
        (write_moments known writes)

    -- the post counts
    posted_scratch : knows m old ≡ true → WritesPost g post old.incoming new.incoming → HasPosted g post old.incoming new.incoming → IsScratch g w (state_with new) (history ++ entries.Counted more ∷ [])
    posted_scratch known writes done =
        let may = may_post known in
        let counts_legal = kept_legal place.sack history legal in
        let e = entries.Counted more in
        settled g w new (history ++ e ∷ [])
        (subst (λ (p : Place). IsLegal p.sack (history ++ e ∷ [])) (sym w_place) (FollowOn-more (MayComeNext place.sack) history e legal (record { whole = unbroken; counts = may })))
        (broken-more history e ∙ unbroken)
        (held ∙ ap (λ c. cond c None v.held) (whole_books new new_whole) ∙ scratch.held ∙ sym (held-more history e ∙ held_post (held_claim history) n m measures))
        (tickets ∙ scratch.tickets ∙ sym (ticket-more history e))
        (subst (λ c. HasDurable g new (durable c)) (sym (kept-counted history more)) (record {
          posts = has.posts ++ post ∷ [];
          told = adds_is old.incoming.posts new.incoming.posts post has.posts done.posts has.told;
          marks = done.marks ∙ ap (λ l. l ++ mark_of post ∷ []) has.marks ∙ sym (map-append mark_of has.posts (post ∷ []));
          next = done.next ∙ ap (λ k. k + 1) has.next ∙ sym (later_next m n measures counts counts_legal may);
          keeps = subst (λ (s : ShelfView D). Keeps g s (metrics_from_scratch later)) (sym shelf) (subst (λ ms. Keeps g old.shelf ms) (sym (later_metrics m n measures counts counts_legal may)) has.keeps);
          pending = later_pending m n measures counts counts_legal may has.posts has.pending;
        }))
        new_whole
        (record { incoming = done.lasting; shelf = subst (λ (s : ShelfView D). IsLastingShelf g s) (sym shelf) lasting.shelf })
        (subst (λ (p : Place). AreOfPlace p new) (sym w_place) new_of_place)
        (tell_later g tells 4 0 0 (disks_of old) (disks_of new) (on_incoming g came_none came_more 4 0 0 (disks_of old) (disks_of new) (came_on writes)) scratch.tell)
      where
        new_whole : AreWhole new
        new_whole = record { incoming = done.whole; shelf = ap (λ (s : ShelfView D). s.broken) shelf ∙ whole.shelf }

    -- a disk has failed
    failed_scratch : (f : Fault) → knows m old ≡ true → WritesPost g post old.incoming new.incoming → HasBroken g old new f → IsScratch g w (state_with new) (history ++ entries.Fault (Some more) f.before f.after ∷ [])
    failed_scratch f known writes done =
        let e = entries.Fault (Some more) f.before f.after in
        let same_kept = kept-noted history e refl refl in
        record {
          legal = subst (λ (p : Place). IsLegal p.sack (history ++ e ∷ [])) (sym w_place) (FollowOn-more (MayComeNext place.sack) history e legal (record { only = whole_tried history unbroken; counts = may_post known }));
          broken = new_broken ∙ sym (broken-more history e);
          held = held ∙ ap (λ c. cond c None v.held) new_broken ∙ sym (held-more history e ∙ held_fault (held_claim history) (Some more) f.before f.after);
          tickets = tickets ∙ scratch.tickets ∙ sym (ticket-more history e);
          remembers = subst (λ c. Remembers new (durable c)) (sym same_kept) (record {
            next = done.next ∙ has.next;
            standings = ap (λ (s : ShelfView D). map standing_by s.metrics) shelf ∙ scratch.remembers.standings;
            waiting = same_waiting old new (ap (λ (s : ShelfView D). s.metrics) shelf) done.marks ∙ scratch.remembers.waiting;
          });
          has = λ whole. absurd (false≢true (sym whole ∙ new_broken));
          tell = tell_later g tells 4 0 0 (disks_of old) (disks_of new) (on_incoming g came_none came_more 4 0 0 (disks_of old) (disks_of new) (came_on writes)) scratch.tell;
          images = λ a b z c d left_a left_b left_z left_c left_d.
              let holds = shelf_holds z c d (subst (λ (s : ShelfView D). g.may_leave s.blocks z) shelf left_z) (subst (λ (s : ShelfView D). g.may_leave s.first c) shelf left_c) (subst (λ (s : ShelfView D). g.may_leave s.second d) shelf left_d) in
              subst (λ (p : Place). AreOfHistory p (history ++ e ∷ []) a b z c d) (sym w_place)
              (left_over a b z c d (either known a b z c d (writes.left (a ∷ b ∷ []) (left_a, (left_b, tt))) holds));
        }
      where
        new_broken : are_broken new ≡ true
        new_broken = or_left new.incoming.broken new.shelf.broken done.broken

        left_over : (a b z c d : List ℕ) → HoldsSack place (durable counts) a b z c d ⊎ HoldsSack place (durable later) a b z c d → AreOfHistory place (history ++ entries.Fault (Some more) f.before f.after ∷ []) a b z c d
        left_over a b z c d (inl there) = inl (subst (λ l. HoldsSack place (durable l) a b z c d) (sym (kept-noted history (entries.Fault (Some more) f.before f.after) refl refl)) there)
        left_over a b z c d (inr there) = inr (
          more,
          tried-more history (entries.Fault (Some more) f.before f.after),
          subst (λ l. HoldsSack place (durable (l ++ more ∷ [])) a b z c d) (sym (kept-noted history (entries.Fault (Some more) f.before f.after) refl refl)) there,
        )

    -- ---- what the call is then

    refusal_free : knows m old ≡ true → n ≢ spent_at → post_refusal m counts ≡ None
    refusal_free known free = post_free (is_live m counts) (next_post counts) _ _ (sym live_is ∙ known) (λ is. free (next_is ∙ is))

    posted_does : knows m old ≡ true → n ≢ spent_at → result ≡ Ok n → PostsNow m measures result history (entries.Counted more ∷ [])
    posted_does known free is = call_given n (refusal_free known free, (next_is, refl)) is

    failed_does : (f : Fault) → knows m old ≡ true → n ≢ spent_at → HasBroken g old new f → result ≡ Err (sack_fault.DiskFault f) → PostsNow m measures result history (entries.Fault (Some more) f.before f.after ∷ [])
    failed_does f known free done is = call_failed (on_disk f) (
      refusal_free known free,
      (broken_risen f done, (Some more, inr (ap (λ k. Some (counted.Post k m measures)) next_is), refl)),
    ) is

    pub post_done : (p : PostsTo g m measures old new result) → IsDone g place (PostsNow m measures result) (λ l. Some (counted.Post (next_post l) m measures)) old new w (post_entry p) history
    post_done (posted known free writes done is) = record {
      does = posted_does known free is;
      scratch = posted_scratch known writes done;
      moments = written_moments known writes;
    }
    post_done (failed f known free writes done is) = record {
      does = failed_does f known free done is;
      scratch = failed_scratch f known writes done;
      moments = written_moments known writes;
    }
    post_done (unknown none same is) = record {
      does = call_refused sack_fault.Unknown (post_unknown (is_live m counts) _ _ (sym live_is ∙ none)) refl is;
      scratch = look_scratch same;
      moments = look_moments same;
    }
    post_done (spent known last same is) = record {
      does = call_refused (sack_fault.Spent (record { counter = counter.PostNumber; at = spent_at })) (post_spent (is_live m counts) (next_post counts) _ _ (sym live_is ∙ known) (sym next_is ∙ last)) refl is;
      scratch = look_scratch same;
      moments = look_moments same;
    }
    post_done (starved same is) = record {
      does = call_failed no_memory (tt, refl) is;
      scratch = look_scratch same;
      moments = look_moments same;
    }

-- ---- a post of the incoming log that was refused

module _ {D : Type 0} (g : Ghosts D) (m : MetricId) (measures : List Measure) (old : Books D) (now : IncomingView D) where
  abbrev pub with_log : Books D
  with_log = record { incoming = now; shelf = old.shelf }

  same_books : now ≡ old.incoming → with_log ≡ old
  same_books same = ap (λ (i : IncomingView D). let b : Books D = record { incoming = i; shelf = old.shelf } in b) same

  pub post_refused : (fault : PostFault) (r : SackFault) (before after : ℕ) → knows m old ≡ true → before ≡ sack_faults g (disks_of old) → after ≡ sack_faults g (disks_of with_log) → now.next ≡ old.incoming.next → now.marks ≡ old.incoming.marks
      → WritesPost g (next_of m measures old.incoming) old.incoming now
      → (((let x : Result ℕ PostFault = Err fault in x) ≡ Err (Spent (record { counter = counter.PostNumber; at = 2 ^ 63 }))) ↔ (old.incoming.next ≡ 2 ^ 63))
      → MatchPostFault fault (λ s. (s.counter ≡ counter.PostNumber) × (s.at ≡ 2 ^ 63) × (now ≡ old.incoming)) (now ≡ old.incoming)
      (λ f. IsFault (both_faults g old.incoming.first old.incoming.second) (both_faults g now.first now.second) f × (now.broken ≡ true))
      → MatchPostFault fault (λ s. r ≡ sack_fault.Spent s) (r ≡ sack_fault.Memory) (λ f. r ≡ sack_fault.DiskFault (record { before = before; after = after }))
      → PostsTo g m measures old with_log (Err r)
  post_refused (Spent s) r before after known before_is after_is next marks writes last cause is =
      let same : s ≡ record { counter = counter.PostNumber; at = 2 ^ 63 } = spent_is s cause.0 cause.1 in
      spent known (last.0 (ap (λ x. Err (Spent x)) same)) (same_books cause.2) (ap (λ x. Err x) is ∙ ap (λ x. Err (sack_fault.Spent x)) same)
  post_refused Memory r before after known before_is after_is next marks writes last cause is = starved (same_books cause) (ap (λ x. Err x) is)
  post_refused (DiskFault f) r before after known before_is after_is next marks writes last cause is =
      failed (record { before = before; after = after }) known (λ e. let wrong = last.1 e in absurd cc) writes (record {
        next = next;
        marks = marks;
        broken = cause.1;
        fault = record {
          before_is = before_is;
          after_is = after_is;
          rose = rose_among (g.faults old.incoming.first) (g.faults old.incoming.second) (g.faults now.first) (g.faults now.second) (g.faults old.shelf.first) (g.faults old.shelf.second) (g.faults old.shelf.blocks)
              (g.faults old.shelf.first) (g.faults old.shelf.second) (g.faults old.shelf.blocks) (no_less (g.faults old.shelf.first)) (no_less (g.faults old.shelf.second)) (no_less (g.faults old.shelf.blocks)) cause.0.rose;
        };
      }) (ap (λ x. Err x) is)

-- A sack once its books were mounted.
use Rattle.std.proofs.Common.{◌≡◌, inl, inr, ℕ, Bool, true, false, List, [], ◌∷◌, ◌++◌, map, Option, Some, None, option_to_list, refl, sym, ap, subst, ◌∙◌}
use Rattle.std.specs.List.{AllZip}
use Rattle.std.specs.Option.{IfSome, IsSome, is_some}
use Rattle.std.proofs.lemmas.Bool.{false≢true}
use Rattle.gno_disk.specs.declared.disk.Disk.{Ghosts}
use Rattle.log_pair.specs.declared.place.Place.{Place}
use Rattle.series_model.specs.declared.metric.MetricId.{MetricId}
use Rattle.incoming.specs.Posts.{HoldsIncoming, Post, incoming_place}
use Rattle.split_update.specs.Live.{Live}
use Rattle.shelf_records.specs.Shelved.{Shelved}
use Rattle.shelf_blocks.specs.Blocks.{HoldsMetric}
use Rattle.split_store.specs.Shelf.{HoldsShelf, shelf_place}
use Rattle.sack_history.specs.declared.entry.Counted.{Counted}
use Rattle.sack_history.specs.declared.entry.Entry.{Entry}
use Rattle.sack_history.specs.declared.entry.Entry.TheVariants as entries
use Rattle.sack_history.specs.declared.holding.HeldClaim.{HeldClaim}
use Rattle.sack_history.specs.Entries.{kept}
use Rattle.sack_history.specs.Holding.{held_after, held_claim, is_broken, open_tried}
use Rattle.sack_history.specs.Legal.{IsLegal, MayComeNext, MayCount, MayReopen}
use Rattle.sack_history.specs.Scratch.{Durable, durable}
use Rattle.sack_history.proofs.Following.{FollowOn-more}
use Rattle.sack_history.proofs.Held.{held-more, holds_well, ticket-more}
use Rattle.sack_history.proofs.Keeping.{broken-more, kept-found, kept-noted, kept_legal, tried_legal}
use Rattle.sack_state.specs.declared.books.Books.{Books}
use Rattle.sack_state.specs.declared.disks.SackDisks.{SackDisks}
use Rattle.sack_state.specs.Books.{AreLasting, AreMountedFrom, AreOfPlace, disks_of}
use Rattle.sack_state.specs.Disks.{AreTold, Leaves, TellAll}
use Rattle.sack_state.specs.SackHolding.{AreOfHistory, HoldsSack}
use Rattle.sack_state.specs.SackView.{HasDurable, IsScratch, Remembers, SackState, SackView, Standing, mark_by, standing_by, standing_of}
use Rattle.sack_state.proofs.DiskLemmas.{tell_later}
use Rattle.sack_state.proofs.KnowLemmas.{differ, differ_more, differ_none, waiting_known}

-- ---- what the books have

pub incoming_moved : (p place : Place) (posts : List Post) (n m : ℕ) (a b : List ℕ) → p ≡ incoming_place place → n ≡ m → HoldsIncoming p posts n a b → HoldsIncoming place posts m a b
incoming_moved p place posts n m a b is next h =
    let k = subst (λ q. HoldsIncoming q posts m a b) is (subst (λ i. HoldsIncoming p posts i a b) next h) in
    record { epoch = k.epoch; start = k.start; records = k.records; held = k.held; log = k.log; next_is = k.next_is }

pub shelf_moved : (p place : Place) (lives : List Live) (a b z : List ℕ) → p ≡ shelf_place place → HoldsShelf p lives a b z → HoldsShelf place lives a b z
shelf_moved p place lives a b z is h =
    let k = subst (λ q. HoldsShelf q lives a b z) is h in
    record { epoch = k.epoch; items = k.items; log = record { held = k.log.held; each = k.log.each; legal = k.log.legal }; stand = k.stand }

metrics_standing : (bytes : List ℕ) (metrics : List Shelved) (lives : List Live) → AllZip (HoldsMetric bytes) metrics lives → map standing_by metrics ≡ map standing_of lives
metrics_standing bytes [] [] h = refl
metrics_standing bytes [] (l ∷ lives) h = absurd h
metrics_standing bytes (m ∷ metrics) [] h = absurd h
metrics_standing bytes (m ∷ metrics) (l ∷ lives) h =
    ap (λ (i : MetricId). let s : Standing = record { id = i; done = m.done } in s ∷ map standing_by metrics) (sym h.0.id)
    ∙ ap (λ (n : ℕ). let s : Standing = record { id = l.id; done = n } in s ∷ map standing_by metrics) (sym h.0.done)
    ∙ ap (λ (ss : List Standing). standing_of l ∷ ss) (metrics_standing bytes metrics lives h.1)

module _ {D : Type 0} (g : Ghosts D) where
  pub remembers_of : (b : Books D) (d : Durable) → HasDurable g b d → Remembers b d
  remembers_of b d has =
      let standings = metrics_standing has.keeps.bytes b.shelf.metrics d.metrics has.keeps.held in
      record { next = has.next; standings = standings; waiting = waiting_known b d.metrics has.posts has.marks standings ∙ ap (map mark_by) (sym has.pending) }

  -- what a stop leaves of books that have a durable state
  pub books_leave : (place : Place) (b : Books D) (d : Durable) → AreOfPlace place b → AreLasting g b → HasDurable g b d → Leaves g (disks_of b) (HoldsSack place d)
  books_leave place b d of_place lasting has = λ x y z c e left_x left_y left_z left_c left_e. record {
    posts = has.posts;
    incoming = incoming_moved b.incoming.place place has.posts b.incoming.next d.next x y of_place.incoming has.next
        (subst (λ o. IfSome o (λ posts. HoldsIncoming b.incoming.place posts b.incoming.next x y)) has.told (lasting.incoming x y left_x left_y));
    shelf = shelf_moved b.shelf.place place d.metrics c e z of_place.shelf (lasting.shelf d.metrics c e z has.keeps left_c left_e left_z);
    pending = has.pending;
  }

  told_is : (o : Option (List ℕ)) → IsSome o → (bytes : List ℕ) × (o ≡ Some bytes)
  told_is None e = absurd (false≢true e)
  told_is (Some bytes) e = (bytes, refl)

  module _ (reads : (disk : D) → IfSome (g.told disk) (g.may_leave disk)) where
    as_read : (disk : D) (bytes : List ℕ) → g.told disk ≡ Some bytes → g.may_leave disk bytes
    as_read disk bytes e = subst (λ o. IfSome o (g.may_leave disk)) e (reads disk)

    -- what each choice of images has, the disks have as they read
    pub read_now : (disks : SackDisks D) (P : List ℕ → List ℕ → List ℕ → List ℕ → List ℕ → Type 0) → TellAll g disks → Leaves g disks P → AreTold g disks P
    read_now disks P tell leaves =
        let a = told_is (g.told disks.incoming_a) tell.incoming_a in
        let b = told_is (g.told disks.incoming_b) tell.incoming_b in
        let z = told_is (g.told disks.blocks) tell.blocks in
        let c = told_is (g.told disks.shelf_a) tell.shelf_a in
        let e = told_is (g.told disks.shelf_b) tell.shelf_b in
        record {
          a = a.0;
          b = b.0;
          z = z.0;
          c = c.0;
          e = e.0;
          incoming_a = a.1;
          incoming_b = b.1;
          blocks = z.1;
          shelf_a = c.1;
          shelf_b = e.1;
          have = leaves a.0 b.0 z.0 c.0 e.0 (as_read disks.incoming_a a.0 a.1) (as_read disks.incoming_b b.0 b.1) (as_read disks.blocks z.0 z.1) (as_read disks.shelf_a c.0 c.1) (as_read disks.shelf_b e.0 e.1);
        }

    pub read_at : (disks : SackDisks D) (P Q : List ℕ → List ℕ → List ℕ → List ℕ → List ℕ → Type 0) (t : AreTold g disks Q) → Leaves g disks P → P t.a t.b t.z t.c t.e
    read_at disks P Q t leaves = leaves t.a t.b t.z t.c t.e (as_read disks.incoming_a t.a t.incoming_a) (as_read disks.incoming_b t.b t.incoming_b) (as_read disks.blocks t.z t.blocks) (as_read disks.shelf_a t.c t.shelf_a) (as_read disks.shelf_b t.e t.shelf_b)

    -- ---- a broken sack whose books were mounted

    module _ (v : SackView D) (s : SackState D) (is_open : s.broken ≡ true) (b : Books D) (from : AreMountedFrom g v.place s.disks b) (history : List Entry) (scratch : IsScratch g v s history) where
      open_history : is_broken history ≡ true
      open_history = sym scratch.broken ∙ is_open

      record IsFoundAs (found : Bool) : Type 0 where
        may : MayReopen history found
        has : HasDurable g b (durable (kept (history ++ entries.Reopened found ∷ [])))

      abbrev pub found : Bool
      found = differ s.books b

      found_none : HasDurable g b (durable (kept history)) → IsFoundAs found
      found_none has =
          let is = differ_none s.books b (kept history) scratch.remembers (remembers_of b (durable (kept history)) has) in
          subst IsFoundAs (sym is) (record {
            may = record { broken = open_history; tried = λ e. absurd (false≢true e) };
            has = subst (λ counts. HasDurable g b (durable counts)) (sym (kept-noted history (entries.Reopened false) refl refl)) has;
          })

      found_more : (more : Counted) → open_tried history ≡ Some more → HasDurable g b (durable (kept history ++ more ∷ [])) → IsFoundAs found
      found_more more tried has =
          let legal = kept_legal v.place.sack history scratch.legal in
          let may = subst (λ o. IfSome o (MayCount (kept history))) tried (tried_legal v.place.sack history scratch.legal) in
          let is = differ_more s.books b (kept history) scratch.remembers more legal may (remembers_of b (durable (kept history ++ more ∷ [])) has) in
          let there : kept (history ++ entries.Reopened true ∷ []) ≡ kept history ++ more ∷ [] = kept-found v.place.sack history scratch.legal ∙ ap (λ o. kept history ++ option_to_list o) tried in
          subst IsFoundAs (sym is) (record {
            may = record { broken = open_history; tried = λ e. ap is_some tried };
            has = subst (λ counts. HasDurable g b (durable counts)) (sym there) has;
          })

      found_as : IsFoundAs found
      found_as =
          let told = read_now s.disks (AreOfHistory v.place history) scratch.tell scratch.images in
          by told (told.have)
        where
          at : (d : Durable) (told : AreTold g s.disks (AreOfHistory v.place history)) → HoldsSack v.place d told.a told.b told.z told.c told.e → HasDurable g b d
          at d told h = from.exact d (record {
            a = told.a;
            b = told.b;
            z = told.z;
            c = told.c;
            e = told.e;
            incoming_a = told.incoming_a;
            incoming_b = told.incoming_b;
            blocks = told.blocks;
            shelf_a = told.shelf_a;
            shelf_b = told.shelf_b;
            have = h;
          })

          by : (told : AreTold g s.disks (AreOfHistory v.place history)) → AreOfHistory v.place history told.a told.b told.z told.c told.e → IsFoundAs found
          by told (inl h) = found_none (at (durable (kept history)) told h)
          by told (inr h) = found_more h.0 h.1 (at (durable (kept history ++ h.0 ∷ [])) told h.2)

      pub may_reopen : MayReopen history found
      may_reopen = found_as.may

      no_claim : (o : Option HeldClaim) → o ≡ None → None ≡ held_after o (entries.Reopened found)
      no_claim None e = refl
      no_claim (Some claim) e = absurd cc

      module _ (tells : (n : ℕ) (old new : D) → g.came n old new → is_some (g.told new) ≡ is_some (g.told old)) (w : SackView D) (place : w.place ≡ v.place) (held : w.held ≡ None) (tickets : w.tickets ≡ v.tickets) where
        pub reopened : IsScratch g w (record { disks = disks_of b; books = b; broken = false }) (history ++ entries.Reopened found ∷ [])
        reopened = record {
          legal = subst (λ (p : Place). IsLegal p.sack (history ++ entries.Reopened found ∷ [])) (sym place)
              (FollowOn-more (MayComeNext v.place.sack) history (entries.Reopened found) scratch.legal may_reopen);
          broken = sym (broken-more history (entries.Reopened found));
          held = held ∙ no_claim (held_claim history) ((holds_well v.place.sack history scratch.legal).broken open_history) ∙ sym (held-more history (entries.Reopened found));
          tickets = tickets ∙ scratch.tickets ∙ sym (ticket-more history (entries.Reopened found));
          remembers = remembers_of b (durable (kept (history ++ entries.Reopened found ∷ []))) found_as.has;
          has = λ e. found_as.has;
          tell = tell_later g tells 2 2 1 s.disks (disks_of b) from.came scratch.tell;
          images = λ x y z c e left_x left_y left_z left_c left_e.
              inl (subst (λ (p : Place). HoldsSack p (durable (kept (history ++ entries.Reopened found ∷ []))) x y z c e) (sym place)
              (books_leave v.place b (durable (kept (history ++ entries.Reopened found ∷ []))) from.of_place from.lasting found_as.has x y z c e left_x left_y left_z left_c left_e));
        }

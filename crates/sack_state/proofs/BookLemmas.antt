-- Mounting the books of a sack.
use Rattle.std.proofs.Common.{◌≡◌, ℕ, ◌+◌, ◌-◌, ◌≤◌, ◌^◌, min, Bool, true, false, ◌&&◌, List, [], ◌∷◌, length, Option, Some, None, refl, sym, ap, subst, ◌∙◌, arith}
use Rattle.std.specs.Bool.{⊤}
use Rattle.std.specs.Option.{IfSome, is_some}
use Rattle.std.proofs.lemmas.Bool.{false≢true}
use Rattle.gno_num.specs.declared.faults.Damaged.{Damaged as Damage}
use Rattle.gno_disk.specs.Phases.{AreUnwritten, phase}
use Rattle.gno_disk.specs.declared.disk.Disk.{Ghosts}
use Rattle.gate_log.specs.LogView.{IsFault, MatchFault, MatchMountFault}
use Rattle.gate_log.specs.declared.fault.LogFault.{LogFault}
use Rattle.gate_log.specs.declared.fault.LogFault.TheVariants.{DiskFault as LogDisk, Memory as LogMemory}
use Rattle.gate_log.specs.declared.fault.MountFault.{MountFault}
use Rattle.gate_log.specs.declared.fault.MountFault.TheVariants.{DiskFault as MountDisk, Damaged as MountDamaged, Memory as MountMemory}
use Rattle.log_pair.specs.Choice.{TwoTold}
use Rattle.log_pair.specs.declared.place.Place.{Place}
use Rattle.log_pair.specs.Pair.{IsDamagedPair, another, damaged, disk_number, no_header}
use Rattle.log_pair.specs.PairView.{IsMaking, both_faults}
use Rattle.incoming.specs.Damage.{HoldsNoIncoming, IsDamagedIncoming}
use Rattle.incoming.specs.Posts.{HoldsIncoming, Post, incoming_place, marks_of}
use Rattle.split_update.specs.Live.{Live}
use Rattle.split_store.specs.Damage.{IsDamagedShelf, odd, pair}
use Rattle.split_store.specs.Shelf.{HasNoShelfLog, HoldsShelf, shelf_place}
use Rattle.split_store.specs.ShelfView.{Keeps, ThreeTold, all_faults}
use Rattle.split_store.proofs.Making.{making, untouched}
use Rattle.sack_history.specs.Scratch.{Durable, durable}
use Rattle.sack_state.specs.declared.books.Books.{Books}
use Rattle.sack_state.specs.declared.disks.SackDisks.{SackDisks}
use Rattle.sack_state.specs.Books.{AreMaking, IsUnmade, IsUnmounted}
use Rattle.sack_state.specs.Disks.{AreTold, CameWithin, TellAll, sack_faults}
use Rattle.sack_state.specs.SackHolding.{HoldsNoSack, HoldsSack, IsDamagedSack}
use Rattle.sack_state.specs.SackHolding as holding
use Rattle.sack_state.specs.SackView.{HasDurable}
use Rattle.sack_state.proofs.DiskLemmas.{came_still, no_less}
use Rattle.sack_state.proofs.MomentLemmas.{still_disk}
use Rattle.sack_state.proofs.RealLemmas.{rose_among, rose_among_three}

-- ---- facts of bytes that are told

pub two_at : (ta tb : Option (List ℕ)) (P : List ℕ → List ℕ → Type 0) (x y : List ℕ) → ta ≡ Some x → tb ≡ Some y → TwoTold ta tb P → P x y
two_at ta tb P x y first second t = subst (λ o. TwoTold (Some x) o P) second (subst (λ o. TwoTold o tb P) first t)

pub three_at : (ta tb tc : Option (List ℕ)) (P : List ℕ → List ℕ → List ℕ → Type 0) (x y z : List ℕ) → ta ≡ Some x → tb ≡ Some y → tc ≡ Some z → ThreeTold ta tb tc P → P x y z
three_at ta tb tc P x y z first second third t =
    subst (λ o. ThreeTold (Some x) (Some y) o P) third (subst (λ o. ThreeTold (Some x) o tc P) second (subst (λ o. ThreeTold o tb tc P) first t))

-- what both books have was held by the disks
pub books_have : {D : Type 0} (g : Ghosts D) (place : Place) (disks : SackDisks D) (b : Books D)
    → TwoTold (g.told disks.incoming_a) (g.told disks.incoming_b) (λ x y. (posts : List Post) (next : ℕ) → HoldsIncoming place posts next x y → (b.incoming.posts ≡ Some posts) × (b.incoming.next ≡ next))
    → IfSome b.incoming.posts (λ posts. b.incoming.marks ≡ marks_of posts)
    → ThreeTold (g.told disks.shelf_a) (g.told disks.shelf_b) (g.told disks.blocks) (λ x y z. (lives : List Live) → HoldsShelf place lives x y z → Keeps g b.shelf lives)
    → (d : Durable) → AreTold g disks (HoldsSack place d) → HasDurable g b d
books_have g place disks b exact marks keeps d told =
    let h = told.have in
    let p = two_at _ _ _ told.a told.b told.incoming_a told.incoming_b exact h.posts d.next h.incoming in
    record {
      posts = h.posts;
      told = p.0;
      marks = subst (λ o. IfSome o (λ (posts : List Post). b.incoming.marks ≡ marks_of posts)) p.0 marks;
      next = p.1;
      keeps = three_at _ _ _ _ told.c told.e told.z told.shelf_a told.shelf_b told.blocks keeps d.metrics h.shelf;
      pending = h.pending;
    }

-- ---- damage

number_least : (second : Bool) → disk_number second ≤ 1
number_least true = omega arith
number_least false = omega arith

pair_disk : (place : Place) (a b : List ℕ) (d : Damage) → IsDamagedPair place a b d → d.disk ≤ 1
pair_disk place a b d (no_header is at first second) = omega (arith, is)
pair_disk place a b d (another second p epoch counts why is at) = let least = number_least second in omega (arith, is, least)
pair_disk place a b d (damaged second epoch counts is damage) = let least = number_least second in omega (arith, is, least)

shelf_disk : (place : Place) (size : ℕ) (a b : List ℕ) (d : Damage) → IsDamagedShelf place size a b d → d.disk ≤ 1
shelf_disk place size a b d (pair damage) = pair_disk _ a b d damage
shelf_disk place size a b d (odd items body each legal is stands) = let least = number_least stands.second in let at = stands.disk_is in omega (arith, at, least)

behind_two : (n : ℕ) → n ≤ 1 → min (n + 2) (2 ^ 16 - 1) ≡ n + 2
behind_two n le = omega (arith, le)

module _ {D : Type 0} (g : Ghosts D) (only_now : (disk : D) (image : List ℕ) → g.left_since disk (g.moment disk) image → g.may_leave disk image) (came_none : (disk : D) → g.came 0 disk disk)
    (came_more : (m n : ℕ) (old new : D) → m ≤ n → g.came m old new → g.came n old new) (came_later : (n : ℕ) (old new : D) → g.came n old new → g.faults old ≤ g.faults new)
    (place : Place) (old : SackDisks D) where
  abbrev Cause : MountFault → SackDisks D → Type 0
  Cause fault new = MatchMountFault fault (IsFault (sack_faults g old) (sack_faults g new))
      (λ d. AreTold g old (λ a b z c e. ⊤) → AreTold g old (λ a b z c e. IsDamagedSack place a b z c e d)) ⊤

  abbrev Never : MountFault → Type 0
  Never fault = MatchMountFault fault (λ f. ⊤) (λ d. AreTold g old (λ a b z c e. ⊤) → AreTold g old (HoldsNoSack place)) ⊤

  -- the incoming log wasn't mounted
  module _ (a b : D) (first : g.came 2 old.incoming_a a) (second : g.came 2 old.incoming_b b) where
    abbrev now : SackDisks D
    now = record { incoming_a = a; incoming_b = b; shelf_a = old.shelf_a; shelf_b = old.shelf_b; blocks = old.blocks }

    incoming_cause : (fault result : MountFault) (before after : ℕ) → before ≡ sack_faults g old → after ≡ sack_faults g now
        → MatchMountFault fault (IsFault (both_faults g old.incoming_a old.incoming_b) (both_faults g a b)) (λ d. TwoTold (g.told old.incoming_a) (g.told old.incoming_b) (λ x y. IsDamagedIncoming place x y d)) ⊤
        → MatchMountFault fault (λ f. result ≡ MountDisk (record { before = before; after = after })) (λ d. result ≡ MountDamaged d) (result ≡ MountMemory) → Cause result now
    incoming_cause (MountDisk f) result before after before_is after_is cause is = subst (λ r. Cause r now) (sym is) (record {
      before_is = before_is;
      after_is = after_is;
      rose = rose_among (g.faults old.incoming_a) (g.faults old.incoming_b) (g.faults a) (g.faults b) (g.faults old.shelf_a) (g.faults old.shelf_b) (g.faults old.blocks) (g.faults old.shelf_a) (g.faults old.shelf_b) (g.faults old.blocks)
          (no_less (g.faults old.shelf_a)) (no_less (g.faults old.shelf_b)) (no_less (g.faults old.blocks)) cause.rose;
    })
    incoming_cause (MountDamaged d) result before after before_is after_is cause is = subst (λ r. Cause r now) (sym is) (λ t. record {
      a = t.a;
      b = t.b;
      z = t.z;
      c = t.c;
      e = t.e;
      incoming_a = t.incoming_a;
      incoming_b = t.incoming_b;
      blocks = t.blocks;
      shelf_a = t.shelf_a;
      shelf_b = t.shelf_b;
      have = holding.incoming (two_at _ _ _ t.a t.b t.incoming_a t.incoming_b cause);
    })
    incoming_cause MountMemory result before after before_is after_is cause is = subst (λ r. Cause r now) (sym is) tt

    incoming_never : (fault result : MountFault) (before after : ℕ) → MatchMountFault fault (λ f. ⊤) (λ d. TwoTold (g.told old.incoming_a) (g.told old.incoming_b) (HoldsNoIncoming place)) ⊤
        → MatchMountFault fault (λ f. result ≡ MountDisk (record { before = before; after = after })) (λ d. result ≡ MountDamaged d) (result ≡ MountMemory) → Never result
    incoming_never (MountDisk f) result before after never is = subst Never (sym is) tt
    incoming_never (MountDamaged d) result before after never is = subst Never (sym is) (λ t. record {
      a = t.a;
      b = t.b;
      z = t.z;
      c = t.c;
      e = t.e;
      incoming_a = t.incoming_a;
      incoming_b = t.incoming_b;
      blocks = t.blocks;
      shelf_a = t.shelf_a;
      shelf_b = t.shelf_b;
      have = λ state h. two_at _ _ _ t.a t.b t.incoming_a t.incoming_b never h.posts state.next h.incoming;
    })
    incoming_never MountMemory result before after never is = subst Never (sym is) tt

    pub incoming_unmounted : (fault result : MountFault) (before after : ℕ) → before ≡ sack_faults g old → after ≡ sack_faults g (record { incoming_a = a; incoming_b = b; shelf_a = old.shelf_a; shelf_b = old.shelf_b; blocks = old.blocks })
        → AreUnwritten g (phase old.incoming_a a ∷ phase old.incoming_b b ∷ [])
        → MatchMountFault fault (IsFault (both_faults g old.incoming_a old.incoming_b) (both_faults g a b)) (λ d. TwoTold (g.told old.incoming_a) (g.told old.incoming_b) (λ x y. IsDamagedIncoming place x y d)) ⊤
        → MatchMountFault fault (λ f. ⊤) (λ d. TwoTold (g.told old.incoming_a) (g.told old.incoming_b) (HoldsNoIncoming place)) ⊤
        → MatchMountFault fault (λ f. result ≡ MountDisk (record { before = before; after = after })) (λ d. result ≡ MountDamaged d) (result ≡ MountMemory)
        → IsUnmounted g place old (record { incoming_a = a; incoming_b = b; shelf_a = old.shelf_a; shelf_b = old.shelf_b; blocks = old.blocks }) result
    incoming_unmounted fault result before after before_is after_is unwritten cause never is = record {
      unwritten = (unwritten.0, (unwritten.1.0, (still_disk g only_now old.blocks, (still_disk g only_now old.shelf_a, (still_disk g only_now old.shelf_b, tt)))));
      came = record {
        incoming_a = first;
        incoming_b = second;
        shelf_a = came_still g came_none came_more 2 old.shelf_a;
        shelf_b = came_still g came_none came_more 2 old.shelf_b;
        blocks_disk = came_still g came_none came_more 1 old.blocks;
      };
      cause = incoming_cause fault result before after before_is after_is cause is;
      never = incoming_never fault result before after never is;
    }

  -- the shelf wasn't mounted
  module _ (a b c e z : D) (first : g.came 2 old.incoming_a a) (second : g.came 2 old.incoming_b b) (third : g.came 2 old.shelf_a c) (fourth : g.came 2 old.shelf_b e) (fifth : g.came 1 old.blocks z) where
    abbrev then : SackDisks D
    then = record { incoming_a = a; incoming_b = b; shelf_a = c; shelf_b = e; blocks = z }

    abbrev AtShelf : MountFault → MountFault → ℕ → ℕ → Type 0
    AtShelf fault result before after = MatchMountFault fault (λ f. result ≡ MountDisk (record { before = before; after = after }))
        (λ d. result ≡ MountDamaged (record { disk = min (d.disk + 2) (2 ^ 16 - 1); at = d.at })) (result ≡ MountMemory)

    shelf_cause : (fault result : MountFault) (before after : ℕ) → before ≡ sack_faults g old → after ≡ sack_faults g then
        → MatchMountFault fault (IsFault (all_faults g old.shelf_a old.shelf_b old.blocks) (all_faults g c e z))
        (λ d. ThreeTold (g.told old.shelf_a) (g.told old.shelf_b) (g.told old.blocks) (λ x y w. IsDamagedShelf place (length w) x y d)) ⊤
        → AtShelf fault result before after → Cause result then
    shelf_cause (MountDisk f) result before after before_is after_is cause is = subst (λ r. Cause r then) (sym is) (record {
      before_is = before_is;
      after_is = after_is;
      rose = rose_among_three (g.faults old.incoming_a) (g.faults old.incoming_b) (g.faults a) (g.faults b) (g.faults old.shelf_a) (g.faults old.shelf_b) (g.faults old.blocks) (g.faults c) (g.faults e) (g.faults z)
          (came_later 2 _ _ first) (came_later 2 _ _ second) cause.rose;
    })
    shelf_cause (MountDamaged d) result before after before_is after_is cause is = subst (λ r. Cause r then) (sym is) (λ t.
        let damage = three_at _ _ _ _ t.c t.e t.z t.shelf_a t.shelf_b t.blocks cause in
        record {
          a = t.a;
          b = t.b;
          z = t.z;
          c = t.c;
          e = t.e;
          incoming_a = t.incoming_a;
          incoming_b = t.incoming_b;
          blocks = t.blocks;
          shelf_a = t.shelf_a;
          shelf_b = t.shelf_b;
          have = holding.shelf d damage (behind_two d.disk (shelf_disk place (length t.z) t.c t.e d damage)) refl;
        })
    shelf_cause MountMemory result before after before_is after_is cause is = subst (λ r. Cause r then) (sym is) tt

    shelf_never : (fault result : MountFault) (before after : ℕ) → MatchMountFault fault (λ f. ⊤) (λ d. ThreeTold (g.told old.shelf_a) (g.told old.shelf_b) (g.told old.blocks) (λ x y w. HasNoShelfLog place (length w) x y)) ⊤
        → AtShelf fault result before after → Never result
    shelf_never (MountDisk f) result before after never is = subst Never (sym is) tt
    shelf_never (MountDamaged d) result before after never is = subst Never (sym is) (λ t. record {
      a = t.a;
      b = t.b;
      z = t.z;
      c = t.c;
      e = t.e;
      incoming_a = t.incoming_a;
      incoming_b = t.incoming_b;
      blocks = t.blocks;
      shelf_a = t.shelf_a;
      shelf_b = t.shelf_b;
      have = λ state h. three_at _ _ _ _ t.c t.e t.z t.shelf_a t.shelf_b t.blocks never h.shelf.epoch h.shelf.items h.shelf.log;
    })
    shelf_never MountMemory result before after never is = subst Never (sym is) tt

    pub shelf_unmounted : (fault result : MountFault) (before after : ℕ) → before ≡ sack_faults g old → after ≡ sack_faults g (record { incoming_a = a; incoming_b = b; shelf_a = c; shelf_b = e; blocks = z })
        → AreUnwritten g (phase old.incoming_a a ∷ phase old.incoming_b b ∷ []) → AreUnwritten g (phase old.blocks z ∷ phase old.shelf_a c ∷ phase old.shelf_b e ∷ [])
        → MatchMountFault fault (IsFault (all_faults g old.shelf_a old.shelf_b old.blocks) (all_faults g c e z))
        (λ d. ThreeTold (g.told old.shelf_a) (g.told old.shelf_b) (g.told old.blocks) (λ x y w. IsDamagedShelf place (length w) x y d)) ⊤
        → MatchMountFault fault (λ f. ⊤) (λ d. ThreeTold (g.told old.shelf_a) (g.told old.shelf_b) (g.told old.blocks) (λ x y w. HasNoShelfLog place (length w) x y)) ⊤
        → MatchMountFault fault (λ f. result ≡ MountDisk (record { before = before; after = after })) (λ d. result ≡ MountDamaged (record { disk = min (d.disk + 2) (2 ^ 16 - 1); at = d.at })) (result ≡ MountMemory)
        → IsUnmounted g place old (record { incoming_a = a; incoming_b = b; shelf_a = c; shelf_b = e; blocks = z }) result
    shelf_unmounted fault result before after before_is after_is unwritten unwritten_too cause never is = record {
      unwritten = (unwritten.0, (unwritten.1.0, unwritten_too));
      came = record { incoming_a = first; incoming_b = second; shelf_a = third; shelf_b = fourth; blocks_disk = fifth };
      cause = shelf_cause fault result before after before_is after_is cause is;
      never = shelf_never fault result before after never is;
    }

-- ---- making

none_posted : (o : Option (List Post)) → is_some o ≡ true → IfSome o (λ posts. posts ≡ []) → o ≡ Some []
none_posted None some posts = absurd (false≢true some)
none_posted (Some posts) some is = ap (λ l. Some l) is

both_true : (a b : Bool) → a ≡ true → b ≡ true → (a && b) ≡ true
both_true true true first second = refl
both_true true false first second = absurd (false≢true second)
both_true false b first second = absurd (false≢true first)

module _ {D : Type 0} (g : Ghosts D) (only_now : (disk : D) (image : List ℕ) → g.left_since disk (g.moment disk) image → g.may_leave disk image) (came_none : (disk : D) → g.came 0 disk disk)
    (came_more : (m n : ℕ) (old new : D) → m ≤ n → g.came m old new → g.came n old new) (came_later : (n : ℕ) (old new : D) → g.came n old new → g.faults old ≤ g.faults new)
    (place : Place) (old : SackDisks D) where
  five_nine : (a b : D) → g.came 5 a b → g.came 9 a b
  five_nine a b came = let le : 5 ≤ 9 = omega arith in came_more 5 9 a b le came

  -- the empty state
  pub has_none : (b : Books D) → is_some b.incoming.posts ≡ (is_some (g.told old.incoming_a) && is_some (g.told old.incoming_b)) → IfSome b.incoming.posts (λ posts. posts ≡ []) → b.incoming.marks ≡ [] → b.incoming.next ≡ 1
      → (is_some (g.told old.shelf_a) ≡ true → is_some (g.told old.shelf_b) ≡ true → is_some (g.told old.blocks) ≡ true → Keeps g b.shelf []) → TellAll g old → HasDurable g b (durable [])
  has_none b told posts marks next keeps tell = record {
    posts = [];
    told = none_posted b.incoming.posts (told ∙ both_true _ _ tell.incoming_a tell.incoming_b) posts;
    marks = marks;
    next = next;
    keeps = keeps tell.shelf_a tell.shelf_b tell.blocks;
    pending = refl;
  }

  pub made_came : (new : SackDisks D) → g.came 9 old.incoming_a new.incoming_a → g.came 5 old.incoming_b new.incoming_b → g.came 9 old.shelf_a new.shelf_a → g.came 5 old.shelf_b new.shelf_b → g.came 1 old.blocks new.blocks → CameWithin g 9 9 1 old new
  made_came new first second third fourth fifth = record { incoming_a = first; incoming_b = five_nine _ _ second; shelf_a = third; shelf_b = five_nine _ _ fourth; blocks_disk = fifth }

  -- the incoming log wasn't made
  pub incoming_unmade : (a b : D) → g.came 9 old.incoming_a a → g.came 5 old.incoming_b b → IsMaking g (incoming_place place) [] old.incoming_a old.incoming_b a b → (fault result : LogFault) (before after : ℕ) → before ≡ sack_faults g old
      → after ≡ sack_faults g (record { incoming_a = a; incoming_b = b; shelf_a = old.shelf_a; shelf_b = old.shelf_b; blocks = old.blocks }) → (Q : Type 0) → MatchFault fault (IsFault (both_faults g old.incoming_a old.incoming_b) (both_faults g a b)) Q
      → MatchFault fault (λ f. result ≡ LogDisk (record { before = before; after = after })) (result ≡ LogMemory) → IsUnmade g place old (record { incoming_a = a; incoming_b = b; shelf_a = old.shelf_a; shelf_b = old.shelf_b; blocks = old.blocks }) result
  incoming_unmade a b first second making_log fault result before after before_is after_is Q cause is = record {
    making = record {
      incoming = making_log;
      shelf = making g place old.shelf_a old.shelf_b old.blocks old.shelf_a old.shelf_b old.blocks (no_less (g.moment old.blocks)) (untouched g only_now (shelf_place place) old.shelf_a old.shelf_b);
    };
    came = made_came (record { incoming_a = a; incoming_b = b; shelf_a = old.shelf_a; shelf_b = old.shelf_b; blocks = old.blocks }) first second
        (came_still g came_none came_more 9 old.shelf_a) (came_still g came_none came_more 5 old.shelf_b) (came_still g came_none came_more 1 old.blocks);
    cause = by fault cause is;
  }
    where
      by : (x : LogFault) → MatchFault x (IsFault (both_faults g old.incoming_a old.incoming_b) (both_faults g a b)) Q → MatchFault x (λ f. result ≡ LogDisk (record { before = before; after = after })) (result ≡ LogMemory)
          → MatchFault result (IsFault (sack_faults g old) (sack_faults g (record { incoming_a = a; incoming_b = b; shelf_a = old.shelf_a; shelf_b = old.shelf_b; blocks = old.blocks }))) ⊤
      by (LogDisk f) cause is = subst (λ r. MatchFault r (IsFault (sack_faults g old) (sack_faults g (record { incoming_a = a; incoming_b = b; shelf_a = old.shelf_a; shelf_b = old.shelf_b; blocks = old.blocks }))) ⊤) (sym is) (record {
        before_is = before_is;
        after_is = after_is;
        rose = rose_among (g.faults old.incoming_a) (g.faults old.incoming_b) (g.faults a) (g.faults b) (g.faults old.shelf_a) (g.faults old.shelf_b) (g.faults old.blocks) (g.faults old.shelf_a) (g.faults old.shelf_b) (g.faults old.blocks)
            (no_less (g.faults old.shelf_a)) (no_less (g.faults old.shelf_b)) (no_less (g.faults old.blocks)) cause.rose;
      })
      by LogMemory cause is = subst (λ r. MatchFault r (IsFault (sack_faults g old) (sack_faults g (record { incoming_a = a; incoming_b = b; shelf_a = old.shelf_a; shelf_b = old.shelf_b; blocks = old.blocks }))) ⊤) (sym is) tt

  -- the shelf wasn't made
  pub shelf_unmade : (new : SackDisks D) → CameWithin g 9 9 1 old new → AreMaking g place old new → (fault result : LogFault) (before after : ℕ) → before ≡ sack_faults g old → after ≡ sack_faults g new
      → (Q : Type 0) → MatchFault fault (IsFault (all_faults g old.shelf_a old.shelf_b old.blocks) (all_faults g new.shelf_a new.shelf_b new.blocks)) Q
      → MatchFault fault (λ f. result ≡ LogDisk (record { before = before; after = after })) (result ≡ LogMemory) → IsUnmade g place old new result
  shelf_unmade new came are_making fault result before after before_is after_is Q cause is = record { making = are_making; came = came; cause = by fault cause is }
    where
      by : (x : LogFault) → MatchFault x (IsFault (all_faults g old.shelf_a old.shelf_b old.blocks) (all_faults g new.shelf_a new.shelf_b new.blocks)) Q → MatchFault x (λ f. result ≡ LogDisk (record { before = before; after = after })) (result ≡ LogMemory)
          → MatchFault result (IsFault (sack_faults g old) (sack_faults g new)) ⊤
      by (LogDisk f) cause is = subst (λ r. MatchFault r (IsFault (sack_faults g old) (sack_faults g new)) ⊤) (sym is) (record {
        before_is = before_is;
        after_is = after_is;
        rose = rose_among_three (g.faults old.incoming_a) (g.faults old.incoming_b) (g.faults new.incoming_a) (g.faults new.incoming_b) (g.faults old.shelf_a) (g.faults old.shelf_b) (g.faults old.blocks) (g.faults new.shelf_a) (g.faults new.shelf_b) (g.faults new.blocks)
            (came_later 9 _ _ came.incoming_a) (came_later 9 _ _ came.incoming_b) cause.rose;
      })
      by LogMemory cause is = subst (λ r. MatchFault r (IsFault (sack_faults g old) (sack_faults g new)) ⊤) (sym is) tt

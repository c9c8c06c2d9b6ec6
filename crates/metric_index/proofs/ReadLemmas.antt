-- Calls that only read.
use Rattle.std.proofs.Common.{◌≡◌, ℕ, ◌+◌, ◌≤◌, List, inl, inr, refl, sym, subst, ◌∙◌, arith}
use Rattle.std.specs.Option.{IfSome}
use Rattle.gno_num.specs.Faults.{Rose-from}
use Rattle.gno_num.specs.declared.faults.Damaged.{Damaged as Damage}
use Rattle.gno_disk.specs.Disk.{TimeGoesOn}
use Rattle.gno_disk.specs.Phases.{IsUnwritten, phase}
use Rattle.gno_disk.specs.declared.disk.Disk.{Ghosts}
use Rattle.gate_log.specs.LogView.{IsFault, MatchMountFault}
use Rattle.gate_log.specs.declared.fault.MountFault.{MountFault}
use Rattle.gate_log.specs.declared.fault.MountFault.TheVariants.{DiskFault as MountDisk, Damaged as MountDamaged, Memory as MountMemory}
use Rattle.log_pair.specs.Pair.{HoldsPair}
use Rattle.log_pair.specs.PairView.{AreOfPair, IsLastingPair, PairView, both_faults}
use Rattle.metric_index.specs.Reading.{IsOnlyRead}

module _ {D : Type 0} (g : Ghosts D) where
  -- two calls that write nothing, one after the other
  pub unwritten_then : (old mid new : D) → g.moment old ≤ g.moment mid → TimeGoesOn (g.moment mid) (g.moment new) (g.left_since mid) (g.left_since new) → IsUnwritten g (phase old mid) → IsUnwritten g (phase mid new) → IsUnwritten g (phase old new)
  unwritten_then old mid new le goes first second = record {
    within = λ image left. elim (goes.splits (g.moment old) image le left) [ inl past ↦ first.within image past | inr since ↦ first.no_more image (second.within image since) ];
    no_more = λ image left. first.no_more image (second.no_more image left);
  }

  -- what is held, by a pair that has the same records
  pub same_pair : (old new : PairView D) (a b : List ℕ) → new.records ≡ old.records → new.place ≡ old.place → new.epoch ≡ old.epoch → AreOfPair old a b → AreOfPair new a b
  same_pair old new a b records place epoch held =
      subst (λ rs. IfSome rs (λ r. HoldsPair new.place new.epoch r a b)) (sym records)
      (subst (λ p. IfSome old.records (λ r. HoldsPair p new.epoch r a b)) (sym place)
      (subst (λ n. IfSome old.records (λ r. HoldsPair old.place n r a b)) (sym epoch) held))

  pub lasting_read : (old new : PairView D) → IsOnlyRead g old new → IsLastingPair g old → IsLastingPair g new
  lasting_read old new read lasting a b left left_too =
      same_pair old new a b read.records read.place read.epoch (lasting a b (read.unwritten.0.no_more a left) (read.unwritten.1.0.no_more b left_too))

  -- no call at all
  pub read_none : (came_none : (disk : D) → g.came 0 disk disk) (only_now : (disk : D) (image : List ℕ) → g.left_since disk (g.moment disk) image → g.may_leave disk image) (pair : PairView D) → IsOnlyRead g pair pair
  read_none came_none only_now pair = record {
    records = refl;
    count = refl;
    place = refl;
    epoch = refl;
    on_second = refl;
    told_first = refl;
    told_second = refl;
    unwritten = (record { within = only_now pair.first; no_more = λ image left. left }, (record { within = only_now pair.second; no_more = λ image left. left }, tt));
    came_first = came_none pair.first;
    came_second = came_none pair.second;
  }

  -- one call after the other
  pub read_then : (came_then : (m n : ℕ) (old mid new : D) → g.came m old mid → g.came n mid new → g.came (m + n) old new)
      (goes_on : (n : ℕ) (old new : D) → g.came n old new → TimeGoesOn (g.moment old) (g.moment new) (g.left_since old) (g.left_since new))
      (old mid new : PairView D) → IsOnlyRead g old mid → IsOnlyRead g mid new → IsOnlyRead g old new
  read_then came_then goes_on old mid new first second = record {
    records = second.records ∙ first.records;
    count = second.count ∙ first.count;
    place = second.place ∙ first.place;
    epoch = second.epoch ∙ first.epoch;
    on_second = second.on_second ∙ first.on_second;
    told_first = second.told_first ∙ first.told_first;
    told_second = second.told_second ∙ first.told_second;
    unwritten = (
      unwritten_then old.first mid.first new.first (goes_on 0 _ _ first.came_first).later (goes_on 0 _ _ second.came_first) first.unwritten.0 second.unwritten.0,
      (unwritten_then old.second mid.second new.second (goes_on 0 _ _ first.came_second).later (goes_on 0 _ _ second.came_second) first.unwritten.1.0 second.unwritten.1.0, tt),
    );
    came_first = came_then 0 0 _ _ _ first.came_first second.came_first;
    came_second = came_then 0 0 _ _ _ first.came_second second.came_second;
  }

  -- the count of faults doesn't fall
  pub later : (came_later : (n : ℕ) (old new : D) → g.came n old new → g.faults old ≤ g.faults new) (old new : PairView D) → IsOnlyRead g old new → both_faults g old.first old.second ≤ both_faults g new.first new.second
  later came_later old new read = omega (arith, came_later 0 _ _ read.came_first, came_later 0 _ _ read.came_second)

-- a fault told with the count at which an earlier call began
pub since_fault : (e r : MountFault) (before mid after : ℕ) (Q Q' : Damage → Type 0) (R R' : Type 0) → before ≤ mid → ((d : Damage) → Q d → Q' d) → (R → R')
    → MatchMountFault e (IsFault mid after) Q R
    → MatchMountFault e (λ f. r ≡ MountDisk (record { before = before; after = f.after })) (λ d. r ≡ MountDamaged d) (r ≡ MountMemory)
    → MatchMountFault r (IsFault before after) Q' R'
since_fault (MountDisk f) r before mid after Q Q' R R' le damage memory fault is =
    subst (λ x. MatchMountFault x (IsFault before after) Q' R') (sym is)
    (record { before_is = refl; after_is = fault.after_is; rose = Rose-from before le fault.rose })
since_fault (MountDamaged d) r before mid after Q Q' R R' le damage memory fault is =
    subst (λ x. MatchMountFault x (IsFault before after) Q' R') (sym is) (damage d fault)
since_fault MountMemory r before mid after Q Q' R R' le damage memory fault is =
    subst (λ x. MatchMountFault x (IsFault before after) Q' R') (sym is) (memory fault)

-- Calls that only read.
use Rattle.std.proofs.Common.{◌≡◌, ℕ, ◌+◌, ◌≤◌, [], ◌∷◌, ◌++◌, List, Option, None, Some, take, inl, inr, refl, sym, ap, subst, ◌∙◌, arith}
use Rattle.std.specs.List.{slice_get}
use Rattle.std.specs.Option.{IfSome}
use Rattle.std.proofs.lemmas.List.{take_more}
use Rattle.std.proofs.lemmas.Option.{get_or_from_slice_get, slice_get_within}
use Rattle.gno_num.specs.Faults.{Rose-from}
use Rattle.gno_num.specs.declared.faults.Damaged.{Damaged as Damage}
use Rattle.gno_disk.specs.Disk.{TimeGoesOn}
use Rattle.gno_disk.specs.Phases.{IsUnwritten, phase}
use Rattle.gno_disk.specs.declared.disk.Disk.{Ghosts}
use Rattle.gate_log.specs.LogView.{IsFault, MatchMountFault}
use Rattle.gate_log.specs.declared.fault.MountFault.{MountFault}
use Rattle.gate_log.specs.declared.fault.MountFault.TheVariants.{DiskFault as MountDisk, Damaged as MountDamaged, Memory as MountMemory}
use Rattle.std.proofs.lemmas.Option.{IfSome_then}
use Rattle.log_pair.specs.Pair.{HoldsPair, disk_number, place_behind}
use Rattle.log_pair.specs.PairView.{AreOfPair, IsLastingPair, PairView, both_faults}
use Rattle.pair_reading.specs.Reading.{IsOddOf, IsOnlyRead}

module _ {D : Type 0} (g : Ghosts D) where
  -- two calls that write nothing, one after the other
  pub unwritten_then : (old mid new : D) → g.moment old ≤ g.moment mid → TimeGoesOn (g.moment mid) (g.moment new) (g.left_since mid) (g.left_since new) → IsUnwritten g (phase old mid) → IsUnwritten g (phase mid new) → IsUnwritten g (phase old new)
  unwritten_then old mid new le goes first second = record {
    within = λ image left. elim (goes.splits (g.moment old) image le left) [ inl past ↦ first.within image past | inr since ↦ first.no_more image (second.within image since) ];
    no_more = λ image left. first.no_more image (second.no_more image left);
  }

  -- what is held, by a pair that has the same records
  pub same_pair : (old new : PairView D) (a b : List ℕ) → new.records ≡ old.records → new.place ≡ old.place → new.epoch ≡ old.epoch → AreOfPair old a b → AreOfPair new a b
  same_pair old new a b records place epoch held =
      subst (λ rs. IfSome rs (λ r. HoldsPair new.place new.epoch r a b)) (sym records)
      (subst (λ p. IfSome old.records (λ r. HoldsPair p new.epoch r a b)) (sym place)
      (subst (λ n. IfSome old.records (λ r. HoldsPair old.place n r a b)) (sym epoch) held))

  pub lasting_read : (old new : PairView D) → IsOnlyRead g old new → IsLastingPair g old → IsLastingPair g new
  lasting_read old new read lasting a b left left_too =
      same_pair old new a b read.records read.place read.epoch (lasting a b (read.unwritten.0.no_more a left) (read.unwritten.1.0.no_more b left_too))

  -- no call at all
  pub read_none : (came_none : (disk : D) → g.came 0 disk disk) (only_now : (disk : D) (image : List ℕ) → g.left_since disk (g.moment disk) image → g.may_leave disk image) (pair : PairView D) → IsOnlyRead g pair pair
  read_none came_none only_now pair = record {
    records = refl;
    count = refl;
    place = refl;
    epoch = refl;
    on_second = refl;
    told_first = refl;
    told_second = refl;
    unwritten = (record { within = only_now pair.first; no_more = λ image left. left }, (record { within = only_now pair.second; no_more = λ image left. left }, tt));
    came_first = came_none pair.first;
    came_second = came_none pair.second;
  }

  -- one call after the other
  pub read_then : (came_then : (m n : ℕ) (old mid new : D) → g.came m old mid → g.came n mid new → g.came (m + n) old new)
      (goes_on : (n : ℕ) (old new : D) → g.came n old new → TimeGoesOn (g.moment old) (g.moment new) (g.left_since old) (g.left_since new))
      (old mid new : PairView D) → IsOnlyRead g old mid → IsOnlyRead g mid new → IsOnlyRead g old new
  read_then came_then goes_on old mid new first second = record {
    records = second.records ∙ first.records;
    count = second.count ∙ first.count;
    place = second.place ∙ first.place;
    epoch = second.epoch ∙ first.epoch;
    on_second = second.on_second ∙ first.on_second;
    told_first = second.told_first ∙ first.told_first;
    told_second = second.told_second ∙ first.told_second;
    unwritten = (
      unwritten_then old.first mid.first new.first (goes_on 0 _ _ first.came_first).later (goes_on 0 _ _ second.came_first) first.unwritten.0 second.unwritten.0,
      (unwritten_then old.second mid.second new.second (goes_on 0 _ _ first.came_second).later (goes_on 0 _ _ second.came_second) first.unwritten.1.0 second.unwritten.1.0, tt),
    );
    came_first = came_then 0 0 _ _ _ first.came_first second.came_first;
    came_second = came_then 0 0 _ _ _ first.came_second second.came_second;
  }

  -- the count of faults doesn't fall
  pub later : (came_later : (n : ℕ) (old new : D) → g.came n old new → g.faults old ≤ g.faults new) (old new : PairView D) → IsOnlyRead g old new → both_faults g old.first old.second ≤ both_faults g new.first new.second
  later came_later old new read = omega (arith, came_later 0 _ _ read.came_first, came_later 0 _ _ read.came_second)

-- a fault told with the count at which an earlier call began
pub since_fault : (e r : MountFault) (before mid after : ℕ) (B : Type 0) (Q Q' : Damage → Type 0) (R R' : Type 0) → before ≤ mid → ((d : Damage) → Q d → Q' d) → (R → R')
    → MatchMountFault e (λ f. IsFault mid after f × B) Q R
    → MatchMountFault e (λ f. r ≡ MountDisk (record { before = before; after = f.after })) (λ d. r ≡ MountDamaged d) (r ≡ MountMemory)
    → MatchMountFault r (λ f. IsFault before after f × B) Q' R'
since_fault (MountDisk f) r before mid after B Q Q' R R' le damage memory fault is =
    subst (λ x. MatchMountFault x (λ f. IsFault before after f × B) Q' R') (sym is)
    (record { before_is = refl; after_is = fault.0.after_is; rose = Rose-from before le fault.0.rose }, fault.1)
since_fault (MountDamaged d) r before mid after B Q Q' R R' le damage memory fault is =
    subst (λ x. MatchMountFault x (λ f. IsFault before after f × B) Q' R') (sym is) (damage d fault)
since_fault MountMemory r before mid after B Q Q' R R' le damage memory fault is =
    subst (λ x. MatchMountFault x (λ f. IsFault before after f × B) Q' R') (sym is) (memory fault)

-- an odd record of the pair as it was before it was read
pub odd_moved : (Odd : List (List ℕ) → List ℕ → Type 0) {D : Type 0} (old mid : PairView D) (d : Damage) → mid.records ≡ old.records → mid.place ≡ old.place → mid.epoch ≡ old.epoch → mid.on_second ≡ old.on_second
    → IfSome mid.records (λ rs. IsOddOf Odd mid rs d) → IfSome old.records (λ rs. IsOddOf Odd old rs d)
odd_moved Odd {D} old mid d records place epoch on_second odd =
    IfSome_then old.records (subst (λ o. IfSome o (λ rs. IsOddOf Odd mid rs d)) records odd) (λ rs o. record {
      index = o.index;
      body = o.body;
      stands = o.stands;
      odd = o.odd;
      disk_is = o.disk_is ∙ ap disk_number on_second;
      at_is = o.at_is ∙ ap (λ p. place_behind p mid.epoch (take o.index rs)) place ∙ ap (λ n. place_behind old.place n (take o.index rs)) epoch;
    })

-- a record more
pub one_more : (records : List (List ℕ)) (index : ℕ) (body : List ℕ) → slice_get records index ≡ Some body → take (index + 1) records ≡ take index records ++ body ∷ []
one_more records index body stands =
    take_more records index [] (slice_get_within records index body stands)
    ∙ ap (λ (b : List ℕ). take index records ++ b ∷ []) (get_or_from_slice_get records index body [] stands)

-- an odd record where it was read
pub odd_at : (Odd : List (List ℕ) → List ℕ → Type 0) {D : Type 0} (g : Ghosts D) (old new : PairView D) (index : ℕ) (body : List ℕ) (d : Damage) → IsOnlyRead g old new
    → IfSome old.records (λ rs. slice_get rs index ≡ Some body) → IfSome old.records (λ rs. Odd (take index rs) body)
    → d.disk ≡ disk_number new.on_second → IfSome new.records (λ rs. d.at ≡ place_behind new.place new.epoch (take index rs)) → IfSome old.records (λ rs. IsOddOf Odd old rs d)
odd_at Odd {D} g old new index body d to stands odd disk at =
    by old.records stands odd (subst (λ o. IfSome o (λ rs. d.at ≡ place_behind new.place new.epoch (take index rs))) to.records at)
  where
    by : (o : Option (List (List ℕ))) → IfSome o (λ rs. slice_get rs index ≡ Some body) → IfSome o (λ rs. Odd (take index rs) body) → IfSome o (λ rs. d.at ≡ place_behind new.place new.epoch (take index rs)) → IfSome o (λ rs. IsOddOf Odd old rs d)
    by None stands odd at = tt
    by (Some rs) stands odd at = record {
      index = index;
      body = body;
      stands = stands;
      odd = odd;
      disk_is = disk ∙ ap disk_number to.on_second;
      at_is = at ∙ ap (λ p. place_behind p new.epoch (take index rs)) to.place ∙ ap (λ n. place_behind old.place n (take index rs)) to.epoch;
    }

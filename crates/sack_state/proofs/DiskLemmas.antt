-- The disks of a sack: how they came from others, and their faults.
use Rattle.std.proofs.Common.{◌≡◌, ℕ, ◌+◌, ◌-◌, ◌≤◌, ◌^◌, min, List, Option, sym, subst, ◌∙◌, arith}
use Rattle.std.specs.Option.{IsSome, is_some}
use Rattle.gno_disk.specs.declared.disk.Disk.{Ghosts}
use Rattle.sack_state.specs.declared.disks.SackDisks.{SackDisks}
use Rattle.sack_state.specs.Disks.{CameWithin, OnIncoming, TellAll, sack_faults}

pub no_less : (x : ℕ) → x ≤ x
no_less x = omega arith

pub capped_least : (n : ℕ) → min n (2 ^ 64 - 1) ≤ 2 ^ 64 - 1
capped_least n = omega arith

sum_later : (a b c d e p q r s t : ℕ) → a ≤ p → b ≤ q → c ≤ r → d ≤ s → e ≤ t → min (a + b + c + d + e) (2 ^ 64 - 1) ≤ min (p + q + r + s + t) (2 ^ 64 - 1)
sum_later a b c d e p q r s t first second third fourth fifth = omega (arith, first, second, third, fourth, fifth)

some_told : (o p : Option (List ℕ)) → is_some p ≡ is_some o → IsSome o → IsSome p
some_told o p e some = e ∙ some

module _ {D : Type 0} (g : Ghosts D) where
  module _ (came_later : (n : ℕ) (old new : D) → g.came n old new → g.faults old ≤ g.faults new) where
    pub faults_later : (i s z : ℕ) (old new : SackDisks D) → CameWithin g i s z old new → sack_faults g old ≤ sack_faults g new
    faults_later i s z old new came =
        sum_later _ _ _ _ _ _ _ _ _ _ (came_later i _ _ came.incoming_a) (came_later i _ _ came.incoming_b) (came_later s _ _ came.shelf_a) (came_later s _ _ came.shelf_b) (came_later z _ _ came.blocks_disk)

  module _ (tells : (n : ℕ) (old new : D) → g.came n old new → is_some (g.told new) ≡ is_some (g.told old)) where
    pub tell_later : (i s z : ℕ) (old new : SackDisks D) → CameWithin g i s z old new → TellAll g old → TellAll g new
    tell_later i s z old new came tell = record {
      incoming_a = some_told _ _ (tells i _ _ came.incoming_a) tell.incoming_a;
      incoming_b = some_told _ _ (tells i _ _ came.incoming_b) tell.incoming_b;
      blocks = some_told _ _ (tells z _ _ came.blocks_disk) tell.blocks;
      shelf_a = some_told _ _ (tells s _ _ came.shelf_a) tell.shelf_a;
      shelf_b = some_told _ _ (tells s _ _ came.shelf_b) tell.shelf_b;
    }

  module _ (came_none : (disk : D) → g.came 0 disk disk) (came_more : (m n : ℕ) (old new : D) → m ≤ n → g.came m old new → g.came n old new) where
    pub came_still : (n : ℕ) (disk : D) → g.came n disk disk
    came_still n disk = let le : 0 ≤ n = omega arith in came_more 0 n disk disk le (came_none disk)

    pub came_same : (n : ℕ) (old new : D) → new ≡ old → g.came n old new
    came_same n old new is = subst (λ d. g.came n old d) (sym is) (came_still n old)

    pub on_incoming : (n s z : ℕ) (old new : SackDisks D) → OnIncoming g n old new → CameWithin g n s z old new
    on_incoming n s z old new on = record {
      incoming_a = on.incoming_a;
      incoming_b = on.incoming_b;
      shelf_a = came_same s _ _ on.shelf_a;
      shelf_b = came_same s _ _ on.shelf_b;
      blocks_disk = came_same z _ _ on.blocks;
    }

  -- one call behind another
  module _ (came_then : (m n : ℕ) (old mid new : D) → g.came m old mid → g.came n mid new → g.came (m + n) old new) where
    pub within_then : (i s z j t w : ℕ) (old mid new : SackDisks D) → CameWithin g i s z old mid → CameWithin g j t w mid new → CameWithin g (i + j) (s + t) (z + w) old new
    within_then i s z j t w old mid new first second = record {
      incoming_a = came_then i j _ _ _ first.incoming_a second.incoming_a;
      incoming_b = came_then i j _ _ _ first.incoming_b second.incoming_b;
      shelf_a = came_then s t _ _ _ first.shelf_a second.shelf_a;
      shelf_b = came_then s t _ _ _ first.shelf_b second.shelf_b;
      blocks_disk = came_then z w _ _ _ first.blocks_disk second.blocks_disk;
    }

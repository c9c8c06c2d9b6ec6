-- Why a store wasn't made or mounted: the counts of all its disks rose, or damage stands there.
use Rattle.std.proofs.Common.{◌≡◌, ℕ, ◌+◌, ◌≤◌, List, [], ◌∷◌, ◌++◌, Option, Some, None, ap, ◌∙◌, arith}
use Rattle.std.specs.List.{flat_map}
use Rattle.std.proofs.lemmas.Grind.{flat_map-append}
use Rattle.gno_disk.specs.declared.disk.Disk.{Ghosts}
use Rattle.gno_num.specs.Faults.{Rose}
use Rattle.gate_log.specs.LogView.{IsFault, MatchFault}
use Rattle.gate_log.specs.declared.fault.LogFault.{LogFault}
use Rattle.gate_log.specs.declared.fault.LogFault.TheVariants as log_fault
use Rattle.log_pair.specs.Choice.{TwoTold}
use Rattle.log_pair.specs.PairView.{both_faults}
use Rattle.front_api.specs.Seen.{capped}
use Rattle.metric_index.specs.IndexView.{sum_of_faults}
use Rattle.sack_state.specs.declared.disks.SackDisks.{SackDisks}
use Rattle.sack_state.specs.Disks.{sack_faults}
use Rattle.front.specs.Creating.{SacksCame}
use Rattle.front.specs.Plan.{five}

module _ {D : Type 0} (g : Ghosts D) (later : (n : ℕ) (old new : D) → g.came n old new → g.faults old ≤ g.faults new) where
  sum_append : (xs ys : List D) → sum_of_faults g (xs ++ ys) ≡ sum_of_faults g xs + sum_of_faults g ys
  sum_append [] ys = omega arith
  sum_append (x ∷ xs) ys =
      let e = sum_append xs ys in
      let e : g.faults x + sum_of_faults g (xs ++ ys) ≡ (g.faults x + sum_of_faults g xs) + sum_of_faults g ys = omega (arith, e) in
      e

  -- the counts of the sacks' disks don't fall
  pub sacks_later : (incoming shelf blocks : ℕ) (olds news : List (SackDisks D)) → SacksCame g incoming shelf blocks olds news → sum_of_faults g (flat_map five olds) ≤ sum_of_faults g (flat_map five news)
  sacks_later incoming shelf blocks [] [] came = omega arith
  sacks_later incoming shelf blocks [] (new ∷ news) came = absurd came
  sacks_later incoming shelf blocks (old ∷ olds) [] came = absurd came
  sacks_later incoming shelf blocks (old ∷ olds) (new ∷ news) came =
      let rest = sacks_later incoming shelf blocks olds news came.1 in
      let h1 = later incoming old.incoming_a new.incoming_a came.0.incoming_a in
      let h2 = later incoming old.incoming_b new.incoming_b came.0.incoming_b in
      let h3 = later shelf old.shelf_a new.shelf_a came.0.shelf_a in
      let h4 = later shelf old.shelf_b new.shelf_b came.0.shelf_b in
      let h5 = later blocks old.blocks new.blocks came.0.blocks_disk in
      let e : g.faults old.incoming_a + (g.faults old.incoming_b + (g.faults old.shelf_a + (g.faults old.shelf_b + (g.faults old.blocks + sum_of_faults g (flat_map five olds)))))
      ≤ g.faults new.incoming_a + (g.faults new.incoming_b + (g.faults new.shelf_a + (g.faults new.shelf_b + (g.faults new.blocks + sum_of_faults g (flat_map five news))))) = omega (arith, rest, h1, h2, h3, h4, h5) in
      e

  -- those of the index rose, and those of the sacks didn't fall
  pub rose_at_index : (a b x y : D) (olds news : List D) → sum_of_faults g olds ≤ sum_of_faults g news → Rose (both_faults g a b) (both_faults g x y)
      → Rose (capped (sum_of_faults g (a ∷ b ∷ olds))) (capped (sum_of_faults g (x ∷ y ∷ news)))
  rose_at_index a b x y olds news le rose = let h = rose.rose in record { rose = omega (arith, h, le) }

  -- those of one sack rose
  pub rose_at_sack : (a b x y : D) (front now rest : List (SackDisks D)) (one new : SackDisks D) → g.faults a ≤ g.faults x → g.faults b ≤ g.faults y
      → sum_of_faults g (flat_map five front) ≤ sum_of_faults g (flat_map five now) → Rose (sack_faults g one) (sack_faults g new)
      → Rose (capped (sum_of_faults g (a ∷ b ∷ flat_map five (front ++ one ∷ rest)))) (capped (sum_of_faults g (x ∷ y ∷ flat_map five (now ++ new ∷ rest))))
  rose_at_sack a b x y front now rest one new le_a le_b le rose =
      let h = rose.rose in
      let before = ap (λ l. sum_of_faults g l) (flat_map-append five front (one ∷ rest)) ∙ sum_append (flat_map five front) (five one ++ flat_map five rest) in
      let after = ap (λ l. sum_of_faults g l) (flat_map-append five now (new ∷ rest)) ∙ sum_append (flat_map five now) (five new ++ flat_map five rest) in
      let before : sum_of_faults g (flat_map five (front ++ one ∷ rest)) ≡ sum_of_faults g (flat_map five front)
      + (g.faults one.incoming_a + (g.faults one.incoming_b + (g.faults one.shelf_a + (g.faults one.shelf_b + (g.faults one.blocks + sum_of_faults g (flat_map five rest)))))) = before in
      let after : sum_of_faults g (flat_map five (now ++ new ∷ rest)) ≡ sum_of_faults g (flat_map five now)
      + (g.faults new.incoming_a + (g.faults new.incoming_b + (g.faults new.shelf_a + (g.faults new.shelf_b + (g.faults new.blocks + sum_of_faults g (flat_map five rest)))))) = after in
      record { rose = omega (arith, h, le_a, le_b, le, before, after) }

-- a fault of a book, as it rose there, and as it rose in the store
pub rises : (fault : LogFault) (x y low high : ℕ) → (Rose x y → Rose low high) → MatchFault fault (IsFault x y) (Unit {0}) → MatchFault fault (λ f. Rose low high) (Unit {0})
rises (log_fault.DiskFault f) x y low high by is = by is.rose
rises log_fault.Memory x y low high by is = tt

pub both_told : (a b : Option (List ℕ)) (P Q R : List ℕ → List ℕ → Type 0) → ((x y : List ℕ) → P x y → Q x y → R x y) → TwoTold a b P → TwoTold a b Q → TwoTold a b R
both_told None b P Q R by p q = tt
both_told (Some x) None P Q R by p q = tt
both_told (Some x) (Some y) P Q R by p q = by x y p q

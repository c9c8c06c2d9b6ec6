-- How often disks have failed together.
use Rattle.std.proofs.Common.{◌≡◌, ℕ, ◌+◌, ◌<◌, List, [], ◌∷◌, length, get_or, take, ap, ◌∙◌, add-one, arith, zero, suc}
use Rattle.gno_disk.specs.declared.disk.Disk.{Ghosts}
use Rattle.metric_index.specs.IndexView.{sum_of_faults}

module _ {D : Type 0} (g : Ghosts D) where
  sum_suc : (xs : List D) (i : ℕ) (d : D) → i < length xs → d ≡ get_or xs i d → sum_of_faults g (take (suc i) xs) ≡ sum_of_faults g (take i xs) + g.faults d
  sum_suc [] i d within is = absurd (omega (arith, within))
  sum_suc (x ∷ xs) zero d within is = let e = ap (λ y. g.faults y) is in omega (arith, e)
  sum_suc (x ∷ xs) (suc i) d within is =
      let le : suc i < suc (length xs) = within in
      let rest = sum_suc xs i d (omega (arith, le)) is in
      let e : g.faults x + sum_of_faults g (take (suc i) xs) ≡ (g.faults x + sum_of_faults g (take i xs)) + g.faults d = omega (arith, rest) in
      e

  -- one disk more
  pub sum_next : (xs : List D) (i : ℕ) (d : D) → i < length xs → d ≡ get_or xs i d → sum_of_faults g (take (i + 1) xs) ≡ sum_of_faults g (take i xs) + g.faults d
  sum_next xs i d within is = ap (λ n. sum_of_faults g (take n xs)) (add-one i) ∙ sum_suc xs i d within is

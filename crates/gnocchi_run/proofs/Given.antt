-- As many disks are given back as were handed in.
use Rattle.std.proofs.Common.{◌≡◌, ℕ, List, [], ◌∷◌, length, suc, refl, sym, ap, ◌∙◌}
use Rattle.std.specs.List.{flat_map}
use Rattle.gno_disk.specs.declared.disk.Disk.{Ghosts}
use Rattle.sack_state.specs.declared.disks.SackDisks.{SackDisks}
use Rattle.front.specs.Creating.{SacksCame, StoreCame}
use Rattle.front.specs.Plan.{OnPlan, five}

module _ {D : Type 0} (g : Ghosts D) (index incoming shelf blocks : ℕ) where
  of_sacks : (olds news : List (SackDisks D)) → SacksCame g incoming shelf blocks olds news → length (flat_map five news) ≡ length (flat_map five olds)
  of_sacks [] [] came = refl
  of_sacks [] (new ∷ news) came = absurd came
  of_sacks (old ∷ olds) [] came = absurd came
  of_sacks (old ∷ olds) (new ∷ news) came = ap (λ n. suc (suc (suc (suc (suc n))))) (of_sacks olds news came.1)

  pub as_many : (olds news : List D) → OnPlan (StoreCame g index incoming shelf blocks) olds news → length news ≡ length olds
  as_many olds news on =
      ap (λ (l : List D). length l) on.new_is ∙ ap (λ n. suc (suc n)) (of_sacks on.old.sacks on.new.sacks on.holds.sacks) ∙ sym (ap (λ (l : List D). length l) on.old_is)

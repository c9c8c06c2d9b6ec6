use Rattle.std.proofs.Common.{◌≡◌, ℕ, ◌<◌, ◌≤◌, leb, ltb, List, map, length, take, drop, Some, sym, ap, subst, ◌∙◌, arith, rules}
use Rattle.std.specs.List.{All, filter}
use Rattle.std.proofs.lemmas.List.{take-map, drop-map, length-map, take_all}
use Rattle.series_model.specs.declared.point.Split.{Split}
use Rattle.split_update.specs.Update.{splits_from, splits_kept}
use Rattle.split_update.proofs.Halves.{All-unmap, halves}
use Rattle.split_update.proofs.update.kept_places.Goals.{in-None, in-Some}
use Rattle.split_update.proofs.update.kept_places.Goals as goal

abbrev key_of : Split → ℕ
key_of s = s.key

-- the splits before a key, and those from it on, by the places of their keys
by_keys : (k n : ℕ) (keys : List ℕ) (old : List Split) → keys ≡ map key_of old → All (λ a. a < k) (take n keys) → All (λ a. k ≤ a) (drop n keys) → (filter (λ (s : Split). ltb s.key k) old ≡ take n old) × (filter (λ (s : Split). leb k s.key) old ≡ drop n old)
by_keys k n keys old are before behind =
    halves key_of k n old
    (All-unmap key_of (λ a. a < k) (take n old) (subst (All (λ a. a < k)) (ap (take n) are ∙ take-map key_of n old) before))
    (All-unmap key_of (λ a. k ≤ a) (drop n old) (subst (All (λ a. k ≤ a)) (ap (drop n) are ∙ drop-map key_of n old) behind))

all_taken : (keys : List ℕ) (old : List Split) → keys ≡ map key_of old → take (length keys) old ≡ old
all_taken keys old are = ap (λ n. take n old) (ap length are ∙ length-map old key_of) ∙ take_all (length old) old (omega arith)

pub returns-in-None-oldest-clause-kept : goal.returns-in-None-oldest-clause-kept
returns-in-None-oldest-clause-kept c old are =
    let g = c.args.granularity in
    let front : take c.match-from.until old ≡ splits_kept g c.args.from old = elim c.match-from.branch [
      | in-None w ↦ ap (λ n. take n old) w.until-is ∙ all_taken c.args.keys.now old are ∙ ap (λ from. splits_kept g from old) (sym w.in-None.is)
      | in-Some w ↦
          ap (λ n. take n old) w.until-is
          ∙ sym (by_keys w.split_key.result w.keys_before-until.result c.args.keys.now old are w.keys_before-until.ensures.before w.keys_before-until.ensures.behind).0
          ∙ ap (λ k. filter (λ (s : Split). ltb s.key k) old) w.split_key.ensures
          ∙ ap (λ from. splits_kept g from old) (sym w.in-Some.is)
    ] in
    front ∙ ap (λ oldest. splits_from oldest (splits_kept g c.args.from old)) (sym c.in-None-oldest.is)

pub returns-in-Some-oldest-clause-kept : goal.returns-in-Some-oldest-clause-kept
returns-in-Some-oldest-clause-kept c old are =
    let g = c.args.granularity in
    let until = c.match-from.until in
    let first = c.keys_before-first.result in
    let front : take until old ≡ splits_kept g c.args.from old = elim c.match-from.branch [
      | in-None w ↦ ap (λ n. take n old) w.until-is ∙ all_taken c.args.keys.now old are ∙ ap (λ from. splits_kept g from old) (sym w.in-None.is)
      | in-Some w ↦
          ap (λ n. take n old) w.until-is
          ∙ sym (by_keys w.split_key.result w.keys_before-until.result c.args.keys.now old are w.keys_before-until.ensures.before w.keys_before-until.ensures.behind).0
          ∙ ap (λ k. filter (λ (s : Split). ltb s.key k) old) w.split_key.ensures
          ∙ ap (λ from. splits_kept g from old) (sym w.in-Some.is)
    ] in
    let before : All (λ a. a < c.in-Some-oldest.key) (take first (take until c.args.keys.now)) = search rules in
    let behind : All (λ a. c.in-Some-oldest.key ≤ a) (drop first (take until c.args.keys.now)) = search rules in
    sym (by_keys c.in-Some-oldest.key first (take until c.args.keys.now) (take until old) (ap (take until) are ∙ take-map key_of until old) before behind).1
    ∙ ap (splits_from (Some c.in-Some-oldest.key)) front
    ∙ ap (λ oldest. splits_from oldest (splits_kept g c.args.from old)) (sym c.in-Some-oldest.is)

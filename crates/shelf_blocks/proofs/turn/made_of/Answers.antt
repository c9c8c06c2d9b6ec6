use Rattle.std.proofs.Common.{◌≡◌, ◌<◌, ◌++◌, ℕ, List, All, IfSome, Option, take, drop, map, sym, ap, subst, ◌∙◌}
use Rattle.std.specs.List.{AllZip}
use Rattle.std.specs.List.Sorted.{IsStrictlyIncreasing}
use Rattle.std.proofs.lemmas.List.{drop-map, take-map}
use Rattle.gno_num.specs.Floor.{split_key_of}
use Rattle.series_model.specs.declared.point.Split.{Split}
use Rattle.shelf_records.specs.declared.series.Stored.{Stored}
use Rattle.split_update.specs.Update.{points_touched, splits_after, splits_from, splits_kept}
use Rattle.shelf_blocks.specs.Blocks.{HoldsSplit}
use Rattle.shelf_blocks.proofs.TurnLemmas.{late_keys, none_made, told_after, turn_rising}
use Rattle.shelf_blocks.proofs.turn.made_of.Goals as goal

pub returns-in-Ok-clause-rising : goal.returns-in-Ok-clause-rising
returns-in-Ok-clause-rising g c =
    let w = c.args.definition.now.granularity in
    let kept = c.kept_places-kept.result in
    let series = c.args.series.now in
    let keys = c.keys.result.now in
    let splits = c.in-Ok.splits.items in
    let early = subst (λ (o : Option ℕ). IfSome o (λ at. All (λ k. k < split_key_of at w) (take kept.until keys))) c.same-2.ensures c.kept_places-kept.ensures.early in
    let made = c.in-Ok.ensures in
    let rising = turn_rising kept.first kept.until w c.args.from keys (map (λ (s : Split). s.key) splits) c.keys.ensures.rising early made.formed.rising (late_keys c.args.from w splits made.late)
    (none_made c.oldest_of-oldest.result c.args.from w c.args.points.now c.points_in.result.now splits made.made) in
    let same : drop kept.first (take kept.until keys) ≡ map (λ (s : Stored). s.key) (drop kept.first (take kept.until series)) =
    ap (λ ks. drop kept.first (take kept.until ks)) c.keys.ensures.keys ∙ ap (drop kept.first) (take-map (λ (s : Stored). s.key) kept.until series) ∙ drop-map (λ (s : Stored). s.key) kept.first (take kept.until series) in
    subst (λ (ks : List ℕ). IsStrictlyIncreasing (ks ++ map (λ (s : Split). s.key) splits)) same rising

pub returns-in-Ok-clause-after : goal.returns-in-Ok-clause-after
returns-in-Ok-clause-after g c =
    let d = c.args.definition.now in
    let w = d.granularity in
    let kept = c.kept_places-kept.result in
    let series = c.args.series.now in
    let keys = c.keys.result.now in
    let splits = c.in-Ok.splits.items in
    let told = g.D.Disk.told c.args.disk.now in
    let oldest = c.oldest_of-oldest.result in
    let stays : (old : List Split) → keys ≡ map (λ s. s.key) old → drop kept.first (take kept.until old) ≡ splits_from oldest (splits_kept w c.args.from old) =
    λ old is. c.kept_places-kept.ensures.kept old is ∙ ap (λ o. splits_from o (splits_kept w c.same-2.result old)) c.same.ensures ∙ ap (λ o. splits_from oldest (splits_kept w o old)) c.same-2.ensures in
    let found = subst (λ ps. IfSome told (λ z. (old : List Split) → AllZip (HoldsSplit z w) series old → points_touched w c.args.from old ≡ ps)) (sym c.points_in.ensures) c.in_ok-touched.ensures.touched in
    subst (λ o. IfSome told (λ z. (old : List Split) → AllZip (HoldsSplit z w) series old → drop kept.first (take kept.until old) ++ splits ≡ splits_after w o c.args.from c.args.points.now old)) c.oldest_of-oldest.ensures.value
    (told_after told w oldest c.args.from c.args.points.now series keys kept.first kept.until splits c.points_in.result.now c.keys.ensures.keys stays c.in-Ok.ensures.made found)

use Rattle.std.proofs.Common.{◌≡◌, ◌*◌, ℕ, List, map, length, take, Some, sym, ap, subst, ◌∙◌, ◌++◌}
use Rattle.std.specs.List.{All, flat_map}
use Rattle.std.specs.List.Sorted.{IsStrictlyIncreasing}
use Rattle.std.proofs.lemmas.List.{length-map, take-append-drop}
use Rattle.std.proofs.lemmas.Option.{same_Some}
use Rattle.archive_policy.specs.Policies.{ArchivePolicy}
use Rattle.series_model.specs.declared.measure.Measure.{Measure}
use Rattle.series_model.specs.Tail.{Tail, last_time, members_of}
use Rattle.shelf_records.specs.declared.moves.Move.{Move}
use Rattle.shelf_records.specs.Changes.{HaveKeys, all_moved}
use Rattle.shelf_records.specs.Filed.{layout_of}
use Rattle.shelf_records.specs.Moves.{blocks_of_moves}
use Rattle.shelf_records.specs.Shelved.{IsOfPolicy, Shelved, metric_of}
use Rattle.shelf_blocks.specs.Pieces.{AreChunkPieces, AreEnough, IsPiece, block_of}
use Rattle.shelf_blocks.specs.Turns.{AreFitting}
use Rattle.shelf_blocks.proofs.Held.{all_mapped}
use Rattle.split_store.specs.Loading.{IsSound}
use Rattle.split_store.specs.Turn.{IsCut}
use Rattle.split_store.proofs.Cuts.{have_keys, long_kept, long_moves, raw_pieces_fit, rising_moves}
use Rattle.split_store.proofs.Readied.{cut_is, points_rising}
use Rattle.split_store.proofs.turn.cut_turn.Goals as goal

pub raw_pieces-requires-clause-rising : goal.raw_pieces-requires-clause-rising
raw_pieces-requires-clause-rising c =
    subst (λ (points : List Measure). IsStrictlyIncreasing (map (λ m. m.at) points)) (sym c.points-points.ensures.value) (points_rising c.raw.result.now.anchor c.raw.result.now.points c.points-points.ensures.rising)

pub blocks_of-requires : goal.blocks_of-requires
blocks_of-requires c =
    let chunks = c.in_ok-pieces.ensures in
    subst (All IsPiece) (sym c.deref.ensures.value) (raw_pieces_fit c.in_ok-pieces.pieces.items chunks.chunks chunks.each)

pub changes_of_moves-requires : goal.changes_of_moves-requires
changes_of_moves-requires c =
    let filed = c.in-Some.filed.now in
    let moves = c.in_ok-turned.turned.moves.items in
    let long = (long_moves filed c.turn_all.new.pieces.items 0 c.args.made.now c.in_ok-turned.turned.series.items (map (λ own. own.items) moves) c.in_ok-turned.ensures.turned).0 in
    let here = subst (λ id. metric_of id c.args.book.now.metrics ≡ Some filed) (c.metric.ensures ∙ ap (λ j. j.metric) c.job.ensures.value) c.in-Some.ensures in
    let is : c.requires.fit.metric ≡ filed = same_Some c.requires.fit.metric filed (sym c.requires.fit.live ∙ here) in
    ap length c.deref-2.ensures.value ∙ sym (length-map moves (λ own. own.items)) ∙ long ∙ c.requires.fit.count ∙ ap (λ (x : Shelved). length x.kept) is ∙ long_kept filed c.id-id.ensures.filed
    ∙ ap (λ (q : ArchivePolicy). length q.definitions * length q.kinds) (sym c.policy.ensures)

pub returns : goal.returns
returns c m found =
    let filed = c.in-Some.filed.now in
    let p = c.args.prepared.now in
    let made = c.args.made.now in
    let taken = c.args.book.now.taken in
    let metrics = c.args.book.now.metrics in
    let here : metric_of p.job.metric metrics ≡ Some filed = subst (λ id. metric_of id metrics ≡ Some filed) (c.metric.ensures ∙ ap (λ j. j.metric) c.job.ensures.value) c.in-Some.ensures in
    let is : c.requires.fit.metric ≡ filed = same_Some c.requires.fit.metric filed (sym c.requires.fit.live ∙ here) in
    let count : length made ≡ length filed.kept = c.requires.fit.count ∙ ap (λ (x : Shelved). length x.kept) is in
    let fit : AreFitting filed made = subst (λ (x : Shelved). AreFitting x made) is c.requires.fit.fit in
    let sound : IsSound filed = subst IsSound is c.requires.fit.sound in
    let pieces = c.turn_all.new.pieces in
    let moves = c.in_ok-turned.turned.moves.items in
    let all = map (λ own. own.items) moves in
    let turned = c.in_ok-turned.ensures.turned in
    let added = c.in_ok-turned.ensures.pieces in
    let raws = c.in_ok-pieces.pieces.items in
    let own = c.split_at.result.0.now in
    let points : c.points-points.result.now ≡ p.raw.points = c.points-points.ensures.value ∙ ap (λ (t : Tail). t.points) c.raw.ensures.value in
    let changes = c.in_ok-changes.changes.items in
    let policy = c.policy.ensures in
    let rising = rising_moves filed pieces.items made c.in_ok-turned.turned.series.items all c.id-id.ensures.filed count fit turned in
    let keys = have_keys filed pieces.items made c.in_ok-turned.turned.series.items all c.id-id.ensures.filed count fit turned sound.keys in
    let moves_are = c.deref-2.ensures.value in
    subst (λ (x : Shelved). IsCut x p made taken (record { pieces = pieces; chunks = c.in_ok-chunks.chunks; changes = c.in_ok-changes.changes; series = c.in_ok-turned.turned.series })) (same_Some filed m (sym here ∙ found))
    (cut_is filed p made taken (record { pieces = pieces; chunks = c.in_ok-chunks.chunks; changes = c.in_ok-changes.changes; series = c.in_ok-turned.turned.series }) moves c.id-id.ensures.filed c.job.ensures.prepared
    (record { rising = subst (λ (t : Tail). IsStrictlyIncreasing (map (λ m. m.at) (members_of t))) c.raw.ensures.value c.points-points.ensures.rising; last = subst (λ (t : Tail). t.last ≡ last_time t.points) c.raw.ensures.value c.points-points.ensures.last })
    own c.split_at.result.1.now (sym (ap (λ (l : List ℕ). l ++ c.split_at.result.1.now) c.split_at.ensures.front ∙ ap (λ (l : List ℕ). take c.chunks_for.result c.taken-taken.result.now ++ l) c.split_at.ensures.back
    ∙ take-append-drop c.chunks_for.result c.taken-taken.result.now ∙ c.taken-taken.ensures.value))
    (subst (AreEnough (length p.raw.points)) (sym c.split_at.ensures.front_len) (subst (λ (l : List Measure). AreEnough (length l) c.chunks_for.result) points c.chunks_for.ensures))
    raws added.0 added.1 (subst (λ (l : List Measure). AreChunkPieces l own raws) points c.in_ok-pieces.ensures) added.2 added.3 turned added.4
    (c.in_ok-chunks.ensures ∙ ap (map block_of) c.deref.ensures.value)
    (c.in_ok-changes.ensures.in_order (subst (All (λ own. IsStrictlyIncreasing (map (λ m. m.key) own.items))) (sym moves_are) (all_mapped (λ (own : List Move). IsStrictlyIncreasing (map (λ m. m.key) own)) (λ own. own.items) moves rising)))
    (subst (λ (q : ArchivePolicy). All (IsOfPolicy q) changes) policy (c.in_ok-changes.ensures.of_policy (subst (λ (q : ArchivePolicy). HaveKeys q (map (λ own. own.items) c.deref-2.result.now)) (sym policy) (subst (λ ms. HaveKeys filed.policy (map (λ own. own.items) ms)) (sym moves_are) keys))))
    (c.in_ok-changes.ensures.moved filed.kept (c.id-id.ensures.filed.layout ∙ ap layout_of (sym policy)) ∙ ap (λ ms. all_moved filed.kept (map (λ own. own.items) ms)) moves_are) (c.in_ok-changes.ensures.blocks ∙ ap (flat_map (λ own. blocks_of_moves own.items)) moves_are))

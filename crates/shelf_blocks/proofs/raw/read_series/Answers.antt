use Rattle.std.proofs.Common.{◌≡◌, ◌≤◌, ◌+◌, ◌++◌, List, length, map, IfSome, option_to_list, slice_index_or, eqb, true, false, rules, ◌≢◌, ◌⊎◌, sym, ap, subst, ◌∙◌, arith}
use Rattle.std.specs.Bool.{⊤}
use Rattle.gno_codec.specs.declared.item.Block.{Block}
use Rattle.std.specs.List.Sorted.{IsStrictlyIncreasing}
use Rattle.std.proofs.lemmas.Bool.{eq-eqb}
use Rattle.gno_num.specs.Faults.{Rose, Rose-from}
use Rattle.series_model.specs.declared.measure.Measure.{Measure}
use Rattle.series_model.specs.Tail.{last_onto, last_time}
use Rattle.block_slots.proofs.Reading.{read_none, read_then}
use Rattle.shelf_blocks.specs.BlockFaults.{MatchBlockFault}
use Rattle.shelf_blocks.specs.Blocks.{HoldsChunk, HoldsRaw}
use Rattle.shelf_blocks.specs.Chunks.{AreRead, behind}
use Rattle.shelf_blocks.specs.Damage.{IsDamagedRaw}
use Rattle.shelf_blocks.proofs.Chunks.{chunk_fault, last_time-behind, none_last, rising_on, rising_one, told_more, told_nothing, told_odd, told_unspelled, told_whole}
use Rattle.shelf_blocks.proofs.raw.read_series.Goals as goal

pub loop-i-init : goal.loop-i-init
loop-i-init g c =
    let items = c.in-Ok.ensures.items in
    record {
      reads = read_none g.D.Disk g.met.D.Disk.came_none g.met.D.Disk.only_now c.args.disk.now;
      read = subst (λ ps. IfSome (g.D.Disk.told c.args.disk.now) (λ z. AreRead z c.args.blocks.now 0 ps)) (sym items) (told_nothing (g.D.Disk.told c.args.disk.now) c.args.blocks.now);
      rising = subst (λ ps. IsStrictlyIncreasing (map (λ p. p.at) (option_to_list c.args.anchor ++ ps))) (sym items) (rising_one c.args.anchor);
      ends = λ none. subst (λ ps. c.args.last ≡ last_time ps) (sym items) (none_last c.args.last c.args.blocks.now c.requires.some.0 (sym none));
    }

pub read_chunk-requires : goal.read_chunk-requires
read_chunk-requires g c =
    let b = slice_index_or c.args.blocks.now c.loop-i.i (record { at = 0; len = 0 }) in
    record { within = subst (λ n. b.at + b.len ≤ n) (sym c.loop-i.invariant.reads.size) (c.requires.within c.loop-i.i (record { at = 0; len = 0 }) c.loop-i-test.true) }

pub returns-in-Err-clause-reads : goal.returns-in-Err-clause-reads
returns-in-Err-clause-reads g c = read_then g.D.Disk g.met.D.Disk.came_then g.met.D.Disk.came_goes_on _ _ _ c.loop-i.invariant.reads c.read_chunk.ensures.reads

pub returns-in-Err-clause-cause : goal.returns-in-Err-clause-cause
returns-in-Err-clause-cause g c =
    let inv = c.loop-i.invariant in
    let told = g.D.Disk.told c.args.disk.now in
    let blocks = c.args.blocks.now in
    let d : Block = record { at = 0; len = 0 } in
    let b = slice_index_or blocks c.loop-i.i d in
    chunk_fault c.in-Err.fault ⊤ b.at (λ at. IfSome told (λ z. (chunk : List Measure) → HoldsChunk z b chunk → ⊥)) (λ at. IfSome told (λ z. IsDamagedRaw z blocks c.args.anchor c.args.last at))
    (λ rose. Rose-from _ (g.met.D.Disk.came_later 0 _ _ inv.reads.came) rose)
    (λ none. told_unspelled told blocks c.loop-i.i d c.args.anchor c.args.last c.loop-i.points.items c.loop-i-test.true inv.read none)
    (subst (λ t. MatchBlockFault c.in-Err.fault (Rose (g.D.Disk.faults c.loop-i.disk) (g.D.Disk.faults c.read_chunk.new.disk)) (λ at. (at ≡ b.at) × IfSome t (λ z. (chunk : List Measure) → HoldsChunk z b chunk → ⊥)) ⊤) inv.reads.told c.in-Err.ensures.cause)

pub returns-then-not-is_next-clause-reads : goal.returns-then-not-is_next-clause-reads
returns-then-not-is_next-clause-reads g c = read_then g.D.Disk g.met.D.Disk.came_then g.met.D.Disk.came_goes_on _ _ _ c.loop-i.invariant.reads c.read_chunk.ensures.reads

pub returns-then-not-is_next-clause-cause : goal.returns-then-not-is_next-clause-cause
returns-then-not-is_next-clause-cause g c =
    let inv = c.loop-i.invariant in
    let told = g.D.Disk.told c.args.disk.now in
    let blocks = c.args.blocks.now in
    let d : Block = record { at = 0; len = 0 } in
    let b = slice_index_or blocks c.loop-i.i d in
    let chunk = c.in-Ok-read_chunk.chunk.items in
    let holds = subst (λ t. IfSome t (λ z. HoldsChunk z b chunk)) inv.reads.told c.in-Ok-read_chunk.ensures.chunk in
    told_odd told blocks c.loop-i.i d c.args.anchor c.args.last c.loop-i.points.items chunk c.last_of-before.result c.loop-i-test.true (c.last_of-before.ensures ∙ ap (last_onto c.args.anchor) c.deref.ensures.value) inv.read holds
    (subst (λ l. (IsStrictlyIncreasing (behind c.last_of-before.result l) → ⊥) ⊎ (((eqb (c.loop-i.i + 1) (length blocks) ≡ false) × (length l ≢ 3600)) ⊎ ((eqb (c.loop-i.i + 1) (length blocks) ≡ true) × (c.args.last ≢ last_time l)))) c.deref-in-loop-i.ensures.value (c.is_next.ensures.not c.if-not-is_next.true))

pub returns-then-is_err-clause-reads : goal.returns-then-is_err-clause-reads
returns-then-is_err-clause-reads g c = read_then g.D.Disk g.met.D.Disk.came_then g.met.D.Disk.came_goes_on _ _ _ c.loop-i.invariant.reads c.read_chunk.ensures.reads

pub loop-i-preserved : goal.loop-i-preserved
loop-i-preserved g c =
    let inv = c.loop-i.invariant in
    let told = g.D.Disk.told c.args.disk.now in
    let blocks = c.args.blocks.now in
    let anchor = c.args.anchor in
    let d : Block = record { at = 0; len = 0 } in
    let b = slice_index_or blocks c.loop-i.i d in
    let points = c.loop-i.points.items in
    let chunk = c.in-Ok-read_chunk.chunk.items in
    let items : c.extend_from_slice.new.self.items ≡ points ++ chunk = search rules in
    let is : c.deref-in-loop-i.result.now ≡ chunk = c.deref-in-loop-i.ensures.value in
    let before : c.last_of-before.result ≡ last_onto anchor points = c.last_of-before.ensures ∙ ap (last_onto anchor) c.deref.ensures.value in
    let next = c.is_next.ensures in
    let yes = c.if-not-is_next.false in
    let holds = subst (λ t. IfSome t (λ z. HoldsChunk z b chunk)) inv.reads.told c.in-Ok-read_chunk.ensures.chunk in
    let rising = subst (λ o. IsStrictlyIncreasing (behind o chunk)) before (subst (λ l. IsStrictlyIncreasing (behind c.last_of-before.result l)) is (next.rising yes)) in
    record {
      reads = read_then g.D.Disk g.met.D.Disk.came_then g.met.D.Disk.came_goes_on _ _ _ inv.reads c.read_chunk.ensures.reads;
      read = subst (λ ps. IfSome told (λ z. AreRead z blocks (c.loop-i.i + 1) ps)) (sym items)
          (told_more told blocks c.loop-i.i d points chunk c.loop-i-test.true (λ many. ap length (sym is) ∙ next.full yes many) inv.read holds);
      rising = subst (λ ps. IsStrictlyIncreasing (map (λ p. p.at) (option_to_list anchor ++ ps))) (sym items) (rising_on anchor points chunk inv.rising rising);
      ends = λ all. next.end yes (eq-eqb (c.loop-i.i + 1) (length blocks) all) ∙ ap last_time is ∙ sym (last_time-behind points chunk c.in-Ok-read_chunk.ensures.is.rising.some) ∙ ap last_time (sym items);
    }

pub unreachable-requires : goal.unreachable-requires
unreachable-requires g c =
    let inv = c.loop-i.invariant in
    let end = c.loop-i-test.false in
    let upto = c.loop-i.auto.i-end in
    let all : c.loop-i.i ≡ length c.args.blocks.now = omega (arith, end, upto) in
    c.in-None.ensures (inv.rising, inv.ends all)

pub returns-clause-raw : goal.returns-clause-raw
returns-clause-raw g c =
    let inv = c.loop-i.invariant in
    let end = c.loop-i-test.false in
    let upto = c.loop-i.auto.i-end in
    let all : c.loop-i.i ≡ length c.args.blocks.now = omega (arith, end, upto) in
    let told = g.D.Disk.told c.args.disk.now in
    subst (λ raw. IfSome told (λ z. HoldsRaw z c.args.blocks.now c.args.anchor c.args.last raw)) (sym c.in-Some.ensures.1)
    (told_whole told c.args.blocks.now c.loop-i.i c.args.anchor c.args.last c.loop-i.points.items all inv.read inv.rising (inv.ends all))

pub returns-clause-reads : goal.returns-clause-reads
returns-clause-reads g c = c.loop-i.invariant.reads

use Rattle.std.proofs.Common.{get_or, subst, rules}
use Rattle.std.specs.List.{All}
use Rattle.std.proofs.lemmas.List.{take_all}
use Rattle.std.proofs.lemmas.List.Elements.{All-more}
use Rattle.shelf_records.specs.Shelved.{IsInSlot}
use Rattle.shelf_records.proofs.follow.are_in_slots.Goals as goal

pub loop-block-preserved : goal.loop-block-preserved
loop-block-preserved c =
    let own : IsInSlot c.args.size (get_or c.args.blocks.now c.loop-block.block-index (record { at = 0; len = 0 })) = search rules in
    All-more (IsInSlot c.args.size) c.args.blocks.now c.loop-block.block-index (record { at = 0; len = 0 }) c.loop-block-test.true c.loop-block.invariant own

pub returns : goal.returns
returns c =
    let all : All (IsInSlot c.args.size) c.args.blocks.now = subst (All (IsInSlot c.args.size)) (take_all c.loop-block.block-index c.args.blocks.now c.loop-block-test.false) c.loop-block.invariant in
    (λ h. all, λ h. search rules)

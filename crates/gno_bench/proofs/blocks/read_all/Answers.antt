use Rattle.std.proofs.Common.{◌≡◌, ◌*◌, ◌^◌, [], ◌∷◌, ◌++◌, sym, subst, rules}
use Rattle.std.specs.List.{All}
use Rattle.std.proofs.lemmas.List.Elements.{All-push}
use Rattle.gno_codec.specs.Blocks.{IsSplit}
use Rattle.gno_bench.proofs.blocks.read_all.Goals as goal

pub loop-block-preserved : goal.loop-block-preserved
loop-block-preserved c =
    let minute : c.unwrap-minute.result ≡ 60 * 10 ^ 9 = search rules in
    let split = c.in_ok-read_block.field-0 in
    let own : IsSplit (60 * 10 ^ 9) split = subst (λ n. IsSplit n split) minute c.in_ok-read_block.ensures in
    let items : c.push.new.self.items ≡ c.loop-block.items.items ++ split ∷ [] = c.in_ok-push.ensures.items in
    subst (All (IsSplit (60 * 10 ^ 9))) (sym items) (All-push (IsSplit (60 * 10 ^ 9)) c.loop-block.items.items split c.loop-block.invariant own)

use Rattle.std.proofs.Common.{rules, ◌≡◌, ◌-◌, ◌++◌, take, length, replicate, vec_len, ap, ◌∙◌}
use Rattle.std.proofs.lemmas.List.{take_all}
use Rattle.block_slots.proofs.slots.fill.Goals as goal

pub returns-clause-items : goal.returns-clause-items
returns-clause-items c =
    let bytes = c.args.bytes.now in
    let mid = c.extend_from_slice.new.self in
    let items : mid.items ≡ bytes = search rules in
    let long : vec_len mid ≡ length bytes = search rules in
    let all : c.resize.new.self.items ≡ take 98304 mid.items ++ replicate (98304 - vec_len mid) 0 = search rules in
    all ∙ ap (λ n. take 98304 mid.items ++ replicate (98304 - n) 0) long ∙ ap (λ l. take 98304 l ++ replicate (98304 - length bytes) 0) items
    ∙ ap (λ l. l ++ replicate (98304 - length bytes) 0) (take_all 98304 bytes c.requires.fits)

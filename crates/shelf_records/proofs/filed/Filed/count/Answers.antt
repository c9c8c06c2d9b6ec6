use Rattle.std.proofs.Common.{◌≡◌, ◌∙◌, length, ap, sym, rules}
use Rattle.shelf_records.specs.Filed.{layout_of}
use Rattle.shelf_records.specs.Shelved.{Shelved}
use Rattle.shelf_records.proofs.Places.{length-with}
use Rattle.shelf_records.proofs.filed.Filed.count.Goals as goal

pub returns : goal.returns
returns c =
    let f = c.self.inside in
    let long : length c.args.self.now.kept ≡ length f.kept.items =
    ap (λ (m : Shelved). length m.kept) (sym c.self.view_is) ∙ length-with (layout_of f.policy) f.kept.items c.self.invariant.paired in
    let all : c.len.result ≡ length f.kept.items = search rules in
    all ∙ sym long

use Rattle.std.proofs.Common.{◌≡◌, ◌<◌, ◌++◌, ◌∙◌, List, [], ◌∷◌, length, map, take, get_or, sym, ap, rules}
use Rattle.std.proofs.lemmas.List.{take_more}
use Rattle.gno_codec.specs.declared.item.Change.{Change}
use Rattle.shelf_records.specs.Shelved.{Kept, Shelved, kept_after}
use Rattle.shelf_records.proofs.Following.{after_both, after_none}
use Rattle.shelf_records.proofs.filed.Filed.follow.Goals as goal

pub loop-change-init : goal.loop-change-init
loop-change-init c = ap (λ (ks : List Kept). record c.args.self.now { kept = ks }) (sym (after_none c.args.self.now.kept))

pub loop-change-preserved : goal.loop-change-preserved
loop-change-preserved c =
    let m = c.args.self.now in
    let changes = c.args.item.changes in
    let i = c.loop-change.change-index in
    let now = c.change-item.result in
    let below : i < length changes = search rules in
    let is : now ≡ get_or changes i now = search rules in
    let step : c.change.new.self ≡ record c.loop-change.self { kept = map (kept_after (now ∷ [])) c.loop-change.self.kept } = search rules in
    step
    ∙ ap (λ (x : Shelved). record x { kept = map (kept_after (now ∷ [])) x.kept }) c.loop-change.invariant
    ∙ ap (λ (ks : List Kept). record m { kept = ks }) (sym (after_both (take i changes) (now ∷ []) m.kept))
    ∙ ap (λ (cs : List Change). record m { kept = map (kept_after cs) m.kept }) (ap (λ (x : Change). take i changes ++ x ∷ []) is ∙ sym (take_more changes i now below))

use Rattle.std.proofs.Common.{◌≡◌, ◌∙◌, List, length, map, sym, ap, subst}
use Rattle.std.specs.List.{All}
use Rattle.std.proofs.lemmas.List.{length-map}
use Rattle.shelf_records.specs.Filed.{AreRising, layout_of, with_splits}
use Rattle.shelf_records.specs.Shelved.{Kept, Shelved, committed, kept_after}
use Rattle.shelf_records.proofs.Metrics.{emptied_after, rising_kept, with_again}
use Rattle.shelf_records.proofs.Places.{emptied_with, length-with, rising_with}
use Rattle.shelf_records.proofs.filed.Filed.settle.Goals as goal

pub invariant_of-self : goal.invariant_of-self
invariant_of-self c =
    let f = c.self.inside in
    let old = with_splits (layout_of f.policy) f.kept.items in
    let changes = c.args.item.changes in
    let are : c.args.kept.items ≡ map (λ (k : Kept). k.splits) (map (kept_after changes) old) = c.requires ∙ ap (λ (m : Shelved). map (λ (k : Kept). k.splits) (map (kept_after changes) m.kept)) (sym c.self.view_is) in
    record {
      definitions = c.self.invariant.definitions;
      kinds = c.self.invariant.kinds;
      paired = ap length are ∙ length-map (map (kept_after changes) old) (λ (k : Kept). k.splits) ∙ length-map old (kept_after changes) ∙ length-with (layout_of f.policy) f.kept.items c.self.invariant.paired ∙ c.self.invariant.paired;
      rising = subst (All AreRising) (sym are) (rising_kept changes old (rising_with (layout_of f.policy) f.kept.items c.self.invariant.rising));
    }

pub returns : goal.returns
returns c =
    let f = c.self.inside in
    let layout = layout_of f.policy in
    let old = with_splits layout f.kept.items in
    let changes = c.args.item.changes in
    let are : c.args.kept.items ≡ map (λ (k : Kept). k.splits) (map (kept_after changes) old) = c.requires ∙ ap (λ (m : Shelved). map (λ (k : Kept). k.splits) (map (kept_after changes) m.kept)) (sym c.self.view_is) in
    let kept : with_splits layout c.args.kept.items ≡ map (kept_after changes) old =
    ap (with_splits layout) are ∙ with_again layout (map (kept_after changes) old) (emptied_after changes old ∙ emptied_with layout f.kept.items c.self.invariant.paired) in
    ap (λ (ks : List Kept). record {
      id = f.id;
      policy = f.policy;
      done = c.args.item.done;
      last = c.args.item.last;
      anchor = c.args.item.anchor;
      chunks = c.args.item.chunks;
      kept = ks;
    }) kept
    ∙ ap (committed c.args.item) c.self.view_is

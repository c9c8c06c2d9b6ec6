use Rattle.std.proofs.Common.{◌≡◌, drop}
use Rattle.serde_json.specs.View.{items_view, members_view}
use Rattle.control_docs.specs.Shape.{items_fit, members_fit}
use Rattle.control_docs.proofs.shape.+fits.Given as goal

abbrev pub invariant-items_fit-loop-item : goal.invariant-items_fit-loop-item
invariant-items_fit-loop-item l =
    items_fit l.shape (items_view (drop l.item-index l.item-items)) ≡ items_fit l.shape (items_view l.item-items)

abbrev pub invariant-members_fit-loop-key : goal.invariant-members_fit-loop-key
invariant-members_fit-loop-key l =
    members_fit l.shape (members_view l.key-iterator) ≡ members_fit l.shape (members_view l.fn.members.entries)

use Rattle.std.proofs.Common.{◌≡◌, ◌≤◌, List, length, get_or, ap, subst, ◌∙◌}
use Rattle.front_api.specs.declared.command.Reply.{Reply}
use Rattle.front_api.specs.declared.command.ResourceDoc.{ResourceDoc}
use Rattle.rest_api.specs.Shown.{documents_of, first_text, resource_shown}
use Rattle.rest_api.proofs.ListLemmas.{first_shown}
use Rattle.rest_api.proofs.shown.push_first.Goals as goal

pub returns-in-len1-up-items-3 : goal.returns-in-len1-up-items-3
returns-in-len1-up-items-3 c =
    let first = c.first-item-in-Resources.result in
    rw (ap (λ (r : Reply). first_text (documents_of r)) c.in-Resources.is
    ∙ first_shown resource_shown c.in-Resources.docs first
    (subst (λ (l : List ResourceDoc). 1 ≤ length l) c.items-in-Resources.ensures c.in-len1-up-items-3.len_at_least)
    (subst (λ (l : List ResourceDoc). first ≡ get_or l 0 first) c.items-in-Resources.ensures c.first-item-in-Resources.is))
    c.push_resource_document.ensures

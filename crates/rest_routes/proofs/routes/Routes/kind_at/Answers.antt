use Rattle.std.proofs.Common.{◌≡◌, sym, ap, ◌∙◌, arith}
use Rattle.matchit.specs.Seek.{first}
use Rattle.rest_routes.specs.Table.{table}
use Rattle.rest_routes.proofs.FoundLemmas.{text, found-route, missing-route, text-there, text-missing}
use Rattle.rest_routes.proofs.routes.Routes.kind_at.Goals as goal

pub returns-in_default : goal.returns-in_default
returns-in_default c = text-missing c.args.path.now c.in_default.ensures.cases.0

pub returns-in-Ok-at : goal.returns-in-Ok-at
returns-in-Ok-at c =
    let path = c.args.path.now in
    let same : c.in-Ok.path.now ≡ path = c.in-Ok.ensures.cases.0 in
    let bytes = text path (λ i l. omega (arith, c.type_inv.path i)) in
    let q = ap (λ z. first table z) (sym same) ∙ ap (λ t. first t c.in-Ok.path.now) (sym c.args.self.now.is_table) ∙ c.in-Ok-at.ensures.found in
    (same, text-there path c.in-Ok.ensures.cases.1 ∙ found-route path _ bytes q)

pub returns-in-Err : goal.returns-in-Err
returns-in-Err c =
    let path = c.args.path.now in
    let same : c.in-Ok.path.now ≡ path = c.in-Ok.ensures.cases.0 in
    let bytes = text path (λ i l. omega (arith, c.type_inv.path i)) in
    let q = ap (λ z. first table z) (sym same) ∙ ap (λ t. first t c.in-Ok.path.now) (sym c.args.self.now.is_table) ∙ c.in-Err.ensures.missing in
    text-there path c.in-Ok.ensures.cases.1 ∙ missing-route path bytes q

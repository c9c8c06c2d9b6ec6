use Rattle.std.proofs.Common.{rules, ◌≡◌, [], ◌<◌, Some, None, get_or, sym, ap, ◌∙◌, arith}
use Rattle.std.proofs.lemmas.Bool.Decides.{nat_tests}
use Rattle.std.proofs.lemmas.Str.Pattern.{split_parts}
use Rattle.rest_routes.specs.Path.{segments}
use Rattle.rest_routes.proofs.SegmentLemmas.{segments-front, segments-whole, get_or-later, get_or-one}
use Rattle.rest_routes.proofs.path.+segment.Goals as goal

pub returns-in-Some : goal.returns-in-Some
returns-in-Some t c =
    let front = c.in-Some.field-0-0 in
    let rest = c.in-Some.rest in
    let n = c.args.number in
    let parts = split_parts 47 c.args.path.now (Some (front, rest)) c.in-Some.ensures.cases (omega arith) in
    let some : 0 < n = grind (arith, nat_tests, c.if-number-gt0.true) in
    c.segment.ensures
    ∙ sym (get_or-later front.now [] (segments rest.now) n some)
    ∙ ap (λ z. get_or z n []) (sym (segments-front front.now rest.now parts.1))
    ∙ ap (λ z. get_or (segments z) n []) (sym parts.0)

pub returns-in-Some-2 : goal.returns-in-Some-2
returns-in-Some-2 t c =
    let front = c.in-Some.field-0-0 in
    let rest = c.in-Some.rest in
    let n = c.args.number in
    let parts = split_parts 47 c.args.path.now (Some (front, rest)) c.in-Some.ensures.cases (omega arith) in
    let none : n ≡ 0 = grind (arith, nat_tests, c.if-number-gt0.false) in
    rw (none, parts.0, segments-front front.now rest.now parts.1) (search rules)

pub returns-in-None : goal.returns-in-None
returns-in-None t c =
    let n = c.args.number in
    let whole = split_parts 47 c.args.path.now None c.in-None.ensures.cases (omega arith) in
    let some : 0 < n = grind (arith, nat_tests, c.if-number-gt0-2.true) in
    rw (segments-whole c.args.path.now whole) (sym (get_or-one c.args.path.now [] n some))

pub returns-in-None-2 : goal.returns-in-None-2
returns-in-None-2 t c =
    let n = c.args.number in
    let whole = split_parts 47 c.args.path.now None c.in-None.ensures.cases (omega arith) in
    let none : n ≡ 0 = grind (arith, nat_tests, c.if-number-gt0-2.false) in
    rw (none, segments-whole c.args.path.now whole) (search rules)

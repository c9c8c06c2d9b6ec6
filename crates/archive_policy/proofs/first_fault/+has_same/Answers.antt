use Rattle.std.proofs.Common.{◌≡◌, ◌-◌, ◌||◌, eqb, map, take, drop, length, sym, ap, ◌∙◌, arith}
use Rattle.std.specs.List.{list_any}
use Rattle.archive_policy.specs.declared.wanted.Wanted.{Wanted}
use Rattle.archive_policy.specs.Asked.{granularity_of, has_same}
use Rattle.archive_policy.proofs.AskedLemmas.{has_same_step}
use Rattle.archive_policy.proofs.first_fault.+has_same.Goals as goal

pub returns-then-stands_in : goal.returns-then-stands_in
returns-then-stands_in t c =
    let all = c.args.wanted.now in
    let rest = take (length all - 1) (drop 1 all) in
    let stands : c.stands_in.result ≡ list_any (λ (x : Wanted). eqb (granularity_of x) (granularity_of c.first-item.result)) rest =
    c.stands_in.ensures ∙ ap (λ g. list_any (λ (x : Wanted). eqb (granularity_of x) g) rest) c.granularity_of.ensures in
    c.if-stands_in.true ∙ ap (λ here. here || has_same (map granularity_of rest)) (sym c.if-stands_in.true ∙ stands)
    ∙ sym (has_same_step all c.first-item.result (omega arith) c.first-item.is)

pub returns-else-stands_in : goal.returns-else-stands_in
returns-else-stands_in t c =
    let all = c.args.wanted.now in
    let rest = take (length all - 1) (drop 1 all) in
    let stands : c.stands_in.result ≡ list_any (λ (x : Wanted). eqb (granularity_of x) (granularity_of c.first-item.result)) rest =
    c.stands_in.ensures ∙ ap (λ g. list_any (λ (x : Wanted). eqb (granularity_of x) g) rest) c.granularity_of.ensures in
    c.has_same.ensures ∙ ap (λ here. here || has_same (map granularity_of rest)) (sym c.if-stands_in.false ∙ stands)
    ∙ sym (has_same_step all c.first-item.result (omega arith) c.first-item.is)

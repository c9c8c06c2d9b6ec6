use Rattle.std.proofs.Common.{◌+◌, ◌≤◌, length, take, drop, sym, ap, ◌∙◌, arith}
use Rattle.std.specs.List.{position_or_len}
use Rattle.std.proofs.lemmas.List.{take_all, take_rest, drop_all}
use Rattle.rest_routes.specs.Target.{is_mark}
use Rattle.rest_routes.proofs.TargetLemmas.{position-some, position-none}
use Rattle.rest_routes.proofs.target.split_query.Goals as goal

pub returns-in-Some-clause-path : goal.returns-in-Some-clause-path
returns-in-Some-clause-path c =
    let target = c.args.target.now in
    ap (λ n. take n target) (sym (position-some is_mark target c.in-Some.at (sym c.in-Some.ensures.mark)))

pub returns-in-Some-clause-query : goal.returns-in-Some-clause-query
returns-in-Some-clause-query c =
    let target = c.args.target.now in
    take_rest target (c.in-Some.at + 1)
    ∙ ap (λ n. drop (n + 1) target) (sym (position-some is_mark target c.in-Some.at (sym c.in-Some.ensures.mark)))

pub returns-in-None-clause-path : goal.returns-in-None-clause-path
returns-in-None-clause-path c =
    let target = c.args.target.now in
    sym (take_all (position_or_len is_mark target) target (position-none is_mark target (sym c.in-None.ensures.mark)))

pub returns-in-None-clause-query : goal.returns-in-None-clause-query
returns-in-None-clause-query c =
    let target = c.args.target.now in
    let all : length target ≤ position_or_len is_mark target = position-none is_mark target (sym c.in-None.ensures.mark) in
    sym (drop_all (position_or_len is_mark target + 1) target (omega arith))

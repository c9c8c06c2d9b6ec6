use Rattle.std.proofs.Common.{◌≡◌, IfOk, sym, subst, rules}
use Rattle.std.proofs.lemmas.Result.{IfOk-weaker}
use Rattle.series_model.specs.Answer.{IsAnswer, answer_of}
use Rattle.series_model.proofs.AnswerLaws.{rows_exact}
use Rattle.series_model.proofs.rows.answer_from.Goals as goal

pub returns-in-None-clause-exact : goal.returns-in-None-clause-exact
returns-in-None-clause-exact c =
    let a = c.args in
    let value : c.new.result ≡ answer_of a.kind a.definition a.accepted.now = search rules in
    subst (IsAnswer a.kind a.definition a.accepted.now) (sym value) (rows_exact a.kind a.definition a.accepted.now)

pub returns-in_ok-series-in-Some-clause-exact : goal.returns-in_ok-series-in-Some-clause-exact
returns-in_ok-series-in-Some-clause-exact c =
    let a = c.args in
    let value : IfOk c.rows_of.result (λ answer. answer ≡ answer_of a.kind a.definition a.accepted.now) = search rules in
    IfOk-weaker c.rows_of.result (λ answer. answer ≡ answer_of a.kind a.definition a.accepted.now) (IsAnswer a.kind a.definition a.accepted.now) (λ answer is. subst (IsAnswer a.kind a.definition a.accepted.now) (sym is) (rows_exact a.kind a.definition a.accepted.now)) value

use Rattle.std.proofs.Common.{◌≡◌, IfOk, sym, subst, rules}
use Rattle.std.proofs.lemmas.Result.{IfOk-weaker}
use Rattle.series_model.specs.Stored.{AreStoredSplits, stored_of}
use Rattle.series_model.proofs.StoredLaws.{stored_exact}
use Rattle.series_model.proofs.splits.stored_from.Goals as goal

pub returns-in-None-clause-exact : goal.returns-in-None-clause-exact
returns-in-None-clause-exact c =
    let a = c.args in
    let value : c.new.result.items ≡ stored_of a.kind a.definition a.accepted.now = search rules in
    subst (AreStoredSplits a.kind a.definition a.accepted.now) (sym value) (stored_exact a.kind a.definition a.accepted.now)

pub returns-in_ok-series-in-Some-clause-exact : goal.returns-in_ok-series-in-Some-clause-exact
returns-in_ok-series-in-Some-clause-exact c =
    let a = c.args in
    let value : IfOk c.splits_until.result (λ splits. splits.items ≡ stored_of a.kind a.definition a.accepted.now) = search rules in
    IfOk-weaker c.splits_until.result (λ splits. splits.items ≡ stored_of a.kind a.definition a.accepted.now) (λ splits. AreStoredSplits a.kind a.definition a.accepted.now splits.items) (λ splits is. subst (AreStoredSplits a.kind a.definition a.accepted.now) (sym is) (stored_exact a.kind a.definition a.accepted.now)) value

use Rattle.std.proofs.Common.{◌≡◌, ◌⊎◌, ◌++◌, ◌∷◌, Option, Some, None, IsSome, sym, ap, subst, ◌∙◌, inl, inr}
use Rattle.std.specs.Prelude.{is_some}
use Rattle.std.proofs.Math.Logic.{⊎_elim}
use Rattle.std.proofs.lemmas.Result.{on_ok_weaker, on_err_weaker}
use Rattle.std.proofs.lemmas.Option.{none-some}
use Rattle.measure_query.specs.declared.key.Key.{Key}
use Rattle.measure_query.specs.declared.key.Key.TheVariants.{Start, Stop, Aggregation, Granularity, Refresh, Exact}
use Rattle.measure_query.specs.Form.{time_of, span_of, kind_of, switch_of}
use Rattle.measure_query.specs.Key.{key_name}
use Rattle.measure_query.specs.Query.{IsNoQuery}
use Rattle.measure_query.specs.Seen.{IsSeen}
use Rattle.measure_query.proofs.SeenLemmas.{taken_start, taken_stop, taken_kind, taken_granularity, taken_refresh, taken_exact, refused, with_pair}
use Rattle.measure_query.proofs.seen.Seen.take.Goals as goal

-- what an equal reading is none as well
same_reason : {A : Type 0} (seen reading value : Option A) → reading ≡ value → IsSome seen ⊎ (reading ≡ None) → IsSome seen ⊎ (value ≡ None)
same_reason seen reading value is why = ⊎_elim (λ some. inl some) (λ none. inr (sym is ∙ none)) why

pub returns-in-Start-clause-ok : goal.returns-in-Start-clause-ok
returns-in-Start-clause-ok c =
    let seen = c.args.self.now in
    let value = c.args.value.now in
    let new = c.put.new.slot in
    on_ok_weaker c.put.result
    (λ took pairs so_far. subst (λ (key : Key). IsSeen (with_pair key value pairs) (record seen { start = new })) (sym c.in-Start.is) (taken_start value pairs seen new so_far took.0 (took.1 ∙ c.time_of.ensures) (subst IsSome (sym took.1) took.2)))
    c.put.ensures.ok

pub returns-in-Start-clause-bad : goal.returns-in-Start-clause-bad
returns-in-Start-clause-bad c =
    let seen = c.args.self.now in
    let value = c.args.value.now in
    on_err_weaker c.put.result
    (λ why pairs others so_far. subst (λ (key : Key). IsNoQuery (pairs ++ (key_name key, value) ∷ others)) (sym c.in-Start.is) (refused time_of Start value pairs others seen.start (ap is_some) so_far.start (same_reason seen.start _ _ (c.time_of.ensures) why)))
    c.put.ensures.bad

pub returns-in-Stop-clause-ok : goal.returns-in-Stop-clause-ok
returns-in-Stop-clause-ok c =
    let seen = c.args.self.now in
    let value = c.args.value.now in
    let new = c.put-in-Stop.new.slot in
    on_ok_weaker c.put-in-Stop.result
    (λ took pairs so_far. subst (λ (key : Key). IsSeen (with_pair key value pairs) (record seen { stop = new })) (sym c.in-Stop.is) (taken_stop value pairs seen new so_far took.0 (took.1 ∙ c.time_of-in-Stop.ensures) (subst IsSome (sym took.1) took.2)))
    c.put-in-Stop.ensures.ok

pub returns-in-Stop-clause-bad : goal.returns-in-Stop-clause-bad
returns-in-Stop-clause-bad c =
    let seen = c.args.self.now in
    let value = c.args.value.now in
    on_err_weaker c.put-in-Stop.result
    (λ why pairs others so_far. subst (λ (key : Key). IsNoQuery (pairs ++ (key_name key, value) ∷ others)) (sym c.in-Stop.is) (refused time_of Stop value pairs others seen.stop (ap is_some) so_far.stop (same_reason seen.stop _ _ (c.time_of-in-Stop.ensures) why)))
    c.put-in-Stop.ensures.bad

pub returns-in-Aggregation-clause-ok : goal.returns-in-Aggregation-clause-ok
returns-in-Aggregation-clause-ok c =
    let seen = c.args.self.now in
    let value = c.args.value.now in
    let new = c.put-in-Aggregation.new.slot in
    on_ok_weaker c.put-in-Aggregation.result
    (λ took pairs so_far. subst (λ (key : Key). IsSeen (with_pair key value pairs) (record seen { kind = new })) (sym c.in-Aggregation.is) (taken_kind value pairs seen new so_far took.0 (took.1 ∙ ap Some c.kind_of.ensures) (subst IsSome (sym took.1) took.2)))
    c.put-in-Aggregation.ensures.ok

pub returns-in-Aggregation-clause-bad : goal.returns-in-Aggregation-clause-bad
returns-in-Aggregation-clause-bad c =
    let seen = c.args.self.now in
    let value = c.args.value.now in
    on_err_weaker c.put-in-Aggregation.result
    (λ why pairs others so_far. subst (λ (key : Key). IsNoQuery (pairs ++ (key_name key, value) ∷ others)) (sym c.in-Aggregation.is) (refused (λ name. Some (kind_of name)) Aggregation value pairs others seen.kind (λ none. absurd (none-some (kind_of c.args.value.now) (sym none))) so_far.kind (same_reason seen.kind _ _ (ap Some c.kind_of.ensures) why)))
    c.put-in-Aggregation.ensures.bad

pub returns-in-Granularity-clause-ok : goal.returns-in-Granularity-clause-ok
returns-in-Granularity-clause-ok c =
    let seen = c.args.self.now in
    let value = c.args.value.now in
    let new = c.put-in-Granularity.new.slot in
    on_ok_weaker c.put-in-Granularity.result
    (λ took pairs so_far. subst (λ (key : Key). IsSeen (with_pair key value pairs) (record seen { granularity = new })) (sym c.in-Granularity.is) (taken_granularity value pairs seen new so_far took.0 (took.1 ∙ c.span_of.ensures) (subst IsSome (sym took.1) took.2)))
    c.put-in-Granularity.ensures.ok

pub returns-in-Granularity-clause-bad : goal.returns-in-Granularity-clause-bad
returns-in-Granularity-clause-bad c =
    let seen = c.args.self.now in
    let value = c.args.value.now in
    on_err_weaker c.put-in-Granularity.result
    (λ why pairs others so_far. subst (λ (key : Key). IsNoQuery (pairs ++ (key_name key, value) ∷ others)) (sym c.in-Granularity.is) (refused span_of Granularity value pairs others seen.granularity (ap is_some) so_far.granularity (same_reason seen.granularity _ _ (c.span_of.ensures) why)))
    c.put-in-Granularity.ensures.bad

pub returns-in-Refresh-clause-ok : goal.returns-in-Refresh-clause-ok
returns-in-Refresh-clause-ok c =
    let seen = c.args.self.now in
    let value = c.args.value.now in
    let new = c.put-in-Refresh.new.slot in
    on_ok_weaker c.put-in-Refresh.result
    (λ took pairs so_far. subst (λ (key : Key). IsSeen (with_pair key value pairs) (record seen { refresh = new })) (sym c.in-Refresh.is) (taken_refresh value pairs seen new so_far took.0 (took.1 ∙ c.switch_of.ensures) (subst IsSome (sym took.1) took.2)))
    c.put-in-Refresh.ensures.ok

pub returns-in-Refresh-clause-bad : goal.returns-in-Refresh-clause-bad
returns-in-Refresh-clause-bad c =
    let seen = c.args.self.now in
    let value = c.args.value.now in
    on_err_weaker c.put-in-Refresh.result
    (λ why pairs others so_far. subst (λ (key : Key). IsNoQuery (pairs ++ (key_name key, value) ∷ others)) (sym c.in-Refresh.is) (refused switch_of Refresh value pairs others seen.refresh (ap is_some) so_far.refresh (same_reason seen.refresh _ _ (c.switch_of.ensures) why)))
    c.put-in-Refresh.ensures.bad

pub returns-in-Exact-clause-ok : goal.returns-in-Exact-clause-ok
returns-in-Exact-clause-ok c =
    let seen = c.args.self.now in
    let value = c.args.value.now in
    let new = c.put-in-Exact.new.slot in
    on_ok_weaker c.put-in-Exact.result
    (λ took pairs so_far. subst (λ (key : Key). IsSeen (with_pair key value pairs) (record seen { exact = new })) (sym c.in-Exact.is) (taken_exact value pairs seen new so_far took.0 (took.1 ∙ c.switch_of-in-Exact.ensures) (subst IsSome (sym took.1) took.2)))
    c.put-in-Exact.ensures.ok

pub returns-in-Exact-clause-bad : goal.returns-in-Exact-clause-bad
returns-in-Exact-clause-bad c =
    let seen = c.args.self.now in
    let value = c.args.value.now in
    on_err_weaker c.put-in-Exact.result
    (λ why pairs others so_far. subst (λ (key : Key). IsNoQuery (pairs ++ (key_name key, value) ∷ others)) (sym c.in-Exact.is) (refused switch_of Exact value pairs others seen.exact (ap is_some) so_far.exact (same_reason seen.exact _ _ (c.switch_of-in-Exact.ensures) why)))
    c.put-in-Exact.ensures.bad

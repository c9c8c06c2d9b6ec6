use Rattle.std.proofs.Common.{◌≡◌, ◌++◌, ◌∷◌, [], List, refl, sym, subst, ◌∙◌}
use Rattle.std.proofs.lemmas.List.Elements.{Contains-append_right}
use Rattle.std.proofs.lemmas.Result.{on_ok_weaker, IfErr-weaker}
use Rattle.series_model.proofs.Members.{Contains-here}
use Rattle.measure_query.specs.declared.query.QueryFault.TheVariants.{BadQuery}
use Rattle.measure_query.specs.Key.{Pair, decoded, key_name}
use Rattle.measure_query.specs.Query.{IsNoQuery, another}
use Rattle.measure_query.specs.Seen.{IsSeen}
use Rattle.measure_query.proofs.seen.Seen.take_encoded.Goals as goal

pub returns-in-Some-clause-ok : goal.returns-in-Some-clause-ok
returns-in-Some-clause-ok c =
    let name : key_name c.in-Some.key ≡ decoded c.args.name.now = sym c.in-Some.ensures.some ∙ c.as_bytes.ensures.value ∙ c.as_str.ensures.value ∙ c.in_ok-name.ensures.value.2 in
    let value : c.as_bytes-in-Some.result.now ≡ decoded c.args.value.now = c.as_bytes-in-Some.ensures.value ∙ c.as_str-in-Some.ensures.value ∙ c.in_ok-value.ensures.value.2 in
    on_ok_weaker c.take.result
    (λ took pairs so_far. subst (λ (pair : Pair). IsSeen (pairs ++ pair ∷ []) c.take.new.self) (λ i. (name i, value i)) (took pairs so_far))
    c.take.ensures.ok

pub returns-in-Some-clause-bad : goal.returns-in-Some-clause-bad
returns-in-Some-clause-bad c =
    let name : key_name c.in-Some.key ≡ decoded c.args.name.now = sym c.in-Some.ensures.some ∙ c.as_bytes.ensures.value ∙ c.as_str.ensures.value ∙ c.in_ok-name.ensures.value.2 in
    let value : c.as_bytes-in-Some.result.now ≡ decoded c.args.value.now = c.as_bytes-in-Some.ensures.value ∙ c.as_str-in-Some.ensures.value ∙ c.in_ok-value.ensures.value.2 in
    IfErr-weaker c.take.result
    (λ _. (pairs others : List Pair) → IsSeen pairs c.args.self.now → IsNoQuery (pairs ++ (key_name c.in-Some.key, c.as_bytes-in-Some.result.now) ∷ others))
    (λ fault. fault ≡ BadQuery → (pairs others : List Pair) → IsSeen pairs c.args.self.now → IsNoQuery (pairs ++ (decoded c.args.name.now, decoded c.args.value.now) ∷ others))
    (λ fault refused _ pairs others so_far. subst (λ (pair : Pair). IsNoQuery (pairs ++ pair ∷ others)) (λ i. (name i, value i)) (refused pairs others so_far))
    c.take.ensures.bad

pub returns-clause-bad : goal.returns-clause-bad
returns-clause-bad c _ pairs others so_far =
    let name : c.as_bytes.result.now ≡ decoded c.args.name.now = c.as_bytes.ensures.value ∙ c.as_str.ensures.value ∙ c.in_ok-name.ensures.value.2 in
    let pair : Pair = (decoded c.args.name.now, decoded c.args.value.now) in
    another pair.0 pair.1
    (Contains-append_right pairs (pair ∷ others) pair (Contains-here pair others pair refl))
    (λ key same. c.in-None.ensures.none key (name ∙ same))

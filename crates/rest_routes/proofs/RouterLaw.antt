-- The router's table by pieces, and its answer as the definition gives it.
use Rattle.std.proofs.Common.{◌≡◌, ℕ, ◌<◌, List, [], ◌∷◌, ◌++◌, Option, Some, None, Bool, true, false, cond, ltb, refl, sym, ap, ◌∙◌, arith, nat_eq, ◌==◌, codes, subst}
use Rattle.std.proofs.lemmas.Bool.Decides.{nat_tests}
use Rattle.matchit.specs.Rows.{RowsOf, param_token, catch_all_token}
use Rattle.matchit.specs.Level.{IsText}
use Rattle.matchit.specs.Seek.{or_else, same_text, first, slash}
use Rattle.matchit.specs.Router.{rename, map_key}
use Rattle.matchit.proofs.OnLiterals.{matchit_on_literals}
use Rattle.matchit.proofs.RenameLemmas.{first-rename}
use Rattle.rest_routes.specs.Table.{table}
use Rattle.rest_routes.specs.Path.{RawRoute, longer, segments, is_word, unless_empty, ending, all_or_one, of_one_metric, of_metric, of_batch_metrics, of_batch, of_named_metric, of_its_metrics, of_one_resource, of_generic, of_resource, of_v1, of_root, of_segments, raw_route_of}
use Rattle.rest_routes.specs.declared.kind.RouteKind.{RouteKind}
use Rattle.rest_routes.specs.declared.kind.RouteKind.TheVariants.{Policies, Policy, Rules, Rule, Metrics, Metric, Measures, BatchMeasures, Resources, Resource, ResourceMetrics, NamedMeasures}
use Rattle.rest_routes.proofs.Pieces.{Piece, word, parameter, joined, plain, all_plain, is_empty, compiled, words, parameters, after_word, plain_rows, answer}
use Rattle.rest_routes.proofs.Walk.{first-answer, first-byte, step-compiled, seek-none, not-slash, both}

-- the table's rows by pieces, level by level

abbrev pub Pieces : Type 0
Pieces = List (List Piece × RouteKind)

abbrev named_rows : Pieces
named_rows = (word (codes "measures") ∷ [], NamedMeasures) ∷ []

abbrev its_rows : Pieces
its_rows = (parameter ∷ word (codes "measures") ∷ [], NamedMeasures) ∷ ([], ResourceMetrics) ∷ []

abbrev resource_rows : Pieces
resource_rows =
    (word (codes "metric") ∷ parameter ∷ word (codes "measures") ∷ [], NamedMeasures)
    ∷ (word (codes "metric") ∷ [], ResourceMetrics)
    ∷ ([], Resource)
    ∷ []

-- each row with a piece in front
abbrev front : Piece → Pieces → Pieces
front p [] = []
front p ((ps, k) ∷ rs) = (p ∷ ps, k) ∷ front p rs

abbrev generic_rows : Pieces
generic_rows = front parameter resource_rows ++ ([], Resources) ∷ []

abbrev metric_rows : Pieces
metric_rows = (parameter ∷ word (codes "measures") ∷ [], Measures) ∷ (parameter ∷ [], Metric) ∷ ([], Metrics) ∷ []

abbrev batch_rows : Pieces
batch_rows = (word (codes "metrics") ∷ word (codes "measures") ∷ [], BatchMeasures) ∷ []

abbrev pair_rows : RouteKind → RouteKind → Pieces
pair_rows all one = (parameter ∷ [], one) ∷ ([], all) ∷ []

abbrev v1_rows : Pieces
v1_rows =
    (word (codes "archive_policy") ∷ parameter ∷ [], Policy)
    ∷ (word (codes "archive_policy_rule") ∷ parameter ∷ [], Rule)
    ∷ (word (codes "archive_policy_rule") ∷ [], Rules)
    ∷ (word (codes "archive_policy") ∷ [], Policies)
    ∷ front (word (codes "batch")) batch_rows
    ++ front (word (codes "metric")) metric_rows
    ++ front (word (codes "resource")) (front (word (codes "generic")) generic_rows)

abbrev pub routes : Pieces
routes = front (word (codes "v1")) v1_rows

pub table-routes : rename (λ r. r.value) table ≡ compiled routes
unfolding matchit_on_literals
table-routes = refl

plain-routes : plain_rows routes ≡ true
plain-routes = refl

-- answers

answer-none : (ss : List (List ℕ)) → answer {K = RouteKind} [] ss ≡ None
answer-none [] = refl
answer-none (s ∷ ss) = by (is_empty s) (answer-none ss)
  where
    by : (v : Bool) → answer {K = RouteKind} [] ss ≡ None → or_else (answer {K = RouteKind} [] ss) (cond v None (answer {K = RouteKind} [] ss)) ≡ None
    by true e = rw e refl
    by false e = rw e refl

or-none : (a : Option RouteKind) → or_else a None ≡ a
or-none None = refl
or-none (Some k) = refl

-- no routes beside those of a word
alone : (v : Bool) (rs : Pieces) (ss : List (List ℕ)) → or_else (answer rs ss) (cond v None (answer {K = RouteKind} [] ss)) ≡ answer rs ss
alone true rs ss = or-none (answer rs ss)
alone false rs ss = ap (λ z. or_else (answer rs ss) z) (answer-none ss) ∙ or-none (answer rs ss)

pub word-is : (w s : List ℕ) → is_word w s ≡ true → w ≡ s
word-is [] [] h = refl
word-is [] (b ∷ s) h = cc
word-is (x ∷ w) [] h = cc
word-is (x ∷ w) (b ∷ s) h =
    let p = both (nat_eq x b) (is_word w s) h in
    let e : x ≡ b = grind (arith, nat_tests) in
    rw (e, word-is w s p.1) refl

-- the same word in front of each
abbrev each : List ℕ → Pieces → RowsOf (List Piece × RouteKind)
each w [] = []
each w (r ∷ rs) = (w, r) ∷ each w rs

after-each : (w s : List ℕ) (rs : Pieces) → after_word s (each w rs) ≡ cond (same_text w s) rs []
after-each w s rs = by (same_text w s) refl rs
  where
    by : (v : Bool) → same_text w s ≡ v → (rs : Pieces) → after_word s (each w rs) ≡ cond v rs []
    by true e [] = refl
    by true e (r ∷ rs) = rw e (ap (λ z. r ∷ z) (by true e rs))
    by false e [] = refl
    by false e (r ∷ rs) = rw e (by false e rs)

word-answer : (rows : Pieces) (w : List ℕ) (rs : Pieces) (s : List ℕ) (ss : List (List ℕ)) → words rows ≡ each w rs → parameters rows ≡ []
    → answer rows (s ∷ ss) ≡ cond (same_text w s) (answer rs ss) None
word-answer rows w rs s ss ew ep =
    ap (λ z. or_else (answer (after_word s z) ss) (cond (is_empty s) None (answer (parameters rows) ss))) ew
    ∙ ap (λ z. or_else (answer (after_word s (each w rs)) ss) (cond (is_empty s) None (answer z ss))) ep
    ∙ ap (λ z. or_else (answer z ss) (cond (is_empty s) None (answer {K = RouteKind} [] ss))) (after-each w s rs)
    ∙ by (same_text w s) (is_empty s) (answer-none ss)
  where
    by : (v u : Bool) → answer {K = RouteKind} [] ss ≡ None
        → or_else (answer (cond v rs []) ss) (cond u None (answer {K = RouteKind} [] ss)) ≡ cond v (answer rs ss) None
    by true true e = or-none (answer rs ss)
    by true false e = ap (λ z. or_else (answer rs ss) z) e ∙ or-none (answer rs ss)
    by false true e = ap (λ z. or_else z None) e
    by false false e = ap (λ z. or_else z z) e

parameter-answer : (rows rs : Pieces) (s : List ℕ) (ss : List (List ℕ)) → words rows ≡ [] → parameters rows ≡ rs
    → answer rows (s ∷ ss) ≡ cond (is_empty s) None (answer rs ss)
parameter-answer rows rs s ss ew ep =
    ap (λ z. or_else (answer (after_word s z) ss) (cond (is_empty s) None (answer (parameters rows) ss))) ew
    ∙ ap (λ z. or_else (answer {K = RouteKind} [] ss) (cond (is_empty s) None (answer z ss))) ep
    ∙ ap (λ z. or_else z (cond (is_empty s) None (answer rs ss))) (answer-none ss)

-- the kind of what is found
abbrev pub its_kind : Option RawRoute → Option RouteKind
its_kind None = None
its_kind (Some f) = Some f.0

its_kind-cond : (v : Bool) (a : Option RouteKind) (x : Option RawRoute) → a ≡ its_kind x → cond v a None ≡ its_kind (cond v x None)
its_kind-cond true a x e = e
its_kind-cond false a x e = refl

its_kind-unless : (s : List ℕ) (a : Option RouteKind) (x : Option RawRoute) → a ≡ its_kind x → cond (is_empty s) None a ≡ its_kind (unless_empty s x)
its_kind-unless [] a x e = refl
its_kind-unless (b ∷ s) a x e = e

-- level by level

answer-ending : (k : RouteKind) (ps ss : List (List ℕ)) → answer (([], k) ∷ []) ss ≡ its_kind (ending ss (k, ps))
answer-ending k ps [] = refl
answer-ending k ps (s ∷ ss) =
    parameter-answer (([], k) ∷ []) [] s ss refl refl ∙ by (is_empty s) (answer-none ss)
  where
    by : (v : Bool) → answer {K = RouteKind} [] ss ≡ None → cond v None (answer {K = RouteKind} [] ss) ≡ None
    by true e = refl
    by false e = e

answer-pair : (all one : RouteKind) (ss : List (List ℕ)) → answer (pair_rows all one) ss ≡ its_kind (all_or_one all one ss)
answer-pair all one [] = refl
answer-pair all one (s ∷ ss) =
    parameter-answer (pair_rows all one) (([], one) ∷ []) s ss refl refl
    ∙ its_kind-unless s (answer (([], one) ∷ []) ss) (ending ss (one, s ∷ [])) (answer-ending one (s ∷ []) ss)

answer-one_metric : (id : List ℕ) (ss : List (List ℕ))
    → answer ((word (codes "measures") ∷ [], Measures) ∷ ([], Metric) ∷ []) ss ≡ its_kind (of_one_metric id ss)
answer-one_metric id [] = refl
answer-one_metric id (s ∷ ss) =
    word-answer ((word (codes "measures") ∷ [], Measures) ∷ ([], Metric) ∷ []) (codes "measures") (([], Measures) ∷ []) s ss refl refl
    ∙ its_kind-cond (is_word (codes "measures") s) (answer (([], Measures) ∷ []) ss) (ending ss (Measures, id ∷ [])) (answer-ending Measures (id ∷ []) ss)

answer-metric : (ss : List (List ℕ)) → answer metric_rows ss ≡ its_kind (of_metric ss)
answer-metric [] = refl
answer-metric (s ∷ ss) =
    parameter-answer metric_rows ((word (codes "measures") ∷ [], Measures) ∷ ([], Metric) ∷ []) s ss refl refl
    ∙ its_kind-unless s _ (of_one_metric s ss) (answer-one_metric s ss)

answer-batch_metrics : (ss : List (List ℕ)) → answer ((word (codes "measures") ∷ [], BatchMeasures) ∷ []) ss ≡ its_kind (of_batch_metrics ss)
answer-batch_metrics [] = refl
answer-batch_metrics (s ∷ ss) =
    word-answer ((word (codes "measures") ∷ [], BatchMeasures) ∷ []) (codes "measures") (([], BatchMeasures) ∷ []) s ss refl refl
    ∙ its_kind-cond (is_word (codes "measures") s) _ (ending ss (BatchMeasures, [])) (answer-ending BatchMeasures [] ss)

answer-batch : (ss : List (List ℕ)) → answer batch_rows ss ≡ its_kind (of_batch ss)
answer-batch [] = refl
answer-batch (s ∷ ss) =
    word-answer batch_rows (codes "metrics") ((word (codes "measures") ∷ [], BatchMeasures) ∷ []) s ss refl refl
    ∙ its_kind-cond (is_word (codes "metrics") s) _ (of_batch_metrics ss) (answer-batch_metrics ss)

answer-named : (id name : List ℕ) (ss : List (List ℕ)) → answer named_rows ss ≡ its_kind (of_named_metric id name ss)
answer-named id name [] = refl
answer-named id name (s ∷ ss) =
    word-answer named_rows (codes "measures") (([], NamedMeasures) ∷ []) s ss refl refl
    ∙ its_kind-cond (is_word (codes "measures") s) _ (ending ss (NamedMeasures, id ∷ name ∷ [])) (answer-ending NamedMeasures (id ∷ name ∷ []) ss)

answer-its : (id : List ℕ) (ss : List (List ℕ)) → answer its_rows ss ≡ its_kind (of_its_metrics id ss)
answer-its id [] = refl
answer-its id (s ∷ ss) =
    parameter-answer its_rows named_rows s ss refl refl
    ∙ its_kind-unless s _ (of_named_metric id s ss) (answer-named id s ss)

answer-resource : (id : List ℕ) (ss : List (List ℕ)) → answer resource_rows ss ≡ its_kind (of_one_resource id ss)
answer-resource id [] = refl
answer-resource id (s ∷ ss) =
    word-answer resource_rows (codes "metric") its_rows s ss refl refl
    ∙ its_kind-cond (is_word (codes "metric") s) _ (of_its_metrics id ss) (answer-its id ss)

answer-generic : (ss : List (List ℕ)) → answer generic_rows ss ≡ its_kind (of_generic ss)
answer-generic [] = refl
answer-generic (s ∷ ss) =
    parameter-answer generic_rows resource_rows s ss refl refl
    ∙ its_kind-unless s _ (of_one_resource s ss) (answer-resource s ss)

answer-kinds : (ss : List (List ℕ)) → answer (front (word (codes "generic")) generic_rows) ss ≡ its_kind (of_resource ss)
answer-kinds [] = refl
answer-kinds (s ∷ ss) =
    word-answer (front (word (codes "generic")) generic_rows) (codes "generic") generic_rows s ss refl refl
    ∙ its_kind-cond (is_word (codes "generic") s) _ (of_generic ss) (answer-generic ss)

answer-v1 : (ss : List (List ℕ)) → answer v1_rows ss ≡ its_kind (of_v1 ss)
answer-v1 [] = refl
answer-v1 (s ∷ ss) = by
    (is_word (codes "archive_policy") s) refl
    (is_word (codes "archive_policy_rule") s) refl
    (is_word (codes "batch") s) refl
    (is_word (codes "metric") s) refl
    (is_word (codes "resource") s) refl
  where
    by : (p : Bool) → is_word (codes "archive_policy") s ≡ p
        → (r : Bool) → is_word (codes "archive_policy_rule") s ≡ r
        → (b : Bool) → is_word (codes "batch") s ≡ b
        → (m : Bool) → is_word (codes "metric") s ≡ m
        → (k : Bool) → is_word (codes "resource") s ≡ k
        → answer v1_rows (s ∷ ss) ≡ its_kind (of_v1 (s ∷ ss))
    by true ep r er b eb m em k ek =
        let e : codes "archive_policy" ≡ s = word-is (codes "archive_policy") s ep in
        subst (λ z. answer v1_rows (z ∷ ss) ≡ its_kind (of_v1 (z ∷ ss))) e (alone false (pair_rows Policies Policy) ss ∙ answer-pair Policies Policy ss)
    by false ep true er b eb m em k ek =
        let e : codes "archive_policy_rule" ≡ s = word-is (codes "archive_policy_rule") s er in
        subst (λ z. answer v1_rows (z ∷ ss) ≡ its_kind (of_v1 (z ∷ ss))) e (alone false (pair_rows Rules Rule) ss ∙ answer-pair Rules Rule ss)
    by false ep false er true eb m em k ek =
        let e : codes "batch" ≡ s = word-is (codes "batch") s eb in
        subst (λ z. answer v1_rows (z ∷ ss) ≡ its_kind (of_v1 (z ∷ ss))) e (alone false batch_rows ss ∙ answer-batch ss)
    by false ep false er false eb true em k ek =
        let e : codes "metric" ≡ s = word-is (codes "metric") s em in
        subst (λ z. answer v1_rows (z ∷ ss) ≡ its_kind (of_v1 (z ∷ ss))) e (alone false metric_rows ss ∙ answer-metric ss)
    by false ep false er false eb false em true ek =
        let e : codes "resource" ≡ s = word-is (codes "resource") s ek in
        subst (λ z. answer v1_rows (z ∷ ss) ≡ its_kind (of_v1 (z ∷ ss))) e
        (alone false (front (word (codes "generic")) generic_rows) ss ∙ answer-kinds ss)
    by false ep false er false eb false em false ek =
        let none : after_word s (words v1_rows) ≡ [] = rw (ep, er, eb, em, ek) refl in
        let right : of_v1 (s ∷ ss) ≡ None = rw (ep, er, eb, em, ek) refl in
        ap (λ z. or_else (answer z ss) (cond (is_empty s) None (answer {K = RouteKind} [] ss))) none
        ∙ alone (is_empty s) [] ss ∙ answer-none ss ∙ ap its_kind (sym right)

answer-root : (ss : List (List ℕ)) → answer routes ss ≡ its_kind (of_root ss)
answer-root [] = refl
answer-root (s ∷ ss) =
    word-answer routes (codes "v1") v1_rows s ss refl refl ∙ its_kind-cond (is_word (codes "v1") s) _ (of_v1 ss) (answer-v1 ss)

-- a path is its first segment, and the others with a slash in front of each
abbrev pub Splits : List ℕ → Type 0
Splits path =
    (s : List ℕ) × (ss : List (List ℕ)) × (segments path ≡ s ∷ ss) × (path ≡ s ++ joined ss) × (plain s ≡ true) × (all_plain ss ≡ true)

pub splits : (path : List ℕ) → IsText path → Splits path
splits [] h = ([], [], refl, refl, refl, refl)
splits (b ∷ path) h = by (b == slash) refl h.0 (splits path h.1)
  where
    by : (v : Bool) → (b == slash) ≡ v → b < 256 → Splits path → Splits (b ∷ path)
    by true e l p =
        let same : b ≡ slash = grind (arith, nat_tests) in (
          [],
          p.0 ∷ p.1,
          rw e (ap (λ z. [] ∷ z) p.2),
          rw same (ap (λ z. slash ∷ z) p.3),
          refl,
          rw p.4 p.5,
        )
    by false e l p =
        let byte : ltb b 256 ≡ true = grind (arith, nat_tests) in (
          b ∷ p.0,
          p.1,
          rw e (ap (λ z. longer b z) p.2),
          ap (λ z. b ∷ z) p.3,
          rw (byte, e, p.4) refl,
          p.5,
        )

-- the law: what the router answers to a path is the kind of what the path leads to
pub first-route : (path : List ℕ) → IsText path → map_key (λ r. r.value) (first table path) ≡ its_kind (raw_route_of path)
first-route path h =
    let p = splits path h in
    sym (first-rename (λ r. r.value) table path) ∙ ap (λ z. first z path) table-routes ∙ by p.0 p.1 p.2 p.3 p.4 p.5
  where
    by : (s : List ℕ) (ss : List (List ℕ)) → segments path ≡ s ∷ ss → path ≡ s ++ joined ss → plain s ≡ true → all_plain ss ≡ true
        → first (compiled routes) path ≡ its_kind (raw_route_of path)
    by [] ss e q ps pss =
        ap (λ z. first (compiled routes) z) q
        ∙ first-answer routes ss plain-routes pss
        ∙ answer-root ss
        ∙ ap (λ z. its_kind (of_segments z)) (sym e)
    by (b ∷ s) ss e q ps pss =
        ap (λ z. first (compiled routes) z) q
        ∙ first-byte (compiled routes) b (s ++ joined ss) (step-compiled param_token routes refl) (step-compiled catch_all_token routes refl)
        ∙ ap (λ z. first z (s ++ joined ss)) (step-compiled b routes (not-slash b s ps).1)
        ∙ seek-none 0 (s ++ joined ss)
        ∙ ap (λ z. its_kind (of_segments z)) (sym e)

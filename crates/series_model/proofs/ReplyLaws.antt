-- The definitions that are asked for, one more at a time.
use Rattle.std.proofs.Common.{◌≡◌, ℕ, suc, ◌+◌, ◌-◌, ◌<◌, Bool, true, false, cond, List, [], ◌∷◌, ◌++◌, drop, length, get_or, reverse, Some, refl, sym, ap, ◌∙◌, append-nil, arith}
use Rattle.std.specs.List.{filter, flat_map}
use Rattle.std.proofs.Math.Seq.{drop-cons}
use Rattle.std.proofs.lemmas.List.{reverse-append}
use Rattle.std.proofs.lemmas.List.Elements.{filter-append}
use Rattle.std.proofs.lemmas.Grind.{flat_map-append}
use Rattle.archive_policy.specs.declared.definition.Definition.{Definition}
use Rattle.archive_policy.specs.declared.kind.Kind.{Kind}
use Rattle.series_model.specs.declared.answer.Row.{Row}
use Rattle.series_model.specs.declared.measure.Measure.{Measure}
use Rattle.series_model.specs.declared.query.Query.{Query}
use Rattle.series_model.specs.Answer.{oldest_point_of}
use Rattle.series_model.specs.Points.{points_of}
use Rattle.series_model.specs.Query.{is_named, asked_of, rows_over, rows_wanted}

-- the next finer definition comes behind those that are coarser
asked_more : (query : Query) (ds : List Definition) (k : ℕ) (d : Definition) → k < length ds → d ≡ get_or ds (length ds - 1 - k) d → asked_of query (drop (length ds - (k + 1)) ds) ≡ asked_of query (drop (length ds - k) ds) ++ cond (is_named query.granularity d.granularity) (d ∷ []) []
asked_more query ds k d below is =
    let p : Definition → Bool = λ (x : Definition). is_named query.granularity x.granularity in
    let rest = drop (length ds - k) ds in
    let at : length ds - (k + 1) ≡ length ds - 1 - k = omega arith in
    let next : suc (length ds - 1 - k) ≡ length ds - k = omega arith in
    let cut : drop (length ds - (k + 1)) ds ≡ d ∷ rest =
    ap (λ i. drop i ds) at ∙ drop-cons ds (length ds - 1 - k) d (omega arith) ∙ ap (λ x. x ∷ drop (suc (length ds - 1 - k)) ds) (sym is) ∙ ap (λ i. d ∷ drop i ds) next in
    ap (asked_of query) cut ∙ ap reverse (filter-append p (d ∷ []) rest)
    ∙ reverse-append (filter p (d ∷ [])) (filter p rest)
    ∙ ap (λ l. reverse (filter p rest) ++ l) (one (p d))
  where
    one : (b : Bool) → reverse (cond b (d ∷ []) []) ≡ cond b (d ∷ []) []
    one true = refl
    one false = refl

-- the rows of the next definition
pub rows_more : (query : Query) (kind : Kind) (series : List Measure) (last : ℕ) (ds : List Definition) (k : ℕ) (d : Definition) → k < length ds → d ≡ get_or ds (length ds - 1 - k) d → rows_over query kind series (Some last) (asked_of query (drop (length ds - (k + 1)) ds)) ≡ rows_over query kind series (Some last) (asked_of query (drop (length ds - k) ds)) ++ cond (is_named query.granularity d.granularity) (rows_wanted query d.granularity (oldest_point_of last d) (points_of kind d.granularity series)) []
rows_more query kind series last ds k d below is =
    let rows : Definition → List Row = λ (x : Definition). rows_wanted query x.granularity (oldest_point_of last x) (points_of kind x.granularity series) in
    ap (flat_map rows) (asked_more query ds k d below is)
    ∙ flat_map-append rows (asked_of query (drop (length ds - k) ds)) (cond (is_named query.granularity d.granularity) (d ∷ []) [])
    ∙ ap (λ l. flat_map rows (asked_of query (drop (length ds - k) ds)) ++ l) (one rows (is_named query.granularity d.granularity))
  where
    one : (rows : Definition → List Row) (b : Bool) → flat_map rows (cond b (d ∷ []) []) ≡ cond b (rows d) []
    one rows true = append-nil (rows d)
    one rows false = refl

pub rows_named : (query : Query) (kind : Kind) (series : List Measure) (last : ℕ) (ds : List Definition) (k : ℕ) (d : Definition) → k < length ds → d ≡ get_or ds (length ds - 1 - k) d → is_named query.granularity d.granularity ≡ true → rows_over query kind series (Some last) (asked_of query (drop (length ds - (k + 1)) ds)) ≡ rows_over query kind series (Some last) (asked_of query (drop (length ds - k) ds)) ++ rows_wanted query d.granularity (oldest_point_of last d) (points_of kind d.granularity series)
rows_named query kind series last ds k d below is named =
    rows_more query kind series last ds k d below is
    ∙ ap (λ b. rows_over query kind series (Some last) (asked_of query (drop (length ds - k) ds)) ++ cond b (rows_wanted query d.granularity (oldest_point_of last d) (points_of kind d.granularity series)) []) named

pub rows_unnamed : (query : Query) (kind : Kind) (series : List Measure) (last : ℕ) (ds : List Definition) (k : ℕ) (d : Definition) → k < length ds → d ≡ get_or ds (length ds - 1 - k) d → is_named query.granularity d.granularity ≡ false → rows_over query kind series (Some last) (asked_of query (drop (length ds - (k + 1)) ds)) ≡ rows_over query kind series (Some last) (asked_of query (drop (length ds - k) ds))
rows_unnamed query kind series last ds k d below is unnamed =
    rows_more query kind series last ds k d below is
    ∙ ap (λ b. rows_over query kind series (Some last) (asked_of query (drop (length ds - k) ds)) ++ cond b (rows_wanted query d.granularity (oldest_point_of last d) (points_of kind d.granularity series)) []) unnamed
    ∙ append-nil (rows_over query kind series (Some last) (asked_of query (drop (length ds - k) ds)))

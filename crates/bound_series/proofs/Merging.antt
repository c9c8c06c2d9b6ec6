-- Measures put in their places among others, from the front on.
use Rattle.std.proofs.Common.{◌≡◌, ℕ, suc, ◌-◌, false, None, add-one, ◌+◌, ◌<◌, ◌≤◌, List, [], ◌∷◌, ◌++◌, take, drop, length, get_or, refl, sym, ap, subst, ◌∙◌, arith, append_assoc, append-nil}
use Rattle.std.specs.List.{All, fold}
use Rattle.std.proofs.Math.Seq.{drop-cons}
use Rattle.std.proofs.lemmas.Bool.{leb-false}
use Rattle.std.proofs.lemmas.List.{take_more, take-append-drop, drop-drop, get_or-take, get_or-drop, length-take}
use Rattle.std.proofs.lemmas.List.Elements.{All-head, All-tail, All-push, All-weaker, All-append}
use Rattle.std.proofs.lemmas.List.Sums.{fold-append}
use Rattle.series_model.specs.declared.measure.Measure.{Measure}
use Rattle.series_model.specs.Series.{put}
use Rattle.series_model.proofs.Rising.{Above-lower, Rises, times}
use Rattle.series_model.proofs.TailLaws.{put-lower, put-same, put-higher, series-own, series-append}
use Rattle.series_model.specs.Tail.{last_onto}
use Rattle.bound_series.specs.Turn.{reaches}

-- behind members that are before a measure
pub put-behind : (out rest : List Measure) (m : Measure) → All (λ x. x.at < m.at) out → put (out ++ rest) m ≡ out ++ put rest m
put-behind [] rest m all = refl
put-behind (x ∷ out) rest m all =
    put-higher x (out ++ rest) m (All-head (λ (x : Measure). x.at < m.at) x out all)
    ∙ ap (λ l. x ∷ l) (put-behind out rest m (All-tail (λ (x : Measure). x.at < m.at) x out all))

-- the members between two places
abbrev pub between : List Measure → ℕ → ℕ → List Measure
between old from place = take (place - from) (drop from old)

pub range_before : (old : List Measure) (from place at : ℕ) → from ≤ place → place ≤ length old → ((k : ℕ) (d : Measure) → from ≤ k → k < place → (get_or old k d).at < at) → All (λ x. x.at < at) (between old from place)
range_before old from place at after inside before =
    λ k d less.
    let below : k < place - from = omega (arith, less, length-take (place - from) (drop from old)) in
    subst (λ (x : Measure). x.at < at) (sym (get_or-take (place - from) (drop from old) k d below ∙ get_or-drop from old k d)) (before (from + k) d (omega arith) (omega arith))

-- members that are before the measure move
pub move_all : (old : List Measure) (from place : ℕ) (m : Measure) (out : List Measure) → from ≤ place → place ≤ length old → ((k : ℕ) (d : Measure) → from ≤ k → k < place → (get_or old k d).at < m.at) → (out ++ between old from place) ++ put (drop place old) m ≡ out ++ put (drop from old) m
move_all old from place m out after inside before =
    let range = between old from place in
    let upto : from + (place - from) ≡ place = omega arith in
    let cut : drop from old ≡ range ++ drop place old =
    sym (take-append-drop (place - from) (drop from old)) ∙ ap (λ l. range ++ l) (drop-drop (place - from) from old ∙ ap (λ n. drop n old) upto) in
    append_assoc out range (put (drop place old) m)
    ∙ ap (λ l. out ++ l) (sym (put-behind range (drop place old) m (range_before old from place m.at after inside before)) ∙ ap (λ l. put l m) (sym cut))

-- the measure takes its place in front of what is left, instead of one of its time
pub place_same : (old : List Measure) (i : ℕ) (x m : Measure) (out : List Measure) → i < length old → x ≡ get_or old i x → x.at ≡ m.at → (out ++ m ∷ []) ++ drop (i + 1) old ≡ out ++ put (drop i old) m
place_same old i x m out below is same =
    append_assoc out (m ∷ []) (drop (i + 1) old)
    ∙ ap (λ i. out ++ m ∷ drop i old) (add-one i)
    ∙ ap (λ l. out ++ l) (sym (ap (λ l. put l m) (drop-cons old i x below ∙ ap (λ y. y ∷ drop (suc i) old) (sym is)) ∙ put-same x (drop (suc i) old) m (sym same)))

pub place_lower : (old : List Measure) (i : ℕ) (x m : Measure) (out : List Measure) → i < length old → x ≡ get_or old i x → m.at < x.at → (out ++ m ∷ []) ++ drop i old ≡ out ++ put (drop i old) m
place_lower old i x m out below is less =
    append_assoc out (m ∷ []) (drop i old)
    ∙ ap (λ l. out ++ l)
    (ap (λ l. m ∷ l) (drop-cons old i x below ∙ ap (λ y. y ∷ drop (suc i) old) (sym is))
    ∙ sym (ap (λ l. put l m) (drop-cons old i x below ∙ ap (λ y. y ∷ drop (suc i) old) (sym is)) ∙ put-lower x (drop (suc i) old) m less))

pub place_last : (old : List Measure) (i : ℕ) (m : Measure) (out : List Measure) → drop i old ≡ [] → (out ++ m ∷ []) ++ drop i old ≡ out ++ put (drop i old) m
place_last old i m out none =
    ap (λ l. (out ++ m ∷ []) ++ l) none ∙ append-nil (out ++ m ∷ []) ∙ sym (ap (λ l. out ++ put l m) none)

-- members and a series behind the last of them
pub joined : (points series : List Measure) → Rises (times points) → Rises (times series) → reaches (last_onto None points) series ≡ false → Rises (times (points ++ series))
joined [] series points_rise series_rise apart = series_rise
joined (x ∷ []) [] points_rise series_rise apart = points_rise
joined (x ∷ []) (m ∷ series) points_rise series_rise apart =
    let less : x.at < m.at = leb-false m.at x.at apart in
    ((less, Above-lower x.at m.at (times series) (omega arith) series_rise.0), series_rise)
joined (x ∷ y ∷ points) series points_rise series_rise apart =
    let rest = joined (y ∷ points) series points_rise.1 series_rise apart in
    ((points_rise.0.0, Above-lower x.at y.at (times (points ++ series)) (omega (arith, points_rise.0.0)) rest.0), rest)

-- a series that begins behind members comes to their end
pub fold-behind : (points series : List Measure) → Rises (times points) → Rises (times series) → reaches (last_onto None points) series ≡ false → fold put points series ≡ points ++ series
fold-behind points series points_rise series_rise apart =
    ap (λ l. fold put l series) (sym (series-own points points_rise))
    ∙ sym (series-append points series)
    ∙ series-own (points ++ series) (joined points series points_rise series_rise apart)

-- a loop's step
pub fold-more : (old new : List Measure) (i : ℕ) (m : Measure) (out rest : List Measure) → i < length new → m ≡ get_or new i m → out ++ rest ≡ fold put old (take i new) → All (λ x. x.at < m.at) out → out ++ put rest m ≡ fold put old (take (i + 1) new)
fold-more old new i m out rest below is so_far before =
    sym (put-behind out rest m before) ∙ ap (λ l. put l m) so_far
    ∙ sym (fold-append put old (take i new) (m ∷ []))
    ∙ ap (λ l. fold put old (take i new ++ l ∷ [])) is
    ∙ ap (fold put old) (sym (take_more new i m below))

-- what was merged isn't after the measure
pub merged_upto : (out range : List Measure) (m : Measure) → All (λ x. x.at < m.at) out → All (λ x. x.at < m.at) range → All (λ x. x.at ≤ m.at) ((out ++ range) ++ m ∷ [])
merged_upto out range m so_far here =
    let L : Measure → Type 0 = λ x. x.at < m.at in
    let P : Measure → Type 0 = λ x. x.at ≤ m.at in
    All-push P (out ++ range) m (All-weaker L P (λ x less. omega arith) (out ++ range) (All-append L out range so_far here)) (omega arith)

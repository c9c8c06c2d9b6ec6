-- The points of a series are those of the buckets that have a value, and no others.
use Rattle.std.proofs.Common.{◌≡◌, ℕ, suc, ◌+◌, ◌-◌, ◌*◌, ◌/◌, ◌%◌, ◌<◌, ◌≤◌, Bool, true, false, cond, leb, ltb, eqb, ◌&&◌, List, [], ◌∷◌, ◌++◌, map, length, get_or, Option, Some, None, ◌-ℤ◌, refl, sym, ap, subst, ◌∙◌, arith}
use Rattle.std.specs.List.{Contains, filter, filter_map, cons_option}
use Rattle.std.specs.Option.{option_map}
use Rattle.std.proofs.Math.Logic.{⊎_elim}
use Rattle.std.proofs.Math.Nat.{mul-mod_left, mul_comm, add-mul, mul-le-mul_right, div-eq_of_lt-le}
use Rattle.std.proofs.lemmas.Nat.{div-add-mod', le-div}
use Rattle.std.proofs.lemmas.Bool.{leb-true, ltb-true, and_parts, eqb-true, eqb-false, eq-eqb, ne_eqb, cases_lt}
use Rattle.std.proofs.lemmas.Option.{same_Some, none-some}
use Rattle.gno_num.specs.Floor.{floor_of}
use Rattle.gno_num.specs.Fraction.{Fraction}
use Rattle.archive_policy.specs.declared.kind.Kind.{Kind}
use Rattle.archive_policy.specs.Kinds.{is_rate}
use Rattle.series_model.specs.declared.measure.Measure.{Measure}
use Rattle.series_model.specs.declared.point.Point.{Point}
use Rattle.series_model.specs.Bucket.{changes, changes_after, members_for, value_at, value_of}
use Rattle.series_model.specs.Points.{with_start, starts_of, point_at, points_of, IsPoint, ArePoints}
use Rattle.series_model.proofs.ByKey.{filter_has, filter_kept, Rises-filter, one_rising}
use Rattle.series_model.proofs.Members.{Contains-here, Contains-there, Contains-cases, Contains-none, filter_map-keeps, filter_map-kept}
use Rattle.series_model.proofs.Rising.{Above, Above-lower, Rises, rising_from_Rises, Rises_from_rising, times}

-- ---- floors

pub floor-le : (a g : ℕ) → floor_of a g ≤ a
floor-le a g = omega (arith, div-add-mod' a g)

pub floor-above : (a g : ℕ) → 0 < g → a < floor_of a g + g
floor-above a g positive = omega (arith, div-add-mod' a g)

floor-zero : (a g : ℕ) → g ≤ 0 → floor_of a g ≡ 0
floor-zero a g none = omega (arith, floor-le a g, mul_comm (a / g) g)

pub floor-mono : (a b g : ℕ) → a ≤ b → floor_of a g ≤ floor_of b g
floor-mono a b g le =
    ⊎_elim
    (λ positive. mul-le-mul_right g (le-div (a / g) b g positive (omega (arith, floor-le a g, le))))
    (λ none. omega (arith, floor-zero a g none))
    (cases_lt 0 g)

pub floor-multiple : (a g : ℕ) → floor_of a g % g ≡ 0
floor-multiple a g = mul-mod_left (a / g) g

-- a multiple is the floor of each time in its stretch
pub floor-own : (s a g : ℕ) → s % g ≡ 0 → s ≤ a → a < s + g → floor_of a g ≡ s
floor-own s a g multiple from until =
    let exact : s / g * g ≡ s = omega (arith, div-add-mod' s g) in
    let next : (s / g + 1) * g ≡ s / g * g + g = omega (arith, add-mul (s / g) 1 g) in
    let same : a / g ≡ s / g = div-eq_of_lt-le g (omega (arith, exact, from)) (omega (arith, exact, next, until)) in
    ap (λ q. q * g) same ∙ exact

-- ---- starts

-- what holds of a start that is put in front
start_cases : (P : List ℕ → Type 0) (s t : ℕ) (ts : List ℕ) → (s ≡ t → P (t ∷ ts)) → ((s ≡ t → ⊥) → P (s ∷ t ∷ ts)) → P (with_start s (t ∷ ts))
start_cases P s t ts same apart = by (eqb s t) (eqb-true s t) (eqb-false s t)
  where
    by : (b : Bool) → (b ≡ true → s ≡ t) → (b ≡ false → s ≡ t → ⊥) → P (cond b (t ∷ ts) (s ∷ t ∷ ts))
    by true eq ne = same (eq refl)
    by false eq ne = apart (ne refl)

-- each is at or after a time
abbrev pub From : ℕ → List ℕ → Type 0
From at [] = Unit {0}
From at (x ∷ xs) = (at ≤ x) × From at xs

From-with : (at s : ℕ) (ts : List ℕ) → at ≤ s → From at ts → From at (with_start s ts)
From-with at s [] le h = (le, tt)
From-with at s (t ∷ ts) le h = start_cases (From at) s t ts (λ _. h) (λ _. (le, h))

-- the starts of times after one
From-starts : (g at : ℕ) (ts : List ℕ) → Above at ts → From (floor_of at g) (starts_of g ts)
From-starts g at [] h = tt
From-starts g at (t ∷ ts) h =
    From-with (floor_of at g) (floor_of t g) (starts_of g ts) (floor-mono at t g (omega (arith, h.0))) (From-starts g at ts h.1)

Rises-with : (s : ℕ) (ts : List ℕ) → From s ts → Rises ts → Rises (with_start s ts)
Rises-with s [] f h = (tt, tt)
Rises-with s (t ∷ ts) f h =
    start_cases Rises s t ts (λ _. h) (λ apart. ((omega (arith, f.0, apart), Above-lower s t ts f.0 h.0), h))

pub Rises-starts : (g : ℕ) (ts : List ℕ) → Rises ts → Rises (starts_of g ts)
Rises-starts g [] h = tt
Rises-starts g (t ∷ ts) h = Rises-with (floor_of t g) (starts_of g ts) (From-starts g t ts h.0) (Rises-starts g ts h.1)

with_has : (s : ℕ) (ts : List ℕ) → Contains (with_start s ts) s
with_has s [] = Contains-here s [] s refl
with_has s (t ∷ ts) =
    start_cases (λ l. Contains l s) s t ts (λ same. Contains-here t ts s (sym same)) (λ _. Contains-here s (t ∷ ts) s refl)

with_keeps : (s : ℕ) (ts : List ℕ) (x : ℕ) → Contains ts x → Contains (with_start s ts) x
with_keeps s [] x c = absurd (Contains-none x c)
with_keeps s (t ∷ ts) x c = start_cases (λ l. Contains l x) s t ts (λ _. c) (λ _. Contains-there s (t ∷ ts) x c)

with_from : (s : ℕ) (ts : List ℕ) (x : ℕ) → Contains (with_start s ts) x → Contains (s ∷ ts) x
with_from s [] x c = c
with_from s (t ∷ ts) x c =
    start_cases (λ l. Contains l x → Contains (s ∷ t ∷ ts) x) s t ts (λ _ there. Contains-there s (t ∷ ts) x there) (λ _ there. there) c

-- the stretch of each time has a start
pub starts_has : (g at : ℕ) (ts : List ℕ) → Contains ts at → Contains (starts_of g ts) (floor_of at g)
starts_has g at [] c = absurd (Contains-none at c)
starts_has g at (t ∷ ts) c =
    ⊎_elim
    (λ same. subst (λ x. Contains (starts_of g (t ∷ ts)) (floor_of x g)) same (with_has (floor_of t g) (starts_of g ts)))
    (λ there. with_keeps (floor_of t g) (starts_of g ts) (floor_of at g) (starts_has g at ts there))
    (Contains-cases t ts at c)

-- each start is that of a time
pub starts_from : (g : ℕ) (ts : List ℕ) (s : ℕ) → Contains (starts_of g ts) s → (at : ℕ) × Contains ts at × (floor_of at g ≡ s)
starts_from g [] s c = absurd (Contains-none s c)
starts_from g (t ∷ ts) s c =
    ⊎_elim
    (λ same. (t, Contains-here t ts t refl, same))
    (λ there. let r = starts_from g ts s there in (r.0, Contains-there t ts r.0 r.1, r.2))
    (Contains-cases (floor_of t g) (starts_of g ts) s (with_from (floor_of t g) (starts_of g ts) s c))

-- ---- one time more behind others

-- a start behind others, unless it is the last of them
abbrev pub push_start : List ℕ → ℕ → List ℕ
push_start [] s = s ∷ []
push_start (x ∷ []) s = cond (eqb x s) (x ∷ []) (x ∷ s ∷ [])
push_start (x ∷ y ∷ ys) s = x ∷ push_start (y ∷ ys) s

with-push : (a : ℕ) (ss : List ℕ) (s : ℕ) → with_start a (push_start ss s) ≡ push_start (with_start a ss) s
with-push a [] s = by (eqb a s) (eqb-true a s)
  where
    by : (b : Bool) → (b ≡ true → a ≡ s) → cond b (s ∷ []) (a ∷ s ∷ []) ≡ cond b (a ∷ []) (a ∷ s ∷ [])
    by true is = ap (λ x. x ∷ []) (sym (is refl))
    by false is = refl
with-push a (x ∷ []) s = by (eqb a x) (eqb x s) refl refl
  where
    by : (b d : Bool) → eqb a x ≡ b → eqb x s ≡ d → with_start a (cond d (x ∷ []) (x ∷ s ∷ [])) ≡ push_start (cond b (x ∷ []) (a ∷ x ∷ [])) s
    by true true ax xs = ap (λ b. cond b (x ∷ []) (a ∷ x ∷ [])) ax ∙ sym (ap (λ b. cond b (x ∷ []) (x ∷ s ∷ [])) xs)
    by true false ax xs = ap (λ b. cond b (x ∷ s ∷ []) (a ∷ x ∷ s ∷ [])) ax ∙ sym (ap (λ b. cond b (x ∷ []) (x ∷ s ∷ [])) xs)
    by false true ax xs = ap (λ b. cond b (x ∷ []) (a ∷ x ∷ [])) ax ∙ sym (ap (λ b. a ∷ cond b (x ∷ []) (x ∷ s ∷ [])) xs)
    by false false ax xs = ap (λ b. cond b (x ∷ s ∷ []) (a ∷ x ∷ s ∷ [])) ax ∙ sym (ap (λ b. a ∷ cond b (x ∷ []) (x ∷ s ∷ [])) xs)
with-push a (x ∷ y ∷ ys) s = by (eqb a x)
  where
    by : (b : Bool) → cond b (x ∷ push_start (y ∷ ys) s) (a ∷ x ∷ push_start (y ∷ ys) s) ≡ push_start (cond b (x ∷ y ∷ ys) (a ∷ x ∷ y ∷ ys)) s
    by true = refl
    by false = refl

pub starts-push : (g : ℕ) (ts : List ℕ) (t : ℕ) → starts_of g (ts ++ t ∷ []) ≡ push_start (starts_of g ts) (floor_of t g)
starts-push g [] t = refl
starts-push g (x ∷ ts) t =
    ap (with_start (floor_of x g)) (starts-push g ts t) ∙ with-push (floor_of x g) (starts_of g ts) (floor_of t g)

pub push-known : (ss : List ℕ) (s : ℕ) → 0 < length ss → get_or ss (length ss - 1) s ≡ s → push_start ss s ≡ ss
push-known [] s some is = absurd (omega arith)
push-known (x ∷ []) s some is = ap (λ b. cond b (x ∷ []) (x ∷ s ∷ [])) (eq-eqb x s is)
push-known (x ∷ y ∷ ys) s some is =
    let at : length (x ∷ y ∷ ys) - 1 ≡ suc (length (y ∷ ys) - 1) = omega arith in
    ap (λ l. x ∷ l) (push-known (y ∷ ys) s (omega arith) (sym (ap (λ i. get_or (x ∷ y ∷ ys) i s) at) ∙ is))

pub push-new : (ss : List ℕ) (s : ℕ) → (0 < length ss → get_or ss (length ss - 1) s ≡ s → ⊥) → push_start ss s ≡ ss ++ s ∷ []
push-new [] s apart = refl
push-new (x ∷ []) s apart = ap (λ b. cond b (x ∷ []) (x ∷ s ∷ [])) (ne_eqb x s (apart (omega arith)))
push-new (x ∷ y ∷ ys) s apart =
    let at : length (x ∷ y ∷ ys) - 1 ≡ suc (length (y ∷ ys) - 1) = omega arith in
    ap (λ l. x ∷ l) (push-new (y ∷ ys) s (λ some is. apart (omega arith) (ap (λ i. get_or (x ∷ y ∷ ys) i s) at ∙ is)))

-- ---- members and their times

time_in : (series : List Measure) (m : Measure) → Contains series m → Contains (times series) m.at
time_in [] m c = absurd (Contains-none m c)
time_in (x ∷ series) m c =
    ⊎_elim
    (λ same. Contains-here x.at (times series) m.at (ap (λ (y : Measure). y.at) same))
    (λ there. Contains-there x.at (times series) m.at (time_in series m there))
    (Contains-cases x series m c)

-- the first that passes a test
first_in : (p : Measure → Bool) (series : List Measure) → (filter p series ≡ [] → ⊥) → (m : Measure) × Contains series m × (p m ≡ true)
first_in p [] some = absurd (some refl)
first_in p (x ∷ series) some = by (first_in p series) (p x) refl
  where
    by : ((filter p series ≡ [] → ⊥) → (m : Measure) × Contains series m × (p m ≡ true)) → (b : Bool) → p x ≡ b → (m : Measure) × Contains (x ∷ series) m × (p m ≡ true)
    by rest true is = (x, Contains-here x series x refl, is)
    by rest false is =
        let r = rest (λ none. some (ap (λ b. cond b (x ∷ filter p series) (filter p series)) is ∙ none)) in
        (r.0, Contains-there x series r.0 r.1, r.2)

-- a change is at the time of a member
after_time : (before : Measure) (series : List Measure) (c : Measure) → Contains (changes_after before series) c → (m : Measure) × Contains series m × (m.at ≡ c.at)
after_time before [] c there = absurd (Contains-none c there)
after_time before (x ∷ series) c there =
    let change : Measure = record { at = x.at; value = x.value -ℤ before.value } in
    ⊎_elim
    (λ same. (x, Contains-here x series x refl, ap (λ (y : Measure). y.at) same))
    (λ behind. let r = after_time x series c behind in (r.0, Contains-there x series r.0 r.1, r.2))
    (Contains-cases change (changes_after x series) c there)

-- what a kind is taken of is at the time of a member
time_of : (kind : Kind) (series : List Measure) (c : Measure) → Contains (members_for kind series) c → (m : Measure) × Contains series m × (m.at ≡ c.at)
time_of kind series c = by (is_rate kind) series
  where
    by : (b : Bool) (series : List Measure) → Contains (cond b (changes series) series) c → (m : Measure) × Contains series m × (m.at ≡ c.at)
    by false series there = (c, there, refl)
    by true [] there = absurd (Contains-none c there)
    by true (x ∷ series) there =
        let r = after_time x series c there in (r.0, Contains-there x series r.0 r.1, r.2)

-- a bucket that has a value has a member
pub bucket_member : (kind : Kind) (g start : ℕ) (series : List Measure) (v : Fraction) → value_at kind g series start ≡ Some v → (m : Measure) × Contains series m × (start ≤ m.at) × (m.at < start + g)
bucket_member kind g start series v found =
    let r = first_in (λ m. leb start m.at && ltb m.at (start + g)) (members_for kind series) (λ none. none-some v (sym (ap (λ ms. value_of kind (map (λ (m : Measure). m.value) ms)) none) ∙ found)) in
    let parts = and_parts (leb start r.0.at) (ltb r.0.at (start + g)) r.2 in
    let s = time_of kind series r.0 r.1 in
    (s.0, s.1, omega (arith, s.2, leb-true start r.0.at parts.0), omega (arith, s.2, ltb-true r.0.at (start + g) parts.1))

-- ---- what is found along starts that rise

module _ {X : Type 0} (key : X → ℕ) (h : ℕ → Option X) (own : (s : ℕ) (x : X) → h s ≡ Some x → s ≡ key x) where
  above_kept : (at : ℕ) (ss : List ℕ) → Above at ss → Above at (map key (filter_map h ss))
  above_kept at [] a = tt
  above_kept at (s ∷ ss) a = by (above_kept at ss a.1) (h s) refl
    where
      by : Above at (map key (filter_map h ss)) → (o : Option X) → h s ≡ o → Above at (map key (cons_option o (filter_map h ss)))
      by rest None is = rest
      by rest (Some x) is = (omega (arith, a.0, own s x is), rest)

  pub rises_kept : (ss : List ℕ) → Rises ss → Rises (map key (filter_map h ss))
  rises_kept [] r = tt
  rises_kept (s ∷ ss) r = by (rises_kept ss r.1) (h s) refl
    where
      by : Rises (map key (filter_map h ss)) → (o : Option X) → h s ≡ o → Rises (map key (cons_option o (filter_map h ss)))
      by rest None is = rest
      by rest (Some x) is =
          (above_kept (key x) ss (subst (λ at. Above at ss) (own s x is) r.0), rest)

-- ---- points

-- the key of a point
abbrev pub at_of : Point → ℕ
at_of p = p.at

point_parts : (start : ℕ) (o : Option Fraction) (p : Point) → option_map (λ value. record { at = start; value = value }) o ≡ Some p → (start ≡ p.at) × (o ≡ Some p.value)
point_parts start None p is = absurd (none-some p is)
point_parts start (Some value) p is =
    let made : Point = record { at = start; value = value } in
    let same : made ≡ p = same_Some made p is in
    (ap (λ (q : Point). q.at) same, ap (λ (q : Point). Some q.value) same)

point_made : (start : ℕ) (o : Option Fraction) (p : Point) → start ≡ p.at → o ≡ Some p.value → option_map (λ value. record { at = start; value = value }) o ≡ Some p
point_made start o p at value =
    let made : ℕ → Fraction → Point = λ at value. record { at = at; value = value } in
    ap (option_map (made start)) value ∙ ap (λ at. Some (made at p.value)) at

pub Rises-points : (kind : Kind) (g : ℕ) (series : List Measure) → Rises (times series) → Rises (map at_of (points_of kind g series))
Rises-points kind g series rising =
    rises_kept at_of (point_at kind g series) (λ s p is. (point_parts s (value_at kind g series s) p is).0) (starts_of g (times series)) (Rises-starts g (times series) rising)

pub point_found : (kind : Kind) (g : ℕ) (series : List Measure) (p : Point) → Contains (points_of kind g series) p → IsPoint kind g series p
point_found kind g series p c =
    let kept = filter_map-kept (point_at kind g series) (starts_of g (times series)) p c in
    let start = starts_from g (times series) kept.0 kept.1 in
    let parts = point_parts kept.0 (value_at kind g series kept.0) p kept.2 in
    record {
      multiple = ap (λ s. s % g) (sym (start.2 ∙ parts.0)) ∙ floor-multiple start.0 g;
      value = ap (value_at kind g series) (sym parts.0) ∙ parts.1;
    }

pub point_kept : (kind : Kind) (g : ℕ) (series : List Measure) (p : Point) → IsPoint kind g series p → Contains (points_of kind g series) p
point_kept kind g series p is =
    let member = bucket_member kind g p.at series p.value is.value in
    let start : Contains (starts_of g (times series)) p.at =
    subst (λ s. Contains (starts_of g (times series)) s) (floor-own p.at member.0.at g is.multiple member.2 member.3) (starts_has g member.0.at (times series) (time_in series member.0 member.1)) in
    filter_map-keeps (point_at kind g series) (starts_of g (times series)) p.at p start (point_made p.at (value_at kind g series p.at) p refl is.value)

pub points_exact : (kind : Kind) (g : ℕ) (series : List Measure) → Rises (times series) → ArePoints (IsPoint kind g series) (points_of kind g series)
points_exact kind g series rising = record {
  rising = rising_from_Rises (map at_of (points_of kind g series)) (Rises-points kind g series rising);
  members = λ p. (point_found kind g series p, point_kept kind g series p);
}

-- there is one such list
pub points_one : (P : Point → Type 0) (xs ys : List Point) → ArePoints P xs → ArePoints P ys → xs ≡ ys
points_one P xs ys h k =
    one_rising at_of xs ys (Rises_from_rising (map at_of xs) h.rising) (Rises_from_rising (map at_of ys) k.rising) (λ p c. (k.members p).1 ((h.members p).0 c)) (λ p c. (h.members p).1 ((k.members p).0 c))

-- the points that pass a test
pub points_filtered : (P : Point → Type 0) (test : Point → Bool) (points : List Point) → ArePoints P points → ArePoints (λ p. P p × (test p ≡ true)) (filter test points)
points_filtered P test points h = record {
  rising = rising_from_Rises (map at_of (filter test points)) (Rises-filter at_of test points (Rises_from_rising (map at_of points) h.rising));
  members = λ p. (
    λ c. let r = filter_kept test points p c in ((h.members p).0 r.0, r.1),
    λ r. filter_has test points p ((h.members p).1 r.0) r.1,
  );
}

-- the same points by another description
pub points_as : (P Q : Point → Type 0) (points : List Point) → ((p : Point) → P p → Q p) → ((p : Point) → Q p → P p) → ArePoints P points → ArePoints Q points
points_as P Q points to from h = record {
  rising = h.rising;
  members = λ p. (λ c. to p ((h.members p).0 c), λ q. (h.members p).1 (from p q));
}

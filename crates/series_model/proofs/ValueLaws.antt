-- What changes, least and greatest values and numbers of distinct values are.
use Rattle.std.proofs.Common.{◌≡◌, ◌≢◌, ℕ, ◌+◌, ◌<◌, ◌≤◌, Bool, true, false, cond, ◌||◌, List, [], ◌∷◌, length, ℤ, ◌-ℤ◌, ◌≤ℤ◌, refl, sym, ap, subst, ◌∙◌, arith}
use Rattle.std.proofs.lemmas.Bool.{false≢true, or_cases, both_ways}
use Rattle.std.proofs.lemmas.List.{get_or_default}
use Rattle.std.specs.List.{All, Contains, list_any, fold}
use Rattle.std.specs.Int.{int_min, int_max}
use Rattle.std.specs.Ordering.{int_eq}
use Rattle.std.proofs.Math.Logic.{⊎_elim}
use Rattle.std.proofs.lemmas.Bool.Decides.{Decides-int_eq}
use Rattle.std.proofs.lemmas.Int.{fold-int_min_bounds, fold-int_min_reached, fold-int_max_bounds, fold-int_max_reached}
use Rattle.std.proofs.lemmas.List.Elements.{All-cons}
use Rattle.std.proofs.lemmas.List.Kept.{AllPairs-cons}
use Rattle.series_model.specs.declared.measure.Measure.{Measure}
use Rattle.series_model.specs.Bucket.{changes, changes_after, least, greatest, distinct_count}
use Rattle.series_model.specs.BucketLaws.{IsChange, IsSetOf}
use Rattle.series_model.proofs.Members.{Contains-here, Contains-there, Contains-cases, Contains-none}
use Rattle.series_model.proofs.Rising.{Rises, times, Above-member}

-- ---- changes

-- a member isn't before the first
not_before : (b : Measure) (series : List Measure) (m : Measure) → Rises (times (b ∷ series)) → Contains (b ∷ series) m → b.at ≤ m.at
not_before b series m h c =
    ⊎_elim
    (λ same. subst (λ (y : Measure). b.at ≤ y.at) same (omega arith))
    (λ there. omega (arith, Above-member b.at series m h.0 there))
    (Contains-cases b series m c)

-- one that is at the time of the first is the first
first_is : (b : Measure) (series : List Measure) (m : Measure) → Rises (times (b ∷ series)) → Contains (b ∷ series) m → m.at ≤ b.at → b ≡ m
first_is b series m h c le =
    ⊎_elim (λ same. same) (λ there. absurd (omega (arith, Above-member b.at series m h.0 there))) (Contains-cases b series m c)

change_found : (b : Measure) (series : List Measure) (c : Measure) → Rises (times (b ∷ series)) → Contains (changes_after b series) c → IsChange (b ∷ series) c
change_found b [] c h there = absurd (Contains-none c there)
change_found b (m ∷ series) c h there =
    let change : Measure = record { at = m.at; value = m.value -ℤ b.value } in
    ⊎_elim
    (λ same. record {
      member = m;
      before = b;
      member_is_one = Contains-there b (m ∷ series) m (Contains-here m series m refl);
      before_is_one = Contains-here b (m ∷ series) b refl;
      at = sym (ap (λ (y : Measure). y.at) same);
      earlier = h.0.0;
      greatest = λ other in_ less. ⊎_elim (λ own. subst (λ (y : Measure). y.at ≤ b.at) own (omega arith)) (λ later. absurd (omega (arith, not_before m series other h.1 later))) (Contains-cases b (m ∷ series) other in_);
      value = sym (ap (λ (y : Measure). y.value) same);
    })
    (λ behind. let r = change_found m series c h.1 behind in record {
      member = r.member;
      before = r.before;
      member_is_one = Contains-there b (m ∷ series) r.member r.member_is_one;
      before_is_one = Contains-there b (m ∷ series) r.before r.before_is_one;
      at = r.at;
      earlier = r.earlier;
      greatest = λ other in_ less. ⊎_elim (λ own. subst (λ (y : Measure). y.at ≤ r.before.at) own (omega (arith, h.0.0, not_before m series r.before h.1 r.before_is_one))) (λ later. r.greatest other later less) (Contains-cases b (m ∷ series) other in_);
      value = r.value;
    })
    (Contains-cases change (changes_after m series) c there)

same_change : (m b c : Measure) → c.at ≡ m.at → c.value ≡ m.value -ℤ b.value → (let change : Measure = record { at = m.at; value = m.value -ℤ b.value } in change ≡ c)
same_change m b c at value =
    let made : ℕ → ℤ → Measure = λ at value. record { at = at; value = value } in
    ap (λ v. made m.at v) (sym value) ∙ ap (λ t. made t c.value) (sym at)

change_kept : (b : Measure) (series : List Measure) (c : Measure) → Rises (times (b ∷ series)) → IsChange (b ∷ series) c → Contains (changes_after b series) c
change_kept b [] c h r =
    absurd (omega (arith, r.earlier, not_before b [] r.before h r.before_is_one, ⊎_elim (λ own. ap (λ (y : Measure). y.at) own) (λ none. absurd (Contains-none r.member none)) (Contains-cases b [] r.member r.member_is_one)))
change_kept b (m ∷ series) c h r =
    let change : Measure = record { at = m.at; value = m.value -ℤ b.value } in
    ⊎_elim
    (λ own. absurd (omega (arith, r.earlier, not_before b (m ∷ series) r.before h r.before_is_one, ap (λ (y : Measure). y.at) own)))
    (λ later. ⊎_elim
    (λ here.
    let less : r.before.at < m.at = omega (arith, r.earlier, ap (λ (y : Measure). y.at) here) in
    let is_first : b ≡ r.before =
    ⊎_elim (λ same. same) (λ behind. absurd (omega (arith, not_before m series r.before h.1 behind, less))) (Contains-cases b (m ∷ series) r.before r.before_is_one) in
    Contains-here change (changes_after m series) c (same_change m b c (r.at ∙ sym (ap (λ (y : Measure). y.at) here)) (r.value ∙ ap (λ (y : Measure). y.value -ℤ r.before.value) (sym here) ∙ ap (λ (y : Measure). m.value -ℤ y.value) (sym is_first))))
    (λ there.
    let after : m.at < r.member.at = Above-member m.at series r.member h.1.0 there in
    let late : m.at ≤ r.before.at = r.greatest m (Contains-there b (m ∷ series) m (Contains-here m series m refl)) after in
    let behind : Contains (m ∷ series) r.before =
    ⊎_elim (λ same. absurd (omega (arith, h.0.0, late, ap (λ (y : Measure). y.at) same))) (λ c. c) (Contains-cases b (m ∷ series) r.before r.before_is_one) in
    Contains-there change (changes_after m series) c (change_kept m series c h.1 (record {
      member = r.member;
      before = r.before;
      member_is_one = later;
      before_is_one = behind;
      at = r.at;
      earlier = r.earlier;
      greatest = λ other in_ less. r.greatest other (Contains-there b (m ∷ series) other in_) less;
      value = r.value;
    })))
    (Contains-cases m series r.member later))
    (Contains-cases b (m ∷ series) r.member r.member_is_one)

pub changes_found : (series : List Measure) (c : Measure) → Rises (times series) → Contains (changes series) c → IsChange series c
changes_found [] c h there = absurd (Contains-none c there)
changes_found (m ∷ series) c h there = change_found m series c h there

pub changes_kept : (series : List Measure) (c : Measure) → Rises (times series) → IsChange series c → Contains (changes series) c
changes_kept [] c h r = absurd (Contains-none r.member r.member_is_one)
changes_kept (m ∷ series) c h r = change_kept m series c h r

-- ---- least and greatest

pub least_is : (v : ℤ) (values : List ℤ) → Contains (v ∷ values) (least (v ∷ values)) × All (λ w. least (v ∷ values) ≤ℤ w) (v ∷ values)
least_is v values =
    let r = fold int_min v values in
    let bounds = fold-int_min_bounds v values r refl in
    (⊎_elim (λ same. Contains-here v values r (sym same)) (λ there. Contains-there v values r there) (fold-int_min_reached v values r refl), All-cons (λ w. r ≤ℤ w) v values bounds.0 bounds.1)

pub greatest_is : (v : ℤ) (values : List ℤ) → Contains (v ∷ values) (greatest (v ∷ values)) × All (λ w. w ≤ℤ greatest (v ∷ values)) (v ∷ values)
greatest_is v values =
    let r = fold int_max v values in
    let bounds = fold-int_max_bounds v values r refl in
    (⊎_elim (λ same. Contains-here v values r (sym same)) (λ there. Contains-there v values r there) (fold-int_max_reached v values r refl), All-cons (λ w. w ≤ℤ r) v values bounds.0 bounds.1)

-- ---- distinct values

int_eq-true : (a b : ℤ) → int_eq a b ≡ true → a ≡ b
int_eq-true a b is = (Decides-int_eq a b).0 is

int_eq-same : (a b : ℤ) → a ≡ b → int_eq a b ≡ true
int_eq-same a b same = (Decides-int_eq a b).1 same

-- whether a value is among others
any_found : (v : ℤ) (values : List ℤ) → list_any (λ w. int_eq w v) values ≡ true → Contains values v
any_found v [] is = absurd (false≢true is)
any_found v (w ∷ values) is =
    ⊎_elim (λ here. Contains-here w values v (int_eq-true w v here)) (λ there. Contains-there w values v (any_found v values there)) (or_cases (int_eq w v) (list_any (λ w. int_eq w v) values) is)

any_has : (v : ℤ) (values : List ℤ) → Contains values v → list_any (λ w. int_eq w v) values ≡ true
any_has v [] c = absurd (Contains-none v c)
any_has v (w ∷ values) c =
    ⊎_elim (λ same. ap (λ b. b || list_any (λ w. int_eq w v) values) (int_eq-same w v same)) (λ there. right (int_eq w v) (any_has v values there)) (Contains-cases w values v c)
  where
    right : (b : Bool) {d : Bool} → d ≡ true → (b || d) ≡ true
    right true is = refl
    right false is = is

any_none : (v : ℤ) (values : List ℤ) → list_any (λ w. int_eq w v) values ≡ false → (w : ℤ) → Contains values w → v ≢ w
any_none v values is w c = λ same. both_ways (list_any (λ w. int_eq w v) values) is (any_has v values (subst (Contains values) (sym same) c))

pub set_of : (values : List ℤ) → (set : List ℤ) × IsSetOf values set × (length set ≡ distinct_count values)
set_of [] = ([], record { once = λ i j d less below. absurd (omega (arith, below)); same = λ v. (λ c. c, λ c. c) }, refl)
set_of (v ∷ values) = by (set_of values) (list_any (λ w. int_eq w v) values) refl
  where
    by : ((set : List ℤ) × IsSetOf values set × (length set ≡ distinct_count values)) → (b : Bool) → list_any (λ w. int_eq w v) values ≡ b → (set : List ℤ) × IsSetOf (v ∷ values) set × (length set ≡ cond b 0 1 + distinct_count values)
    by rest true is =
        let there : Contains values v = any_found v values is in (
          rest.0,
          record {
            once = rest.1.once;
            same = λ w. (λ c. Contains-there v values w ((rest.1.same w).0 c), λ c. ⊎_elim (λ own. subst (Contains rest.0) own ((rest.1.same v).1 there)) (λ behind. (rest.1.same w).1 behind) (Contains-cases v values w c));
          },
          omega (arith, rest.2),
        )
    by rest false is = (
      v ∷ rest.0,
      record {
        once = AllPairs-cons (λ (a b : ℤ). a ≢ b) v rest.0 (λ k d below. any_none v values is _ ((rest.1.same _).0 (k, below, get_or_default rest.0 k _ d below))) rest.1.once;
        same = λ w. (λ c. ⊎_elim (λ own. Contains-here v values w own) (λ behind. Contains-there v values w ((rest.1.same w).0 behind)) (Contains-cases v rest.0 w c), λ c. ⊎_elim (λ own. Contains-here v rest.0 w own) (λ behind. Contains-there v rest.0 w ((rest.1.same w).1 behind)) (Contains-cases v values w c));
      },
      omega (arith, rest.2),
    )

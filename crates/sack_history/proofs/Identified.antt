-- The live metrics, by rising identifier.
use Rattle.std.proofs.Common.{◌≡◌, ℕ, ◌<◌, Bool, true, false, cond, eqb, ltb, not, List, [], ◌∷◌, ◌++◌, map, Option, Some, None, sym, ap, ◌∙◌, arith}
use Rattle.std.specs.Option.{is_some, option_map}
use Rattle.std.specs.List.{Contains, filter, fold}
use Rattle.std.specs.List.Sorted.{IsStrictlyIncreasing}
use Rattle.std.proofs.Math.Logic.{⊎_elim}
use Rattle.std.proofs.lemmas.Bool.{cases_eq, cond_both, eq-eqb, ne_eqb, lt-ltb, ltb-true, false≢true, not-true, both_ways, cases_order}
use Rattle.std.proofs.lemmas.List.Elements.{Contains-append_left, Contains-append_right, Contains-append_cases}
use Rattle.series_model.specs.declared.metric.MetricId.{MetricId}
use Rattle.series_model.proofs.ByKey.{filter_has, filter_kept}
use Rattle.series_model.proofs.Members.{Contains-here, Contains-there, Contains-cases, Contains-none}
use Rattle.series_model.proofs.Rising.{Above, Above-lower, Rises, rising_from_Rises}
use Rattle.sack_history.specs.declared.entry.Counted.{Counted}
use Rattle.sack_history.specs.declared.entry.Counted.TheVariants as counted
use Rattle.sack_history.specs.Lives.{Life, born, done_up_to, ids_after, is_live, last_after, life_after, life_onto, live_ids, life_with}
use Rattle.sack_history.proofs.Living.{same_id}

abbrev id_of : MetricId → ℕ
id_of m = m.0

abbrev ids : List MetricId → List ℕ
ids metrics = map id_of metrics

-- ---- they rise

Above-filter : (a : ℕ) (p : MetricId → Bool) (ms : List MetricId) → Above a (ids ms) → Above a (ids (filter p ms))
Above-filter a p [] h = tt
Above-filter a p (m ∷ ms) h =
    cond_both (p m) (m ∷ filter p ms) (filter p ms) (λ l. Above a (ids l)) (λ keep. (h.0, Above-filter a p ms h.1)) (λ skip. Above-filter a p ms h.1)

Rises-filter : (p : MetricId → Bool) (ms : List MetricId) → Rises (ids ms) → Rises (ids (filter p ms))
Rises-filter p [] h = tt
Rises-filter p (m ∷ ms) h =
    cond_both (p m) (m ∷ filter p ms) (filter p ms) (λ l. Rises (ids l)) (λ keep. (Above-filter m.0 p ms h.0, Rises-filter p ms h.1)) (λ skip. Rises-filter p ms h.1)

-- those above an identifier
above_is : (k : ℕ) (ms : List MetricId) → Above k (ids (filter (λ (m : MetricId). ltb k m.0) ms))
above_is k [] = tt
above_is k (m ∷ ms) =
    cond_both (ltb k m.0) (m ∷ filter (λ (x : MetricId). ltb k x.0) ms) (filter (λ (x : MetricId). ltb k x.0) ms) (λ l. Above k (ids l))
    (λ lt. (ltb-true k m.0 lt, above_is k ms)) (λ le. above_is k ms)

-- each is below an identifier
abbrev Below : ℕ → List MetricId → Type 0
Below k [] = Unit {0}
Below k (m ∷ ms) = (m.0 < k) × Below k ms

below_is : (k : ℕ) (ms : List MetricId) → Below k (filter (λ (m : MetricId). ltb m.0 k) ms)
below_is k [] = tt
below_is k (m ∷ ms) =
    cond_both (ltb m.0 k) (m ∷ filter (λ (x : MetricId). ltb x.0 k) ms) (filter (λ (x : MetricId). ltb x.0 k) ms) (Below k)
    (λ lt. (ltb-true m.0 k lt, below_is k ms)) (λ le. below_is k ms)

Above-append : (a : ℕ) (xs ys : List MetricId) → Above a (ids xs) → Above a (ids ys) → Above a (ids (xs ++ ys))
Above-append a [] ys h g = g
Above-append a (x ∷ xs) ys h g = (h.0, Above-append a xs ys h.1 g)

placed : (k : MetricId) (xs ys : List MetricId) → Rises (ids xs) → Below k.0 xs → Above k.0 (ids ys) → Rises (ids ys) → Rises (ids (xs ++ (k ∷ ys)))
placed k [] ys h b a g = (a, g)
placed k (x ∷ xs) ys h b a g =
    (Above-append x.0 xs (k ∷ ys) h.0 (b.0, Above-lower x.0 k.0 (ids ys) (omega (arith, b.0)) a), placed k xs ys h.1 b.1 a g)

ids-rise : (ms : List MetricId) (c : Counted) → Rises (ids ms) → Rises (ids (ids_after ms c))
ids-rise ms (counted.Create k policy) h =
    placed k (filter (λ (m : MetricId). ltb m.0 k.0) ms) (filter (λ (m : MetricId). ltb k.0 m.0) ms) (Rises-filter (λ (m : MetricId). ltb m.0 k.0) ms h) (below_is k.0 ms) (above_is k.0 ms)
    (Rises-filter (λ (m : MetricId). ltb k.0 m.0) ms h)
ids-rise ms (counted.Post n k measures) h = h
ids-rise ms (counted.Done k upto) h = h
ids-rise ms (counted.Drop k) h = Rises-filter (λ (m : MetricId). not (eqb m.0 k.0)) ms h

rise_onto : (ms : List MetricId) (counts : List Counted) → Rises (ids ms) → Rises (ids (fold ids_after ms counts))
rise_onto ms [] h = h
rise_onto ms (c ∷ counts) h = rise_onto (ids_after ms c) counts (ids-rise ms c h)

pub live_ids-rise : (counts : List Counted) → IsStrictlyIncreasing (map (λ (m : MetricId). m.0) (live_ids counts))
live_ids-rise counts = rising_from_Rises (ids (live_ids counts)) (rise_onto [] counts tt)

-- ---- they are the live ones

-- a metric is among these, and has this life, or neither
record IsListed (m : MetricId) (ms : List MetricId) (life : Option Life) : Type 0 where
  live : Contains ms m → is_some life ≡ true
  there : is_some life ≡ true → Contains ms m

module _ (m k : MetricId) (ms : List MetricId) where
  abbrev low : List MetricId
  low = filter (λ (x : MetricId). ltb x.0 k.0) ms

  abbrev high : List MetricId
  high = filter (λ (x : MetricId). ltb k.0 x.0) ms

  put_in : k.0 ≡ m.0 → Contains (low ++ (k ∷ high)) m
  put_in is = Contains-append_right low (k ∷ high) m (Contains-here k high m (same_id k m is))

  stays_in : (k.0 ≡ m.0 → ⊥) → Contains ms m → Contains (low ++ (k ∷ high)) m
  stays_in other c =
      ⊎_elim (λ is. absurd (other (sym is)))
      (⊎_elim
      (λ lt. Contains-append_left low (k ∷ high) m (filter_has (λ (x : MetricId). ltb x.0 k.0) ms m c (lt-ltb m.0 k.0 lt)))
      (λ gt. Contains-append_right low (k ∷ high) m (Contains-there k high m (filter_has (λ (x : MetricId). ltb k.0 x.0) ms m c (lt-ltb k.0 m.0 gt)))))
      (cases_order m.0 k.0)

  was_in : (k.0 ≡ m.0 → ⊥) → Contains (low ++ (k ∷ high)) m → Contains ms m
  was_in other c =
      ⊎_elim (λ l. (filter_kept (λ (x : MetricId). ltb x.0 k.0) ms m l).0)
      (λ r. ⊎_elim (λ is. absurd (other (ap id_of is))) (λ h. (filter_kept (λ (x : MetricId). ltb k.0 x.0) ms m h).0) (Contains-cases k high m r))
      (Contains-append_cases low (k ∷ high) m c)

  gone : k.0 ≡ m.0 → Contains (filter (λ (x : MetricId). not (eqb x.0 k.0)) ms) m → ⊥
  gone is c = both_ways (eqb m.0 k.0) (not-true (eqb m.0 k.0) (filter_kept (λ (x : MetricId). not (eqb x.0 k.0)) ms m c).1) (eq-eqb m.0 k.0 (sym is))

listed : (m : MetricId) (ms : List MetricId) (last : ℕ) (life : Option Life) (c : Counted) → IsListed m ms life → IsListed m (ids_after ms c) (life_after m last life c)
listed m ms last life (counted.Create k policy) h = ⊎_elim same other (cases_eq k.0 m.0)
  where
    now : Option Life
    now = cond (eqb k.0 m.0) (Some (born policy last)) life

    same : k.0 ≡ m.0 → IsListed m (ids_after ms (counted.Create k policy)) (life_after m last life (counted.Create k policy))
    same is = record {
      live = λ c. ap (λ b. is_some (cond b (Some (born policy last)) life)) (eq-eqb k.0 m.0 is);
      there = λ s. put_in m k ms is;
    }

    other : (k.0 ≡ m.0 → ⊥) → IsListed m (ids_after ms (counted.Create k policy)) (life_after m last life (counted.Create k policy))
    other is_not =
        let e = ap (λ b. is_some (cond b (Some (born policy last)) life)) (ne_eqb k.0 m.0 is_not) in
        record {
          live = λ c. e ∙ h.live (was_in m k ms is_not c);
          there = λ s. stays_in m k ms is_not (h.there (sym e ∙ s));
        }
listed m ms last life (counted.Post n k measures) h = by life h (eqb k.0 m.0)
  where
    by : (life : Option Life) → IsListed m ms life → (b : Bool) → IsListed m ms (cond b (option_map (life_with (record { number = n; metric = k; measures = measures })) life) life)
    by life h false = h
    by None h true = record { live = h.live; there = h.there }
    by (Some l) h true = record { live = h.live; there = h.there }
listed m ms last life (counted.Done k upto) h = by life h (eqb k.0 m.0)
  where
    by : (life : Option Life) → IsListed m ms life → (b : Bool) → IsListed m ms (cond b (option_map (done_up_to upto) life) life)
    by life h false = h
    by None h true = record { live = h.live; there = h.there }
    by (Some l) h true = record { live = h.live; there = h.there }
listed m ms last life (counted.Drop k) h = ⊎_elim same other (cases_eq k.0 m.0)
  where
    same : k.0 ≡ m.0 → IsListed m (ids_after ms (counted.Drop k)) (life_after m last life (counted.Drop k))
    same is = record {
      live = λ c. absurd (gone m k ms is c);
      there = λ s. absurd (false≢true (sym (ap (λ b. is_some (cond b None life)) (eq-eqb k.0 m.0 is)) ∙ s));
    }

    other : (k.0 ≡ m.0 → ⊥) → IsListed m (ids_after ms (counted.Drop k)) (life_after m last life (counted.Drop k))
    other is_not =
        let e = ap (λ b. is_some (cond b None life)) (ne_eqb k.0 m.0 is_not) in
        record {
          live = λ c. e ∙ h.live (filter_kept (λ (x : MetricId). not (eqb x.0 k.0)) ms m c).0;
          there = λ s. filter_has (λ (x : MetricId). not (eqb x.0 k.0)) ms m (h.there (sym e ∙ s)) (ap not (ne_eqb m.0 k.0 (λ is. is_not (sym is))));
        }

listed_onto : (m : MetricId) (ms : List MetricId) (last : ℕ) (life : Option Life) (counts : List Counted) → IsListed m ms life → IsListed m (fold ids_after ms counts) (life_onto m last life counts)
listed_onto m ms last life [] h = h
listed_onto m ms last life (c ∷ counts) h = listed_onto m (ids_after ms c) (last_after last c) (life_after m last life c) counts (listed m ms last life c h)

none_listed : (m : MetricId) → IsListed m [] None
none_listed m = record { live = λ c. absurd (Contains-none m c); there = λ s. absurd (false≢true s) }

pub live_ids-live : (counts : List Counted) (m : MetricId) → Contains (live_ids counts) m → is_live m counts ≡ true
live_ids-live counts m = (listed_onto m [] 0 None counts (none_listed m)).live

pub live_ids-all : (counts : List Counted) (m : MetricId) → is_live m counts ≡ true → Contains (live_ids counts) m
live_ids-all counts m = (listed_onto m [] 0 None counts (none_listed m)).there

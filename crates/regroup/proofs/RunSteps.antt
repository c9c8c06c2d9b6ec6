-- One bucket more of a series.
use Rattle.std.proofs.Common.{◌≡◌, ℕ, suc, ◌+◌, ◌-◌, ◌<◌, ◌≤◌, List, [], ◌∷◌, ◌++◌, map, take, drop, length, get_or, Option, Some, None, refl, sym, ap, subst, ◌∙◌, arith, append_assoc}
use Rattle.std.specs.Option.{option_to_list}
use Rattle.std.proofs.Math.Logic.{⊎_elim}
use Rattle.std.proofs.Math.Seq.{drop-cons, take-add}
use Rattle.std.proofs.Math.Nat.{add-mod_right}
use Rattle.std.proofs.lemmas.Bool.{cases_lt}
use Rattle.std.proofs.lemmas.Option.{same_Some}
use Rattle.std.proofs.lemmas.List.{take-append-drop, drop-drop, get_or-drop, length-drop}
use Rattle.gno_num.specs.Floor.{floor_of}
use Rattle.bucket_agg.specs.Tally.{summary_of}
use Rattle.series_model.specs.declared.measure.Measure.{Measure}
use Rattle.series_model.specs.Bucket.{bucket, changes}
use Rattle.series_model.specs.Points.{starts_of}
use Rattle.series_model.specs.Tail.{last_onto}
use Rattle.series_model.proofs.PointLaws.{floor-le, floor-above, floor-multiple, floor-mono, floor-own}
use Rattle.series_model.proofs.Rising.{Rises, times}
use Rattle.bound_series.proofs.Merging.{between, range_before}
use Rattle.regroup.specs.declared.tallies.BucketTally.{BucketTally}
use Rattle.regroup.specs.Tallies.{changes_behind, bucket_tally}
use Rattle.regroup.proofs.RunLaws.{Each, Each-all, each_from, each_below, Rises-drop, Rises-left, Rises-right, bucket_of_run, changes_of_run, starts_of_run}

Each-left : (P : ℕ → Type 0) (xs ys : List Measure) → Each P (xs ++ ys) → Each P xs
Each-left P [] ys h = tt
Each-left P (x ∷ xs) ys h = (h.0, Each-left P xs ys h.1)

-- the last of members behind another one
pub last-behind : (before : Option Measure) (xs : List Measure) → last_onto None (option_to_list before ++ xs) ≡ last_onto before xs
last-behind None xs = refl
last-behind (Some b) xs = refl

last-append : (o : Option Measure) (xs ys : List Measure) → last_onto o (xs ++ ys) ≡ last_onto (last_onto o xs) ys
last-append o [] ys = refl
last-append o (x ∷ xs) ys = last-append (Some x) xs ys

-- what holds of the times of some members holds of the last
last-each : (P : ℕ → Type 0) (o : Option Measure) (x : Measure) (xs : List Measure) (b : Measure) → Each P (x ∷ xs) → last_onto o (x ∷ xs) ≡ Some b → P b.at
last-each P o x [] b h is = subst (λ (y : Measure). P y.at) (same_Some x b is) h.0
last-each P o x (y ∷ xs) b h is = last-each P (Some x) y xs b h.1 is

module _ (g : ℕ) (before : Option Measure) (members : List Measure) (place e : ℕ) (m : Measure) (positive : 0 < g) (rising : Rises (times (option_to_list before ++ members))) (below : place < length members) (is : m ≡ get_or members place m) (after : place ≤ e) (inside : e ≤ length members) (high : (k : ℕ) (d : Measure) → place ≤ k → k < e → (get_or members k d).at < floor_of m.at g + g) (next : (d : Measure) → e < length members → floor_of m.at g + g ≤ (get_or members e d).at) (apart : (b : Measure) → last_onto before (take place members) ≡ Some b → b.at < floor_of m.at g) where
  abbrev s : ℕ
  s = floor_of m.at g

  abbrev tail : List Measure
  tail = take (e - suc place) (drop (suc place) members)

  abbrev rest : List Measure
  rest = drop e members

  abbrev front : List Measure
  front = option_to_list before ++ take place members

  abbrev all : List Measure
  all = option_to_list before ++ members

  -- the bucket has its first member
  pub more : place < e
  more =
      ⊎_elim
      (λ less. less)
      (λ end.
      let same : e ≡ place = omega arith in
      absurd (omega (arith, floor-above m.at g positive, next m (omega arith), ap (λ n. (get_or members n m).at) same, ap (λ (x : Measure). x.at) is)))
      (cases_lt place e)

  pub run-is : between members place e ≡ m ∷ tail
  run-is =
      let count : e - place ≡ suc (e - suc place) = let some = more in omega arith in
      ap (take (e - place)) (drop-cons members place m below ∙ ap (λ x. x ∷ drop (suc place) members) (sym is))
      ∙ ap (λ n. take n (m ∷ drop (suc place) members)) count

  behind : drop place members ≡ (m ∷ tail) ++ rest
  behind =
      sym (take-append-drop (e - place) (drop place members))
      ∙ ap (λ l. l ++ drop (e - place) (drop place members)) run-is
      ∙ ap (λ l. (m ∷ tail) ++ l) (drop-drop (e - place) place members ∙ ap (λ n. drop n members) (let upto : place + (e - place) ≡ e = omega arith in upto))

  whole : all ≡ front ++ ((m ∷ tail) ++ rest)
  whole =
      ap (λ l. option_to_list before ++ l) (sym (take-append-drop place members))
      ∙ sym (append_assoc (option_to_list before) (take place members) (drop place members))
      ∙ ap (λ l. front ++ l) behind

  rising_members : Rises (times members)
  rising_members = Rises-right (option_to_list before) members rising

  early : Each (λ t. t < s) front
  early =
      each_below s None front (Rises-left front ((m ∷ tail) ++ rest) (subst (λ l. Rises (times l)) whole rising)) (λ b last. apart b (sym (last-behind before (take place members)) ∙ last))

  low_all : Each (λ t. s ≤ t) ((m ∷ tail) ++ rest)
  low_all =
      each_from s ((m ∷ tail) ++ rest) (subst (λ l. Rises (times l)) behind (Rises-drop place members rising_members)) (λ d some. floor-le m.at g)

  low : Each (λ t. s ≤ t) (m ∷ tail)
  low = Each-left (λ t. s ≤ t) (m ∷ tail) rest low_all

  below_end : Each (λ t. t < s + g) (m ∷ tail)
  below_end = subst (Each (λ t. t < s + g)) run-is (Each-all (λ t. t < s + g) (between members place e) (range_before members place e (s + g) after inside high))

  late : Each (λ t. s + g ≤ t) rest
  late =
      each_from (s + g) rest (Rises-drop e members rising_members) (λ d some.
      let at : get_or rest 0 d ≡ get_or members e d = get_or-drop e members 0 d ∙ ap (λ n. get_or members n d) (let n : e + 0 ≡ e = omega arith in n) in
      subst (λ (x : Measure). s + g ≤ x.at) (sym at) (next d (omega (arith, some, length-drop e members))))

  pub starts_more : starts_of g (times (drop place members)) ≡ s ∷ starts_of g (times rest)
  starts_more = ap (λ l. starts_of g (times l)) behind ∙ starts_of_run g s m tail rest positive (floor-multiple m.at g) low below_end late

  pub tally_more : (previous : Option Measure) → previous ≡ last_onto before (take place members) → (let t : BucketTally = record { start = s; values = summary_of (map (λ (x : Measure). x.value) (between members place e)); changes = summary_of (map (λ (x : Measure). x.value) (changes_behind previous (between members place e))) } in t ≡ bucket_tally g all s)
  tally_more previous was =
      let made : List Measure → List Measure → BucketTally = λ vs cs. record { start = s; values = summary_of (map (λ (x : Measure). x.value) vs); changes = summary_of (map (λ (x : Measure). x.value) cs) } in
      let values : between members place e ≡ bucket g s all =
      run-is ∙ sym (bucket_of_run g s front (m ∷ tail) rest early low below_end late) ∙ ap (bucket g s) (sym whole) in
      let changed : changes_behind previous (between members place e) ≡ bucket g s (changes all) =
      ap (changes_behind previous) run-is ∙ ap (λ o. changes_behind o (m ∷ tail)) (was ∙ sym (last-behind before (take place members)))
      ∙ sym (changes_of_run g s front (m ∷ tail) rest early low below_end late) ∙ ap (λ l. bucket g s (changes l)) (sym whole) in
      ap (λ vs. made vs (changes_behind previous (between members place e))) values ∙ ap (made (bucket g s all)) changed

  taken : take e members ≡ take place members ++ (m ∷ tail)
  taken =
      let sum : e ≡ place + (e - place) = omega arith in
      ap (λ n. take n members) sum ∙ take-add place (e - place) members ∙ ap (λ l. take place members ++ l) run-is

  pub apart_next : (b n : Measure) → last_onto before (take e members) ≡ Some b → n ≡ get_or members e n → e < length members → b.at < floor_of n.at g
  apart_next b n last at some =
      let end : b.at < s + g = last-each (λ t. t < s + g) (last_onto before (take place members)) m tail b below_end (sym (last-append before (take place members) (m ∷ tail)) ∙ ap (last_onto before) (sym taken) ∙ last) in
      let own : floor_of (s + g) g ≡ s + g = floor-own (s + g) (s + g) g (add-mod_right s g ∙ floor-multiple m.at g) (omega arith) (omega arith) in
      let up : s + g ≤ n.at = subst (λ (x : Measure). s + g ≤ x.at) (sym at) (next n some) in
      omega (arith, end, own, floor-mono (s + g) n.at g up)

-- The split that a turn touches.
use Rattle.std.proofs.Common.{◌≡◌, ℕ, suc, ◌+◌, ◌*◌, ◌/◌, ◌%◌, ◌<◌, ◌≤◌, eqb, Bool, true, false, cond, List, [], ◌∷◌, ◌++◌, length, map, take, drop, slice_index_or, Option, Some, None, IfSome, refl, sym, ap, subst, ◌∙◌, arith}
use Rattle.std.specs.List.{All, AllZip, Contains, filter}
use Rattle.std.specs.List.Sorted.{IsStrictlyIncreasing}
use Rattle.std.proofs.Math.Nat.{add-mul, add-mul-mod_self_right, mul-le-mul_right, mul-mod_left}
use Rattle.std.proofs.lemmas.Bool.{eqb-true, ne_eqb}
use Rattle.std.proofs.lemmas.List.{append-nil, take-append-drop}
use Rattle.std.proofs.lemmas.List.Elements.{All-drop, All-map}
use Rattle.std.proofs.lemmas.Option.{same_Some, none-some}
use Rattle.gno_num.specs.Floor.{split_key_of}
use Rattle.series_model.specs.declared.point.Point.{Point}
use Rattle.series_model.specs.declared.point.Split.{Split}
use Rattle.series_model.specs.Stored.{split_span}
use Rattle.series_model.proofs.Members.{Contains-here, Contains-there}
use Rattle.series_model.proofs.Rising.{Above, Rises, Rises_from_rising, rising_from_Rises}
use Rattle.gno_codec.specs.declared.item.Block.{Block}
use Rattle.gno_codec.specs.Blocks.{IsSplit, split_bytes}
use Rattle.shelf_records.specs.declared.series.Stored.{Stored}
use Rattle.shelf_records.specs.Series.{block_of}
use Rattle.split_update.specs.Update.{IsInStretch, points_beside, points_in, points_touched, splits_after, splits_from, splits_kept, splits_made}
use Rattle.block_slots.specs.Slots.{Stands}
use Rattle.shelf_blocks.specs.Blocks.{HoldsSplit}
use Rattle.shelf_blocks.specs.Turns.{IsDamagedSplit}
use Rattle.shelf_blocks.proofs.Filled.{key_whole, whole}
use Rattle.shelf_blocks.proofs.PieceLemmas.{rises_back, rises_front}

pub key_multiple : (at g : ℕ) → split_key_of at g % split_span g ≡ 0
key_multiple at g = mul-mod_left (at / split_span g) (split_span g)

-- a split of a key at a block
abbrev pub kept_at : ℕ → Block → Stored
kept_at key block = record { key = key; block = block }

same_kept : (t : Stored) (k : ℕ) (c : Block) → t.key ≡ k → t.block ≡ c → t ≡ kept_at k c
same_kept t k c same_key same_block = ap (λ (n : ℕ). kept_at n t.block) same_key ∙ ap (kept_at k) same_block

pub block_in : (key : ℕ) (stored : List Stored) (b : Block) → block_of key stored ≡ Some b → Contains stored (kept_at key b)
block_in key [] b is = absurd (none-some b is)
block_in key (s ∷ stored) b is = by_key (eqb s.key key) refl is (block_in key stored b)
  where
    by_key : (same : Bool) → eqb s.key key ≡ same → cond same (Some s.block) (block_of key stored) ≡ Some b → (block_of key stored ≡ Some b → Contains stored (kept_at key b)) → Contains (s ∷ stored) (kept_at key b)
    by_key true e found rest =
        let here : s ≡ kept_at key b = same_kept s key b (eqb-true s.key key e) (same_Some s.block b found) in
        Contains-here s stored (kept_at key b) here
    by_key false e found rest = Contains-there s stored (kept_at key b) (rest found)

module _ (z : List ℕ) (g : ℕ) where
  none_later : (key : ℕ) (stored : List Stored) (old : List Split) → Above key (map (λ s. s.key) stored) → AllZip (HoldsSplit z g) stored old → filter (λ t. eqb t.key key) old ≡ []
  none_later key [] [] above all = refl
  none_later key [] (t ∷ old) above all = absurd all
  none_later key (s ∷ stored) [] above all = absurd all
  none_later key (s ∷ stored) (t ∷ old) above all =
      let lt = above.0 in
      let is = all.0.key in
      ap (λ b. cond b (t ∷ filter (λ u. eqb u.key key) old) (filter (λ u. eqb u.key key) old)) (ne_eqb t.key key (omega (arith, lt, is))) ∙ none_later key stored old above.1 all.1

  pub none_beside : (key : ℕ) (stored : List Stored) (old : List Split) → block_of key stored ≡ None → AllZip (HoldsSplit z g) stored old → filter (λ t. eqb t.key key) old ≡ []
  none_beside key [] [] none all = refl
  none_beside key [] (t ∷ old) none all = absurd all
  none_beside key (s ∷ stored) [] none all = absurd all
  none_beside key (s ∷ stored) (t ∷ old) none all = by_key (eqb s.key key) refl none (λ rest. none_beside key stored old rest all.1)
    where
      by_key : (same : Bool) → eqb s.key key ≡ same → cond same (Some s.block) (block_of key stored) ≡ None → (block_of key stored ≡ None → filter (λ u. eqb u.key key) old ≡ []) → cond (eqb t.key key) (t ∷ filter (λ u. eqb u.key key) old) (filter (λ u. eqb u.key key) old) ≡ []
      by_key true e found rest = absurd (none-some s.block (sym found))
      by_key false e found rest = ap (λ b. cond b (t ∷ filter (λ u. eqb u.key key) old) (filter (λ u. eqb u.key key) old)) (ap (λ k. eqb k key) all.0.key ∙ e) ∙ rest found

  -- the split with a key is one of the old ones, and the only one with it
  pub record IsBeside (key : ℕ) (b : Block) (old : List Split) : Type 0 where
    pub one : Split
    pub holds : HoldsSplit z g (kept_at key b) one
    pub alone : filter (λ t. eqb t.key key) old ≡ one ∷ []

  pub one_beside : (key : ℕ) (stored : List Stored) (old : List Split) (b : Block) → Rises (map (λ s. s.key) stored) → AllZip (HoldsSplit z g) stored old → block_of key stored ≡ Some b → IsBeside key b old
  one_beside key [] old b rises all is = absurd (none-some b is)
  one_beside key (s ∷ stored) [] b rises all is = absurd all
  one_beside key (s ∷ stored) (t ∷ old) b rises all is = by_key (eqb s.key key) refl is (one_beside key stored old b rises.1 all.1)
    where
      by_key : (same : Bool) → eqb s.key key ≡ same → cond same (Some s.block) (block_of key stored) ≡ Some b → (block_of key stored ≡ Some b → IsBeside key b old) → IsBeside key b (t ∷ old)
      by_key true e found rest =
          let same = eqb-true s.key key e in
          record {
            one = t;
            holds = record { key = all.0.key ∙ same; is = all.0.is; stands = subst (λ (c : Block). Stands z c (split_bytes g t)) (same_Some s.block b found) all.0.stands };
            alone = ap (λ c. cond c (t ∷ filter (λ u. eqb u.key key) old) (filter (λ u. eqb u.key key) old)) (ap (λ k. eqb k key) all.0.key ∙ e)
                ∙ ap (λ l. t ∷ l) (none_later key stored old (subst (λ (k : ℕ). Above k (map (λ x. x.key) stored)) same rises.0) all.1);
          }
      by_key false e found rest =
          let later = rest found in
          record {
            one = later.one;
            holds = later.holds;
            alone = ap (λ c. cond c (t ∷ filter (λ u. eqb u.key key) old) (filter (λ u. eqb u.key key) old)) (ap (λ k. eqb k key) all.0.key ∙ e) ∙ later.alone;
          }

-- the points of a split lie in its stretch
stretch_of : (g key : ℕ) (split : Split) → 0 < g → key % split_span g ≡ 0 → split.key ≡ key → IsSplit g split → All (IsInStretch g key) split.points
stretch_of g key split wide multiple same is k d lt =
    let placed = is.filled.placed k d lt in
    let at = placed.bucket in
    let key_is = whole g key (key_whole g key multiple) in
    record {
      from = omega (arith, at, same);
      until = (let w = mul-lt-mul placed.position 3600 g wide placed.within in omega (arith, at, same, w));
      multiple = ap (λ n. n % g) (at ∙ ap (λ k. k + placed.position * g) same) ∙ add-mul-mod_self_right key placed.position g ∙ key_whole g key multiple;
    }
  where
    mul-lt-mul : (a b c : ℕ) → 0 < c → a < b → a * c < b * c
    mul-lt-mul a b c wide lt = (let m = mul-le-mul_right {m = a + 1} {n = b} c (omega (arith, lt)) in let e = add-mul a 1 c in omega (arith, m, e, wide))

pub found_placed : (g at : ℕ) (split : Split) → 0 < g → split.key ≡ split_key_of at g → IsSplit g split → All (IsInStretch g (split_key_of at g)) split.points
found_placed g at split wide same is = stretch_of g (split_key_of at g) split wide (key_multiple at g) same is

-- ---- of what a disk tells

pub told_none : (told : Option (List ℕ)) (g at : ℕ) (stored : List Stored) → block_of (split_key_of at g) stored ≡ None
    → IfSome told (λ z. (old : List Split) → AllZip (HoldsSplit z g) stored old → points_beside g at old ≡ [])
told_none None g at stored none = tt
told_none (Some z) g at stored none = λ old all. ap points_in (none_beside z g (split_key_of at g) stored old none all)

pub told_one : (told : Option (List ℕ)) (g at : ℕ) (stored : List Stored) (b : Block) (split : Split) → IsStrictlyIncreasing (map (λ s. s.key) stored) → block_of (split_key_of at g) stored ≡ Some b
    → IfSome told (λ z. (other : Split) → HoldsSplit z g (kept_at (split_key_of at g) b) other → split ≡ other)
    → IfSome told (λ z. (old : List Split) → AllZip (HoldsSplit z g) stored old → points_beside g at old ≡ split.points)
told_one None g at stored b split rising is exact = tt
told_one (Some z) g at stored b split rising is exact = λ old all.
    let found = one_beside z g (split_key_of at g) stored old b (Rises_from_rising (map (λ s. s.key) stored) rising) all is in
    ap points_in found.alone ∙ append-nil found.one.points ∙ ap (λ s. s.points) (sym (exact found.one found.holds))

pub told_damage : (told : Option (List ℕ)) (g key : ℕ) (stored : List Stored) (b : Block) → block_of key stored ≡ Some b → IfSome told (λ z. (split : Split) → HoldsSplit z g (kept_at key b) split → ⊥)
    → IfSome told (λ z. IsDamagedSplit z g stored b.at)
told_damage None g key stored b is none = tt
told_damage (Some z) g key stored b is none = record { one = kept_at key b; is = block_in key stored b is; at_is = refl; unspelled = none }

-- ---- what is left of a series, and what comes behind it

above_join : (x : ℕ) (xs ys : List ℕ) → Above x xs → ((k d : ℕ) → k < length ys → x < slice_index_or ys k d) → Above x (xs ++ ys)
above_join x [] [] above late = tt
above_join x [] (y ∷ ys) above late = (late 0 y (omega arith), above_join x [] ys tt (λ k d lt. late (suc k) d (omega (arith, lt))))
above_join x (z ∷ xs) ys above late = (above.0, above_join x xs ys above.1 late)

rises_join : (bound : ℕ) (xs ys : List ℕ) → Rises xs → All (λ k. k < bound) xs → Rises ys → All (λ k. bound ≤ k) ys → Rises (xs ++ ys)
rises_join bound [] ys first early second late = second
rises_join bound (x ∷ xs) ys first early second late = (
  above_join x xs ys first.0 (λ k d lt. (let a = early 0 x (omega arith) in let b = late k d lt in omega (arith, a, b))),
  rises_join bound xs ys first.1 (λ k d lt. early (suc k) d (omega (arith, lt))) second late,
)

pub joined_rising : (first until bound : ℕ) (keys made : List ℕ) → IsStrictlyIncreasing keys → All (λ k. k < bound) (take until keys) → IsStrictlyIncreasing made → All (λ k. bound ≤ k) made
    → IsStrictlyIncreasing (drop first (take until keys) ++ made)
joined_rising first until bound keys made rising early next late =
    let front = rises_front (take until keys) (drop until keys) (subst Rises (sym (take-append-drop until keys)) (Rises_from_rising keys rising)) in
    let kept = rises_back (take first (take until keys)) (drop first (take until keys)) (subst Rises (sym (take-append-drop first (take until keys))) front) in
    rising_from_Rises (drop first (take until keys) ++ made)
    (rises_join bound (drop first (take until keys)) made kept (All-drop (λ k. k < bound) first (take until keys) early) (Rises_from_rising made next) late)

pub kept_rising : (first until : ℕ) (keys : List ℕ) → IsStrictlyIncreasing keys → IsStrictlyIncreasing (drop first (take until keys) ++ [])
kept_rising first until keys rising =
    let front = rises_front (take until keys) (drop until keys) (subst Rises (sym (take-append-drop until keys)) (Rises_from_rising keys rising)) in
    let kept = rises_back (take first (take until keys)) (drop first (take until keys)) (subst Rises (sym (take-append-drop first (take until keys))) front) in
    subst IsStrictlyIncreasing (sym (append-nil (drop first (take until keys)))) (rising_from_Rises (drop first (take until keys)) kept)

-- where at a time the new splits begin, or there are none
pub turn_rising : (first until g : ℕ) (from : Option ℕ) (keys made : List ℕ) → IsStrictlyIncreasing keys → IfSome from (λ at. All (λ k. k < split_key_of at g) (take until keys))
    → IsStrictlyIncreasing made → IfSome from (λ at. All (λ k. split_key_of at g ≤ k) made) → (from ≡ None → made ≡ []) → IsStrictlyIncreasing (drop first (take until keys) ++ made)
turn_rising first until g None keys made rising early next late none =
    subst (λ (ks : List ℕ). IsStrictlyIncreasing (drop first (take until keys) ++ ks)) (sym (none refl)) (kept_rising first until keys rising)
turn_rising first until g (Some at) keys made rising early next late none = joined_rising first until (split_key_of at g) keys made rising early next late

-- splits have the keys that are stored
pub keys_stand : (z : List ℕ) (g : ℕ) (stored : List Stored) (old : List Split) → AllZip (HoldsSplit z g) stored old → map (λ s. s.key) stored ≡ map (λ s. s.key) old
keys_stand z g [] [] all = refl
keys_stand z g [] (t ∷ old) all = absurd all
keys_stand z g (s ∷ stored) [] all = absurd all
keys_stand z g (s ∷ stored) (t ∷ old) all = ap (λ (k : ℕ). k ∷ map (λ u. u.key) stored) (sym all.0.key) ∙ ap (λ (ks : List ℕ). t.key ∷ ks) (keys_stand z g stored old all.1)

pub told_after : (told : Option (List ℕ)) (g : ℕ) (oldest from : Option ℕ) (points : List Point) (stored : List Stored) (keys : List ℕ) (first until : ℕ) (splits : List Split) (touched : List Point) → keys ≡ map (λ s. s.key) stored
    → ((old : List Split) → keys ≡ map (λ s. s.key) old → drop first (take until old) ≡ splits_from oldest (splits_kept g from old)) → splits ≡ splits_from oldest (splits_made g from points touched)
    → IfSome told (λ z. (old : List Split) → AllZip (HoldsSplit z g) stored old → points_touched g from old ≡ touched)
    → IfSome told (λ z. (old : List Split) → AllZip (HoldsSplit z g) stored old → drop first (take until old) ++ splits ≡ splits_after g oldest from points old)
told_after None g oldest from points stored keys first until splits touched keys_are kept made found = tt
told_after (Some z) g oldest from points stored keys first until splits touched keys_are kept made found = λ old all.
    ap (λ l. l ++ splits) (kept old (keys_are ∙ keys_stand z g stored old all))
    ∙ ap (λ l. splits_from oldest (splits_kept g from old) ++ l) (made ∙ ap (λ ps. splits_from oldest (splits_made g from points ps)) (sym (found old all)))

-- without a least timestamp nothing is made
pub none_made : (oldest from : Option ℕ) (g : ℕ) (points touched : List Point) (splits : List Split) → splits ≡ splits_from oldest (splits_made g from points touched) → from ≡ None → map (λ s. s.key) splits ≡ []
none_made None None g points touched splits made is = ap (map (λ (s : Split). s.key)) made
none_made (Some key) None g points touched splits made is = ap (map (λ (s : Split). s.key)) made
none_made oldest (Some at) g points touched splits made is = absurd (none-some at (sym is))

pub late_keys : (from : Option ℕ) (g : ℕ) (splits : List Split) → IfSome from (λ at. All (λ s. split_key_of at g ≤ s.key) splits) → IfSome from (λ at. All (λ k. split_key_of at g ≤ k) (map (λ s. s.key) splits))
late_keys None g splits late = tt
late_keys (Some at) g splits late = All-map (λ k. split_key_of at g ≤ k) (λ (s : Split). s.key) splits late

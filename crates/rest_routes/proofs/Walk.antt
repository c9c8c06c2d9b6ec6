-- matchit's walk over routes made of pieces: it goes from segment to segment.
use Rattle.std.proofs.Common.{◌≡◌, ◌⊎◌, inl, inr, ℕ, zero, suc, ◌-◌, ◌<◌, ◌≤◌, List, [], ◌∷◌, ◌++◌, length, drop, Option, Some, None, Bool, true, false, cond, not, ltb, refl, sym, ap, ◌∙◌, arith, ◌==◌, ◌&&◌, append-nil, length-append}
use Rattle.std.proofs.lemmas.Bool.Decides.{nat_tests}
use Rattle.matchit.specs.Rows.{RowsOf, param_token, catch_all_token}
use Rattle.matchit.specs.Seek.{own, step, or_else, same_text, segment, has_slash, cuts, better, longest_from, with_suffix, param_step, seek, first, after_param, slash}
use Rattle.rest_routes.proofs.Pieces.{Piece, word, parameter, tokens, joined, plain, all_plain, plain_pieces, compiled, words, parameters, spelled, after_word, plain_rows, plain_words, answer}

pub both : (a b : Bool) → (a && b) ≡ true → (a ≡ true) × (b ≡ true)
both true b h = (refl, h)
both false b h = cc

pub not-slash : (b : ℕ) (s : List ℕ) → plain (b ∷ s) ≡ true → ((b == slash) ≡ false) × ((slash == b) ≡ false) × (b < 256) × (plain s ≡ true)
not-slash b s h =
    let p = both (ltb b 256 && not (b == slash)) (plain s) h in
    let q = both (ltb b 256) (not (b == slash)) p.0 in
    let e : (b == slash) ≡ false = grind (arith, nat_tests) in
    let f : (slash == b) ≡ false = grind (arith, nat_tests) in
    let l : b < 256 = grind (arith, nat_tests) in
    (e, f, l, p.1)

segment-plain : (s : List ℕ) → plain s ≡ true → (segment s ≡ s) × (has_slash s ≡ false)
segment-plain [] h = (refl, refl)
segment-plain (b ∷ s) h =
    let q = not-slash b s h in
    let ih = segment-plain s q.3 in
    rw q.0 (ap (λ z. b ∷ z) ih.0, ih.1)

segment-slash : (s p : List ℕ) → plain s ≡ true → (segment (s ++ slash ∷ p) ≡ s ++ slash ∷ []) × (has_slash (s ++ slash ∷ p) ≡ true)
segment-slash [] p h = (refl, refl)
segment-slash (b ∷ s) p h =
    let q = not-slash b s h in
    let ih = segment-slash s p q.3 in
    rw q.0 (ap (λ z. b ∷ z) ih.0, ih.1)

-- the last byte
last-plain : (b : ℕ) (s : List ℕ) → plain (b ∷ s) ≡ true → same_text (drop (length s) (b ∷ s)) (slash ∷ []) ≡ false
last-plain b [] h = rw (not-slash b [] h).0 refl
last-plain b (c ∷ s) h = last-plain c s (not-slash b (c ∷ s) h).3

last-slash : (s : List ℕ) → same_text (drop (length s) (s ++ slash ∷ [])) (slash ∷ []) ≡ true
last-slash [] = refl
last-slash (b ∷ s) = last-slash s

cuts-plain : (b : ℕ) (s : List ℕ) → plain (b ∷ s) ≡ true → cuts (b ∷ s) (slash ∷ []) ≡ false
cuts-plain b s h = grind (arith, nat_tests, last-plain b s h)

cuts-slash : (b : ℕ) (s : List ℕ) → cuts (b ∷ (s ++ slash ∷ [])) (slash ∷ []) ≡ true
cuts-slash b s = grind (arith, nat_tests, last-slash (b ∷ s), length-append s (slash ∷ []))

better-stays : (seg : List ℕ) → cuts seg (slash ∷ []) ≡ false → better seg [] (slash ∷ []) ≡ []
better-stays seg h = rw h refl

better-slash : (seg : List ℕ) → cuts seg (slash ∷ []) ≡ true → better seg [] (slash ∷ []) ≡ slash ∷ []
better-slash seg h = rw h refl

one-less : (n : ℕ) → suc n - 1 ≡ n
one-less n = omega arith

module _ {K : Type 0} where
  -- the walk itself

  param_step-none : (p : List ℕ) → (param_step {K = K} [] p).1 ≡ []
  unfolding param_step
  param_step-none p =
      elim (has_slash p) as (λ v. (cond {A = ℕ × RowsOf K} v (0, []) (length p, [])).1 ≡ []) [
        | true ↦ refl
        | false ↦ refl
      ]

  pub seek-none : (k : ℕ) (p : List ℕ) → seek {K = K} k [] p ≡ None
  unfolding seek
  seek-none k [] = refl
  seek-none (suc k) (b ∷ p) = seek-none k p
  seek-none zero (b ∷ p) =
      simp (seek-none 0 p, param_step-none (b ∷ p), seek-none (((param_step {K = K} [] (b ∷ p)).0) - 1) p)

  seek-skip : (s p : List ℕ) (r : RowsOf K) → seek (length s) r (s ++ p) ≡ first r p
  unfolding seek
  seek-skip [] p r = refl
  seek-skip (b ∷ s) p r = seek-skip s p r

  first-end : (r : RowsOf K) → first r [] ≡ own r
  unfolding seek
  first-end r = refl

  or_else-none : (a : Option K) → or_else a None ≡ a
  or_else-none None = refl
  or_else-none (Some k) = refl

  -- where a route may go on with a parameter
  first-cons : (r : RowsOf K) (b : ℕ) (p : List ℕ) → step catch_all_token r ≡ []
      → first r (b ∷ p) ≡ or_else (first (step b r) p) (after_param (step param_token r) (b ∷ p))
  unfolding seek
  first-cons r b p hc = rw (hc, or_else-none (after_param (step param_token r) (b ∷ p))) refl

  after_param-none : (p : List ℕ) → after_param {K = K} [] p ≡ None
  after_param-none [] = refl
  after_param-none (b ∷ p) =
      rw (param_step-none (b ∷ p)) (seek-none ((param_step {K = K} [] (b ∷ p)).0 - 1) p)

  -- where it can't
  pub first-byte : (r : RowsOf K) (b : ℕ) (p : List ℕ) → step param_token r ≡ [] → step catch_all_token r ≡ []
      → first r (b ∷ p) ≡ first (step b r) p
  first-byte r b p hp hc =
      first-cons r b p hc ∙ rw (hp, after_param-none (b ∷ p)) (or_else-none (first (step b r) p))

  -- the rows of a step

  step-onto : (b : ℕ) (t : List ℕ) (k : K) (x y : RowsOf K) → step b x ≡ step b y → step b ((t, k) ∷ x) ≡ step b ((t, k) ∷ y)
  step-onto b [] k x y e = e
  step-onto b (a ∷ t) k x y e = ap (λ z. cond (a == b) ((t, k) ∷ z) z) e

  own-onto : (t : List ℕ) (k : K) (x y : RowsOf K) → own x ≡ own y → own ((t, k) ∷ x) ≡ own ((t, k) ∷ y)
  own-onto [] k x y e = refl
  own-onto (a ∷ t) k x y e = e

  pub step-compiled : (b : ℕ) (rs : List (List Piece × K)) → (slash == b) ≡ false → step b (compiled rs) ≡ []
  step-compiled b [] n = refl
  step-compiled b (([], k) ∷ rs) n = step-compiled b rs n
  step-compiled b ((word w ∷ ps, k) ∷ rs) n = rw n (step-compiled b rs n)
  step-compiled b ((parameter ∷ ps, k) ∷ rs) n = rw n (step-compiled b rs n)

  step-spelled : (b : ℕ) (ws : RowsOf (List Piece × K)) → (slash == b) ≡ false → step b (spelled ws) ≡ spelled (step b ws)
  step-spelled b [] n = refl
  step-spelled b (([], ([], k)) ∷ ws) n = step-spelled b ws n
  step-spelled b (([], (word w ∷ ps, k)) ∷ ws) n = rw n (step-spelled b ws n)
  step-spelled b (([], (parameter ∷ ps, k)) ∷ ws) n = rw n (step-spelled b ws n)
  step-spelled b ((x ∷ w, r) ∷ ws) n = by (x == b) (step-spelled b ws n)
    where
      by : (v : Bool) → step b (spelled ws) ≡ spelled (step b ws)
          → cond v ((w ++ tokens r.0, r.1) ∷ step b (spelled ws)) (step b (spelled ws)) ≡ spelled (cond v ((w, r) ∷ step b ws) (step b ws))
      by true ih = ap (λ z. (w ++ tokens r.0, r.1) ∷ z) ih
      by false ih = ih

  -- no word has a token that isn't a byte
  step-wild : (b : ℕ) (ws : RowsOf (List Piece × K)) → 256 ≤ b → plain_words ws ≡ true → step b ws ≡ []
  step-wild b [] l h = refl
  step-wild b (([], r) ∷ ws) l h = step-wild b ws l (both (plain_pieces r.0) (plain_words ws) h).1
  step-wild b ((x ∷ w, r) ∷ ws) l h =
      let p = both (plain (x ∷ w)) (plain_pieces r.0 && plain_words ws) h in
      let q = not-slash x w p.0 in
      let n : (x == b) ≡ false = grind (arith, nat_tests) in
      rw n (step-wild b ws l (both (plain_pieces r.0) (plain_words ws) p.1).1)

  spelled-wild : (b : ℕ) (ws : RowsOf (List Piece × K)) → 256 ≤ b → plain_words ws ≡ true → step b (spelled ws) ≡ []
  spelled-wild b ws l h =
      let n : (slash == b) ≡ false = grind (arith, nat_tests) in
      step-spelled b ws n ∙ ap spelled (step-wild b ws l h)

  plain-step : (b : ℕ) (ws : RowsOf (List Piece × K)) → plain_words ws ≡ true → plain_words (step b ws) ≡ true
  plain-step b [] h = refl
  plain-step b (([], r) ∷ ws) h = plain-step b ws (both (plain_pieces r.0) (plain_words ws) h).1
  plain-step b ((x ∷ w, r) ∷ ws) h =
      let p = both (plain (x ∷ w)) (plain_pieces r.0 && plain_words ws) h in
      let q = both (plain_pieces r.0) (plain_words ws) p.1 in
      by (x == b) (not-slash x w p.0).3 q.0 (plain-step b ws q.1)
    where
      by : (v : Bool) → plain w ≡ true → plain_pieces r.0 ≡ true → plain_words (step b ws) ≡ true
          → plain_words (cond v ((w, r) ∷ step b ws) (step b ws)) ≡ true
      by true pw pp ih = rw (pw, pp) ih
      by false pw pp ih = ih

  -- the routes after a word

  after-step : (b : ℕ) (s : List ℕ) (ws : RowsOf (List Piece × K)) → after_word (b ∷ s) ws ≡ after_word s (step b ws)
  after-step b s [] = refl
  after-step b s (([], r) ∷ ws) = after-step b s ws
  after-step b s ((x ∷ w, r) ∷ ws) = by (x == b) refl (after-step b s ws)
    where
      by : (v : Bool) → (x == b) ≡ v → after_word (b ∷ s) ws ≡ after_word s (step b ws)
          → after_word (b ∷ s) ((x ∷ w, r) ∷ ws) ≡ after_word s (cond v ((w, r) ∷ step b ws) (step b ws))
      by true e ih = rw e (ap (λ z. cond (same_text w s) (r ∷ z) z) ih)
      by false e ih = rw e ih

  own-ended : (ws : RowsOf (List Piece × K)) → own (spelled ws) ≡ own (compiled (after_word [] ws))
  own-ended [] = refl
  own-ended (([], ([], k)) ∷ ws) = refl
  own-ended (([], (word w ∷ ps, k)) ∷ ws) = own-ended ws
  own-ended (([], (parameter ∷ ps, k)) ∷ ws) = own-ended ws
  own-ended ((x ∷ w, r) ∷ ws) = own-ended ws

  step-ended : (ws : RowsOf (List Piece × K)) → plain_words ws ≡ true → step slash (spelled ws) ≡ step slash (compiled (after_word [] ws))
  step-ended [] h = refl
  step-ended (([], r) ∷ ws) h =
      step-onto slash (tokens r.0) r.1 (spelled ws) (compiled (after_word [] ws)) (step-ended ws (both (plain_pieces r.0) (plain_words ws) h).1)
  step-ended ((x ∷ w, r) ∷ ws) h =
      let p = both (plain (x ∷ w)) (plain_pieces r.0 && plain_words ws) h in
      let q = not-slash x w p.0 in
      rw q.0 (step-ended ws (both (plain_pieces r.0) (plain_words ws) p.1).1)

  compiled-slash : (rs : List (List Piece × K)) (p : List ℕ) → first (compiled rs) (slash ∷ p) ≡ first (step slash (compiled rs)) p
  compiled-slash rs p =
      first-byte (compiled rs) slash p (step-compiled param_token rs refl) (step-compiled catch_all_token rs refl)

  -- a segment of the path goes over a word
  pub first-word : (s : List ℕ) (ss : List (List ℕ)) (ws : RowsOf (List Piece × K)) → plain s ≡ true → plain_words ws ≡ true
      → first (spelled ws) (s ++ joined ss) ≡ first (compiled (after_word s ws)) (joined ss)
  first-word [] [] ws hs h = first-end (spelled ws) ∙ own-ended ws ∙ sym (first-end (compiled (after_word [] ws)))
  first-word [] (t ∷ ss) ws hs h =
      first-byte (spelled ws) slash (t ++ joined ss) (spelled-wild param_token ws (omega arith) h) (spelled-wild catch_all_token ws (omega arith) h)
      ∙ ap (λ z. first z (t ++ joined ss)) (step-ended ws h)
      ∙ sym (compiled-slash (after_word [] ws) (t ++ joined ss))
  first-word (b ∷ s) ss ws hs h =
      let q = not-slash b s hs in
      first-byte (spelled ws) b (s ++ joined ss) (spelled-wild param_token ws (omega arith) h) (spelled-wild catch_all_token ws (omega arith) h)
      ∙ ap (λ z. first z (s ++ joined ss)) (step-spelled b ws q.1)
      ∙ first-word s ss (step b ws) q.3 (plain-step b ws h)
      ∙ ap (λ z. first (compiled z) (joined ss)) (sym (after-step b s ws))

  -- the suffixes of routes after a parameter: nothing, or a slash

  longest-none : (seg : List ℕ) (rs : List (List Piece × K)) → cuts seg (slash ∷ []) ≡ false → longest_from seg [] (compiled rs) ≡ []
  longest-none seg [] h = refl
  longest-none seg (([], k) ∷ rs) h = longest-none seg rs h
  longest-none seg ((word w ∷ ps, k) ∷ rs) h =
      ap (λ best. longest_from seg best (compiled rs)) (better-stays seg h) ∙ longest-none seg rs h
  longest-none seg ((parameter ∷ ps, k) ∷ rs) h =
      ap (λ best. longest_from seg best (compiled rs)) (better-stays seg h) ∙ longest-none seg rs h

  longest-slash : (seg : List ℕ) (rs : List (List Piece × K)) → longest_from seg (slash ∷ []) (compiled rs) ≡ slash ∷ []
  longest-slash seg [] = refl
  longest-slash seg (([], k) ∷ rs) = longest-slash seg rs
  longest-slash seg ((word w ∷ ps, k) ∷ rs) = longest-slash seg rs
  longest-slash seg ((parameter ∷ ps, k) ∷ rs) = longest-slash seg rs

  longest-some : (seg : List ℕ) (rs : List (List Piece × K)) → cuts seg (slash ∷ []) ≡ true
      → (longest_from seg [] (compiled rs) ≡ slash ∷ []) ⊎ ((longest_from seg [] (compiled rs) ≡ []) × (step slash (compiled rs) ≡ []))
  longest-some seg [] h = inr (refl, refl)
  longest-some seg (([], k) ∷ rs) h = longest-some seg rs h
  longest-some seg ((word w ∷ ps, k) ∷ rs) h = inl (ap (λ best. longest_from seg best (compiled rs)) (better-slash seg h) ∙ longest-slash seg rs)
  longest-some seg ((parameter ∷ ps, k) ∷ rs) h = inl (ap (λ best. longest_from seg best (compiled rs)) (better-slash seg h) ∙ longest-slash seg rs)

  step-suffix : (b : ℕ) (rs : List (List Piece × K)) → step b (with_suffix (slash ∷ []) (compiled rs)) ≡ step b (compiled rs)
  step-suffix b [] = refl
  step-suffix b (([], k) ∷ rs) = step-suffix b rs
  step-suffix b ((word w ∷ ps, k) ∷ rs) =
      step-onto b (tokens (word w ∷ ps)) k (with_suffix (slash ∷ []) (compiled rs)) (compiled rs) (step-suffix b rs)
  step-suffix b ((parameter ∷ ps, k) ∷ rs) =
      step-onto b (tokens (parameter ∷ ps)) k (with_suffix (slash ∷ []) (compiled rs)) (compiled rs) (step-suffix b rs)

  -- a parameter in front of a slash is empty: no route
  parameter-empty : (rs : List (List Piece × K)) (p : List ℕ) → after_param (compiled rs) (slash ∷ p) ≡ None
  unfolding param_step
  parameter-empty rs p = rw (longest-none (slash ∷ []) rs refl) (seek-none 0 p)

  -- a parameter at the end of the path
  parameter-last : (rs : List (List Piece × K)) (b : ℕ) (s : List ℕ) → plain (b ∷ s) ≡ true → after_param (compiled rs) (b ∷ s) ≡ own (compiled rs)
  unfolding param_step
  parameter-last rs b s h =
      let q = segment-plain (b ∷ s) h in
      rw (q.0, longest-none (b ∷ s) rs (cuts-plain b s h), q.1, one-less (length s))
      (ap (λ z. seek (length s) (compiled rs) z) (sym (append-nil s)) ∙ seek-skip s [] (compiled rs) ∙ first-end (compiled rs))

  -- a parameter in front of more segments
  parameter-more : (rs : List (List Piece × K)) (b : ℕ) (s p : List ℕ) → plain (b ∷ s) ≡ true
      → after_param (compiled rs) (b ∷ (s ++ slash ∷ p)) ≡ first (compiled rs) (slash ∷ p)
  unfolding param_step
  parameter-more rs b s p h =
      let q = segment-slash (b ∷ s) p h in
      let seg = b ∷ (s ++ slash ∷ []) in
      let cut : cuts seg (slash ∷ []) ≡ true = cuts-slash b s in
      by (longest-some seg rs cut) q.0 q.1
    where
      by : (longest_from (b ∷ (s ++ slash ∷ [])) [] (compiled rs) ≡ slash ∷ []) ⊎ ((longest_from (b ∷ (s ++ slash ∷ [])) [] (compiled rs) ≡ []) × (step slash (compiled rs) ≡ []))
          → segment (b ∷ (s ++ slash ∷ p)) ≡ b ∷ (s ++ slash ∷ [])
          → has_slash (b ∷ (s ++ slash ∷ p)) ≡ true
          → after_param (compiled rs) (b ∷ (s ++ slash ∷ p)) ≡ first (compiled rs) (slash ∷ p)
      by (inl e) sg hs =
          let W = with_suffix (slash ∷ []) (compiled rs) in
          let n : (length (b ∷ (s ++ slash ∷ [])) - 1) - 1 ≡ length s = omega (arith, length-append s (slash ∷ [])) in
          let wp : step param_token W ≡ [] = step-suffix param_token rs ∙ step-compiled param_token rs refl in
          let wc : step catch_all_token W ≡ [] = step-suffix catch_all_token rs ∙ step-compiled catch_all_token rs refl in
          rw (sg, e, n)
          (seek-skip s (slash ∷ p) W ∙ first-byte W slash p wp wc ∙ ap (λ z. first z p) (step-suffix slash rs) ∙ sym (compiled-slash rs p))
      by (inr e) sg hs =
          rw (sg, e.0, hs) (seek-none 0 (s ++ slash ∷ p) ∙ sym (seek-none 0 p) ∙ ap (λ z. first z p) (sym e.1) ∙ sym (compiled-slash rs p))

  -- a segment of the path goes over a parameter
  pub first-parameter : (b : ℕ) (s : List ℕ) (ss : List (List ℕ)) (rs : List (List Piece × K)) → plain (b ∷ s) ≡ true
      → after_param (compiled rs) (b ∷ (s ++ joined ss)) ≡ first (compiled rs) (joined ss)
  first-parameter b s [] rs h =
      ap (λ z. after_param (compiled rs) (b ∷ z)) (append-nil s) ∙ parameter-last rs b s h ∙ sym (first-end (compiled rs))
  first-parameter b s (t ∷ ss) rs h = parameter-more rs b s (t ++ joined ss) h

  -- the routes after a slash: some go on with a word, some with a parameter

  heads-word : (b : ℕ) (rs : List (List Piece × K)) → (param_token == b) ≡ false → step b (step slash (compiled rs)) ≡ step b (spelled (words rs))
  heads-word b [] n = refl
  heads-word b (([], k) ∷ rs) n = heads-word b rs n
  heads-word b ((word w ∷ ps, k) ∷ rs) n =
      step-onto b (w ++ tokens ps) k (step slash (compiled rs)) (spelled (words rs)) (heads-word b rs n)
  heads-word b ((parameter ∷ ps, k) ∷ rs) n = rw n (heads-word b rs n)

  heads-own : (rs : List (List Piece × K)) → own (step slash (compiled rs)) ≡ own (spelled (words rs))
  heads-own [] = refl
  heads-own (([], k) ∷ rs) = heads-own rs
  heads-own ((word w ∷ ps, k) ∷ rs) =
      own-onto (w ++ tokens ps) k (step slash (compiled rs)) (spelled (words rs)) (heads-own rs)
  heads-own ((parameter ∷ ps, k) ∷ rs) = heads-own rs

  word-wild : (b : ℕ) (w : List ℕ) (ps : List Piece) (k : K) (x : RowsOf K) → 256 ≤ b → plain w ≡ true → step b ((w ++ tokens ps, k) ∷ x) ≡ step b x
  word-wild b [] [] k x l h = refl
  word-wild b [] (word w ∷ ps) k x l h =
      let n : (slash == b) ≡ false = grind (arith, nat_tests) in
      rw n refl
  word-wild b [] (parameter ∷ ps) k x l h =
      let n : (slash == b) ≡ false = grind (arith, nat_tests) in
      rw n refl
  word-wild b (a ∷ w) ps k x l h =
      let q = not-slash a w h in
      let n : (a == b) ≡ false = grind (arith, nat_tests) in
      rw n refl

  heads-parameter : (rs : List (List Piece × K)) → plain_rows rs ≡ true → step param_token (step slash (compiled rs)) ≡ compiled (parameters rs)
  heads-parameter [] h = refl
  heads-parameter (([], k) ∷ rs) h = heads-parameter rs h
  heads-parameter ((word w ∷ ps, k) ∷ rs) h =
      let p = both (plain w && plain_pieces ps) (plain_rows rs) h in
      word-wild param_token w ps k (step slash (compiled rs)) (omega arith) (both (plain w) (plain_pieces ps) p.0).0 ∙ heads-parameter rs p.1
  heads-parameter ((parameter ∷ ps, k) ∷ rs) h =
      ap (λ z. (tokens ps, k) ∷ z) (heads-parameter rs (both (plain_pieces ps) (plain_rows rs) h).1)

  heads-catch : (rs : List (List Piece × K)) → plain_rows rs ≡ true → step catch_all_token (step slash (compiled rs)) ≡ []
  heads-catch [] h = refl
  heads-catch (([], k) ∷ rs) h = heads-catch rs h
  heads-catch ((word w ∷ ps, k) ∷ rs) h =
      let p = both (plain w && plain_pieces ps) (plain_rows rs) h in
      word-wild catch_all_token w ps k (step slash (compiled rs)) (omega arith) (both (plain w) (plain_pieces ps) p.0).0 ∙ heads-catch rs p.1
  heads-catch ((parameter ∷ ps, k) ∷ rs) h = heads-catch rs (both (plain_pieces ps) (plain_rows rs) h).1

  plain-words : (rs : List (List Piece × K)) → plain_rows rs ≡ true → plain_words (words rs) ≡ true
  plain-words [] h = refl
  plain-words (([], k) ∷ rs) h = plain-words rs h
  plain-words ((word w ∷ ps, k) ∷ rs) h =
      let p = both (plain w && plain_pieces ps) (plain_rows rs) h in
      let q = both (plain w) (plain_pieces ps) p.0 in
      rw (q.0, q.1) (plain-words rs p.1)
  plain-words ((parameter ∷ ps, k) ∷ rs) h = plain-words rs (both (plain_pieces ps) (plain_rows rs) h).1

  plain-parameters : (rs : List (List Piece × K)) → plain_rows rs ≡ true → plain_rows (parameters rs) ≡ true
  plain-parameters [] h = refl
  plain-parameters (([], k) ∷ rs) h = plain-parameters rs h
  plain-parameters ((word w ∷ ps, k) ∷ rs) h =
      plain-parameters rs (both (plain w && plain_pieces ps) (plain_rows rs) h).1
  plain-parameters ((parameter ∷ ps, k) ∷ rs) h =
      let p = both (plain_pieces ps) (plain_rows rs) h in
      rw p.0 (plain-parameters rs p.1)

  plain-after : (s : List ℕ) (ws : RowsOf (List Piece × K)) → plain_words ws ≡ true → plain_rows (after_word s ws) ≡ true
  plain-after s [] h = refl
  plain-after s ((w, r) ∷ ws) h =
      let p = both (plain w) (plain_pieces r.0 && plain_words ws) h in
      let q = both (plain_pieces r.0) (plain_words ws) p.1 in
      by (same_text w s) q.0 (plain-after s ws q.1)
    where
      by : (v : Bool) → plain_pieces r.0 ≡ true → plain_rows (after_word s ws) ≡ true
          → plain_rows (cond v (r ∷ after_word s ws) (after_word s ws)) ≡ true
      by true pp ih = rw pp ih
      by false pp ih = ih

  -- the law: the walk over the path is the answer to its segments
  pub first-answer : (rs : List (List Piece × K)) (ss : List (List ℕ)) → plain_rows rs ≡ true → all_plain ss ≡ true
      → first (compiled rs) (joined ss) ≡ answer rs ss
  first-answer rs [] h hs = first-end (compiled rs)
  first-answer rs ([] ∷ []) h hs =
      compiled-slash rs [] ∙ first-end (step slash (compiled rs)) ∙ heads-own rs ∙ own-ended (words rs)
      ∙ sym (or_else-none (own (compiled (after_word [] (words rs)))))
  first-answer rs ([] ∷ (t ∷ ss)) h hs =
      let p = t ++ joined ss in
      let H = step slash (compiled rs) in
      let W = spelled (words rs) in
      let pw = plain-words rs h in
      compiled-slash rs (slash ∷ p)
      ∙ first-cons H slash p (heads-catch rs h)
      ∙ rw (heads-word slash rs refl, heads-parameter rs h, parameter-empty (parameters rs) p)
      (ap (λ z. or_else z None) (sym (first-byte W slash p (spelled-wild param_token (words rs) (omega arith) pw) (spelled-wild catch_all_token (words rs) (omega arith) pw))
      ∙ first-word [] (t ∷ ss) (words rs) refl pw
      ∙ first-answer (after_word [] (words rs)) (t ∷ ss) (plain-after [] (words rs) pw) hs))
  first-answer rs ((b ∷ s) ∷ ss) h hs =
      let p = s ++ joined ss in
      let H = step slash (compiled rs) in
      let W = spelled (words rs) in
      let pw = plain-words rs h in
      let both-s = both (plain (b ∷ s)) (all_plain ss) hs in
      let q = not-slash b s both-s.0 in
      let n : (param_token == b) ≡ false = grind (arith, nat_tests) in
      let by-word : first (step b H) p ≡ answer (after_word (b ∷ s) (words rs)) ss =
      ap (λ z. first z p) (heads-word b rs n)
      ∙ sym (first-byte W b p (spelled-wild param_token (words rs) (omega arith) pw) (spelled-wild catch_all_token (words rs) (omega arith) pw))
      ∙ first-word (b ∷ s) ss (words rs) both-s.0 pw
      ∙ first-answer (after_word (b ∷ s) (words rs)) ss (plain-after (b ∷ s) (words rs) pw) both-s.1 in
      let by-parameter : after_param (step param_token H) (b ∷ p) ≡ answer (parameters rs) ss =
      ap (λ z. after_param z (b ∷ p)) (heads-parameter rs h)
      ∙ first-parameter b s ss (parameters rs) both-s.0
      ∙ first-answer (parameters rs) ss (plain-parameters rs h) both-s.1 in
      compiled-slash rs (b ∷ p) ∙ first-cons H b p (heads-catch rs h) ∙ rw (by-word, by-parameter) refl

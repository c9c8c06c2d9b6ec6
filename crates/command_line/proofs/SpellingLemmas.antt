-- One spelling stands first.
use Rattle.std.proofs.Common.{◌≡◌, ℕ, suc, ◌-◌, ◌<◌, ◌≤◌, ◌==◌, true, false, cond, List, [], ◌∷◌, ◌++◌, length, take, drop, Option, Some, None, refl, sym, ap, subst, ◌∙◌, codes, arith, append_assoc, slice_index_or, string_bytes, take_all}
use Rattle.std.specs.declared.string.String.{String}
use Rattle.std.specs.declared.alloc.Global.{Global}
use Rattle.std.proofs.lemmas.Bool.Decides.{nat_tests}
use Rattle.std.proofs.lemmas.Option.{same_Some, none-some}
use Rattle.command_line.specs.declared.flag.Flag.{Flag}
use Rattle.command_line.specs.declared.flag.Flag.TheVariants.{Store, Memory, Sacks, Number, Seed, Count, Listen, Workers, Conns}
use Rattle.command_line.specs.Flag.{flag_name, flag_of, has_value}
use Rattle.command_line.specs.Setting.{Setting, IsSpelling, apart, joined, bare, StandsFirst, Spells, is_value, texts}
use Rattle.command_line.proofs.FlagLemmas.{bare_flag, own_flag, name_in, value_in, name_alone, no_value, name_before, value_after}

-- what stands first, and what stands behind it
pub record First : Type 0 where
  pub setting : Setting
  pub rest : List (List ℕ)

abbrev pub first : Setting → List (List ℕ) → First
first setting rest = record { setting = setting; rest = rest }

-- the value stands in the next word
abbrev pub first_apart : Flag → List (List ℕ) → Option First
first_apart flag [] = None
first_apart flag (value ∷ words) = cond (is_value value) (Some (first (flag, value) words)) None

-- the word is the name of an option
abbrev pub first_named : Flag → List (List ℕ) → Option First
first_named flag words = cond (has_value flag) (first_apart flag words) (Some (first (flag, []) words))

-- the word has a name and a value
abbrev pub first_joined : Flag → List ℕ → List (List ℕ) → Option First
first_joined flag value words = cond (has_value flag) (cond (is_value value) (Some (first (flag, value) words)) None) None

abbrev pub first_by : Option Flag → Option (List ℕ) → List (List ℕ) → Option First
first_by None value words = None
first_by (Some flag) None words = first_named flag words
first_by (Some flag) (Some value) words = first_joined flag value words

-- the setting that stands first, computed
abbrev pub first_of : List (List ℕ) → Option First
first_of [] = None
first_of (word ∷ words) = first_by (flag_of (name_in word)) (value_in word) words

pub first_of-named : (flag : Flag) (words : List (List ℕ)) → first_of (flag_name flag ∷ words) ≡ first_named flag words
first_of-named flag words =
    ap (λ name. first_by (flag_of name) (value_in (flag_name flag)) words) (name_alone flag)
    ∙ ap (λ value. first_by (flag_of (flag_name flag)) value words) (no_value flag)
    ∙ ap (λ found. first_by found None words) (own_flag flag)

pub first_of-joined : (flag : Flag) (value : List ℕ) (words : List (List ℕ)) → first_of ((flag_name flag ++ (codes "=" ++ value)) ∷ words) ≡ first_joined flag value words
first_of-joined flag value words =
    let word = flag_name flag ++ (codes "=" ++ value) in
    ap (λ name. first_by (flag_of name) (value_in word) words) (name_before flag value)
    ∙ ap (λ found. first_by (flag_of (flag_name flag)) found words) (value_after flag value)
    ∙ ap (λ found. first_by found (Some value) words) (own_flag flag)

-- what stands first is what is computed
pub computed : (setting : Setting) (words rest : List (List ℕ)) → StandsFirst setting words rest → first_of words ≡ Some (first setting rest)
computed (flag, value) words rest stands = ap first_of stands.whole ∙ by stands.front stands.spelling
  where
    by : (front : List (List ℕ)) → IsSpelling flag value front → first_of (front ++ rest) ≡ Some (first (flag, value) rest)
    by front (apart takes good words) =
        ap (λ f. first_of (f ++ rest)) words
        ∙ first_of-named flag (value ∷ rest)
        ∙ ap (λ b. cond b (first_apart flag (value ∷ rest)) (Some (first (flag, []) (value ∷ rest)))) takes
        ∙ ap (λ b. cond b (Some (first (flag, value) rest)) None) good
    by front (joined takes good words) =
        ap (λ f. first_of (f ++ rest)) words
        ∙ first_of-joined flag value rest
        ∙ ap (λ b. cond b (cond (is_value value) (Some (first (flag, value) rest)) None) None) takes
        ∙ ap (λ b. cond b (Some (first (flag, value) rest)) None) good
    by front (bare is none words) =
        ap (λ f. first_of (f ++ rest)) words
        ∙ first_of-named Memory rest
        ∙ ap (λ (f : Flag). Some (first (f, []) rest)) (sym is)
        ∙ ap (λ (v : List ℕ). Some (first (flag, v) rest)) (sym none)

-- one setting stands first
pub one_first : (a b : Setting) (words r s : List (List ℕ)) → StandsFirst a words r → StandsFirst b words s → first a r ≡ first b s
one_first a b words r s p q = same_Some _ _ (sym (computed a words r p) ∙ computed b words s q)

-- a spelling has a word
pub some_word : (flag : Flag) (value : List ℕ) (front : List (List ℕ)) → IsSpelling flag value front → 0 < length front
some_word flag value front (apart takes good words) = subst (λ (f : List (List ℕ)). 0 < length f) (sym words) (omega arith)
some_word flag value front (joined takes good words) = subst (λ (f : List (List ℕ)). 0 < length f) (sym words) (omega arith)
some_word flag value front (bare is none words) = subst (λ (f : List (List ℕ)). 0 < length f) (sym words) (omega arith)

-- nothing stands first among no words
pub nothing_first : (setting : Setting) (rest : List (List ℕ)) → StandsFirst setting [] rest → ⊥
nothing_first setting rest stands = none-some (first setting rest) (computed setting [] rest stands)

-- ---- all words

pub one_spelled : (settings others : List Setting) (words : List (List ℕ)) → Spells settings words → Spells others words → settings ≡ others
one_spelled [] [] words p q = refl
one_spelled [] (s ∷ others) words p (rest, stands, q) = absurd (nothing_first s rest (subst (λ w. StandsFirst s w rest) p stands))
one_spelled (s ∷ settings) [] words (rest, stands, p) q = absurd (nothing_first s rest (subst (λ w. StandsFirst s w rest) q stands))
one_spelled (s ∷ settings) (t ∷ others) words (r, stands, p) (u, other, q) =
    let same = one_first s t words r u stands other in
    let rests : r ≡ u = ap (λ (f : First). f.rest) same in
    let heads : s ≡ t = ap (λ (f : First). f.setting) same in
    let tails = one_spelled settings others u (subst (Spells settings) rests p) q in
    λ i. heads i ∷ tails i

-- settings behind settings
pub Spells-append : (settings others : List Setting) (words more : List (List ℕ)) → Spells settings words → Spells others more → Spells (settings ++ others) (words ++ more)
Spells-append [] others words more p q = subst (λ (w : List (List ℕ)). Spells others (w ++ more)) (sym p) q
Spells-append (s ∷ settings) others words more (rest, stands, p) q =
    (rest ++ more, record { front = stands.front; spelling = stands.spelling; whole = ap (λ w. w ++ more) stands.whole ∙ append_assoc stands.front rest more }, Spells-append settings others rest more p q)

-- Words so far, and the words that are left: the settings so far stand in front of what the rest spells,
-- and every reading of all words begins with them.
pub record IsFront (done : List Setting) (words left : List (List ℕ)) : Type 0 where
  pub forth : (settings : List Setting) → Spells settings left → Spells (done ++ settings) words
  pub back : (settings : List Setting) → Spells settings words → (others : List Setting) × (settings ≡ done ++ others) × Spells others left

pub front_none : (words : List (List ℕ)) → IsFront [] words words
front_none words = record { forth = λ s p. p; back = λ s p. (s, refl, p) }

-- one setting more
pub front_more : (done : List Setting) (setting : Setting) (words left rest : List (List ℕ)) → IsFront done words left → StandsFirst setting left rest → IsFront (done ++ setting ∷ []) words rest
front_more done setting words left rest so_far stands = record {
  forth = λ settings p. subst (λ (s : List Setting). Spells s words) (sym (append_assoc done (setting ∷ []) settings)) (so_far.forth (setting ∷ settings) (rest, stands, p));
  back = λ settings p. by settings (so_far.back settings p);
}
  where
    by : (settings : List Setting) → ((others : List Setting) × (settings ≡ done ++ others) × Spells others left) → (others : List Setting) × (settings ≡ (done ++ setting ∷ []) ++ others) × Spells others rest
    by settings ([], is, p) = absurd (nothing_first setting rest (subst (λ w. StandsFirst setting w rest) p stands))
    by settings (t ∷ others, is, (r, other, p)) =
        let same = one_first setting t left rest r stands other in
        let rests : r ≡ rest = ap (λ (f : First). f.rest) (sym same) in
        let heads : t ≡ setting = ap (λ (f : First). f.setting) (sym same) in
        (others, is ∙ ap (λ (s : Setting). done ++ s ∷ others) heads ∙ sym (append_assoc done (setting ∷ []) others), subst (Spells others) rests p)

-- where nothing stands first among words that are left, nothing spells all words
pub front_stuck : (done : List Setting) (words left : List (List ℕ)) → IsFront done words left → 0 < length left → ((setting : Setting) (rest : List (List ℕ)) → StandsFirst setting left rest → ⊥) → (settings : List Setting) → Spells settings words → ⊥
front_stuck done words left so_far some stuck settings p = by (so_far.back settings p)
  where
    by : ((others : List Setting) × (settings ≡ done ++ others) × Spells others left) → ⊥
    by ([], is, q) = let e : length left ≡ 0 = ap length q in absurd (omega arith)
    by (t ∷ others, is, (rest, stands, q)) = stuck t rest stands

-- ---- one word

pub joined_first : (flag : Flag) (value : List ℕ) (words : List (List ℕ)) → has_value flag ≡ true → is_value value ≡ true → StandsFirst (flag, value) ((flag_name flag ++ (codes "=" ++ value)) ∷ words) words
joined_first flag value words takes good = record {
  front = (flag_name flag ++ (codes "=" ++ value)) ∷ [];
  spelling = joined takes good refl;
  whole = refl;
}

pub apart_first : (flag : Flag) (value : List ℕ) (words : List (List ℕ)) → has_value flag ≡ true → is_value value ≡ true → StandsFirst (flag, value) (flag_name flag ∷ value ∷ words) words
apart_first flag value words takes good = record {
  front = flag_name flag ∷ value ∷ [];
  spelling = apart takes good refl;
  whole = refl;
}

pub bare_first : (flag : Flag) (words : List (List ℕ)) → has_value flag ≡ false → StandsFirst (flag, []) (flag_name flag ∷ words) words
bare_first flag words takes =
    let is = bare_flag flag takes in
    record {
      front = flag_name flag ∷ [];
      spelling = bare is refl (ap (λ f. flag_name f ∷ []) is);
      whole = refl;
    }

-- what isn't computed doesn't stand first
pub uncomputed : (words : List (List ℕ)) → first_of words ≡ None → (setting : Setting) (rest : List (List ℕ)) → StandsFirst setting words rest → ⊥
uncomputed words none setting rest stands = none-some (first setting rest) (sym none ∙ computed setting words rest stands)

pub never_joined : (flag : Flag) (value : List ℕ) (words : List (List ℕ)) → first_joined flag value words ≡ None → (setting : Setting) (rest : List (List ℕ)) → StandsFirst setting ((flag_name flag ++ (codes "=" ++ value)) ∷ words) rest → ⊥
never_joined flag value words none = uncomputed _ (first_of-joined flag value words ∙ none)

pub never_named : (flag : Flag) (words : List (List ℕ)) → first_named flag words ≡ None → (setting : Setting) (rest : List (List ℕ)) → StandsFirst setting (flag_name flag ∷ words) rest → ⊥
never_named flag words none = uncomputed _ (first_of-named flag words ∙ none)

-- the first word, and those behind it
pub first_text : (words : List (String Global)) (word : String Global) → 1 ≤ length words → word ≡ slice_index_or words 0 word → string_bytes word ∷ texts (take (length words - 1) (drop 1 words)) ≡ texts words
first_text [] word some is = absurd (omega arith)
first_text (w ∷ words) word some is =
    let rest : take (suc (length words) - 1) words ≡ words = take_all (suc (length words) - 1) words (omega arith) in
    λ i. string_bytes (is i) ∷ texts (rest i)

-- a word without the name of an option stands first in no spelling
pub never_unnamed : (word : List ℕ) (words : List (List ℕ)) → flag_of (name_in word) ≡ None → (setting : Setting) (rest : List (List ℕ)) → StandsFirst setting (word ∷ words) rest → ⊥
never_unnamed word words none = uncomputed (word ∷ words) (ap (λ found. first_by found (value_in word) words) none)

-- whether there are words
pub some_texts : (words : List (String Global)) → false ≡ (length words == 0) → 0 < length (texts words)
some_texts [] is = cc
some_texts (w ∷ words) is = omega arith

pub no_texts : (words : List (String Global)) → true ≡ (length words == 0) → texts words ≡ []
no_texts [] is = refl
no_texts (w ∷ words) is = let e : length (w ∷ words) ≡ 0 = grind (arith, nat_tests) in absurd (omega arith)

-- ---- another spelling

-- a spelling begins with a hyphen, so that its first word is no value
hyphen : (flag : Flag) → is_value (flag_name flag) ≡ false
hyphen Store = refl
hyphen Memory = refl
hyphen Sacks = refl
hyphen Number = refl
hyphen Seed = refl
hyphen Count = refl
hyphen Listen = refl
hyphen Workers = refl
hyphen Conns = refl

hyphen_joined : (flag : Flag) (value : List ℕ) → is_value (flag_name flag ++ (codes "=" ++ value)) ≡ false
hyphen_joined Store value = refl
hyphen_joined Memory value = refl
hyphen_joined Sacks value = refl
hyphen_joined Number value = refl
hyphen_joined Seed value = refl
hyphen_joined Count value = refl
hyphen_joined Listen value = refl
hyphen_joined Workers value = refl
hyphen_joined Conns value = refl

-- the first word of a spelling is no value
no_value_first : (flag : Flag) (value word : List ℕ) (front words after : List (List ℕ)) → IsSpelling flag value front → front ++ after ≡ word ∷ words → is_value word ≡ true → ⊥
no_value_first flag value word front words after (apart takes good is) whole good_word =
    let same : flag_name flag ∷ value ∷ after ≡ word ∷ words = sym (ap (λ f. f ++ after) is) ∙ whole in
    let name : flag_name flag ≡ word = cc in
    let b : true ≡ false = sym good_word ∙ sym (ap is_value name) ∙ hyphen flag in
    cc
no_value_first flag value word front words after (joined takes good is) whole good_word =
    let same : (flag_name flag ++ (codes "=" ++ value)) ∷ after ≡ word ∷ words = sym (ap (λ f. f ++ after) is) ∙ whole in
    let name : flag_name flag ++ (codes "=" ++ value) ≡ word = cc in
    let b : true ≡ false = sym good_word ∙ sym (ap is_value name) ∙ hyphen_joined flag value in
    cc
no_value_first flag value word front words after (bare takes good is) whole good_word =
    let same : codes "--memory" ∷ after ≡ word ∷ words = sym (ap (λ f. f ++ after) is) ∙ whole in
    let name : codes "--memory" ≡ word = cc in
    let b : true ≡ false = sym good_word ∙ sym (ap is_value name) ∙ hyphen Memory in
    cc

-- a word in front that is all of a spelling
one_word : (s : Setting) (settings : List Setting) (word w : List ℕ) (front more rest others : List (List ℕ)) → IsSpelling s.0 s.1 front → front ≡ word ∷ [] → w ∷ more ≡ front ++ rest → (Spells settings more → Spells settings others) → Spells settings rest → Spells (s ∷ settings) (w ∷ others)
one_word s settings word w front more rest others spelling is whole later p =
    let same : w ∷ more ≡ word ∷ rest = whole ∙ ap (λ f. f ++ rest) is in
    let words : w ≡ word = cc in
    let rests : rest ≡ more = cc in
    (others, record { front = front; spelling = spelling; whole = ap (λ x. x ∷ others) words ∙ sym (ap (λ f. f ++ others) is) }, later (subst (Spells settings) rests p))

-- two words in front that are all of a spelling
two_words : (s : Setting) (settings : List Setting) (word value w v : List ℕ) (front more rest others : List (List ℕ)) → IsSpelling s.0 s.1 front → front ≡ word ∷ value ∷ [] → w ∷ v ∷ more ≡ front ++ rest → (Spells settings more → Spells settings others) → Spells settings rest → Spells (s ∷ settings) (w ∷ v ∷ others)
two_words s settings word value w v front more rest others spelling is whole later p =
    let same : w ∷ v ∷ more ≡ word ∷ value ∷ rest = whole ∙ ap (λ f. f ++ rest) is in
    let words : w ≡ word = cc in
    let values : v ≡ value = cc in
    let rests : rest ≡ more = cc in
    (others, record { front = front; spelling = spelling; whole = (λ i. words i ∷ values i ∷ others) ∙ sym (ap (λ f. f ++ others) is) }, later (subst (Spells settings) rests p))

-- what spells words in which a spelling stands still spells them with another spelling there
pub other_spelling : (flag : Flag) (value : List ℕ) (settings : List Setting) (before one other after : List (List ℕ)) → IsSpelling flag value one → IsSpelling flag value other → Spells settings (before ++ (one ++ after)) → Spells settings (before ++ (other ++ after))
other_spelling flag value settings [] one other after first second p = at_front settings p
  where
    at_front : (settings : List Setting) → Spells settings (one ++ after) → Spells settings (other ++ after)
    at_front [] p = absurd (nothing_first (flag, value) after (record { front = one; spelling = first; whole = sym p }))
    at_front (s ∷ settings) (rest, stands, p) =
        let same = one_first s (flag, value) (one ++ after) rest after stands (record { front = one; spelling = first; whole = refl }) in
        let rests : rest ≡ after = ap (λ (f : First). f.rest) same in
        let heads : (flag, value) ≡ s = ap (λ (f : First). f.setting) (sym same) in
        (after, subst (λ (s : Setting). StandsFirst s (other ++ after) after) heads (record { front = other; spelling = second; whole = refl }), subst (Spells settings) rests p)
other_spelling flag value [] (w ∷ before) one other after first second p = cc
other_spelling flag value (s ∷ settings) (w ∷ before) one other after first second (rest, stands, p) =
    by before stands.front stands.spelling stands.spelling stands.whole (λ b q. other_spelling flag value settings b one other after first second q)
  where
    by : (before front : List (List ℕ)) → IsSpelling s.0 s.1 front → IsSpelling s.0 s.1 front → w ∷ (before ++ (one ++ after)) ≡ front ++ rest → ((b : List (List ℕ)) → Spells settings (b ++ (one ++ after)) → Spells settings (b ++ (other ++ after))) → Spells (s ∷ settings) (w ∷ (before ++ (other ++ after)))
    by [] front (apart takes good is) spelling whole later =
        let same : w ∷ (one ++ after) ≡ flag_name s.0 ∷ s.1 ∷ rest = whole ∙ ap (λ f. f ++ rest) is in
        let behind : one ++ after ≡ s.1 ∷ rest = cc in
        absurd (no_value_first flag value s.1 one rest after first behind good)
    by (v ∷ before) front (apart takes good is) spelling whole later =
        two_words s settings (flag_name s.0) s.1 w v front (before ++ (one ++ after)) rest (before ++ (other ++ after)) spelling is whole (later before) p
    by before front (joined takes good is) spelling whole later =
        one_word s settings (flag_name s.0 ++ (codes "=" ++ s.1)) w front (before ++ (one ++ after)) rest (before ++ (other ++ after)) spelling is whole (later before) p
    by before front (bare takes good is) spelling whole later =
        one_word s settings (codes "--memory") w front (before ++ (one ++ after)) rest (before ++ (other ++ after)) spelling is whole (later before) p

-- What is given for an option.
use Rattle.std.proofs.Common.{◌≡◌, ℕ, zero, suc, ◌+◌, ◌<◌, ◌≤◌, ◌⊎◌, Bool, true, false, cond, List, [], ◌∷◌, map, length, get_or, take, Option, Some, None, refl, sym, ap, subst, ◌∙◌, arith, inl, inr}
use Rattle.std.specs.Borrow.{Bor}
use Rattle.std.specs.List.{AllByRecursion, filter}
use Rattle.std.specs.Option.{is_some, option_map, option_to_list}
use Rattle.std.specs.List.Sorted.{IsPermutation}
use Rattle.std.proofs.lemmas.List.{length-map}
use Rattle.std.proofs.lemmas.List.Elements.{All-from_recursion, recursion_from_All}
use Rattle.std.proofs.lemmas.List.Sorted.{All-permutation, sum_by-IsPermutation}
use Rattle.std.proofs.lemmas.List.Sums.{length-filter}
use Rattle.command_line.specs.declared.flag.Flag.{Flag}
use Rattle.command_line.specs.declared.setting.Chosen.{Chosen}
use Rattle.command_line.specs.Flag.{is_flag}
use Rattle.command_line.specs.Given.{given_for, comes_to, home_from}
use Rattle.command_line.specs.Setting.{Setting, setting_of, settings_of}

-- one more setting in front
abbrev pub given_onto : Bool → Setting → List (List ℕ) → List (List ℕ)
given_onto b setting values = cond b (setting.1 ∷ values) values

pub given_for-cons : (flag : Flag) (setting : Setting) (settings : List Setting) → given_for flag (setting ∷ settings) ≡ given_onto (is_flag setting.0 flag) setting (given_for flag settings)
given_for-cons flag setting settings = by (is_flag setting.0 flag)
  where
    by : (b : Bool) → map (λ (s : Setting). s.1) (cond b (setting ∷ filter (λ (s : Setting). is_flag s.0 flag) settings) (filter (λ (s : Setting). is_flag s.0 flag) settings)) ≡ given_onto b setting (given_for flag settings)
    by true = refl
    by false = refl

longer : (b : Bool) (setting : Setting) (xs ys : List (List ℕ)) → length xs + 1 ≤ length ys → length (given_onto b setting xs) + 1 ≤ length (given_onto b setting ys)
longer true setting xs ys h = omega arith
longer false setting xs ys h = h

-- a setting of the option that is still to come
pub more_given : (flag : Flag) (chosen : List Chosen) (i : ℕ) (d : Chosen) → i < length chosen → is_flag (get_or chosen i d).flag flag ≡ true → length (given_for flag (settings_of (take i chosen))) + 1 ≤ length (given_for flag (settings_of chosen))
more_given flag [] i d in_range is = absurd (omega arith)
more_given flag (x ∷ chosen) zero d in_range is =
    rw (given_for-cons flag (setting_of x) (settings_of chosen), is) (omega arith)
more_given flag (x ∷ chosen) (suc i) d in_range is =
    rw (given_for-cons flag (setting_of x) (settings_of chosen), given_for-cons flag (setting_of x) (settings_of (take i chosen)))
    (longer (is_flag x.flag flag) (setting_of x) (given_for flag (settings_of (take i chosen))) (given_for flag (settings_of chosen)) (more_given flag chosen i d (omega arith) is))

-- ---- another order

-- each value of an option is this one, setting by setting
abbrev OfFlag : Flag → List ℕ → Setting → Type 0
OfFlag flag value setting = is_flag setting.0 flag ≡ true → setting.1 ≡ value

to_settings : (flag : Flag) (value : List ℕ) (settings : List Setting) → AllByRecursion (λ v. v ≡ value) (given_for flag settings) → AllByRecursion (OfFlag flag value) settings
to_settings flag value [] all = tt
to_settings flag value (s ∷ settings) all =
    by (is_flag s.0 flag) refl (subst (AllByRecursion (λ v. v ≡ value)) (given_for-cons flag s settings) all) (to_settings flag value settings)
  where
    by : (b : Bool) → is_flag s.0 flag ≡ b → AllByRecursion (λ v. v ≡ value) (given_onto b s (given_for flag settings)) → (AllByRecursion (λ v. v ≡ value) (given_for flag settings) → AllByRecursion (OfFlag flag value) settings) → OfFlag flag value s × AllByRecursion (OfFlag flag value) settings
    by true is all later = (λ own. all.0, later all.1)
    by false is all later = (λ own. let e : true ≡ false = sym own ∙ is in cc, later all)

to_values : (flag : Flag) (value : List ℕ) (settings : List Setting) → AllByRecursion (OfFlag flag value) settings → AllByRecursion (λ v. v ≡ value) (given_for flag settings)
to_values flag value [] all = tt
to_values flag value (s ∷ settings) all =
    subst (AllByRecursion (λ v. v ≡ value)) (sym (given_for-cons flag s settings)) (by (is_flag s.0 flag) refl (to_values flag value settings all.1))
  where
    by : (b : Bool) → is_flag s.0 flag ≡ b → AllByRecursion (λ v. v ≡ value) (given_for flag settings) → AllByRecursion (λ v. v ≡ value) (given_onto b s (given_for flag settings))
    by true is later = (all.0 is, later)
    by false is later = later

as_many : (flag : Flag) (settings others : List Setting) → IsPermutation settings others → length (given_for flag others) ≡ length (given_for flag settings)
as_many flag settings others moved =
    let p : Setting → Bool = λ s. is_flag s.0 flag in
    let value : Setting → List ℕ = λ s. s.1 in
    length-map (filter p others) value ∙ length-filter p others ∙ sum_by-IsPermutation (λ s. cond (p s) 1 0) settings others moved
    ∙ sym (length-map (filter p settings) value ∙ length-filter p settings)

-- the values of an option are the same, or there are two or more of them
pub Alike : List (List ℕ) → List (List ℕ) → Type 0
Alike xs ys = (xs ≡ ys) ⊎ ((2 ≤ length xs) × (2 ≤ length ys))

pub alike : (flag : Flag) (settings others : List Setting) → IsPermutation settings others → Alike (given_for flag settings) (given_for flag others)
unfolding Alike
alike flag settings others moved = by (given_for flag settings) (given_for flag others) refl (as_many flag settings others moved) (λ value all. to_values flag value others (recursion_from_All (OfFlag flag value) others (All-permutation (OfFlag flag value) settings others moved (All-from_recursion (OfFlag flag value) settings (to_settings flag value settings all)))))
  where
    by : (xs ys : List (List ℕ)) → given_for flag settings ≡ xs → length ys ≡ length xs → ((value : List ℕ) → AllByRecursion (λ v. v ≡ value) (given_for flag settings) → AllByRecursion (λ v. v ≡ value) ys) → (xs ≡ ys) ⊎ ((2 ≤ length xs) × (2 ≤ length ys))
    by [] [] is long same = inl refl
    by [] (y ∷ ys) is long same = absurd (omega arith)
    by (x ∷ []) [] is long same = absurd (omega arith)
    by (x ∷ []) (y ∷ []) is long same =
        let all = same x (subst (AllByRecursion (λ v. v ≡ x)) (sym is) (refl, tt)) in
        inl (ap (λ v. v ∷ []) (sym all.0))
    by (x ∷ []) (y ∷ z ∷ ys) is long same = absurd (omega arith)
    by (x ∷ w ∷ xs) ys is long same = inr (omega arith, omega arith)

many : {A : Type 0} (read : List ℕ → Option A) (default : Option A) (values : List (List ℕ)) → 2 ≤ length values → comes_to read default values ≡ None
many read default [] two = absurd (omega arith)
many read default (v ∷ []) two = absurd (omega arith)
many read default (v ∷ w ∷ values) two = refl

pub comes_alike : {A : Type 0} (read : List ℕ → Option A) (default : Option A) (xs ys : List (List ℕ)) → Alike xs ys → comes_to read default xs ≡ comes_to read default ys
unfolding Alike
comes_alike read default xs ys (inl same) = ap (comes_to read default) same
comes_alike read default xs ys (inr two) = many read default xs two.0 ∙ sym (many read default ys two.1)

many_folders : (folders memories : List (List ℕ)) → 2 ≤ length folders → home_from folders memories ≡ None
many_folders [] memories two = absurd (omega arith)
many_folders (f ∷ []) memories two = absurd (omega arith)
many_folders (f ∷ g ∷ folders) memories two = refl

many_memories : (folders memories : List (List ℕ)) → 2 ≤ length memories → home_from folders memories ≡ None
many_memories folders [] two = absurd (omega arith)
many_memories folders (m ∷ []) two = absurd (omega arith)
many_memories [] (m ∷ n ∷ memories) two = refl
many_memories (f ∷ []) (m ∷ n ∷ memories) two = refl
many_memories (f ∷ g ∷ folders) (m ∷ n ∷ memories) two = refl

pub home_alike : (a b x y : List (List ℕ)) → Alike a b → Alike x y → home_from a x ≡ home_from b y
unfolding Alike
home_alike a b x y (inl same) (inl equal) = λ i. home_from (same i) (equal i)
home_alike a b x y (inl same) (inr two) = many_memories a x two.0 ∙ sym (many_memories b y two.1)
home_alike a b x y (inr two) rest = many_folders a x two.0 ∙ sym (many_folders b y two.1)

-- ---- a value that was found

pub one_value : (value : Option (Bor (List ℕ))) → is_some value ≡ true → length (option_to_list (option_map (λ v. v.now) value)) ≡ 1
one_value None is = cc
one_value (Some v) is = refl

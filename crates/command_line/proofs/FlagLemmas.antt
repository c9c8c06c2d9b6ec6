-- Options and their names.
use Rattle.std.proofs.Common.{◌≡◌, ℕ, ◌==◌, Bool, true, false, cond, List, [], ◌∷◌, ◌++◌, Option, Some, None, refl, sym, ap, ◌∙◌, codes}
use Rattle.std.specs.List.{find}
use Rattle.std.specs.Str.{bytes_eq}
use Rattle.std.proofs.lemmas.Option.{none-some, same_Some}
use Rattle.std.proofs.lemmas.Slice.Eq.{bytes_eq-Decides}
use Rattle.command_line.specs.declared.flag.Flag.{Flag}
use Rattle.command_line.specs.declared.flag.Flag.TheVariants.{Store, Memory, Sacks, Number, Seed, Count, Listen, Workers, Conns}
use Rattle.command_line.specs.Flag.{all_flags, flag_name, flag_of, has_value, is_flag}

-- an option has its own name
pub own_flag : (flag : Flag) → flag_of (flag_name flag) ≡ Some flag
own_flag Store = refl
own_flag Memory = refl
own_flag Sacks = refl
own_flag Number = refl
own_flag Seed = refl
own_flag Count = refl
own_flag Listen = refl
own_flag Workers = refl
own_flag Conns = refl

pub is_own_flag : (flag : Flag) → is_flag flag flag ≡ true
is_own_flag Store = refl
is_own_flag Memory = refl
is_own_flag Sacks = refl
is_own_flag Number = refl
is_own_flag Seed = refl
is_own_flag Count = refl
is_own_flag Listen = refl
is_own_flag Workers = refl
is_own_flag Conns = refl

-- options with one name are one
pub same_flag : (a b : Flag) → flag_name a ≡ flag_name b → a ≡ b
same_flag a b same = same_Some a b (sym (own_flag a) ∙ ap flag_of same ∙ own_flag b)

pub flag_is : (a b : Flag) → is_flag a b ≡ true → a ≡ b
flag_is a b is = same_flag a b ((bytes_eq-Decides (flag_name a) (flag_name b)).0 is)

-- the option without a value is that of memory
pub bare_flag : (flag : Flag) → has_value flag ≡ false → flag ≡ Memory
bare_flag Store is = cc
bare_flag Memory is = refl
bare_flag Sacks is = cc
bare_flag Number is = cc
bare_flag Seed is = cc
bare_flag Count is = cc
bare_flag Listen is = cc
bare_flag Workers is = cc
bare_flag Conns is = cc

-- ---- a word up to its first `=`

-- the name in a word
pub name_in : List ℕ → List ℕ
name_in [] = []
name_in (b ∷ bytes) = cond (b == 61) [] (b ∷ name_in bytes)

-- the value in a word, behind `=`
pub value_in : List ℕ → Option (List ℕ)
value_in [] = None
value_in (b ∷ bytes) = cond (b == 61) (Some bytes) (value_in bytes)

pub name_alone : (flag : Flag) → name_in (flag_name flag) ≡ flag_name flag
unfolding name_in
name_alone Store = refl
name_alone Memory = refl
name_alone Sacks = refl
name_alone Number = refl
name_alone Seed = refl
name_alone Count = refl
name_alone Listen = refl
name_alone Workers = refl
name_alone Conns = refl

pub no_value : (flag : Flag) → value_in (flag_name flag) ≡ None
unfolding value_in
no_value Store = refl
no_value Memory = refl
no_value Sacks = refl
no_value Number = refl
no_value Seed = refl
no_value Count = refl
no_value Listen = refl
no_value Workers = refl
no_value Conns = refl

pub name_before : (flag : Flag) (value : List ℕ) → name_in (flag_name flag ++ (codes "=" ++ value)) ≡ flag_name flag
unfolding name_in
name_before Store value = refl
name_before Memory value = refl
name_before Sacks value = refl
name_before Number value = refl
name_before Seed value = refl
name_before Count value = refl
name_before Listen value = refl
name_before Workers value = refl
name_before Conns value = refl

pub value_after : (flag : Flag) (value : List ℕ) → value_in (flag_name flag ++ (codes "=" ++ value)) ≡ Some value
unfolding value_in
value_after Store value = refl
value_after Memory value = refl
value_after Sacks value = refl
value_after Number value = refl
value_after Seed value = refl
value_after Count value = refl
value_after Listen value = refl
value_after Workers value = refl
value_after Conns value = refl

-- ---- the option with a name

pub found_passes : {X : Type 0} (p : X → Bool) (xs : List X) (x : X) → find p xs ≡ Some x → p x ≡ true
found_passes p [] x is = absurd (none-some x is)
found_passes p (y ∷ ys) x is = by (p y) refl is (found_passes p ys x)
  where
    by : (b : Bool) → p y ≡ b → cond b (Some y) (find p ys) ≡ Some x → (find p ys ≡ Some x → p x ≡ true) → p x ≡ true
    by true passes found later = ap p (sym (same_Some y x found)) ∙ passes
    by false fails found later = later found

pub flag_named : (name : List ℕ) (flag : Flag) → flag_of name ≡ Some flag → name ≡ flag_name flag
flag_named name flag is =
    (bytes_eq-Decides name (flag_name flag)).0 (found_passes (λ f. bytes_eq name (flag_name f)) all_flags flag is)

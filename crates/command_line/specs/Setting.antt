-- Options with their values, and the words that spell them.
use Rattle.std.specs.Prelude.{◌≡◌, ℕ, ◌==◌, not, Bool, true, false, List, [], ◌∷◌, ◌++◌, map, codes, string_bytes}
use Rattle.std.specs.declared.string.String.{String}
use Rattle.std.specs.declared.alloc.Global.{Global}
use Rattle.command_line.specs.declared.flag.Flag.{Flag}
use Rattle.command_line.specs.declared.flag.Flag.TheVariants.{Memory}
use Rattle.command_line.specs.declared.setting.Chosen.{Chosen}
use Rattle.command_line.specs.Flag.{flag_name, has_value}

-- the bytes of the words
abbrev pub texts : List (String Global) → List (List ℕ)
texts words = map (λ word. string_bytes word) words

-- an option with its value, which is empty for `--memory`
abbrev pub Setting : Type 0
Setting = Flag × List ℕ

-- what was chosen, as a setting
abbrev pub setting_of : Chosen → Setting
setting_of chosen = (chosen.flag, chosen.value.now)

-- all that was chosen, as settings
abbrev pub settings_of : List Chosen → List Setting
settings_of chosen = map (λ c. setting_of c) chosen

-- a value: it isn't empty and doesn't begin with `-`
abbrev pub is_value : List ℕ → Bool
is_value [] = false
is_value (b ∷ bytes) = not (b == 45)

-- The words spell an option and its value: as `--x v`, as `--x=v`, or as `--memory` alone.
pub data IsSpelling (flag : Flag) (value : List ℕ) (words : List (List ℕ)) : Type 0 where
  apart : has_value flag ≡ true → is_value value ≡ true → words ≡ flag_name flag ∷ value ∷ [] → IsSpelling flag value words
  joined : has_value flag ≡ true → is_value value ≡ true → words ≡ (flag_name flag ++ (codes "=" ++ value)) ∷ [] → IsSpelling flag value words
  bare : flag ≡ Memory → value ≡ [] → words ≡ codes "--memory" ∷ [] → IsSpelling flag value words

-- a spelling of the setting stands first among the words, and the rest behind it
pub record StandsFirst (setting : Setting) (words rest : List (List ℕ)) : Type 0 where
  pub front : List (List ℕ)
  pub spelling : IsSpelling setting.0 setting.1 front
  pub whole : words ≡ front ++ rest

-- the words spell these settings, one after the other
abbrev pub Spells : List Setting → List (List ℕ) → Type 0
Spells [] words = words ≡ []
Spells (setting ∷ settings) words = (rest : List (List ℕ)) × StandsFirst setting words rest × Spells settings rest

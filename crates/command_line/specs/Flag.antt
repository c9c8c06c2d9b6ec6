-- The options of commands.
use Rattle.std.specs.Prelude.{ℕ, Bool, true, false, List, [], ◌∷◌, Option, codes}
use Rattle.std.specs.List.{find}
use Rattle.std.specs.Str.{bytes_eq}
use Rattle.command_line.specs.declared.flag.Flag.{Flag}
use Rattle.command_line.specs.declared.flag.Flag.TheVariants.{Store, Memory, Sacks, Number, Seed, Count, Listen, Workers, Conns}

-- how a word names an option
abbrev pub flag_name : Flag → List ℕ
flag_name Store = codes "--store"
flag_name Memory = codes "--memory"
flag_name Sacks = codes "--sacks"
flag_name Number = codes "--number"
flag_name Seed = codes "--seed"
flag_name Count = codes "--count"
flag_name Listen = codes "--listen"
flag_name Workers = codes "--workers"
flag_name Conns = codes "--conns"

-- the options
abbrev pub all_flags : List Flag
all_flags = Store ∷ Memory ∷ Sacks ∷ Number ∷ Seed ∷ Count ∷ Listen ∷ Workers ∷ Conns ∷ []

-- the option with this name
abbrev pub flag_of : List ℕ → Option Flag
flag_of name = find (λ flag. bytes_eq name (flag_name flag)) all_flags

-- the two are one option: they have one name
abbrev pub is_flag : Flag → Flag → Bool
is_flag a b = bytes_eq (flag_name a) (flag_name b)

-- the option takes a value
abbrev pub has_value : Flag → Bool
has_value Store = true
has_value Memory = false
has_value Sacks = true
has_value Number = true
has_value Seed = true
has_value Count = true
has_value Listen = true
has_value Workers = true
has_value Conns = true

-- What settings give for each option.
use Rattle.std.specs.Prelude.{ℕ, List, [], ◌∷◌, map, Option, Some, None, codes}
use Rattle.std.specs.List.{filter}
use Rattle.command_line.specs.declared.flag.Flag.{Flag}
use Rattle.command_line.specs.declared.flag.Flag.TheVariants.{Store, Memory, Sacks, Number, Seed, Count, Listen, Workers, Conns}
use Rattle.command_line.specs.declared.home.Home.{Home}
use Rattle.command_line.specs.declared.home.Home.TheVariants as homes
use Rattle.command_line.specs.Flag.{is_flag}
use Rattle.command_line.specs.Number.{number_within}
use Rattle.command_line.specs.Setting.{Setting}

-- the values given for an option, in order
abbrev pub given_for : Flag → List Setting → List (List ℕ)
given_for flag settings = map (λ (s : Setting). s.1) (filter (λ (s : Setting). is_flag s.0 flag) settings)

-- what the values of an option come to: the default where there is none, which is nothing where the
-- option is required; what the only one reads as; two are too many
abbrev pub comes_to : {A : Type 0} → (List ℕ → Option A) → Option A → List (List ℕ) → Option A
comes_to read default [] = default
comes_to read default (value ∷ []) = read value
comes_to read default (value ∷ next ∷ values) = None

-- the folder of `--store`
abbrev pub folder_in : List Setting → Option (List ℕ)
folder_in settings = comes_to Some None (given_for Store settings)

-- where the store is: exactly one of a folder and memory
abbrev pub home_from : List (List ℕ) → List (List ℕ) → Option Home
home_from (folder ∷ []) [] = Some (homes.Folder folder)
home_from [] (nothing ∷ []) = Some homes.Memory
home_from [] [] = None
home_from [] (nothing ∷ next ∷ memories) = None
home_from (folder ∷ []) (nothing ∷ memories) = None
home_from (folder ∷ next ∷ folders) memories = None

-- the place that `--store` or `--memory` gives
abbrev pub home_in : List Setting → Option Home
home_in settings = home_from (given_for Store settings) (given_for Memory settings)

-- how many sacks the store has
abbrev pub sacks_in : List Setting → Option ℕ
sacks_in settings = comes_to (number_within 1 64) (Some 4) (given_for Sacks settings)

-- the number of the store
abbrev pub number_in : List Setting → Option ℕ
number_in settings = comes_to (number_within 0 4294967295) (Some 1) (given_for Number settings)

-- what a generator starts with
abbrev pub seed_in : List Setting → Option ℕ
seed_in settings = comes_to (number_within 0 18446744073709551615) None (given_for Seed settings)

-- how much is generated
abbrev pub count_in : List Setting → Option ℕ
count_in settings = comes_to (number_within 1 20000) None (given_for Count settings)

-- the address that a server listens on
abbrev pub listen_in : List Setting → Option (List ℕ)
listen_in settings = comes_to Some (Some (codes "127.0.0.1:8041")) (given_for Listen settings)

-- how many workers a server has
abbrev pub workers_in : List Setting → Option ℕ
workers_in settings = comes_to (number_within 1 16) (Some 2) (given_for Workers settings)

-- how many connections a server has at a time
abbrev pub conns_in : List Setting → Option ℕ
conns_in settings = comes_to (number_within 1 64) (Some 8) (given_for Conns settings)

-- The words that commands begin with, and the options that each takes.
use Rattle.std.specs.Prelude.{ℕ, Bool, List, [], ◌∷◌, Option, codes}
use Rattle.std.specs.List.{find, list_any}
use Rattle.std.specs.Str.{bytes_eq}
use Rattle.command_line.specs.declared.flag.Flag.{Flag}
use Rattle.command_line.specs.declared.flag.Flag.TheVariants.{Store, Memory, Sacks, Number, Seed, Count, Listen, Workers, Conns}
use Rattle.command_line.specs.Flag.{is_flag}
use Rattle.command_line.specs.declared.verb.Verb.{Verb}
use Rattle.command_line.specs.declared.verb.Verb.TheVariants.{Create, Replay, ReplayHttp, Check, Load, Drill, Serve}

-- the first word of a command
abbrev pub verb_name : Verb → List ℕ
verb_name Create = codes "create"
verb_name Replay = codes "replay"
verb_name ReplayHttp = codes "replay-http"
verb_name Check = codes "check"
verb_name Load = codes "load"
verb_name Drill = codes "drill"
verb_name Serve = codes "serve"

-- the verbs
abbrev pub all_verbs : List Verb
all_verbs = Create ∷ Replay ∷ ReplayHttp ∷ Check ∷ Load ∷ Drill ∷ Serve ∷ []

-- the verb with this name
abbrev pub verb_of : List ℕ → Option Verb
verb_of name = find (λ verb. bytes_eq name (verb_name verb)) all_verbs

-- the options that a command takes
abbrev pub options_of : Verb → List Flag
options_of Create = Store ∷ Sacks ∷ Number ∷ []
options_of Replay = Store ∷ Memory ∷ Sacks ∷ Number ∷ []
options_of ReplayHttp = Store ∷ Memory ∷ Sacks ∷ Number ∷ []
options_of Check = Store ∷ Sacks ∷ []
options_of Load = Seed ∷ Count ∷ Sacks ∷ []
options_of Drill = Seed ∷ Count ∷ []
options_of Serve = Store ∷ Memory ∷ Sacks ∷ Number ∷ Listen ∷ Workers ∷ Conns ∷ []

-- the command takes the option
abbrev pub takes : Verb → Flag → Bool
takes verb flag = list_any (λ option. is_flag option flag) (options_of verb)

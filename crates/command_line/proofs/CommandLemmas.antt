-- Words and their commands.
use Rattle.std.proofs.Common.{◌≡◌, ℕ, ◌≤◌, ◌-◌, Bool, take, drop, slice_index_or, string_bytes, ◌++◌, List, [], ◌∷◌, length, All, IsTrue, IfOk, MatchResult, Some, None, option_and_then, Result, Ok, Err, refl, sym, ap, subst, ◌∙◌, codes, true, false}
use Rattle.std.specs.declared.string.String.{String}
use Rattle.std.specs.declared.alloc.Global.{Global}
use Rattle.std.specs.List.{AllByRecursion}
use Rattle.std.proofs.lemmas.Bool.{both_ways}
use Rattle.std.proofs.lemmas.List.Elements.{All-from_recursion, All-map, recursion_from_All}
use Rattle.std.specs.List.Sorted.{IsPermutation}
use Rattle.std.specs.Str.{bytes_eq}
use Rattle.std.proofs.lemmas.List.Sorted.{All-permutation}
use Rattle.std.proofs.lemmas.Option.{none-some, same_Some}
use Rattle.std.proofs.lemmas.Slice.Eq.{bytes_eq-Decides}
use Rattle.command_line.specs.declared.command.Command.{Command}
use Rattle.command_line.specs.declared.command.Command.TheVariants.{Create, Replay, ReplayHttp, Check, Load, Drill, Serve}
use Rattle.command_line.specs.declared.fault.PlanFault.{PlanFault}
use Rattle.command_line.specs.declared.fault.PlanFault.TheVariants.{Usage, Memory}
use Rattle.command_line.specs.declared.flag.Flag.{Flag}
use Rattle.command_line.specs.declared.flag.Flag.TheVariants as flags
use Rattle.command_line.specs.declared.setting.Chosen.{Chosen}
use Rattle.command_line.specs.declared.verb.Verb.{Verb}
use Rattle.command_line.specs.declared.verb.Verb.TheVariants as verbs
use Rattle.command_line.specs.Command.{IsCommand, command_from, of_two, of_three}
use Rattle.command_line.specs.Fault.{IsReading}
use Rattle.command_line.specs.Given.{folder_in, home_in, sacks_in, number_in, seed_in, count_in, listen_in, workers_in, conns_in, given_for}
use Rattle.command_line.specs.Number.{number_within}
use Rattle.command_line.specs.Setting.{IsSpelling, Setting, Spells, setting_of, settings_of, texts}
use Rattle.command_line.specs.Verb.{all_verbs, takes, verb_name, verb_of}
use Rattle.command_line.proofs.FlagLemmas.{found_passes}
use Rattle.command_line.proofs.GivenLemmas.{alike, comes_alike, home_alike}
use Rattle.command_line.proofs.SpellingLemmas.{first_text, one_spelled, other_spelling}

-- a verb has its own name
own_verb : (verb : Verb) → verb_of (verb_name verb) ≡ Some verb
own_verb verbs.Create = refl
own_verb verbs.Replay = refl
own_verb verbs.ReplayHttp = refl
own_verb verbs.Check = refl
own_verb verbs.Load = refl
own_verb verbs.Drill = refl
own_verb verbs.Serve = refl

same_verb : (a b : Verb) → verb_name a ≡ verb_name b → a ≡ b
same_verb a b same = same_Some a b (sym (own_verb a) ∙ ap verb_of same ∙ own_verb b)

pub verb_named : (name : List ℕ) (verb : Verb) → verb_of name ≡ Some verb → name ≡ verb_name verb
verb_named name verb is =
    (bytes_eq-Decides name (verb_name verb)).0 (found_passes (λ v. bytes_eq name (verb_name v)) all_verbs verb is)

-- a word that names no verb begins no command
pub unnamed : (words : List (List ℕ)) (word : List ℕ) (rest : List (List ℕ)) (command : Command) → words ≡ word ∷ rest → verb_of word ≡ None → IsCommand words command → ⊥
unnamed words word rest command whole none is =
    let same : word ∷ rest ≡ verb_name is.verb ∷ is.rest = sym whole ∙ is.named in
    let name : word ≡ verb_name is.verb = cc in
    none-some is.verb (sym none ∙ ap verb_of name ∙ own_verb is.verb)

-- what words are known to be
pub record AreKnown (words : List (List ℕ)) (verb : Verb) (settings : List Setting) : Type 0 where
  pub rest : List (List ℕ)
  pub named : words ≡ verb_name verb ∷ rest
  pub spelled : Spells settings rest

pub record IsSo (verb : Verb) (settings : List Setting) (command : Command) : Type 0 where
  pub taken : All (λ (setting : Setting). IsTrue (takes verb setting.0)) settings
  pub made : command_from verb settings ≡ Some command

-- a command of known words has their verb and settings
pub so : (words : List (List ℕ)) (verb : Verb) (settings : List Setting) (command : Command) → AreKnown words verb settings → IsCommand words command → IsSo verb settings command
so words verb settings command known is =
    let whole : verb_name verb ∷ known.rest ≡ verb_name is.verb ∷ is.rest = sym known.named ∙ is.named in
    let names : verb_name verb ≡ verb_name is.verb = cc in
    let rests : known.rest ≡ is.rest = cc in
    let verbs_are : is.verb ≡ verb = sym (same_verb verb is.verb names) in
    let settings_are : is.settings ≡ settings = one_spelled is.settings settings is.rest is.spelled (subst (Spells settings) rests known.spelled) in
    record {
      taken = subst (λ (v : Verb). All (λ (setting : Setting). IsTrue (takes v setting.0)) settings) verbs_are (subst (λ (s : List Setting). All (λ (setting : Setting). IsTrue (takes is.verb setting.0)) s) settings_are is.taken);
      made = sym (λ i. command_from (verbs_are i) (settings_are i)) ∙ is.made;
    }

-- words whose rest spells nothing are no command
pub unspelled : (words : List (List ℕ)) (verb : Verb) (rest : List (List ℕ)) (command : Command) → words ≡ verb_name verb ∷ rest → ((settings : List Setting) → Spells settings rest → ⊥) → IsCommand words command → ⊥
unspelled words verb rest command whole none is =
    let same : verb_name verb ∷ rest ≡ verb_name is.verb ∷ is.rest = sym whole ∙ is.named in
    let rests : is.rest ≡ rest = cc in
    none is.settings (subst (Spells is.settings) rests is.spelled)

pub one : (words : List (List ℕ)) (a b : Command) → IsCommand words a → IsCommand words b → a ≡ b
one words a b p q =
    let r = so words p.verb p.settings b (record { rest = p.rest; named = p.named; spelled = p.spelled }) q in
    same_Some a b (sym p.made ∙ r.made)

-- ---- what is made of known words

pub made_ok : (words : List (List ℕ)) (verb : Verb) (settings : List Setting) (result : Result Command PlanFault) → AreKnown words verb settings → All (λ (setting : Setting). IsTrue (takes verb setting.0)) settings → IsReading (command_from verb settings) result → IfOk result (IsCommand words)
made_ok words verb settings (Ok command) known taken is = record {
  verb = verb;
  settings = settings;
  rest = known.rest;
  named = known.named;
  spelled = known.spelled;
  taken = taken;
  made = is;
}
made_ok words verb settings (Err fault) known taken is = tt

pub made_only : (words : List (List ℕ)) (verb : Verb) (settings : List Setting) (result : Result Command PlanFault) → AreKnown words verb settings → IsReading (command_from verb settings) result → (command : Command) → IsCommand words command → MatchResult result (λ read. read ≡ command) (λ fault. fault ≡ Memory)
made_only words verb settings (Ok read) known is command of_words =
    same_Some read command (sym is ∙ (so words verb settings command known of_words).made)
made_only words verb settings (Err Usage) known is command of_words =
    absurd (none-some command (sym is ∙ (so words verb settings command known of_words).made))
made_only words verb settings (Err Memory) known is command of_words = refl

pub made_usage : (words : List (List ℕ)) (verb : Verb) (settings : List Setting) (result : Result Command PlanFault) → AreKnown words verb settings → IsReading (command_from verb settings) result → result ≡ Err Usage → (command : Command) → IsCommand words command → ⊥
made_usage words verb settings (Ok read) known is usage command of_words = cc
made_usage words verb settings (Err Usage) known is usage command of_words =
    none-some command (sym is ∙ (so words verb settings command known of_words).made)
made_usage words verb settings (Err Memory) known is usage command of_words = cc

-- ---- another order, another spelling

reordered_from : (verb : Verb) (settings others : List Setting) → IsPermutation settings others → command_from verb settings ≡ command_from verb others
reordered_from verb settings others moved = by verb
  where
    folder : folder_in settings ≡ folder_in others
    folder = comes_alike Some None (given_for flags.Store settings) (given_for flags.Store others) (alike flags.Store settings others moved)

    home : home_in settings ≡ home_in others
    home = home_alike (given_for flags.Store settings) (given_for flags.Store others) (given_for flags.Memory settings) (given_for flags.Memory others) (alike flags.Store settings others moved) (alike flags.Memory settings others moved)

    sacks : sacks_in settings ≡ sacks_in others
    sacks = comes_alike (number_within 1 64) (Some 4) (given_for flags.Sacks settings) (given_for flags.Sacks others) (alike flags.Sacks settings others moved)

    number : number_in settings ≡ number_in others
    number = comes_alike (number_within 0 4294967295) (Some 1) (given_for flags.Number settings) (given_for flags.Number others) (alike flags.Number settings others moved)

    seed : seed_in settings ≡ seed_in others
    seed = comes_alike (number_within 0 18446744073709551615) None (given_for flags.Seed settings) (given_for flags.Seed others) (alike flags.Seed settings others moved)

    count : count_in settings ≡ count_in others
    count = comes_alike (number_within 1 20000) None (given_for flags.Count settings) (given_for flags.Count others) (alike flags.Count settings others moved)

    listen : listen_in settings ≡ listen_in others
    listen = comes_alike Some (Some (codes "127.0.0.1:8041")) (given_for flags.Listen settings) (given_for flags.Listen others) (alike flags.Listen settings others moved)

    workers : workers_in settings ≡ workers_in others
    workers = comes_alike (number_within 1 16) (Some 2) (given_for flags.Workers settings) (given_for flags.Workers others) (alike flags.Workers settings others moved)

    conns : conns_in settings ≡ conns_in others
    conns = comes_alike (number_within 1 64) (Some 8) (given_for flags.Conns settings) (given_for flags.Conns others) (alike flags.Conns settings others moved)

    by : (verb : Verb) → command_from verb settings ≡ command_from verb others
    by verbs.Create = λ i. of_three Create (folder i) (sacks i) (number i)
    by verbs.Replay = λ i. of_three Replay (home i) (sacks i) (number i)
    by verbs.ReplayHttp = λ i. of_three ReplayHttp (home i) (sacks i) (number i)
    by verbs.Check = λ i. of_two Check (folder i) (sacks i)
    by verbs.Load = λ i. of_three Load (seed i) (count i) (sacks i)
    by verbs.Drill = λ i. of_two Drill (seed i) (count i)
    by verbs.Serve = λ i. option_and_then (λ serve. of_three serve (listen i) (workers i) (conns i)) (of_three (λ home sacks number listen workers conns. Serve home sacks number listen workers conns) (home i) (sacks i) (number i))

pub reordered : (verb : List ℕ) (settings others : List Setting) (words more : List (List ℕ)) (command : Command) → Spells settings words → Spells others more → IsPermutation settings others → IsCommand (verb ∷ words) command → IsCommand (verb ∷ more) command
reordered verb settings others words more command spelled respelled moved is =
    let rests : is.rest ≡ words = cc (sym is.named) in
    let name : verb ≡ verb_name is.verb = cc is.named in
    let same : is.settings ≡ settings = one_spelled is.settings settings is.rest is.spelled (subst (Spells settings) (sym rests) spelled) in
    record {
      verb = is.verb;
      settings = others;
      rest = more;
      named = ap (λ v. v ∷ more) name;
      spelled = respelled;
      taken = All-permutation (λ (setting : Setting). IsTrue (takes is.verb setting.0)) settings others moved (subst (λ (s : List Setting). All (λ (setting : Setting). IsTrue (takes is.verb setting.0)) s) same is.taken);
      made = sym (reordered_from is.verb settings others moved) ∙ sym (ap (command_from is.verb) same) ∙ is.made;
    }

pub respelled : (verb value : List ℕ) (flag : Flag) (before one other after : List (List ℕ)) (command : Command) → IsSpelling flag value one → IsSpelling flag value other → IsCommand (verb ∷ (before ++ (one ++ after))) command → IsCommand (verb ∷ (before ++ (other ++ after))) command
respelled verb value flag before one other after command first second is =
    let rests : is.rest ≡ before ++ (one ++ after) = cc (sym is.named) in
    let name : verb ≡ verb_name is.verb = cc is.named in
    record {
      verb = is.verb;
      settings = is.settings;
      rest = before ++ (other ++ after);
      named = ap (λ v. v ∷ (before ++ (other ++ after))) name;
      spelled = other_spelling flag value is.settings before one other after first second (subst (Spells is.settings) rests is.spelled);
      taken = is.taken;
      made = is.made;
    }

-- ---- what was read

pub known_words : (words : List (String Global)) (word : String Global) (verb : Verb) (settings : List Setting) → 1 ≤ length words → word ≡ slice_index_or words 0 word → verb_of (string_bytes word) ≡ Some verb → Spells settings (texts (take (length words - 1) (drop 1 words))) → AreKnown (texts words) verb settings
known_words words word verb settings some is found spelled =
    let rest = texts (take (length words - 1) (drop 1 words)) in
    record {
      rest = rest;
      named = sym (first_text words word some is) ∙ ap (λ w. w ∷ rest) (verb_named (string_bytes word) verb found);
      spelled = spelled;
    }

chosen_rec : (verb : Verb) (chosen : List Chosen) → AllByRecursion (λ (setting : Setting). IsTrue (takes verb setting.0)) (settings_of chosen) → AllByRecursion (λ (c : Chosen). IsTrue (takes verb c.flag)) chosen
chosen_rec verb [] all = tt
chosen_rec verb (c ∷ chosen) all = (all.0, chosen_rec verb chosen all.1)

-- what is taken, as it was chosen
pub chosen_taken : (verb : Verb) (chosen : List Chosen) → All (λ (setting : Setting). IsTrue (takes verb setting.0)) (settings_of chosen) → All (λ (c : Chosen). IsTrue (takes verb c.flag)) chosen
chosen_taken verb chosen all =
    All-from_recursion (λ (c : Chosen). IsTrue (takes verb c.flag)) chosen (chosen_rec verb chosen (recursion_from_All (λ (setting : Setting). IsTrue (takes verb setting.0)) (settings_of chosen) all))

pub settings_taken : (verb : Verb) (chosen : List Chosen) → All (λ (c : Chosen). IsTrue (takes verb c.flag)) chosen → All (λ (setting : Setting). IsTrue (takes verb setting.0)) (settings_of chosen)
settings_taken verb chosen all = All-map (λ (setting : Setting). IsTrue (takes verb setting.0)) (λ c. setting_of c) chosen all

-- where an option isn't taken, the words are no command
pub not_taken : (words : List (List ℕ)) (verb : Verb) (chosen : List Chosen) (b : Bool) → AreKnown words verb (settings_of chosen) → b ≡ false → (All (λ (c : Chosen). IsTrue (takes verb c.flag)) chosen → IsTrue b) → (command : Command) → IsCommand words command → ⊥
not_taken words verb chosen b known fails all command is =
    let t : b ≡ true = all (chosen_taken verb chosen (so words verb (settings_of chosen) command known is).taken) in
    both_ways b fails t

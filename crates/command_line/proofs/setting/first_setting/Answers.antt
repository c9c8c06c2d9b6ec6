use Rattle.std.proofs.Common.{◌≡◌, ◌∷◌, ◌++◌, ◌-◌, List, ℕ, Some, IfSome, IfNone, length, take, drop, codes, string_bytes, sym, ap, subst, ◌∙◌, arith}
use Rattle.std.proofs.lemmas.Str.Pattern.{split_parts}
use Rattle.command_line.specs.Flag.{flag_name, flag_of}
use Rattle.command_line.specs.Setting.{Setting, StandsFirst, setting_of, texts}
use Rattle.command_line.proofs.FlagLemmas.{flag_named}
use Rattle.command_line.proofs.SpellingLemmas.{first_text}
use Rattle.command_line.proofs.setting.first_setting.Goals as goal

-- all words, where the first has a name and a value
spelled : (c : goal.After-with_value) → (flag_name c.in_ok-flag_of-in-Some.field-0 ++ (codes "=" ++ c.in-Some.value.now)) ∷ texts (take (length c.args.words.now - 1) (drop 1 c.args.words.now)) ≡ texts c.args.words.now
spelled c =
    let name = c.in-Some.name in
    let value = c.in-Some.value in
    let flag = c.in_ok-flag_of-in-Some.field-0 in
    let behind = texts (take (length c.args.words.now - 1) (drop 1 c.args.words.now)) in
    let parts = split_parts 61 c.deref.result.now (Some (name, value)) c.in-Some.ensures.cases (omega arith) in
    let found : flag_of name.now ≡ Some flag = ap flag_of (sym c.as_bytes.ensures.value) ∙ sym c.flag_of.ensures ∙ c.in_ok-flag_of-in-Some.was in
    let word : flag_name flag ++ (codes "=" ++ value.now) ≡ string_bytes c.word-item.result = ap (λ n. n ++ (codes "=" ++ value.now)) (sym (flag_named name.now flag found)) ∙ sym parts.0 ∙ c.deref.ensures in
    ap (λ w. w ∷ behind) word ∙ first_text c.args.words.now c.word-item.result c.in-len1-up.len_at_least c.word-item.is

pub returns-in_ok-flag_of-in-Some-clause-some : goal.returns-in_ok-flag_of-in-Some-clause-some
returns-in_ok-flag_of-in-Some-clause-some c =
    subst (λ (words : List (List ℕ)). IfSome c.with_value.result (λ x. StandsFirst (setting_of x.0) words (texts x.1.now))) (spelled c) c.with_value.ensures.some

pub returns-in_ok-flag_of-in-Some-clause-none : goal.returns-in_ok-flag_of-in-Some-clause-none
returns-in_ok-flag_of-in-Some-clause-none c =
    subst (λ (words : List (List ℕ)). IfNone c.with_value.result ((setting : Setting) (rest : List (List ℕ)) → ¬ StandsFirst setting words rest)) (spelled c) c.with_value.ensures.none

-- all words, where the first is the name of an option
named : (c : goal.After-named) → flag_name c.in_ok-flag_of-in-None.field-0 ∷ texts (take (length c.args.words.now - 1) (drop 1 c.args.words.now)) ≡ texts c.args.words.now
named c =
    let flag = c.in_ok-flag_of-in-None.field-0 in
    let behind = texts (take (length c.args.words.now - 1) (drop 1 c.args.words.now)) in
    let found : flag_of (string_bytes c.word-item.result) ≡ Some flag = ap flag_of (sym c.as_bytes-in-None.ensures.value) ∙ sym c.flag_of-in-None.ensures ∙ c.in_ok-flag_of-in-None.was in
    ap (λ w. w ∷ behind) (sym (flag_named (string_bytes c.word-item.result) flag found)) ∙ first_text c.args.words.now c.word-item.result c.in-len1-up.len_at_least c.word-item.is

pub returns-in_ok-flag_of-in-None-clause-some : goal.returns-in_ok-flag_of-in-None-clause-some
returns-in_ok-flag_of-in-None-clause-some c =
    subst (λ (words : List (List ℕ)). IfSome c.named.result (λ x. StandsFirst (setting_of x.0) words (texts x.1.now))) (named c) c.named.ensures.some

pub returns-in_ok-flag_of-in-None-clause-none : goal.returns-in_ok-flag_of-in-None-clause-none
returns-in_ok-flag_of-in-None-clause-none c =
    subst (λ (words : List (List ℕ)). IfNone c.named.result ((setting : Setting) (rest : List (List ℕ)) → ¬ StandsFirst setting words rest)) (named c) c.named.ensures.none

use Rattle.std.proofs.Common.{◌≡◌, ◌∷◌, List, ℕ, true, false, take, drop, length, ◌-◌, ap, subst, ◌∙◌}
use Rattle.command_line.specs.Flag.{flag_name, has_value}
use Rattle.command_line.specs.Setting.{is_value, texts, StandsFirst}
use Rattle.command_line.proofs.SpellingLemmas.{bare_first, apart_first, first_text}
use Rattle.command_line.proofs.setting.named.Goals as goal

pub returns-then-not-has_value-clause-some : goal.returns-then-not-has_value-clause-some
returns-then-not-has_value-clause-some c =
    let takes : has_value c.args.flag ≡ false = cc in
    bare_first c.args.flag (texts c.args.behind.now) takes

pub returns-in-len1-up-clause-some : goal.returns-in-len1-up-clause-some
returns-in-len1-up-clause-some c =
    let flag = c.args.flag in
    let value = c.deref-in-len1-up.result in
    let words = texts (take (length c.args.behind.now - 1) (drop 1 c.args.behind.now)) in
    let takes : has_value flag ≡ true = cc in
    let good : is_value value.now ≡ true = cc in
    let whole : value.now ∷ words ≡ texts c.args.behind.now = ap (λ v. v ∷ words) c.deref-in-len1-up.ensures ∙ first_text c.args.behind.now c.value-item.result c.in-len1-up.len_at_least c.value-item.is in
    subst (λ (behind : List (List ℕ)). StandsFirst (flag, value.now) (flag_name flag ∷ behind) words) whole (apart_first flag value.now words takes good)

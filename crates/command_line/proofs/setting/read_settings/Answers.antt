use Rattle.std.proofs.Common.{◌≡◌, ◌++◌, ◌∷◌, [], List, sym, ap, subst, ◌∙◌, append-nil}
use Rattle.std.proofs.lemmas.List.{map-append}
use Rattle.command_line.specs.Setting.{Setting, Spells, setting_of, settings_of, texts}
use Rattle.command_line.proofs.SpellingLemmas.{IsFront, front_more, front_stuck, no_texts, some_texts}
use Rattle.command_line.proofs.setting.read_settings.Goals as goal

pub returns-in_default-clause-usage : goal.returns-in_default-clause-usage
returns-in_default-clause-usage c usage settings =
    let left = c.loop-left.left.now in
    front_stuck (settings_of c.loop-left.chosen.items) (texts c.args.words.now) (texts left) c.loop-left.invariant (some_texts left c.loop-left-test.ensures) c.in_default.ensures.none settings

pub loop-left-preserved : goal.loop-left-preserved
loop-left-preserved c =
    let done = c.loop-left.chosen.items in
    let first = c.in-Some.first in
    let more : settings_of done ++ setting_of first ∷ [] ≡ settings_of c.push.new.self.items = sym (map-append (λ x. setting_of x) done (first ∷ [])) ∙ ap settings_of (sym c.in_ok-push.ensures.items) in
    subst (λ (s : List Setting). IsFront s (texts c.args.words.now) (texts c.in-Some.behind.now)) more
    (front_more (settings_of done) (setting_of first) (texts c.args.words.now) (texts c.loop-left.left.now) (texts c.in-Some.behind.now) c.loop-left.invariant c.in-Some.ensures.some)

pub returns-clause-ok : goal.returns-clause-ok
returns-clause-ok c =
    let done = settings_of c.loop-left.chosen.items in
    let none : texts c.loop-left.left.now ≡ [] = no_texts c.loop-left.left.now c.loop-left-test.ensures in
    subst (λ (s : List Setting). Spells s (texts c.args.words.now)) (append-nil done) (c.loop-left.invariant.forth [] none)

use Rattle.std.proofs.Common.{All, IsTrue, List, refl, sym, ap, subst, ◌∙◌}
use Rattle.command_line.specs.declared.setting.Chosen.{Chosen}
use Rattle.command_line.specs.Setting.{settings_of, texts}
use Rattle.command_line.specs.Verb.{takes, verb_of}
use Rattle.command_line.proofs.CommandLemmas.{AreKnown, known_words, made_ok, made_only, made_usage, not_taken, settings_taken}
use Rattle.command_line.proofs.command.read_command.Goals as goal

-- the words are known, though an option isn't taken
refused : (c : goal.After-drop-chosen) → AreKnown (texts c.args.words.now) c.in-Some.verb (settings_of c.in_ok-chosen.chosen.items)
refused c =
    known_words c.args.words.now c.word-item.result c.in-Some.verb (settings_of c.in_ok-chosen.chosen.items) c.in-len1-up.len_at_least c.word-item.is
    (ap verb_of (sym c.as_bytes.ensures.value) ∙ sym c.verb_of.ensures ∙ c.in-Some.is) c.in_ok-chosen.ensures.ok

pub returns-then-not-are_taken-clause-usage : goal.returns-then-not-are_taken-clause-usage
returns-then-not-are_taken-clause-usage c usage command is =
    let verb = c.in-Some.verb in
    not_taken (texts c.args.words.now) verb c.in_ok-chosen.chosen.items c.are_taken.result (refused c) c.if-not-are_taken.true
    (λ all. c.are_taken.ensures.1 (subst (λ (chosen : List Chosen). All (λ (x : Chosen). IsTrue (takes verb x.flag)) chosen) (sym c.deref.ensures.value) all))
    command is

pub returns-then-not-are_taken-clause-only : goal.returns-then-not-are_taken-clause-only
returns-then-not-are_taken-clause-only c command is = absurd (returns-then-not-are_taken-clause-usage c refl command is)

-- the words are known
known : (c : goal.After-drop-chosen-2) → AreKnown (texts c.args.words.now) c.in-Some.verb (settings_of c.deref-2.result.now)
known c =
    subst (λ (chosen : List Chosen). AreKnown (texts c.args.words.now) c.in-Some.verb (settings_of chosen)) (sym c.deref-2.ensures.value)
    (known_words c.args.words.now c.word-item.result c.in-Some.verb (settings_of c.in_ok-chosen.chosen.items) c.in-len1-up.len_at_least c.word-item.is
    (ap verb_of (sym c.as_bytes.ensures.value) ∙ sym c.verb_of.ensures ∙ c.in-Some.is) c.in_ok-chosen.ensures.ok)

pub returns-clause-ok : goal.returns-clause-ok
returns-clause-ok c =
    let verb = c.in-Some.verb in
    let yes : IsTrue c.are_taken.result = c.if-not-are_taken.false in
    let taken = settings_taken verb c.deref-2.result.now (subst (λ (chosen : List Chosen). All (λ (x : Chosen). IsTrue (takes verb x.flag)) chosen) (c.deref.ensures.value ∙ sym c.deref-2.ensures.value) (c.are_taken.ensures.0 yes)) in
    made_ok (texts c.args.words.now) verb (settings_of c.deref-2.result.now) c.make_command.result (known c) taken c.make_command.ensures

pub returns-clause-only : goal.returns-clause-only
returns-clause-only c = made_only (texts c.args.words.now) c.in-Some.verb (settings_of c.deref-2.result.now) c.make_command.result (known c) c.make_command.ensures

pub returns-clause-usage : goal.returns-clause-usage
returns-clause-usage c = made_usage (texts c.args.words.now) c.in-Some.verb (settings_of c.deref-2.result.now) c.make_command.result (known c) c.make_command.ensures

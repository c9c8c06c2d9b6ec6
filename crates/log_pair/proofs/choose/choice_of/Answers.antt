use Rattle.std.proofs.Common.{◌≡◌, Some, None, refl, sym, subst, ◌∙◌}
use Rattle.log_pair.specs.Choice.{IsHeaderOf}
use Rattle.log_pair.specs.Pair.{IsOlder, disk_number, one_of, other_of}
use Rattle.log_pair.proofs.Choices.{no_choice, no_choice_never, other_choice, other_choice_never, older_than}
use Rattle.log_pair.proofs.choose.choice_of.Goals as goal

pub returns-in_default-clause-damaged : goal.returns-in_default-clause-damaged
returns-in_default-clause-damaged c a b found_a found_b =
    let first = c.args.first in
    let second = c.args.second in
    let is = c.is_second-on_second.ensures in
    no_choice first second _ c.args.place a b
    (subst (λ s. one_of s first second ≡ None) is (sym c.chosen_of.ensures ∙ c.in_default.is))
    (subst (λ s. c.disk_of-disk.result ≡ disk_number s) is c.disk_of-disk.ensures) refl found_a found_b

pub returns-then-not-is_own-clause-damaged : goal.returns-then-not-is_own-clause-damaged
returns-then-not-is_own-clause-damaged c a b found_a found_b =
    let first = c.args.first in
    let second = c.args.second in
    let is = c.is_second-on_second.ensures in
    other_choice first second c.in-Some.header _ c.args.place a b
    (subst (λ s. one_of s first second ≡ Some c.in-Some.header) is (sym c.chosen_of.ensures ∙ c.in-Some.is))
    (c.is_own.ensures.another c.if-not-is_own.true)
    (subst (λ s. c.disk_of-disk.result ≡ disk_number s) is c.disk_of-disk.ensures) refl found_a found_b

pub returns-clause-older : goal.returns-clause-older
returns-clause-older c bytes found =
    let first = c.args.first in
    let second = c.args.second in
    let is = c.is_second-on_second.ensures in
    subst (λ s. IsOlder s c.in-Some.header.epoch bytes) (sym is)
    (older_than first second c.in-Some.header (subst (λ s. one_of s first second ≡ Some c.in-Some.header) is (sym c.chosen_of.ensures ∙ c.in-Some.is)) bytes
    (subst (λ s. IsHeaderOf (other_of s first second) bytes) is found))

pub returns-in_default-clause-never_held : goal.returns-in_default-clause-never_held
returns-in_default-clause-never_held c a b found_a found_b =
    let first = c.args.first in
    let second = c.args.second in
    no_choice_never first second c.args.place a b
    (subst (λ s. one_of s first second ≡ None) c.is_second-on_second.ensures (sym c.chosen_of.ensures ∙ c.in_default.is)) found_a found_b

pub returns-then-not-is_own-clause-never_held : goal.returns-then-not-is_own-clause-never_held
returns-then-not-is_own-clause-never_held c a b found_a found_b =
    let first = c.args.first in
    let second = c.args.second in
    other_choice_never first second c.in-Some.header c.args.place a b
    (subst (λ s. one_of s first second ≡ Some c.in-Some.header) c.is_second-on_second.ensures (sym c.chosen_of.ensures ∙ c.in-Some.is))
    (c.is_own.ensures.another c.if-not-is_own.true) found_a found_b

use Rattle.std.proofs.Common.{◌≡◌, ◌≤◌, None, refl, sym, subst, ◌∙◌, rules}
use Rattle.archive_policy.specs.Faults.{first_fault}
use Rattle.archive_policy.specs.Kinds.{kinds_of}
use Rattle.archive_policy.specs.Policies.{ArchivePolicy, AreDefinitions, AreKinds, definitions_of, policy_of}
use Rattle.archive_policy.proofs.PolicyProofs.{are_definitions, are_kinds, back_window_small, definitions_valid, is_asked}
use Rattle.archive_policy.specs.Names.{IsName}
use Rattle.archive_policy.specs.PolicyLaws.{IsAsked}
use Rattle.archive_policy.proofs.FaultLaws.{fault_first}
use Rattle.archive_policy.proofs.PolicyAgain.{same_policy}
use Rattle.archive_policy.proofs.policy.Policy.make.Goals as goal

pub overflow_cast-result : goal.overflow_cast-result
overflow_cast-result c =
    let none : first_fault c.args.back_window c.args.wanted.now c.args.kinds.now ≡ None = sym c.first_fault.ensures ∙ c.in_default.is in
    let small : c.args.back_window ≤ 1000 = back_window_small c.args.back_window c.args.wanted.now c.args.kinds.now none in
    search (rules, small)

pub definitions_of-requires : goal.definitions_of-requires
definitions_of-requires c =
    let none : first_fault c.args.back_window c.args.wanted.now c.args.kinds.now ≡ None = sym c.first_fault.ensures ∙ c.in_default.is in
    definitions_valid c.args.back_window c.args.wanted.now c.args.kinds.now none

pub invariant_of-result-2 : goal.invariant_of-result-2
invariant_of-result-2 c =
    let back = c.args.back_window in
    let wanted = c.args.wanted.now in
    let kinds = c.args.kinds.now in
    let none : first_fault back wanted kinds ≡ None = sym c.first_fault.ensures ∙ c.in_default.is in
    let made : c.in_ok-definitions_of.field-0.items ≡ definitions_of wanted = search rules in
    let kept : c.in_ok-kinds_of.field-0.items ≡ kinds_of kinds = search rules in record {
      name = c.name.invariant;
      back_window = back_window_small back wanted kinds none;
      definitions = subst AreDefinitions (sym made) (are_definitions back wanted kinds none);
      kinds = subst AreKinds (sym kept) (are_kinds back wanted kinds none);
    }

pub returns-in-Some-clause-first : goal.returns-in-Some-clause-first
returns-in-Some-clause-first c ne =
    fault_first c.args.back_window c.args.wanted.now c.args.kinds.now c.in-Some.fault (sym c.first_fault.ensures ∙ c.in-Some.is)

pub returns-clause-asked : goal.returns-clause-asked
returns-clause-asked c =
    let name = c.args.name in
    let back = c.args.back_window in
    let wanted = c.args.wanted.now in
    let kinds = c.args.kinds.now in
    let none : first_fault back wanted kinds ≡ None = sym c.first_fault.ensures ∙ c.in_default.is in
    let made : c.in_ok-definitions_of.field-0.items ≡ definitions_of wanted = search rules in
    let kept : c.in_ok-kinds_of.field-0.items ≡ kinds_of kinds = search rules in
    let named : IsName name = subst IsName c.name.view_is c.name.invariant in
    let own : ArchivePolicy =
    record { name = c.name.inside.bytes.items; back_window = back; definitions = c.in_ok-definitions_of.field-0.items; kinds = c.in_ok-kinds_of.field-0.items } in
    let same : own ≡ policy_of name back wanted kinds =
    same_policy own (policy_of name back wanted kinds) c.name.view_is refl made kept in
    subst (IsAsked name back wanted kinds) (sym same) (is_asked name back wanted kinds named none)

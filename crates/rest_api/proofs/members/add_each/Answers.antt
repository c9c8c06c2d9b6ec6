use Rattle.std.proofs.Common.{◌≡◌, ℕ, ◌+◌, List, [], ◌∷◌, ◌++◌, length-append, Some, take, drop, refl, ap, subst, ◌∙◌, arith}
use Rattle.std.proofs.lemmas.List.{take_all}
use Rattle.control_docs.proofs.DocumentLemmas.{list_whole}
use Rattle.control_docs.specs.Resource.{NamedPolicy}
use Rattle.front_api.specs.Seen.{LeadsTo}
use Rattle.rest_api.specs.Doing.{TellsError}
use Rattle.rest_api.specs.Members.{AddsEach, documents_made}
use Rattle.rest_api.specs.Shown.{text_behind}
use Rattle.rest_api.proofs.ListLemmas.{list_goes_on_by, split_at, taken_count, taken_more}
use Rattle.rest_api.proofs.MembersLemmas.{adds_all, adds_more, adds_none, adds_up_to, made_few}
use Rattle.rest_replies.specs.Faults.{control_error}
use Rattle.rest_replies.specs.Handled.{AnswersWith}
use Rattle.rest_replies.specs.declared.faults.NamedIn.TheVariants.{Both}
use Rattle.rest_replies.specs.declared.status.HttpStatus.TheVariants.{Created}
use Rattle.rest_api.proofs.members.add_each.Goals as goal

pub loop-stored-init : goal.loop-stored-init
loop-stored-init g c = ([], c.requires, refl, omega arith, adds_none g.F.Histories.stands c.args.front.now c.args.resource, refl, refl, refl)

pub returns-in-Err-clause-does : goal.returns-in-Err-clause-does
returns-in-Err-clause-does g c =
    let members = c.args.members.now in
    let i = c.loop-stored.stored in
    let member = c.index-members-stored.result in
    let so-far = c.loop-stored.invariant in
    adds_up_to g.F.Histories.stands c.args.front.now c.loop-stored.front c.add_member.new.front c.args.resource members (take i members) member (drop (i + 1) members) so-far.0 c.stopped.result c.in-Err.stop
    (split_at members i member (omega arith) c.index-members-stored.is) so-far.4 c.in-Err.ensures.stopped c.stopped.ensures.starved
    (λ fault is. subst (λ (n : ℕ). TellsError (control_error Both fault) (Some n) c.stopped.result) (taken_count members i (omega arith)) (c.stopped.ensures.refused fault is))

pub loop-stored-preserved : goal.loop-stored-preserved
loop-stored-preserved g c =
    let members = c.args.members.now in
    let i = c.loop-stored.stored in
    let member = c.index-members-stored.result in
    let so-far = c.loop-stored.invariant in
    let added = c.in-Ok.ensures.added in
    let made = documents_made added.0 in
    let few = made_few added.0 in (
      so-far.0 ++ made,
      list_goes_on_by so-far.0 made c.loop-stored.text.items c.add_member.new.text.items few so-far.1
          (subst (λ (n : ℕ). c.add_member.new.text.items ≡ c.loop-stored.text.items ++ text_behind n made) so-far.2 added.2),
      omega (arith, added.1, so-far.2, length-append so-far.0 made),
      omega (arith, added.1, so-far.3, few),
      subst (λ (l : List NamedPolicy). LeadsTo g.F.Histories.stands c.args.front.now c.add_member.new.front (AddsEach c.args.resource l (so-far.0 ++ made)))
          (taken_more members i member (omega arith) c.index-members-stored.is)
          (adds_more g.F.Histories.stands c.args.front.now c.loop-stored.front c.add_member.new.front c.args.resource (take i members) member so-far.0 added.0 so-far.4 added.3),
      c.add_member.ensures.same.0 ∙ so-far.5,
      c.add_member.ensures.same.1 ∙ so-far.6,
      c.add_member.ensures.same.2 ∙ so-far.7,
    )

pub returns-clause-does : goal.returns-clause-does
returns-clause-does g c =
    let members = c.args.members.now in
    let so-far = c.loop-stored.invariant in
    adds_all g.F.Histories.stands c.args.front.now c.loop-stored.front c.args.resource members so-far.0 c.whole_list.result
    (subst (λ (l : List NamedPolicy). LeadsTo g.F.Histories.stands c.args.front.now c.loop-stored.front (AddsEach c.args.resource l so-far.0)) (take_all c.loop-stored.stored members (omega arith)) so-far.4)
    (subst (AnswersWith c.whole_list.result Created []) (ap (λ (l : List ℕ). l ++ 93 ∷ []) so-far.1 ∙ list_whole so-far.0) c.whole_list.ensures)

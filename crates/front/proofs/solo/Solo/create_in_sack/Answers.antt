use Rattle.std.proofs.Common.{◌≡◌, ℕ, length, Some, subst, refl, sym, ap, ◌∙◌, ◌++◌, true, Err}
use Rattle.std.specs.List.{slice_get}
use Rattle.std.specs.Vec.{with_item}
use Rattle.std.proofs.lemmas.List.{length-set}
use Rattle.std.proofs.lemmas.Option.{slice_get-get_or}
use Rattle.sack_history.specs.Calls.{IsCreating}
use Rattle.sack_history.specs.Entries.{all_counted}
use Rattle.sack_history.specs.declared.fault.CreateFault.{CreateFault}
use Rattle.std.specs.declared.result.Result.{Result}
use Rattle.front_api.specs.FaultWords.{create_words}
use Rattle.front_api.specs.Seen.{EntersSack, EntersSackOf, LeadsTo, sack_of}
use Rattle.sack_state.specs.SackView.{Of}
use Rattle.front.specs.Inside.{solo_view}
use Rattle.front.specs.SoloView.{SoloView, StandsForBooks, as_many_books}
use Rattle.front.proofs.Entered.{sack_leads}
use Rattle.front.proofs.Told.{creating_risen, creating_same, creating_sound, in_place_with, is_within, told_creating}
use Rattle.front.proofs.solo.Solo.create_in_sack.Goals as goal
use Rattle.front.proofs.solo.Solo.create_in_sack.Goals.{in-Ok, in-Err}

pub invariant_of-self : goal.invariant_of-self
invariant_of-self g c =
    let i = c.self.inside in
    let k = c.from.result in
    let v = c.index_mut-book.result.now in
    let within = is_within i.sacks.items k c.sack_of-sack.result i.made.sacks c.args.metric c.from.ensures c.sack_of-sack.ensures c.self.invariant.some c.self.invariant.as_many in
    let there : slice_get i.sacks.items k ≡ Some v = slice_get-get_or i.sacks.items k v within ∙ ap Some (sym c.index_mut-book.ensures.value) in
    record {
      some = c.self.invariant.some;
      few = c.self.invariant.few;
      as_many = length-set i.sacks.items k c.create_metric.new.self ∙ c.self.invariant.as_many;
      in_place = in_place_with i.made.sacks 0 k i.sacks.items v c.create_metric.new.self c.self.invariant.in_place there c.create_metric.ensures.same.0;
      claims = c.self.invariant.claims;
      emptied = c.self.invariant.emptied;
      room = c.self.invariant.room;
    }

pub returns-clause-creates : goal.returns-clause-creates
returns-clause-creates g c =
    let i = c.self.inside in
    let k = c.from.result in
    let n = c.sack_of-sack.result in
    let v = c.index_mut-book.result.now in
    let w = c.create_metric.new.self in
    let r = c.create_metric.result in
    let within = is_within i.sacks.items k c.sack_of-sack.result i.made.sacks c.args.metric c.from.ensures c.sack_of-sack.ensures c.self.invariant.some c.self.invariant.as_many in
    let there : slice_get i.sacks.items k ≡ Some v = slice_get-get_or i.sacks.items k v within ∙ ap Some (sym c.index_mut-book.ensures.value) in
    let told : c.match-create_metric.result ≡ told_creating n r = elim c.match-create_metric.branch [
      | in-Ok w ↦ w.result-is ∙ sym (ap (λ x. told_creating n x) w.in-Ok.is)
      | in-Err w ↦ w.result-is ∙ ap Err w.told_of_creating.ensures ∙ sym (ap (λ x. told_creating n x) w.in-Err.is)
    ] in
    let later = solo_view (record i { sacks = with_item i.sacks k w }) in
    let Call = λ (q : Result (Unit {0}) CreateFault). LeadsTo (StandsForBooks g.D.Disk) c.args.self.now later (EntersSackOf c.args.metric create_words (IsCreating c.args.metric c.args.policy.now) q) in
    let leads = sack_leads g.D.Disk k create_words (IsCreating c.args.metric c.args.policy.now) (told_creating n r) (solo_view i) later v w there refl c.create_metric.ensures.same.0 c.create_metric.ensures.same.1
    (λ h stands. let after = c.create_metric.ensures.stands h stands in (after.own, after.stands, λ counts earlier. subst (λ (q : Result (Unit {0}) CreateFault). IsCreating c.args.metric c.args.policy.now q (all_counted counts ++ h) after.own) (sym (creating_same n r (c.create_metric.ensures.sound counts h stands earlier))) (after.does counts earlier)))
    (λ counts h stands earlier. creating_sound n r (c.create_metric.ensures.sound counts h stands earlier))
    (creating_risen g.D.Disk n r v w (Of v (λ s. s.broken ≡ true)) c.create_metric.ensures.cause) in
    let posts : LeadsTo (StandsForBooks g.D.Disk) (solo_view i) later (EntersSackOf c.args.metric create_words (IsCreating c.args.metric c.args.policy.now) (told_creating n r)) = λ books is.
    let new = leads books is in
    let many = as_many_books g.D.Disk 0 i.sacks.items books.sacks is.sacks ∙ c.self.invariant.as_many in
    let sack : k ≡ sack_of c.args.metric (length books.sacks) = c.from.ensures ∙ c.sack_of-sack.ensures ∙ ap (λ m. sack_of c.args.metric m) (sym many) in
    (new.0, new.1, subst (λ (m : ℕ). EntersSack m create_words (IsCreating c.args.metric c.args.policy.now) (told_creating n r) books new.0) sack new.2) in
    subst Call (sym told) (subst (λ (x : SoloView _). LeadsTo (StandsForBooks g.D.Disk) x later (EntersSackOf c.args.metric create_words (IsCreating c.args.metric c.args.policy.now) (told_creating n r))) c.self.view_is posts)

pub returns-clause-as_many : goal.returns-clause-as_many
returns-clause-as_many g c = length-set c.self.inside.sacks.items c.from.result c.create_metric.new.self ∙ ap (λ v. length v.sacks) c.self.view_is

use Rattle.std.proofs.Common.{◌≡◌, ◌++◌, List, length, sym, ap, subst, ◌∙◌, Err}
use Rattle.std.specs.Vec.{with_item}
use Rattle.std.proofs.lemmas.List.{length-set}
use Rattle.std.specs.declared.result.Result.{Result}
use Rattle.series_model.specs.declared.answer.Row.{Row}
use Rattle.sack_history.specs.Calls.{IsAnswering}
use Rattle.sack_history.specs.Entries.{all_counted}
use Rattle.sack_history.specs.declared.fault.AnswerFault.{AnswerFault}
use Rattle.front_api.specs.FaultWords.{answer_words}
use Rattle.front_api.specs.Front.{AnswersQuery}
use Rattle.front_api.specs.Seen.{LeadsTo}
use Rattle.front.specs.Inside.{solo_view}
use Rattle.front.specs.SoloView.{SoloView, StandsForBooks}
use Rattle.front.proofs.Calling.{enters_of, keeps_with}
use Rattle.front.proofs.Told.{answer_risen, answer_same, answer_sound, is_within, told_answer}
use Rattle.front.proofs.solo.Solo.answer_in.Goals as goal
use Rattle.front.proofs.solo.Solo.answer_in.Goals.{in-Ok, in-Err}

pub invariant_of-self : goal.invariant_of-self
invariant_of-self g c =
    let i = c.self.inside in
    let k = c.from.result in
    let within = is_within i.sacks.items k c.sack_of-sack.result i.made.sacks c.args.metric c.from.ensures c.sack_of-sack.ensures c.self.invariant.some c.self.invariant.as_many in
    keeps_with g.D.Disk i c.self.invariant k c.index_mut-book.result.now c.answer.new.self within c.index_mut-book.ensures.value c.answer.ensures.same.0

pub returns-clause-answers : goal.returns-clause-answers
returns-clause-answers g c =
    let i = c.self.inside in
    let k = c.from.result in
    let n = c.sack_of-sack.result in
    let v = c.index_mut-book.result.now in
    let w = c.answer.new.self in
    let r = c.answer.result in
    let metric = c.args.metric in
    let query = c.args.query.now in
    let within = is_within i.sacks.items k n i.made.sacks metric c.from.ensures c.sack_of-sack.ensures c.self.invariant.some c.self.invariant.as_many in
    let told : c.match-answer.result ≡ told_answer n r = elim c.match-answer.branch [
      | in-Ok x ↦ x.result-is ∙ sym (ap (λ q. told_answer n q) x.in-Ok.is)
      | in-Err x ↦ x.result-is ∙ ap Err x.told_of_answering.ensures ∙ sym (ap (λ q. told_answer n q) x.in-Err.is)
    ] in
    let later = solo_view (record i { sacks = with_item i.sacks k w }) in
    let leads = enters_of g.D.Disk i c.self.invariant k v w within c.index_mut-book.ensures.value c.answer.ensures.same.0 answer_words (IsAnswering metric query) (told_answer n r) c.answer.ensures.same.1
    (λ h known. let after = c.answer.ensures.stands h known in
    (after.own, after.stands, λ counts earlier. subst (λ (q : Result (List Row) AnswerFault). IsAnswering metric query q (all_counted counts ++ h) after.own) (sym (answer_same n r (c.answer.ensures.sound counts h known earlier))) (after.does counts earlier)))
    (λ counts h known earlier. answer_sound n r (c.answer.ensures.sound counts h known earlier)) (answer_risen g.D.Disk n r v w _ c.answer.ensures.cause) metric (c.from.ensures ∙ c.sack_of-sack.ensures) in
    subst (λ (q : Result (List Row) AnswerFault). LeadsTo (StandsForBooks g.D.Disk) c.args.self.now later (AnswersQuery metric query q)) (sym told)
    (subst (λ (x : SoloView _). LeadsTo (StandsForBooks g.D.Disk) x later (AnswersQuery metric query (told_answer n r))) c.self.view_is leads)

pub returns-clause-as_many : goal.returns-clause-as_many
returns-clause-as_many g c = length-set c.self.inside.sacks.items c.from.result c.answer.new.self ∙ ap (λ v. length v.sacks) c.self.view_is

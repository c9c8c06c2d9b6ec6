use Rattle.std.proofs.Common.{ℕ, ◌+◌, List, Some, take, drop, refl, subst, ◌∙◌, arith}
use Rattle.front_api.specs.Seen.{LeadsTo}
use Rattle.rest_api.specs.Doing.{TellsError}
use Rattle.rest_api.specs.Measures.{BatchEntry, PostsEach}
use Rattle.rest_api.proofs.DoingLemmas.{tells_as}
use Rattle.rest_api.proofs.ListLemmas.{split_at, taken_count, taken_more}
use Rattle.rest_api.proofs.MeasuresLemmas.{posts_more, posts_none, posts_up_to}
use Rattle.rest_replies.specs.Faults.{sack_error}
use Rattle.rest_api.proofs.measures.post_all.Goals as goal

pub loop-stored-init : goal.loop-stored-init
loop-stored-init g c = record { does = posts_none g.F.Histories.stands c.args.front.now; same = (refl, refl, refl) }

pub returns-in-Err-clause-does : goal.returns-in-Err-clause-does
returns-in-Err-clause-does g c =
    let entries = c.args.entries.now in
    let i = c.loop-stored.stored in
    let entry = c.index-entries-stored.result in
    posts_up_to g.F.Histories.stands c.args.front.now c.loop-stored.front c.post.new.self entries (take i entries) entry (drop (i + 1) entries) c.in-Err.fault c.of_error.result
    (split_at entries i entry (omega arith) c.index-entries-stored.is) c.loop-stored.invariant.does c.in-Err.ensures.posts
    (subst (λ (n : ℕ). TellsError (sack_error c.in-Err.fault) (Some n) c.of_error.result) (taken_count entries i (omega arith))
    (tells_as _ _ (Some i) _ c.into.ensures c.of_error.ensures.told))

pub loop-stored-preserved : goal.loop-stored-preserved
loop-stored-preserved g c =
    let entries = c.args.entries.now in
    let i = c.loop-stored.stored in
    let entry = c.index-entries-stored.result in
    record {
      does = subst (λ (l : List BatchEntry). LeadsTo g.F.Histories.stands c.args.front.now c.post.new.self (PostsEach l)) (taken_more entries i entry (omega arith) c.index-entries-stored.is)
          (posts_more g.F.Histories.stands c.args.front.now c.loop-stored.front c.post.new.self (take i entries) entry c.in_default.field-0 c.loop-stored.invariant.does c.in_default.ensures.posts);
      same = (c.post.ensures.same.0 ∙ c.loop-stored.invariant.same.0, c.post.ensures.same.1 ∙ c.loop-stored.invariant.same.1, c.post.ensures.same.2 ∙ c.loop-stored.invariant.same.2);
    }

use Rattle.std.proofs.Common.{ℕ, List, sym, subst, ◌∙◌}
use Rattle.series_model.specs.declared.metric.MetricId.{MetricId}
use Rattle.front_api.specs.Tables.{Rises, name_cmp}
use Rattle.metric_index.specs.Places.{BelongsAt, StandsAt}
use Rattle.metric_index.proofs.PlaceLemmas.{put_at}
use Rattle.metric_index.proofs.ReplyLemmas.{members_rise, replaced_at}
use Rattle.metric_index.proofs.reply.put_member.Goals as goal

pub returns-in-Ok-clause-put : goal.returns-in-Ok-clause-put
returns-in-Ok-clause-put c =
    let st = subst (λ (ms : List (List ℕ × MetricId)). StandsAt (λ m. name_cmp m.0 c.args.name) ms c.in-Ok.at) c.as_slice.ensures.value
    (subst (λ (b : List ℕ). StandsAt (λ (m : List ℕ × MetricId). name_cmp m.0 b) c.as_slice.result.now c.in-Ok.at) c.bytes.ensures.value c.in-Ok.ensures) in
    replaced_at (λ (m : List ℕ × MetricId). name_cmp m.0 c.args.name) c.args.members.now.items c.in-Ok.at (c.args.name, c.args.id) st

pub returns-in-Ok-clause-rise : goal.returns-in-Ok-clause-rise
returns-in-Ok-clause-rise c =
    subst (λ (ms : List (List ℕ × MetricId)). Rises name_cmp (λ m. m.0) ms) (sym (returns-in-Ok-clause-put c)) (members_rise c.args.name c.args.id c.args.members.now.items c.requires)

pub returns-in_ok-insert-in-Err-clause-put : goal.returns-in_ok-insert-in-Err-clause-put
returns-in_ok-insert-in-Err-clause-put c =
    let st = subst (λ (ms : List (List ℕ × MetricId)). BelongsAt (λ m. name_cmp m.0 c.args.name) ms c.in-Err.at) c.as_slice.ensures.value
    (subst (λ (b : List ℕ). BelongsAt (λ (m : List ℕ × MetricId). name_cmp m.0 b) c.as_slice.result.now c.in-Err.at) c.bytes.ensures.value c.in-Err.ensures) in
    c.in_ok-insert-in-Err.ensures.items ∙ put_at (λ (m : List ℕ × MetricId). name_cmp m.0 c.args.name) c.args.members.now.items c.in-Err.at (c.args.name, c.args.id) st

pub returns-in_ok-insert-in-Err-clause-rise : goal.returns-in_ok-insert-in-Err-clause-rise
returns-in_ok-insert-in-Err-clause-rise c =
    subst (λ (ms : List (List ℕ × MetricId)). Rises name_cmp (λ m. m.0) ms) (sym (returns-in_ok-insert-in-Err-clause-put c)) (members_rise c.args.name c.args.id c.args.members.now.items c.requires)

use Rattle.std.proofs.Common.{◌≡◌, ◌<◌, ◌-◌, length, get_or, refl, sym, ap, ◌∙◌, arith}
use Rattle.std.proofs.lemmas.List.{get_or_read_under}
use Rattle.series_model.specs.Points.{starts_of}
use Rattle.series_model.proofs.PointLaws.{push_start, push-known, push-new, starts-push}
use Rattle.series_model.proofs.points.push_start.Goals.{then-count-eq0-via-then-count-eq0, then-count-eq0-via-else-count-eq0+then-nanos}
use Rattle.series_model.proofs.points.push_start.Goals as goal

pub returns-in_ok-push : goal.returns-in_ok-push
returns-in_ok-push c g ts t so_far floor =
    let starts = c.args.starts.now.items in
    let at : c.len-count.result - 1 ≡ length starts - 1 = omega arith in
    starts-push g ts t ∙ ap (push_start (starts_of g ts)) floor ∙ ap (λ ss. push_start ss c.args.start) so_far
    ∙ push-new starts c.args.start (λ some same. elim c.then-count-eq0.branch [
      | then-count-eq0-via-then-count-eq0 w ↦ absurd (omega arith)
      | then-count-eq0-via-else-count-eq0+then-nanos w ↦
          let last : w.index.result.now ≡ get_or starts (length starts - 1) c.args.start =
          get_or_read_under starts (length starts - 1) (length starts) w.index.result.now c.args.start (w.index.ensures ∙ ap (λ i. get_or starts i w.index.result.now) at) (omega arith) refl in
          absurd (w.if-nanos.true (w.nanos.ensures.value ∙ last ∙ same ∙ sym w.nanos-else-count-eq0.ensures.value))
    ])
    ∙ sym c.in_ok-push.ensures.items

pub returns-else-nanos : goal.returns-else-nanos
returns-else-nanos c g ts t so_far floor =
    let starts = c.args.starts.now.items in
    let at : c.len-count.result - 1 ≡ length starts - 1 = omega arith in
    let some : 0 < length starts = omega arith in
    let last : c.index.result.now ≡ get_or starts (length starts - 1) c.args.start =
    get_or_read_under starts (length starts - 1) (length starts) c.index.result.now c.args.start (c.index.ensures ∙ ap (λ i. get_or starts i c.index.result.now) at) (omega arith) refl in
    starts-push g ts t ∙ ap (push_start (starts_of g ts)) floor ∙ ap (λ ss. push_start ss c.args.start) so_far
    ∙ push-known starts c.args.start some (sym last ∙ sym c.nanos.ensures.value ∙ c.if-nanos.false ∙ c.nanos-else-count-eq0.ensures.value)

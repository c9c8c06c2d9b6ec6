use Rattle.std.proofs.Common.{◌≡◌, take, drop, sym, ap, subst, ◌∙◌}
use Rattle.std.specs.List.Sorted.{IsStrictlyIncreasing}
use Rattle.series_model.specs.Tail.{Tail, accepts_from, last_onto, last_time, members_from, members_before}
use Rattle.series_model.proofs.Rising.{Rises, Rises_from_rising, rising_from_Rises, times}
use Rattle.series_model.proofs.TailLaws.{anchored}
use Rattle.bound_series.specs.Turn.{cut_at, tail_with}
use Rattle.bound_series.proofs.Scratch.{points_rise, Rises-cut, last-cut, cut_scratch, same_tail}
use Rattle.bound_series.proofs.raw.Raw.cut.Goals as goal

pub place_of-place-requires : goal.place_of-place-requires
place_of-place-requires c =
    let o = c.self.inside.anchor in
    let points = c.self.inside.points.items in
    subst (λ l. IsStrictlyIncreasing (times l)) (sym c.as_slice.ensures.value) (rising_from_Rises (times points) (points_rise o points (Rises_from_rising (times (anchored o points)) c.self.invariant)))

pub invariant_of-self : goal.invariant_of-self
invariant_of-self c =
    let o = c.self.inside.anchor in
    let points = c.self.inside.points.items in
    let w = c.accepts_from-from.result in
    let place = c.place_of-place.result in
    let rest : c.drop_front.new.points.items ≡ members_from w points =
    c.drop_front.ensures ∙ ap (drop place) (sym c.as_slice.ensures.value) ∙ c.place_of-place.ensures.behind ∙ ap (members_from w) c.as_slice.ensures.value in
    let anchor : c.anchor_at-anchor.result ≡ last_onto o (members_before w points) =
    c.anchor_at-anchor.ensures ∙ ap (λ l. last_onto o (take place l)) (c.as_slice-2.ensures.value ∙ sym c.as_slice.ensures.value)
    ∙ ap (last_onto o) c.place_of-place.ensures.before ∙ ap (λ l. last_onto o (members_before w l)) c.as_slice.ensures.value in
    let rises : Rises (times (anchored o points)) = Rises_from_rising (times (anchored o points)) c.self.invariant in
    let left = anchored (last_onto o (members_before w points)) (members_from w points) in
    subst (λ a. IsStrictlyIncreasing (times (anchored a c.drop_front.new.points.items))) (sym anchor)
    (subst (λ l. IsStrictlyIncreasing (times (anchored (last_onto o (members_before w points)) l))) (sym rest) (rising_from_Rises (times left) (Rises-cut w o points rises)))

pub returns-clause-cut : goal.returns-clause-cut
returns-clause-cut c =
    let p = c.args.policy.now in
    let o = c.self.inside.anchor in
    let points = c.self.inside.points.items in
    let w = c.accepts_from-from.result in
    let place = c.place_of-place.result in
    let rest : c.drop_front.new.points.items ≡ members_from w points =
    c.drop_front.ensures ∙ ap (drop place) (sym c.as_slice.ensures.value) ∙ c.place_of-place.ensures.behind ∙ ap (members_from w) c.as_slice.ensures.value in
    let anchor : c.anchor_at-anchor.result ≡ last_onto o (members_before w points) =
    c.anchor_at-anchor.ensures ∙ ap (λ l. last_onto o (take place l)) (c.as_slice-2.ensures.value ∙ sym c.as_slice.ensures.value)
    ∙ ap (last_onto o) c.place_of-place.ensures.before ∙ ap (λ l. last_onto o (members_before w l)) c.as_slice.ensures.value in
    let rises : Rises (times (anchored o points)) = Rises_from_rising (times (anchored o points)) c.self.invariant in
    let from : w ≡ accepts_from p c.args.self.now.last = c.accepts_from-from.ensures ∙ ap (accepts_from p) c.last.ensures in
    let own : accepts_from p c.args.self.now.last ≡ accepts_from p (last_time points) = ap (λ (t : Tail). accepts_from p t.last) (sym c.self.view_is) in
    let last : last_time c.drop_front.new.points.items ≡ last_time points =
    ap last_time rest ∙ ap (λ n. last_time (members_from n points)) (from ∙ own) ∙ last-cut p points (points_rise o points rises) in
    same_tail (tail_with c.drop_front.new.points.items c.anchor_at-anchor.result) (cut_at w (tail_with points o)) rest anchor last
    ∙ ap (cut_at w) c.self.view_is ∙ ap (λ n. cut_at n c.args.self.now) from

pub returns-clause-from_scratch : goal.returns-clause-from_scratch
returns-clause-from_scratch c cut accepted le is =
    let p = c.args.policy.now in
    returns-clause-cut c ∙ ap (λ (t : Tail). cut_at (accepts_from p t.last) t) is ∙ cut_scratch p cut accepted le

use Rattle.std.proofs.Common.{ℕ, List, ap, sym, ◌∙◌}
use Rattle.std.proofs.lemmas.List.{take_rest}
use Rattle.incoming.specs.declared.mark.Mark.{Mark}
use Rattle.incoming.specs.Lists.{is_upto, places_where}
use Rattle.incoming.specs.Posts.{RiseFrom, is_above, is_of}
use Rattle.std.proofs.Common.{subst}
use Rattle.incoming.proofs.Places.{above_point, partitioned}
use Rattle.incoming.proofs.contents.Contents.places_above.Goals as goal

pub reach-upto-requires : goal.reach-upto-requires
reach-upto-requires c =
    let e = c.as_slice.ensures.value in
    partitioned (is_of c.args.metric) c.as_slice.result.now c.args.above c.list_of-list.result.now
    (c.list_of-list.ensures ∙ c.requires.lists c.args.metric.0 ∙ ap (λ (ms : List Mark). places_where (is_of c.args.metric) 0 ms) (sym e)) (subst (RiseFrom 0) (sym e) c.requires.rise)

pub returns : goal.returns
returns c =
    let e = c.as_slice.ensures.value in
    take_rest c.list_of-list.result.now c.reach-upto.result
    ∙ above_point c.args.metric c.args.above c.as_slice.result.now c.list_of-list.result.now c.reach-upto.result
    (c.list_of-list.ensures ∙ c.requires.lists c.args.metric.0 ∙ ap (λ (ms : List Mark). places_where (is_of c.args.metric) 0 ms) (sym e)) c.reach-upto.ensures.point
    ∙ ap (λ (ms : List Mark). places_where (is_above c.args.metric c.args.above) 0 ms) e

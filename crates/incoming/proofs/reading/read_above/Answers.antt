use Rattle.std.proofs.Common.{◌≡◌, ◌<◌, ℕ, List, length, map, take, ap, sym, subst, ◌∙◌}
use Rattle.std.specs.List.{All}
use Rattle.incoming.specs.declared.mark.Mark.{Mark}
use Rattle.incoming.specs.Lists.{number_at}
use Rattle.incoming.specs.Posts.{is_above}
use Rattle.incoming.proofs.Places.{first_numbers, never_told, posts_told, within_first}
use Rattle.incoming.proofs.Results.{cause_then, ok_then}
use Rattle.incoming.proofs.reading.read_above.Goals as goal

pub read_posts-requires-clause-known : goal.read_posts-requires-clause-known
read_posts-requires-clause-known g c =
    subst (λ (ms : List Mark). All (λ at. at < length ms) c.first_of-places.result.now) (sym c.as_slice-marks.ensures.value)
    (within_first (is_above c.args.metric c.args.above) c.args.contents.now.marks.items c.args.most c.first_of-places.result.now (c.first_of-places.ensures ∙ ap (take c.args.most) c.places_above.ensures))

pub returns-clause-numbers : goal.returns-clause-numbers
returns-clause-numbers g c =
    let marks = c.args.contents.now.marks.items in
    ok_then c.read_posts.result _ _
    (λ found e. e ∙ ap (λ (ms : List Mark). map (number_at ms) c.first_of-places.result.now) c.as_slice-marks.ensures.value
    ∙ ap (map (number_at marks)) (c.first_of-places.ensures ∙ ap (take c.args.most) c.places_above.ensures) ∙ first_numbers c.args.metric c.args.above marks c.args.most)
    c.read_posts.ensures.numbers

pub returns-clause-found : goal.returns-clause-found
returns-clause-found g c =
    ok_then c.read_posts.result _ _
    (λ found told. posts_told c.args.contents.now c.as_slice-marks.result.now c.as_slice-marks.ensures.value c.args.pair.now.records c.args.metric c.args.above c.args.most c.first_of-places.result.now found.items (c.first_of-places.ensures ∙ ap (take c.args.most) c.places_above.ensures) told)
    c.read_posts.ensures.found

pub returns-clause-cause : goal.returns-clause-cause
returns-clause-cause g c = cause_then c.read_posts.result _ _ _ _ _ (never_told c.args.contents.now c.as_slice-marks.result.now c.as_slice-marks.ensures.value c.args.pair.now.records) c.read_posts.ensures.cause

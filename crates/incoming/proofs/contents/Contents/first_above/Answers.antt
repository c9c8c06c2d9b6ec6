use Rattle.std.proofs.Common.{map, ap, ◌∙◌, List, ℕ}
use Rattle.std.specs.List.{slice_get}
use Rattle.incoming.specs.declared.mark.Mark.{Mark}
use Rattle.incoming.specs.Lists.{number_at}
use Rattle.incoming.proofs.Places.{numbers_are}
use Rattle.incoming.proofs.contents.Contents.first_above.Goals as goal

pub returns : goal.returns
returns c =
    let marks = c.args.self.now.marks.items in
    c.first_number.ensures
    ∙ ap (λ (ms : List Mark). slice_get (map (number_at ms) c.places_above-places.result.now) 0) c.as_slice.ensures.value
    ∙ ap (λ (ps : List ℕ). slice_get (map (number_at marks) ps) 0) c.places_above-places.ensures
    ∙ ap (λ (ns : List ℕ). slice_get ns 0) (numbers_are c.args.metric c.args.above marks)

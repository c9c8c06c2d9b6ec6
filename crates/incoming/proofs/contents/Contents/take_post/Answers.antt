use Rattle.std.proofs.Common.{◌≡◌, ◌+◌, ◌<◌, ◌≤◌, max, [], ◌∷◌, ◌++◌, ap, ◌∙◌, arith, List, ℕ}
use Rattle.incoming.specs.declared.mark.Mark.{Mark}
use Rattle.incoming.specs.Posts.{last_number}
use Rattle.incoming.proofs.Kept.{AreOf-post, low_post}
use Rattle.incoming.proofs.contents.Contents.take_post.Goals as goal

pub returns-then-number-last_number-clause-odd : goal.returns-then-number-last_number-clause-odd
returns-then-number-last_number-clause-odd c = λ e measures fits records are.
    let mark : Mark = record { number = c.args.number; metric = c.args.metric } in
    let le : c.args.number ≤ last_number c.args.self.now.marks.items = omega (arith, c.last_number.ensures, c.if-number-last_number.true) in
    low_post c.args.self.now records mark measures fits le are

pub returns-clause-taken : goal.returns-clause-taken
returns-clause-taken c = λ e measures fits records are.
    let mark : Mark = record { number = c.args.number; metric = c.args.metric } in
    let above : last_number c.args.self.now.marks.items < c.args.number = omega (arith, c.last_number.ensures, c.if-number-last_number.false) in
    AreOf-post c.args.self.now c.push.new.self records mark measures fits above
    (c.push.ensures.marks ∙ ap (λ (ms : List Mark). ms ++ mark ∷ []) c.reserve.ensures.marks)
    (c.push.ensures.numbers.0 ∙ c.reserve.ensures.numbers.0)
    (c.push.ensures.numbers.1 ∙ ap (λ (n : ℕ). max n (c.args.number + 1)) c.reserve.ensures.numbers.1) are

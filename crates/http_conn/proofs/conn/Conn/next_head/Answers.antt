use Rattle.std.proofs.Common.{◌≡◌, [], refl, rules, arith, append-nil, Ok, Err, sym, subst, ◌∙◌}
use Rattle.std.proofs.lemmas.Result.{err_from_is_err_and}
use Rattle.http_conn.specs.Bytes.{Held}
use Rattle.http_conn.specs.Answer.{IsOpen, IsNoHead, IsSparing, nothing_read, last_read}
use Rattle.std.proofs.KnownBytes.{Keeps-refl, Consumes-nil}
use Rattle.http_conn.proofs.AnswerLemmas.{no_head_ends, gives_head}
use Rattle.http_conn.proofs.InputLemmas.{answer_of, still_held, held_more}
use Rattle.http_conn.proofs.conn.Conn.next_head.Goals as goal

pub returns-in_err-head-clause-answer : goal.returns-in_err-head-clause-answer
returns-in_err-head-clause-answer g c =
    let p = err_from_is_err_and c.from_residual.result c.from_residual.ensures.1 in
    let e = c.in_err-head.field-0.0 in
    let old = c.args.self.now in
    let new = c.held_head.new.self in
    let before = g.S.Source.left c.args.source.now in
    let after = g.S.Source.left c.pieces.source in
    let same : new ≡ c.pieces.self = c.in_err-head.ensures.unchanged in
    rw (p.1, p.2) (answer_of old new before after (Err e) c.in_err-head.ensures.few c.in_err-head.ensures.bound tt
    (still_held old c.pieces.self new before after after c.pieces.invariant.held same (Keeps-refl after))
    (no_head_ends e new after (subst (λ (s : Held). IsNoHead e s.bytes) (sym same) c.in_err-head.ensures.end)))

pub returns-in-Some-clause-answer : goal.returns-in-Some-clause-answer
returns-in-Some-clause-answer g c =
    let old = c.args.self.now in
    let new = c.held_head.new.self in
    let before = g.S.Source.left c.args.source.now in
    let after = g.S.Source.left c.pieces.source in
    answer_of old new before after (Ok c.in-Some.head) c.in_ok-head.ensures.few c.in_ok-head.ensures.bound
    (gives_head old c.pieces.self new before after c.in-Some.head c.pieces.invariant.held c.pieces.invariant.sparing
    (rw c.in-Some.is at c.in_ok-head.ensures.given) c.in_ok-head.ensures.counted)
    tt tt

pub returns-in_err-take_more-in-None-clause-answer : goal.returns-in_err-take_more-in-None-clause-answer
returns-in_err-take_more-in-None-clause-answer g c =
    let p = err_from_is_err_and c.from_residual-in_err-take_more-in-None.result c.from_residual-in_err-take_more-in-None.ensures.1 in
    let e = c.in_err-take_more-in-None.field-0.0 in
    let old = c.args.self.now in
    let new = c.take_more.new.self in
    let before = g.S.Source.left c.args.source.now in
    let between = g.S.Source.left c.pieces.source in
    let after = g.S.Source.left c.take_more.new.source in
    let said = c.in_err-take_more-in-None.ensures in
    let found = rw c.in-None.is at c.in_ok-head.ensures.open in
    let same : new ≡ c.pieces.self = said.unchanged ∙ found.1 in
    rw (p.1, p.2) (answer_of old new before after (Err e) said.few said.bound tt
    (still_held old c.pieces.self new before between after c.pieces.invariant.held same said.kept)
    said.end)

pub returns-in_err-head-clause-sparing : goal.returns-in_err-head-clause-sparing
returns-in_err-head-clause-sparing g c =
    let p = err_from_is_err_and c.from_residual.result c.from_residual.ensures.1 in
    rw p.1 (subst (λ (s : Held). IsSparing c.args.self.now.bytes s.bytes) (sym c.in_err-head.ensures.unchanged) c.pieces.invariant.sparing)

pub returns-in-Some-clause-head : goal.returns-in-Some-clause-head
returns-in-Some-clause-head g c =
    gives_head c.args.self.now c.pieces.self c.held_head.new.self (g.S.Source.left c.args.source.now) (g.S.Source.left c.pieces.source) c.in-Some.head
    c.pieces.invariant.held c.pieces.invariant.sparing (rw c.in-Some.is at c.in_ok-head.ensures.given) c.in_ok-head.ensures.counted

pub returns-in_err-take_more-in-None-clause-sparing : goal.returns-in_err-take_more-in-None-clause-sparing
returns-in_err-take_more-in-None-clause-sparing g c =
    let p = err_from_is_err_and c.from_residual-in_err-take_more-in-None.result c.from_residual-in_err-take_more-in-None.ensures.1 in
    let found = rw c.in-None.is at c.in_ok-head.ensures.open in
    let same = c.in_err-take_more-in-None.ensures.unchanged ∙ found.1 in
    rw p.1 (subst (λ (s : Held). IsSparing c.args.self.now.bytes s.bytes) (sym same) c.pieces.invariant.sparing)

pub pieces-init : goal.pieces-init
pieces-init g c =
    let start = g.S.Source.left c.args.source.now in
    record {
      held = record { taken = []; from_source = Consumes-nil start; once = append-nil c.args.self.now.bytes; counted = omega arith };
      untouched = λ shut. (refl, refl);
      sparing = nothing_read refl;
      later = omega arith;
    }

pub pieces-preserved : goal.pieces-preserved
pieces-preserved g c =
    let found = rw c.in-None.is at c.in_ok-head.ensures.open in
    let more = c.in_ok-take_more-in-None.ensures.taken in
    record {
      held = held_more c.args.self.now c.pieces.self c.held_head.new.self c.take_more.new.self (g.S.Source.left c.args.source.now) (g.S.Source.left c.pieces.source) (g.S.Source.left c.take_more.new.source)
          c.pieces.invariant.held found.1 more;
      untouched = λ shut. absurd (shut (subst (λ (s : Held). IsOpen s.bytes) (c.pieces.invariant.untouched shut).1 found.0));
      sparing = last_read c.held_head.new.self.bytes more.taken (sym more.once) (subst (λ (s : Held). IsOpen s.bytes) (sym found.1) found.0);
      later = search rules;
    }

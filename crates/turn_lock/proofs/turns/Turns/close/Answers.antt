use Rattle.std.proofs.Common.{◌≡◌, sym, ap, ◌∙◌, subst, length}
use Rattle.std.specs.Prelude.{sum_by}
use Rattle.turn_lock.specs.History.{entries_in}
use Rattle.turn_lock.specs.Knowledge.{callers}
use Rattle.turn_lock.specs.Rules.{callers_of}
use Rattle.turn_lock.proofs.Histories.{each_once}
use Rattle.turn_lock.proofs.Steps.{closed_value}
use Rattle.turn_lock.proofs.turns.Turns.close.Goals as goal

pub unreachable-requires : goal.unreachable-requires
unreachable-requires g c =
    let seat = c.into_seat-seat.ensures in
    let pass = seat.idle in
    let root = sym (ap (λ k. k.number) seat.known) ∙ c.requires.root in
    let all = sym (ap (λ k. length k.joined) seat.known) ∙ (c.requires.last ∙ ap (λ k. k.splits) seat.known) in
    let f = closed_value _ _ _ _ _ c.close_with-closed.ensures.values.2 pass.live pass.idle pass.told root all in
    cc (c.in_default.ensures.value, f.2)

pub returns-clause-stands : goal.returns-clause-stands
returns-clause-stands g c =
    let seat = c.into_seat-seat.ensures in
    let pass = seat.idle in
    let root = sym (ap (λ k. k.number) seat.known) ∙ c.requires.root in
    let all = sym (ap (λ k. length k.joined) seat.known) ∙ (c.requires.last ∙ ap (λ k. k.splits) seat.known) in
    let f = closed_value _ _ _ _ _ c.close_with-closed.ensures.values.2 pass.live pass.idle pass.told root all in
    let same : c.in-Some.value ≡ f.0 = cc (c.in-Some.ensures.value, f.2) in
    let list = ap (λ k. entries_in k.seen) (sym seat.known) in
    subst (λ x. g.T.Stands.stands x (entries_in c.args.pass.seen)) (sym same) (subst (g.T.Stands.stands f.0) list f.1.0)

pub returns-clause-origin : goal.returns-clause-origin
returns-clause-origin g c =
    let seat = c.into_seat-seat.ensures in
    let pass = seat.idle in
    let root = sym (ap (λ k. k.number) seat.known) ∙ c.requires.root in
    let all = sym (ap (λ k. length k.joined) seat.known) ∙ (c.requires.last ∙ ap (λ k. k.splits) seat.known) in
    let f = closed_value _ _ _ _ _ c.close_with-closed.ensures.values.2 pass.live pass.idle pass.told root all in
    let same : c.in-Some.value ≡ f.0 = cc (c.in-Some.ensures.value, f.2) in
    ap g.T.Stands.origin same ∙ (f.1.1 ∙ ap (λ l. l.origin) c.self.view_is)

pub returns-clause-each_once : goal.returns-clause-each_once
returns-clause-each_once g c weight =
    let seat = c.into_seat-seat.ensures in
    let pass = seat.idle in
    let root = sym (ap (λ k. k.number) seat.known) ∙ c.requires.root in
    let all = sym (ap (λ k. length k.joined) seat.known) ∙ (c.requires.last ∙ ap (λ k. k.splits) seat.known) in
    let f = closed_value _ _ _ _ _ c.close_with-closed.ensures.values.2 pass.live pass.idle pass.told root all in
    let once = each_once weight _ (callers_of c.into_seat-seat.result.me.0) f.3 pass.own in
    ap (λ k. sum_by weight (entries_in k.seen)) seat.known ∙ (once ∙ ap (λ k. sum_by (λ c. sum_by weight c.1) (callers k)) (sym seat.known))

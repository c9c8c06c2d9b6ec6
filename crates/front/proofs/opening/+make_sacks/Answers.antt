use Rattle.std.proofs.Common.{ℕ, ◌+◌, List, reverse, subst, ap, ◌∙◌}
use Rattle.std.specs.List.{flat_map}
use Rattle.log_pair.specs.declared.place.Place.{Place}
use Rattle.sack_state.specs.declared.disks.SackDisks.{SackDisks}
use Rattle.sack_state.specs.Books.{IsUnmade}
use Rattle.sack_state.specs.SackView.{SackView}
use Rattle.front.specs.Making.{IsMadeSack, OpensSacks}
use Rattle.front.specs.Plan.{five, sack_place}
use Rattle.front.proofs.Opens.{has_next, has_none, one_less, opens_failed, opens_more, opens_none, puts_first, takes_first}
use Rattle.front.proofs.opening.+make_sacks.Goals as goal

pub returns-then-sack-sacks-clause-opens : goal.returns-then-sack-sacks-clause-opens
returns-then-sack-sacks-clause-opens g t c left is many =
    opens_none (IsMadeSack g.D.Disk c.args.sacks) (λ k. IsUnmade g.D.Disk (sack_place c.args.sacks k)) c.args.sack left c.args.disks.now.items c.args.opened.now.items
    (has_none left c.args.sack c.args.sacks many c.if-sack-sacks.true) is

pub returns-in-Err-clause-opens : goal.returns-in-Err-clause-opens
returns-in-Err-clause-opens g t c left is many =
    let next = has_next left c.args.sack c.args.sacks many c.if-sack-sacks.false in
    let takes = takes_first next.first next.rest c.args.disks.now.items c.take_sack-five.new.disks.items c.take_sack-five.result (is ∙ ap (λ l. reverse (flat_map five l)) next.is) c.take_sack-five.ensures.taken in
    opens_failed (IsMadeSack g.D.Disk c.args.sacks) (λ k. IsUnmade g.D.Disk (sack_place c.args.sacks k)) c.args.sack left next c.in-Err.five c.put_sack.new.disks.items c.args.opened.now.items c.in-Err.fault
    (subst (λ (d : SackDisks _). IsUnmade g.D.Disk (sack_place c.args.sacks c.args.sack) d c.in-Err.five c.in-Err.fault) takes.is
    (subst (λ (p : Place). IsUnmade g.D.Disk p c.take_sack-five.result c.in-Err.five c.in-Err.fault) c.sack_place.ensures c.in-Err.ensures.err))
    (puts_first c.in-Err.five next.rest c.take_sack-five.new.disks.items c.put_sack.new.disks.items takes.rest_is c.put_sack.ensures.put)

pub returns-in-Ok-clause-opens : goal.returns-in-Ok-clause-opens
returns-in-Ok-clause-opens g t c left is many =
    let next = has_next left c.args.sack c.args.sacks many c.if-sack-sacks.false in
    let takes = takes_first next.first next.rest c.args.disks.now.items c.take_sack-five.new.disks.items c.take_sack-five.result (is ∙ ap (λ l. reverse (flat_map five l)) next.is) c.take_sack-five.ensures.taken in
    let e = c.in-Ok.ensures in
    let opened = subst (λ (d : SackDisks _). IsMadeSack g.D.Disk c.args.sacks c.args.sack d c.in-Ok.one) takes.is (record { place = e.made.0 ∙ c.sack_place.ensures; opening = e.made.1; stands = e.stands; came = e.came }) in
    let Unopened = λ (k : ℕ). IsUnmade g.D.Disk (sack_place c.args.sacks k) in
    opens_more (IsMadeSack g.D.Disk c.args.sacks) Unopened c.args.sack left next c.in-Ok.one c.make_sacks.new.disks.items c.args.opened.now.items c.make_sacks.new.opened.items c.make_sacks.result opened
    (subst (λ (l : List (SackView _)). OpensSacks (IsMadeSack g.D.Disk c.args.sacks) Unopened (c.args.sack + 1) next.rest c.make_sacks.new.disks.items l c.make_sacks.new.opened.items c.make_sacks.result) c.put_opened.ensures.put
    (c.make_sacks.ensures.opens next.rest takes.rest_is (one_less left next c.args.sack c.args.sacks many)))

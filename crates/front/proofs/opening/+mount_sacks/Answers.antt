use Rattle.std.proofs.Common.{◌≡◌, ℕ, ◌+◌, List, reverse, subst, ap, ◌∙◌, refl}
use Rattle.std.specs.List.{flat_map}
use Rattle.log_pair.specs.declared.place.Place.{Place}
use Rattle.sack_state.specs.declared.disks.SackDisks.{SackDisks}
use Rattle.gate_log.specs.declared.fault.MountFault.{MountFault}
use Rattle.sack_state.specs.Books.{IsUnmounted}
use Rattle.sack_state.specs.SackView.{SackView}
use Rattle.front.specs.Making.{IsMountedSack, OpensSacks}
use Rattle.front.specs.Plan.{five, sack_place}
use Rattle.front.proofs.Opens.{has_next, has_none, one_less, opens_failed, opens_more, opens_none, puts_first, takes_first}
use Rattle.front.proofs.opening.+mount_sacks.Goals as goal

pub returns-then-sack-sacks-clause-opens : goal.returns-then-sack-sacks-clause-opens
returns-then-sack-sacks-clause-opens g t c left is many =
    opens_none (IsMountedSack g.D.Disk c.args.sacks) (λ k old new e. (e.0 ≡ k) × IsUnmounted g.D.Disk (sack_place c.args.sacks k) old new e.1) c.args.sack left c.args.disks.now.items c.args.opened.now.items
    (has_none left c.args.sack c.args.sacks many c.if-sack-sacks.true) is

pub returns-in-Err-clause-opens : goal.returns-in-Err-clause-opens
returns-in-Err-clause-opens g t c left is many =
    let next = has_next left c.args.sack c.args.sacks many c.if-sack-sacks.false in
    let takes = takes_first next.first next.rest c.args.disks.now.items c.take_sack-five.new.disks.items c.take_sack-five.result (is ∙ ap (λ l. reverse (flat_map five l)) next.is) c.take_sack-five.ensures.taken in
    opens_failed (IsMountedSack g.D.Disk c.args.sacks) (λ k old new e. (e.0 ≡ k) × IsUnmounted g.D.Disk (sack_place c.args.sacks k) old new e.1) c.args.sack left next c.in-Err.five c.put_sack.new.disks.items c.args.opened.now.items (c.args.sack, c.in-Err.fault) (
      refl,
      subst (λ (d : SackDisks _). IsUnmounted g.D.Disk (sack_place c.args.sacks c.args.sack) d c.in-Err.five c.in-Err.fault) takes.is
          (subst (λ (p : Place). IsUnmounted g.D.Disk p c.take_sack-five.result c.in-Err.five c.in-Err.fault) c.sack_place.ensures c.in-Err.ensures.err),
    )
    (puts_first c.in-Err.five next.rest c.take_sack-five.new.disks.items c.put_sack.new.disks.items takes.rest_is c.put_sack.ensures.put)

pub returns-in-Ok-clause-opens : goal.returns-in-Ok-clause-opens
returns-in-Ok-clause-opens g t c left is many =
    let next = has_next left c.args.sack c.args.sacks many c.if-sack-sacks.false in
    let takes = takes_first next.first next.rest c.args.disks.now.items c.take_sack-five.new.disks.items c.take_sack-five.result (is ∙ ap (λ l. reverse (flat_map five l)) next.is) c.take_sack-five.ensures.taken in
    let e = c.in-Ok.ensures in
    let opened = subst (λ (d : SackDisks _). IsMountedSack g.D.Disk c.args.sacks c.args.sack d c.in-Ok.one) takes.is (record { place = e.made.0 ∙ c.sack_place.ensures; opening = e.made.1; stands = e.stands; unwritten = e.unwritten; came = e.came }) in
    let Unopened = λ (k : ℕ) (was now : SackDisks _) (e : ℕ × MountFault). (e.0 ≡ k) × IsUnmounted g.D.Disk (sack_place c.args.sacks k) was now e.1 in
    opens_more (IsMountedSack g.D.Disk c.args.sacks) Unopened c.args.sack left next c.in-Ok.one c.mount_sacks.new.disks.items c.args.opened.now.items c.mount_sacks.new.opened.items c.mount_sacks.result opened
    (subst (λ (l : List (SackView _)). OpensSacks (IsMountedSack g.D.Disk c.args.sacks) Unopened (c.args.sack + 1) next.rest c.mount_sacks.new.disks.items l c.mount_sacks.new.opened.items c.mount_sacks.result) c.put_opened.ensures.put
    (c.mount_sacks.ensures.opens next.rest takes.rest_is (one_less left next c.args.sack c.args.sacks many)))

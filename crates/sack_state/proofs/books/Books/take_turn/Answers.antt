use Rattle.std.proofs.Common.{refl, sym, subst}
use Rattle.sack_history.specs.declared.fault.SackFault.TheVariants as sack_fault
use Rattle.split_store.specs.Damage.{HasOddSplits}
use Rattle.sack_state.specs.Claiming.{IsJobFrom, starved}
use Rattle.sack_state.specs.Committing.{no_ticket, took, unread}
use Rattle.sack_state.proofs.TurnLemmas.{job_read, turn_not_written, turn_unread, turn_written}
use Rattle.sack_state.proofs.books.Books.take_turn.Goals as goal

pub returns-in-Err : goal.returns-in-Err
returns-in-Err g c = turn_unread g.D.Disk c.args.metric c.args.self.now c.job.new.self c.in-Err.fault c.in-Err.ensures

pub returns-in-Err-prepare : goal.returns-in-Err-prepare
returns-in-Err-prepare g c =
    let read = job_read g.D.Disk c.args.metric no_ticket c.args.self.now c.job.new.self c.in-Ok.job c.in-Ok.ensures in
    unread sack_fault.Memory read.only (starved read.whole read.lasting refl) refl

pub returns-in-Ok-commit : goal.returns-in-Ok-commit
returns-in-Ok-commit g c =
    let d = g.met.D.Disk in
    let e = c.in-Ok-commit.ensures in
    let p = c.in-Ok-prepare.prepared in
    let old = c.args.self.now in
    let mid = c.job.new.self in
    let read = job_read g.D.Disk c.args.metric no_ticket old mid c.in-Ok.job c.in-Ok.ensures in
    took p (turn_written g.D.Disk d.came_goes_on d.came_then d.came_later old mid read.only (IsJobFrom g.D.Disk old c.args.metric no_ticket) p
    (record { job = subst (IsJobFrom g.D.Disk old c.args.metric no_ticket) (sym c.in-Ok-prepare.ensures.job) read.from; prepared = c.in-Ok-prepare.ensures.prepared; read = read.only; lasting = read.lasting })
    read.whole read.lasting c.commit.new.self
    (record { place = e.same.0; any_moment = e.any_moment; left = e.left; came_first = e.came.0; came_second = e.came.1; metrics = mid.shelf.metrics; blocks = e.writes })
    (record { changed = e.changed; lasting = e.durable }) e.whole)

pub returns : goal.returns
returns g c =
    let d = g.met.D.Disk in
    let e = c.in-Err-commit.ensures in
    let p = c.in-Ok-prepare.prepared in
    let old = c.args.self.now in
    let mid = c.job.new.self in
    let read = job_read g.D.Disk c.args.metric no_ticket old mid c.in-Ok.job c.in-Ok.ensures in
    took p (turn_not_written g.D.Disk d.came_goes_on d.came_then d.came_later old mid read.only (IsJobFrom g.D.Disk old c.args.metric no_ticket) p
    (record { job = subst (IsJobFrom g.D.Disk old c.args.metric no_ticket) (sym c.in-Ok-prepare.ensures.job) read.from; prepared = c.in-Ok-prepare.ensures.prepared; read = read.only; lasting = read.lasting })
    read.whole read.lasting c.commit.new.self
    (record { place = e.same.0; any_moment = e.any_moment; left = e.left; came_first = e.came.0; came_second = e.came.1; metrics = mid.shelf.metrics; blocks = e.writes })
    (HasOddSplits mid.shelf.metrics p.job.metric) c.in-Err-commit.fault c.fault_of_shelf.result c.faults-before.result c.faults.result e.kept.0 e.kept.1 c.faults-before.ensures c.faults.ensures e.cause e.seen c.fault_of_shelf.ensures)

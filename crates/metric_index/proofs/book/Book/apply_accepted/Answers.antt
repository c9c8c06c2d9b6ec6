use Rattle.std.proofs.Common.{◌≡◌, Option, Some, None, true, refl, subst}
use Rattle.std.specs.Option.{IfSome}
use Rattle.gno_codec.specs.declared.item.IndexItem.{IndexItem}
use Rattle.front_api.specs.Calls.{starved}
use Rattle.front_api.specs.Maps.{is_change}
use Rattle.front_api.specs.Replies.{refusal_of}
use Rattle.front_api.specs.declared.history.IndexCounted.TheVariants as counted
use Rattle.metric_index.specs.BookCalls.{written_by}
use Rattle.metric_index.specs.Items.{counted_of}
use Rattle.metric_index.proofs.CallFacts.{refused_write, still_left, writes}
use Rattle.metric_index.proofs.book.Book.apply_accepted.Goals as goal

pub returns-in_default-clause-does : goal.returns-in_default-clause-does
returns-in_default-clause-does g c = starved

pub returns-in_default-clause-leaves : goal.returns-in_default-clause-leaves
returns-in_default-clause-leaves g c =
    still_left g.D.Disk g.met.D.Disk.only_now g.met.D.Disk.counts_now g.met.D.Disk.came_none g.met.D.Disk.came_more (written_by c.args.command.now) c.args.self.now (c.is_broken-lasting.ensures.durable c.requires.whole)

pub returns-in_default-item_of-clause-does : goal.returns-in_default-item_of-clause-does
returns-in_default-item_of-clause-does g c = starved

pub returns-in_default-item_of-clause-leaves : goal.returns-in_default-item_of-clause-leaves
returns-in_default-item_of-clause-leaves g c =
    still_left g.D.Disk g.met.D.Disk.only_now g.met.D.Disk.counts_now g.met.D.Disk.came_none g.met.D.Disk.came_more (written_by c.args.command.now) c.args.self.now (c.is_broken-lasting.ensures.durable c.requires.whole)

pub returns-in_default-item-clause-leaves : goal.returns-in_default-item-clause-leaves
returns-in_default-item-clause-leaves g c =
    still_left g.D.Disk g.met.D.Disk.only_now g.met.D.Disk.counts_now g.met.D.Disk.came_none g.met.D.Disk.came_more (written_by c.args.command.now) c.args.self.now (c.is_broken-lasting.ensures.durable c.requires.whole)

pub returns-in-Err-clause-does : goal.returns-in-Err-clause-does
returns-in-Err-clause-does g c =
    let m = c.args.self.now.maps in
    let command = c.args.command.now in
    let counts = subst (λ (o : Option IndexItem). IfSome o (λ i. (is_change command ≡ true) × (counted_of i ≡ Some (counted.Command command)))) c.in-Some.is c.in-Ok-item_of.ensures.counted in
    refused_write (λ f. refusal_of m command ≡ Some f) (λ at. ⊥) (λ w. (is_change command ≡ true) × (refusal_of m command ≡ None) × (w ≡ counted.Command command)) (written_by command) (counted.Command command) c.in-Err.fault _ _
    (writes command counts.0) (counts.0, c.requires.accepted, refl) c.in-Err.ensures.cause

use Rattle.std.proofs.Common.{◌≡◌, Some, None, true, sym, ◌∙◌}
use Rattle.front_api.specs.Maps.{is_change}
use Rattle.front_api.specs.Replies.{refusal_of}
use Rattle.front_api.specs.declared.history.IndexCounted.TheVariants as counted
use Rattle.metric_index.specs.BookCalls.{written_by}
use Rattle.metric_index.proofs.CallFacts.{by_name, refused_named, still_left}
use Rattle.metric_index.proofs.book.Book.apply.Goals as goal

pub returns-in-Some-clause-does : goal.returns-in-Some-clause-does
returns-in-Some-clause-does g c =
    let m = c.args.self.now.maps in
    let command = c.args.command.now in
    let e : refusal_of m command ≡ Some c.in-Some.fault = sym c.refusal.ensures ∙ c.in-Some.is in
    refused_named (λ f. refusal_of m command ≡ Some f) (λ at. ⊥) (λ w. (is_change command ≡ true) × (refusal_of m command ≡ None) × (w ≡ counted.Command command)) (written_by command) c.in-Some.fault (by_name m command c.in-Some.fault e) e

pub returns-in-Some-clause-leaves : goal.returns-in-Some-clause-leaves
returns-in-Some-clause-leaves g c =
    still_left g.D.Disk g.met.D.Disk.only_now g.met.D.Disk.counts_now g.met.D.Disk.came_none g.met.D.Disk.came_more (written_by c.args.command.now) c.args.self.now (c.is_broken-lasting.ensures.durable c.requires)

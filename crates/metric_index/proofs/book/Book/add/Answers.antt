use Rattle.std.proofs.Common.{◌≡◌, Some, None, sym, ◌∙◌}
use Rattle.front_api.specs.Calls.{starved}
use Rattle.front_api.specs.Replies.{doc_refusal}
use Rattle.front_api.specs.declared.history.IndexCounted.TheVariants as counted
use Rattle.metric_index.proofs.CallFacts.{added_does, doc_by_name, refused_named, still_left}
use Rattle.metric_index.proofs.book.Book.add.Goals as goal

pub returns-in-Some-clause-does : goal.returns-in-Some-clause-does
returns-in-Some-clause-does g c =
    let m = c.args.self.now.maps in
    let doc = c.args.doc.now in
    let e : doc_refusal m doc ≡ Some c.in-Some.fault = sym c.refuse_doc.ensures ∙ c.in-Some.is in
    refused_named (λ f. doc_refusal m doc ≡ Some f) (λ at. ⊥) (λ w. (doc_refusal m doc ≡ None) × (w ≡ counted.Add doc)) (Some (counted.Add doc)) c.in-Some.fault (doc_by_name m doc c.in-Some.fault e) e

pub returns-in-Some-clause-leaves : goal.returns-in-Some-clause-leaves
returns-in-Some-clause-leaves g c =
    still_left g.D.Disk g.met.D.Disk.only_now g.met.D.Disk.counts_now g.met.D.Disk.came_none g.met.D.Disk.came_more (Some (counted.Add c.args.doc.now)) c.args.self.now (c.is_broken-lasting.ensures.durable c.requires.whole)

pub returns-in-Ok-clause-does : goal.returns-in-Ok-clause-does
returns-in-Ok-clause-does g c =
    added_does c.args.doc.now c.args.self.now.maps c.change.result _ _ (sym c.refuse_doc.ensures ∙ c.in-None.is) c.change.ensures.cause

pub returns-in-Err-clause-does : goal.returns-in-Err-clause-does
returns-in-Err-clause-does g c = starved

pub returns-in-Err-clause-leaves : goal.returns-in-Err-clause-leaves
returns-in-Err-clause-leaves g c =
    still_left g.D.Disk g.met.D.Disk.only_now g.met.D.Disk.counts_now g.met.D.Disk.came_none g.met.D.Disk.came_more (Some (counted.Add c.args.doc.now)) c.args.self.now (c.is_broken-lasting.ensures.durable c.requires.whole)

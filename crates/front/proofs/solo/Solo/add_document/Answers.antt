use Rattle.std.proofs.Common.{◌≡◌, Bool, true, false, Ok, Err, sym, subst}
use Rattle.std.specs.Bool.{IsTrue}
use Rattle.front_api.specs.Seen.{LeadsTo}
use Rattle.front_api.specs.declared.command.Reply.{Reply}
use Rattle.front.specs.Adding.{AddsDocument}
use Rattle.front.specs.SoloView.{SoloView, StandsForBooks}
use Rattle.front.proofs.Adding.{document_broken, document_taken, document_undone}
use Rattle.front.proofs.solo.Solo.add_document.Goals as goal
use Rattle.front.proofs.solo.Solo.add_document.Goals.{then-not-leaves_broken, else-not-leaves_broken}

no_more : {b : Bool} → IsTrue b → b ≡ false → ⊥
no_more {b} is e = cc

is_true : (b : Bool) → b ≡ true → IsTrue b
is_true b e = e

pub returns-in-Ok-clause-adds : goal.returns-in-Ok-clause-adds
returns-in-Ok-clause-adds g c =
    let doc = c.args.metric.doc in
    subst (λ (r : Reply). LeadsTo (StandsForBooks g.D.Disk) c.args.self.now c.put_document.new.self (λ old new. AddsDocument doc old new (Ok r))) (sym c.reply_of_one.ensures)
    (document_taken (StandsForBooks g.D.Disk) c.args.self.now c.put_document.new.self doc c.in-Ok.ensures.adds)

pub returns-after-not-leaves_broken-clause-adds : goal.returns-after-not-leaves_broken-clause-adds
returns-after-not-leaves_broken-clause-adds g c = elim c.if-not-leaves_broken.branch [
  | then-not-leaves_broken w ↦ subst (λ (v : SoloView _). LeadsTo (StandsForBooks g.D.Disk) c.args.self.now v (λ old new. AddsDocument c.args.metric.doc old new (Err c.in-Err.fault))) (sym w.self-is)
      (document_undone (StandsForBooks g.D.Disk) c.args.self.now c.put_document.new.self w.drop_in_sack-dropping.new.self c.args.metric.doc c.in-Err.fault w.drop_in_sack-dropping.result
      (λ breaks. no_more (c.leaves_broken.ensures.1 breaks) w.if-not-leaves_broken.true) c.in-Err.ensures.adds w.drop_in_sack-dropping.ensures.drops)
  | else-not-leaves_broken w ↦ subst (λ (v : SoloView _). LeadsTo (StandsForBooks g.D.Disk) c.args.self.now v (λ old new. AddsDocument c.args.metric.doc old new (Err c.in-Err.fault))) (sym w.self-is)
      (document_broken (StandsForBooks g.D.Disk) c.args.self.now c.put_document.new.self c.args.metric.doc c.in-Err.fault (c.leaves_broken.ensures.0 (is_true c.leaves_broken.result w.if-not-leaves_broken.false)) c.in-Err.ensures.adds)
]

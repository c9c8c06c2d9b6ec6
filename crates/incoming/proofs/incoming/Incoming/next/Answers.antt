use Rattle.std.proofs.Common.{◌≡◌, subst}
use Rattle.std.specs.Option.{IfSome}
use Rattle.incoming.specs.IncomingView.{IncomingView}
use Rattle.incoming.specs.Posts.{marks_of}
use Rattle.incoming.proofs.Views.{marks_told}
use Rattle.incoming.proofs.incoming.Incoming.next.Goals as goal

pub returns-clause-marks : goal.returns-clause-marks
returns-clause-marks g c =
    subst (λ (v : IncomingView _). IfSome v.posts (λ posts. v.marks ≡ marks_of posts)) c.self.view_is (marks_told c.self.inside.contents c.self.inside.pair.records c.self.invariant.are)

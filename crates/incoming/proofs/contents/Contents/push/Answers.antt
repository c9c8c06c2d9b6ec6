use Rattle.std.proofs.Common.{◌≡◌, length, rules}
use Rattle.incoming.proofs.Kept.{IsKept-push}
use Rattle.incoming.proofs.contents.Contents.push.Goals as goal

pub returns-clause-kept : goal.returns-clause-kept
returns-clause-kept c =
    let size : c.len.result ≡ length c.args.self.now.marks.items = search rules in
    IsKept-push c.args.self.now _ c.args.mark c.len.result c.requires.kept c.requires.above c.requires.limit c.push_reserved.ensures.items c.max-self.ensures size c.push_at.ensures

use Rattle.std.proofs.Common.{[], ◌∷◌, ◌++◌, List, ℕ, sym, subst}
use Rattle.gno_codec.specs.Incoming.{incoming_bytes, IsIncoming}
use Rattle.gno_codec.specs.declared.item.IncomingItem.{IncomingItem}
use Rattle.incoming.specs.Contents.{AreOf}
use Rattle.incoming.specs.Damage.{IsOddBehind}
use Rattle.incoming.proofs.Results.{ok_then}
use Rattle.incoming.proofs.contents.Contents.take_item.Goals as goal

pub returns-in-Post-clause-taken : goal.returns-in-Post-clause-taken
returns-in-Post-clause-taken c =
    ok_then c.take_post.result _ _
    (λ may h e records are. subst (λ (x : IncomingItem). AreOf c.take_post.new.self (records ++ incoming_bytes x ∷ [])) (sym c.in-Post.is) (h e _ (subst IsIncoming c.in-Post.is c.requires.fits) records are))
    c.take_post.ensures.taken

pub returns-in-Post-clause-odd : goal.returns-in-Post-clause-odd
returns-in-Post-clause-odd c =
    ok_then c.take_post.result _ _
    (λ may h e records are. subst (λ (x : IncomingItem). IsOddBehind records (incoming_bytes x)) (sym c.in-Post.is) (h e _ (subst IsIncoming c.in-Post.is c.requires.fits) records are))
    c.take_post.ensures.odd

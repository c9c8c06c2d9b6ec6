use Rattle.std.proofs.Common.{[], ◌∷◌, ◌++◌, List, ℕ, sym, subst}
use Rattle.incoming.specs.Contents.{AreOf}
use Rattle.incoming.specs.Damage.{IsOddBehind}
use Rattle.incoming.specs.Reading.{IsReadAs}
use Rattle.incoming.proofs.Results.{ok_then}
use Rattle.incoming.proofs.contents.Contents.take_in.Goals as goal

pub returns-in-Some-clause-taken : goal.returns-in-Some-clause-taken
returns-in-Some-clause-taken c =
    ok_then c.take_item.result _ _
    (λ may h e records body read are. let r = subst (λ o. IsReadAs o body) c.in-Some.is read in subst (λ (b : List ℕ). AreOf c.take_item.new.self (records ++ b ∷ [])) (sym r.1) (h e records are))
    c.take_item.ensures.taken

pub returns-in-Some-clause-odd : goal.returns-in-Some-clause-odd
returns-in-Some-clause-odd c =
    ok_then c.take_item.result _ _
    (λ may h e records body read are. let r = subst (λ o. IsReadAs o body) c.in-Some.is read in subst (IsOddBehind records) (sym r.1) (h e records are))
    c.take_item.ensures.odd

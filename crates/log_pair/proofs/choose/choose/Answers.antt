use Rattle.log_pair.specs.Choice.{IsHeaderOf}
use Rattle.log_pair.specs.Pair.{HoldsNoPair, IsDamagedPair}
use Rattle.log_pair.proofs.Choices.{two_told}
use Rattle.log_pair.proofs.choose.choose.Goals as goal

pub returns-in-Err-clause-cause : goal.returns-in-Err-clause-cause
returns-in-Err-clause-cause g c =
    two_told (g.D.Disk.told c.args.a.now) (g.D.Disk.told c.args.b.now) (IsHeaderOf c.in-Ok.first) (IsHeaderOf c.in-Ok.second) (λ x y. IsDamagedPair c.args.place x y c.in-Err.damaged)
    c.in-Err.ensures.damaged c.in-Ok.ensures.first c.in-Ok.ensures.second

pub returns-in-Err-clause-never_held : goal.returns-in-Err-clause-never_held
returns-in-Err-clause-never_held g c =
    two_told (g.D.Disk.told c.args.a.now) (g.D.Disk.told c.args.b.now) (IsHeaderOf c.in-Ok.first) (IsHeaderOf c.in-Ok.second) (HoldsNoPair c.args.place)
    c.in-Err.ensures.never_held c.in-Ok.ensures.first c.in-Ok.ensures.second

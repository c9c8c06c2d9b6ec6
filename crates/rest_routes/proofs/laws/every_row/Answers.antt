use Rattle.rest_routes.proofs.PathLaws.{every-row}
use Rattle.rest_routes.proofs.laws.every_row.Goals as goal

pub returns : goal.returns
returns c raw h = every-row raw h

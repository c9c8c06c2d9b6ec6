use Rattle.std.proofs.lemmas.List.{take_rest}
use Rattle.rest_script.proofs.LineLemmas.{found_end, found_none}
use Rattle.rest_script.proofs.line_reader.line_end.Goals as goal

pub returns-in-Some : goal.returns-in-Some
returns-in-Some c =
    let said = rw (take_rest c.args.bytes.now c.args.searched) at c.in-Some.ensures in
    found_end c.args.bytes.now c.args.searched c.requires.fits c.requires.none_yet c.in-Some.at said.0 said.1

pub returns-in-None : goal.returns-in-None
returns-in-None c =
    found_none c.args.bytes.now c.args.searched c.requires.fits c.requires.none_yet (rw (take_rest c.args.bytes.now c.args.searched) at c.in-None.ensures)

use Rattle.gno_num.proofs.text.+push_fraction.Given as goal

abbrev pub decreases-push_fraction : goal.decreases-push_fraction
decreases-push_fraction l = l.places

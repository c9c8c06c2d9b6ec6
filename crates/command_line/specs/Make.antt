-- A store that is chosen.
use Rattle.std.specs.Prelude.{ℕ}
use Rattle.command_line.specs.declared.home.Home.{Home}
use Rattle.command_line.specs.declared.make.Site.{Site}

-- a store at a place, with so many sacks and a number
abbrev pub site : Home → ℕ → ℕ → Site
site home sacks number = record { home = home; sacks = sacks; number = number }

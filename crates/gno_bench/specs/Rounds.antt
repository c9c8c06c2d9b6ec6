-- Rounds over a log.
use Rattle.std.specs.Prelude.{ℕ, ◌≡◌, ◌+◌}
use Rattle.gno_bench.specs.declared.records.Round.{Round}

-- so many records were made and mounted, and 64 were appended
abbrev pub IsRoundOf : ℕ → Round → Type 0
IsRoundOf size r = (r.made.count ≡ size) × (r.mounted.count ≡ size) × (r.appended.count ≡ size + 64)

use Rattle.std.proofs.Common.{◌≡◌, ◌++◌, map}
use Rattle.sack_state.specs.Claiming.{last_number_of}
use Rattle.sack_state.proofs.claiming.unnumbered.Given as goal

-- the batches so far and those to come are all, and so are the numbers
abbrev pub invariant-loop-number : goal.invariant-loop-number
invariant-loop-number l =
    (l.batches.items ++ map (λ p. p.1) l.number-iterator.rest.items ≡ map (λ p. p.1) l.fn.posts.items)
    × (last_number_of l.upto (map (λ p. p.0) l.number-iterator.rest.items) ≡ last_number_of 0 (map (λ p. p.0) l.fn.posts.items))

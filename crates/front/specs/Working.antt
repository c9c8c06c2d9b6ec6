-- What a sack answers of a claim, for a worker.
use Rattle.bound_series.specs.Jobs.{JobView}
use Rattle.sack_history.specs.declared.fault.Claim.{Claim}
use Rattle.sack_history.specs.declared.fault.Claim.TheVariants as claims
use Rattle.front_api.specs.declared.bench.Claimed.{Claimed}
use Rattle.front_api.specs.declared.bench.Claimed.TheVariants as claimed

abbrev pub claimed_by : Claim → Claimed JobView
claimed_by (claims.Job job) = claimed.Job job
claimed_by (claims.Held ticket) = claimed.Held ticket
claimed_by claims.Nothing = claimed.Nothing

-- a job is what it says of itself
abbrev pub as_it_is : JobView → JobView
as_it_is job = job

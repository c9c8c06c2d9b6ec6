-- What changes and distinct values are.
use Rattle.std.specs.Prelude.{◌≡◌, ◌≢◌, ◌↔◌, ◌<◌, ◌≤◌, ℤ, ◌-ℤ◌, List, AllPairs, Contains}
use Rattle.series_model.specs.declared.measure.Measure.{Measure}

-- The change of a member: its value less that of the greatest earlier member, at its time.
pub record IsChange (series : List Measure) (change : Measure) : Type 0 where
  pub member : Measure
  pub before : Measure
  pub member_is_one : Contains series member
  pub before_is_one : Contains series before
  pub at : change.at ≡ member.at
  pub earlier : before.at < member.at
  pub greatest : (other : Measure) → Contains series other → other.at < member.at → other.at ≤ before.at
  pub value : change.value ≡ member.value -ℤ before.value

-- the same values, each once
pub record IsSetOf (values set : List ℤ) : Type 0 where
  pub once : AllPairs (λ v w. v ≢ w) set
  pub same : (v : ℤ) → Contains set v ↔ Contains values v

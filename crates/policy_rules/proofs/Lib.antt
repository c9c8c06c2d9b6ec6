pub mod BestSoFar
pub mod LeftLemmas
pub mod MatchLemmas

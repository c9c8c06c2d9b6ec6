pub mod Bytes
pub mod Exact
pub mod FindLemmas
pub mod LogLemmas
pub mod MadeLemmas
pub mod Moments
pub mod PieceLemmas
pub mod PlaceLemmas

pub mod Tallies
pub mod Work

pub mod Draw
pub mod Outcome
pub mod Rounds
pub mod Told
pub mod Words

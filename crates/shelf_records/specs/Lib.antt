pub mod Book
pub mod Changes
pub mod Filed
pub mod Moves
pub mod Series
pub mod Shelved
pub mod Slots

pub mod Choice
pub mod Literals
pub mod Matching

pub mod Reading
pub mod Spared

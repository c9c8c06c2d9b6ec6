pub mod Earliest
pub mod Merging
pub mod Places
pub mod Preparing
pub mod Scratch

pub mod Memory
pub mod Std

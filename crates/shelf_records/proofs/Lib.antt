mod Changing
mod First
mod Following
mod Freed
mod Holding
mod Keys
mod Merging
pub mod Metrics
mod Moving
pub mod Places
mod Taking

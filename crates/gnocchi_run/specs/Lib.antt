pub mod Available
pub mod Doing
pub mod Ending
pub mod Opened
pub mod Task

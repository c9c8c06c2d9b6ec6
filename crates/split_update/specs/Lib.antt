pub mod Live
pub mod Update

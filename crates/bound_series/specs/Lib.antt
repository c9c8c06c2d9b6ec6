pub mod Jobs
pub mod Turn

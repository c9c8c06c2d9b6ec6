mod Available
pub mod Asked
pub mod Causes
pub mod Complete
mod Given
mod Sound
pub mod Starved
pub mod TaskLemmas

pub mod Choices
pub mod Headers
pub mod Images
pub mod Making
pub mod Mounted
pub mod Mounting

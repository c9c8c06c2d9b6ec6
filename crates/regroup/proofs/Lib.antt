pub mod Later
pub mod Lists
pub mod Preparation
pub mod RunLaws
pub mod RunSteps
pub mod Steps
pub mod Taking

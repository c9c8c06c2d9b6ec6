pub mod Lines
pub mod Replying
pub mod Serving
pub mod Laws

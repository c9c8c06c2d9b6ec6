pub mod Answer
pub mod Bytes
pub mod Fields
pub mod Message
pub mod Reading
pub mod Stated

pub mod Consumed
pub mod PutAll

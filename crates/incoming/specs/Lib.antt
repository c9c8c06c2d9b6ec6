pub mod Contents
pub mod Damage
pub mod IncomingView
pub mod Inside
pub mod Lists
pub mod Posts
pub mod Reading

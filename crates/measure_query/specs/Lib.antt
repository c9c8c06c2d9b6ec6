pub mod Form
pub mod Key
pub mod Query
pub mod Seen
pub mod Wanted

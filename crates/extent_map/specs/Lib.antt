pub mod Edits
pub mod Extents
pub mod Ranges

pub mod Bounds
pub mod DifferentValues

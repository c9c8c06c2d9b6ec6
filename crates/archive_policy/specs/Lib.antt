pub mod Asked
pub mod Faults
pub mod Kinds
pub mod Names
pub mod Policies
pub mod PolicyLaws

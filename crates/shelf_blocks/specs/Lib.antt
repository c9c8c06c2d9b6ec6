pub mod BlockFaults
pub mod Blocks
pub mod Chunks
pub mod Damage
pub mod Pieces
pub mod Turns

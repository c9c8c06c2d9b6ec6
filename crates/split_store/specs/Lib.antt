pub mod Damage
pub mod Inside
pub mod Loading
pub mod Shelf
pub mod ShelfView
pub mod Turn
pub mod Writing

pub mod Choice
pub mod Header
pub mod Inside
pub mod Pair
pub mod PairView

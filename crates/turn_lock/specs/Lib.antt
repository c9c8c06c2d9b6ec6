pub mod History
pub mod Knowledge
pub mod Lends
pub mod Rules
pub mod Totals

pub mod Inside
pub mod LogView
pub mod Places
pub mod Records
pub mod Scan
pub mod Steps

pub mod CallLemmas
pub mod HistoryLemmas
pub mod SortedTables
mod TableLemmas
pub mod Leading
pub mod Entering
pub mod GoingOn
pub mod Acknowledged
pub mod Turning
pub mod Failing
pub mod FailingIndex

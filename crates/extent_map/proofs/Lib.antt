pub mod EditLemmas
pub mod RangeLemmas
pub mod JoinLemmas
pub mod CutLemmas
pub mod HolderLemmas
pub mod ExtentLemmas
pub mod UsedLemmas
pub mod SortLemmas

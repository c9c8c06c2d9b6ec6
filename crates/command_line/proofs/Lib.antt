pub mod CommandLemmas
pub mod DiskLemmas
pub mod FlagLemmas
pub mod GivenLemmas
pub mod MakeLemmas
pub mod NumberLemmas
pub mod PlanLemmas
pub mod SpellingLemmas

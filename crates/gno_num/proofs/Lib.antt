pub mod DigitLemmas
pub mod RowLemmas
pub mod ScaleLemmas
pub mod ValueLemmas
pub mod GrammarLemmas
pub mod PrintedLemmas

mod LineLemmas
mod ReaderLemmas
mod ReplyLemmas
mod ServingLemmas
pub mod ScriptLaws
mod AcceptedLines
mod AvailableLines

pub mod AnswerLemmas
pub mod FieldLemmas
pub mod WindowLemmas
pub mod FramingLemmas
pub mod HeadSize
pub mod InputLemmas
pub mod LawLemmas

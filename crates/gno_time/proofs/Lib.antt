pub mod CalendarLemmas
pub mod FieldLemmas
pub mod MomentLemmas
pub mod PaddedLemmas
pub mod SpanLemmas
pub mod SpanGrammar
pub mod SpanPrinted
pub mod StampPrinted

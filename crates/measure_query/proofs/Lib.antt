pub mod FormLemmas
pub mod KeyLemmas
pub mod QueryLemmas
pub mod SeenLemmas
pub mod WantedLemmas

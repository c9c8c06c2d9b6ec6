pub mod ByteLemmas
pub mod ContentLemmas
pub mod ImageLemmas
pub mod Moments
pub mod PhaseLemmas
pub mod StepLemmas
pub mod StopLemmas

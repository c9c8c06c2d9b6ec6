pub mod AskedLemmas
pub mod FaultLaws
pub mod KindLemmas
pub mod Lists
pub mod PlaceLemmas
pub mod PolicyAgain
pub mod PolicyProofs
pub mod Rising

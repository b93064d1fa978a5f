pub mod BodyLemmas
pub mod DayLemmas
pub mod DoneLemmas
pub mod PutLemmas

pub mod HandLemmas
pub mod ListKeeping
pub mod ListReads
pub mod ListSaves
pub mod NextLemmas
pub mod PartLemmas
pub mod PledgePlaces
pub mod RowLemmas

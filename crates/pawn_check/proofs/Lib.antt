pub mod Fronts
pub mod Meeting

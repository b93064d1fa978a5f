pub mod OtherRows
pub mod Running

pub mod Common
pub mod Counted
pub mod Importing
pub mod Putting
pub mod Stored
pub mod RowWrites

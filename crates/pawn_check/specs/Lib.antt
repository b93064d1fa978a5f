pub mod Checking
pub mod Line

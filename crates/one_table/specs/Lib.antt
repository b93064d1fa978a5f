pub mod Columns
pub mod Common
pub mod Lending
pub mod Listing

pub mod Handings
pub mod KeeperReads
pub mod PageHandings
pub mod RowHandings
pub mod SheetPages
pub mod ShutStores
pub mod TooMany
pub mod Walks

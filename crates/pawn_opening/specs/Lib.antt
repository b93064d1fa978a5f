pub mod Closed
pub mod Common
pub mod FilesStand
pub mod Indexing
pub mod Laying
pub mod Opened
pub mod Refusing
pub mod WorkedIndexes

pub mod Books
pub mod Listed
pub mod Common

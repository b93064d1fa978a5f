pub mod Common
pub mod Exports
pub mod Handing
pub mod Windows

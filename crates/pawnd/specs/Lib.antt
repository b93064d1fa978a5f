pub mod Fault
pub mod Moved
pub mod Stop

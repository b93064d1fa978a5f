pub mod Limits
pub mod Calendar
pub mod Terms
pub mod TermsFault
pub mod Worked
pub mod WorkedLimits

pub mod Clock
pub mod Serving
pub mod KeyFiles
pub mod Settings
pub mod Stamps
pub mod Word
pub mod WorkedClock
pub mod WorkedLimits

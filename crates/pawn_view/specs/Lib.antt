pub mod Text
pub mod Shown
pub mod Sheets
pub mod Worked
pub mod WorkedSheets
pub mod Common

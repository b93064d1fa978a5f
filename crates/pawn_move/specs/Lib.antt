pub mod Migrating
pub mod Moving
pub mod StandsUnder

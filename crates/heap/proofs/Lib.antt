pub mod Runs
pub mod BlockUnits

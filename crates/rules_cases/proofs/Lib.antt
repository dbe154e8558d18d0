pub mod Cases
pub mod Calls
pub mod Levels
pub mod Faster

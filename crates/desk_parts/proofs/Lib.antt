pub mod Steps
pub mod Whole
pub mod Bounds
pub mod ByReads

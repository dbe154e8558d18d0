pub mod Steps
pub mod Still
pub mod Ticks

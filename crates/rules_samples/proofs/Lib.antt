pub mod Mistakes
pub mod Waiters
pub mod Logs
pub mod Broken
pub mod Busy
pub mod Unsound

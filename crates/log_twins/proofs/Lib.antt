pub mod KindCalls
pub mod Switched
pub mod Raises
pub mod Logs
pub mod Replays
pub mod Exchanged

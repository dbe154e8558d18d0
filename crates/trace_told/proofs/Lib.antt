pub mod Refused
pub mod Unchanged
pub mod Posts
pub mod Actives
pub mod Starts

pub mod One
pub mod Two
pub mod Log
pub mod Three
pub mod Promised
pub mod Sequence
pub mod Levels
pub mod Lists

pub mod Starts
pub mod Lists
pub mod Tested

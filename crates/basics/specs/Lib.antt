pub mod Lists
pub mod Find
pub mod Rule

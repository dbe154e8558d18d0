pub mod Sentences
pub mod Telling
pub mod Steps

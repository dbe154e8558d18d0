pub mod Turns
pub mod OneAnswer

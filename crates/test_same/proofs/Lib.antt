pub mod Compared
pub mod OneAnswer

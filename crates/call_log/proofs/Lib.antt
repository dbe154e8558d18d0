pub mod OneAnswer
pub mod Records

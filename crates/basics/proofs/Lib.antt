pub mod Laws
pub mod Runs
pub mod Finds
pub mod Leading
pub mod Rules
pub mod OneAnswer

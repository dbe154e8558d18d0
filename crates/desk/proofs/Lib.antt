pub mod Going
pub mod Moved
pub mod OneAnswer

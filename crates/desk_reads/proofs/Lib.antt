pub mod Reading
pub mod OneAnswer
pub mod Beginning

pub mod Lines
pub mod Trial

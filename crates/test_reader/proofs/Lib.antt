pub mod Example
pub mod Walking

pub mod Leaves
pub mod Making

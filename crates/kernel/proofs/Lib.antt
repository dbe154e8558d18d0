pub mod Keeping
pub mod Steps
pub mod OfKind

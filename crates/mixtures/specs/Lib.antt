pub mod Mixtures
pub mod Shown

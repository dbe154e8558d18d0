pub mod Appended
pub mod Mixtures
pub mod DemandThree
pub mod Posts

pub mod NoPostLost
pub mod Entered
pub mod Readied

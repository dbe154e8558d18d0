pub mod SemaphoreCalls
pub mod OneCall
pub mod LastSets
pub mod NoPostLost
pub mod Entered
pub mod DemandThree
pub mod Readied

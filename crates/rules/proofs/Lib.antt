pub mod Computed
pub mod Agree
pub mod Standing
pub mod Units
pub mod Sentences
pub mod Keys

pub mod Next
pub mod Done

pub mod Safe
pub mod Quick

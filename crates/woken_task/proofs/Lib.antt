pub mod WokenTask

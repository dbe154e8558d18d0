pub mod Known
pub mod First
pub mod Unknown
pub mod Named
pub mod Demand

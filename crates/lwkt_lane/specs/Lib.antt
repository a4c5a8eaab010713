pub mod Crossed
pub mod Lane

pub mod Pages
pub mod Sayings

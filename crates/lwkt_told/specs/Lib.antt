pub mod Called
pub mod Circles
pub mod Labels
pub mod Told

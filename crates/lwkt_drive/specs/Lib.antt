pub mod Appending
pub mod Course
pub mod Gives
pub mod ShortEvents
pub mod Stretches
pub mod Traced

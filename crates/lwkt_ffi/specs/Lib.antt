pub mod Alongs
pub mod Answers
pub mod Arguments
pub mod Texts

pub mod CommandLine
pub mod Texts
pub mod Tasks
pub mod Wishes
pub mod OldNames
pub mod Answers

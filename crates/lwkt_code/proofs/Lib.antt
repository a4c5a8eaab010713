pub mod FirstWrong
pub mod Heights
pub mod Insides
pub mod Lists
pub mod Marking
pub mod Passing
pub mod Walks
pub mod Ways

pub mod Asks
pub mod Owns
pub mod TurnParts
pub mod Threads
pub mod Run
pub mod Laws
pub mod Follow
pub mod Followed

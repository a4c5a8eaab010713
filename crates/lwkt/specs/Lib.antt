pub mod Making
pub mod Failing
pub mod Ending
pub mod Performing
pub mod Checking
pub mod Counting
pub mod Answering

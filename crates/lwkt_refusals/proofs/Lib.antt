pub mod Adding
pub mod Growing

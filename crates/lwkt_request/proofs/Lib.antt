pub mod NumberLemmas
pub mod FoundLemmas
pub mod ParseLemmas
pub mod AskedLemmas

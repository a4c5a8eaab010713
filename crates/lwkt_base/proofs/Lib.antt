pub mod RefsLemmas
pub mod HoldingLemmas
pub mod BlobLemmas
mod PartsOfWords

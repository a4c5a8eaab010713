pub mod StreamLemmas
pub mod PlainTexts

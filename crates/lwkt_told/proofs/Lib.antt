pub mod CallLemmas
pub mod ColumnLemmas

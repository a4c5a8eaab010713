pub mod BehindMoves
pub mod CourseMoves
pub mod EventMoves
pub mod StretchChains
pub mod StretchMoves
pub mod TracedMoves

pub mod CrossedMoves
pub mod PlaceMoves

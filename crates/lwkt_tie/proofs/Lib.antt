pub mod SoundMoves
pub mod LookMoves
pub mod MailMoves

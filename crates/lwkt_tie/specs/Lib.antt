pub mod Looks
pub mod Sound
pub mod Mails

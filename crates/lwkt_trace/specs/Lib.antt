pub mod Guard
pub mod Words
pub mod Format
pub mod Written
pub mod Readback
pub mod Values
pub mod Printed
pub mod Recognised

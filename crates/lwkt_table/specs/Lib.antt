pub mod Seating
pub mod History
pub mod Sections

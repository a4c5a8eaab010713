pub mod Complaint
pub mod Report
pub mod Stream
pub mod Escape

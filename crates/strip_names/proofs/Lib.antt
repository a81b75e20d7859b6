-- What is proved of names that are taken or unknown.
pub mod Absent
pub mod Repeated
pub mod Steps
pub mod Keys

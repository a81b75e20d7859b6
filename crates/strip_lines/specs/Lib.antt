pub mod Reading
pub mod Steps
pub mod Answers
pub mod Texts
pub mod Examples

-- How statements are read.
pub mod Deciding
pub mod Reading
pub mod Taking
pub mod Parsed
pub mod Exactness
pub mod Printing

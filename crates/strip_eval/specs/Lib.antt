-- What contracts of queries' answers cite.
pub mod Codes
pub mod Lent
pub mod Near
pub mod Walks
pub mod Groups
pub mod Reads
pub mod Tests
